-- The number of true bits, and their indices.
use Rattle.std.proofs.Common.{◌≡◌, ℕ, zero, suc, ◌+◌, ◌≤◌, ◌<◌, List, [], ◌∷◌, Bool, true, false, not, ◌↔◌, length, get_or, replicate, cond, refl, sym, ap, ◌∙◌, arith}
use Rattle.std.specs.List.{All, count_by}
use Rattle.std.proofs.lemmas.List.Recursion.{is_count_by}
use Rattle.vortex_arrays_buffer.specs.Bits.{positions_from, positions_of}

-- the number of true bits, by cases
abbrev trues : List Bool → ℕ
trues [] = 0
trues (true ∷ bits) = suc (trues bits)
trues (false ∷ bits) = trues bits

one_more : (b : Bool) (bits : List Bool) → trues (b ∷ bits) ≡ cond b (1 + trues bits) (trues bits)
one_more true bits = omega arith
one_more false bits = refl

trues_are : (bits : List Bool) → trues bits ≡ count_by (λ b. b) bits
trues_are bits = is_count_by trues (λ b. b) refl one_more bits

-- there is one index for each true bit
many_from : (at : ℕ) (bits : List Bool) → length (positions_from at bits) ≡ trues bits
many_from at [] = refl
many_from at (true ∷ bits) = ap suc (many_from (suc at) bits)
many_from at (false ∷ bits) = many_from (suc at) bits

pub length-positions_of : (bits : List Bool) → length (positions_of bits) ≡ count_by (λ b. b) bits
length-positions_of bits = many_from 0 bits ∙ trues_are bits

within_from : (at : ℕ) (bits : List Bool) → All (λ i. i < at + length bits) (positions_from at bits)
within_from at [] k d l = absurd (omega arith)
within_from at (true ∷ bits) zero d l = omega arith
within_from at (true ∷ bits) (suc k) d l = omega (arith, within_from (suc at) bits k d (omega arith))
within_from at (false ∷ bits) k d l = omega (arith, within_from (suc at) bits k d l)

-- each is the index of a bit
pub positions_within : (bits : List Bool) → All (λ i. i < length bits) (positions_of bits)
positions_within bits k d l = omega (arith, within_from 0 bits k d l)

pub ruleset positions = (length-positions_of, positions_within)

-- the number of true bits where all bits are true
trues_of_true : (n : ℕ) → trues (replicate n true) ≡ n
trues_of_true zero = refl
trues_of_true (suc n) = ap suc (trues_of_true n)

trues_of_false : (n : ℕ) → trues (replicate n false) ≡ 0
trues_of_false zero = refl
trues_of_false (suc n) = trues_of_false n

pub all_kept : (n : ℕ) → count_by (λ b. b) (replicate n true) ≡ n
all_kept n = sym (trues_are (replicate n true)) ∙ trues_of_true n

pub none_kept : (n : ℕ) → count_by (λ b. b) (replicate n false) ≡ 0
none_kept n = sym (trues_are (replicate n false)) ∙ trues_of_false n

trues_le : (bits : List Bool) → trues bits ≤ length bits
trues_le [] = omega arith
trues_le (true ∷ bits) = omega (arith, trues_le bits)
trues_le (false ∷ bits) = omega (arith, trues_le bits)

each_is : (bits : List Bool) → trues bits ≡ length bits → (k : ℕ) (d : Bool) → k < length bits → get_or bits k d ≡ true
each_is [] e k d l = absurd (omega arith)
each_is (true ∷ bits) e zero d l = refl
each_is (true ∷ bits) e (suc k) d l = each_is bits (omega (arith, e)) k d (omega arith)
each_is (false ∷ bits) e k d l = absurd (omega (arith, e, trues_le bits))

all_count : (bits : List Bool) → All (λ b. b ≡ true) bits → trues bits ≡ length bits
all_count [] a = refl
all_count (true ∷ bits) a = ap suc (all_count bits (λ k d l. a (suc k) d (omega arith)))
all_count (false ∷ bits) a = let e : false ≡ true = a 0 false (omega arith) in absurd (cc (e))

pub each_kept : (bits : List Bool) (n : ℕ) → n ≡ count_by (λ b. b) bits → (n ≡ length bits) ↔ All (λ b. b ≡ true) bits
each_kept bits n is = (λ e. each_is bits (trues_are bits ∙ sym is ∙ e), λ a. is ∙ sym (trues_are bits) ∙ all_count bits a)

none_is : (bits : List Bool) → trues bits ≡ 0 → (k : ℕ) (d : Bool) → k < length bits → get_or bits k d ≡ false
none_is [] e k d l = absurd (omega arith)
none_is (true ∷ bits) e k d l = absurd (omega (arith, e))
none_is (false ∷ bits) e zero d l = refl
none_is (false ∷ bits) e (suc k) d l = none_is bits e k d (omega arith)

none_count : (bits : List Bool) → All (λ b. b ≡ false) bits → trues bits ≡ 0
none_count [] a = refl
none_count (true ∷ bits) a = let e : true ≡ false = a 0 true (omega arith) in absurd (cc (e))
none_count (false ∷ bits) a = none_count bits (λ k d l. a (suc k) d (omega arith))

pub none_of_them : (bits : List Bool) (n : ℕ) → n ≡ count_by (λ b. b) bits → (n ≡ 0) ↔ All (λ b. b ≡ false) bits
none_of_them bits n is = (λ e. none_is bits (trues_are bits ∙ sym is ∙ e), λ a. is ∙ sym (trues_are bits) ∙ none_count bits a)

pub ruleset kept = (all_kept, none_kept, each_kept, none_of_them)
