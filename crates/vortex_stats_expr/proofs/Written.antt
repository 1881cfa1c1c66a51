-- The bits of a list of statistics, and what is read of them.
use Rattle.std.proofs.Common.{◌≡◌, ◌≢◌, ℕ, zero, suc, ◌+◌, ◌*◌, ◌/◌, ◌%◌, ◌<◌, ◌==◌, ◌||◌, ◌++◌, inl, inr, List, [], ◌∷◌, Bool, true, length, take, get_or, slice_index, filter, refl, sym, ap, subst, ◌∙◌, arith}
use Rattle.std.specs.Int.{bit_at}
use Rattle.std.proofs.Math.Path.{fun_ext}
use Rattle.std.proofs.lemmas.List.{take_more}
use Rattle.std.proofs.lemmas.List.Folds.{list_any-append}
use Rattle.std.proofs.lemmas.Nat.Bits.{bit_at-zero}
use Rattle.std.proofs.lemmas.Bool.{cases_eq, ne_eqb}
use Rattle.std.proofs.Math.Bool.{or-true, or-false}
use Rattle.vortex_model.proofs.Passes.{number_same}
use Rattle.vortex_stats_expr.specs.declared.stat.Stat.{Stat}
use Rattle.vortex_stats_expr.specs.declared.stat.Stat.TheVariants as stat
use Rattle.vortex_stats_expr.specs.Stats.{number_of_stat, all_stats}
use Rattle.vortex_stats_expr.specs.Bitsets.{IsBitset, has_bit, has_number, stats_in, distinct_by_number}

pub number_small : (s : Stat) → number_of_stat s < 9
number_small stat.IsConstant = omega arith
number_small stat.IsSorted = omega arith
number_small stat.IsStrictSorted = omega arith
number_small stat.Max = omega arith
number_small stat.Min = omega arith
number_small stat.Sum = omega arith
number_small stat.NullCount = omega arith
number_small stat.UncompressedSizeInBytes = omega arith
number_small stat.NaNCount = omega arith

pub number_within : (s : Stat) (bytes : List ℕ) → length bytes ≡ 2 → number_of_stat s < 8 * length bytes
number_within s bytes two = omega (arith, number_small s, two)

zeros : (k : ℕ) → slice_index (0 ∷ 0 ∷ []) k ≡ 0
zeros zero = refl
zeros (suc zero) = refl
zeros (suc (suc k)) = refl

pub none_written : IsBitset [] (0 ∷ 0 ∷ [])
none_written = record {
  two = refl;
  bits = λ i. ap (λ n. bit_at n (i % 8) == 1) (zeros (i / 8)) ∙ ap (λ n. n == 1) (bit_at-zero (i % 8));
}

with_one : (stats : List Stat) (s : Stat) (i : ℕ) → has_number (stats ++ s ∷ []) i ≡ (has_number stats i || (number_of_stat s == i))
with_one stats s i = list_any-append (λ t. number_of_stat t == i) stats (s ∷ []) ∙ ap (λ b. has_number stats i || b) (or-false (number_of_stat s == i))

-- the bit of one more statistic is set, and no other changes
pub one_more : (stats : List Stat) (s : Stat) (old new : List ℕ) → IsBitset stats old → length new ≡ length old → has_bit new (number_of_stat s) ≡ true → ((j : ℕ) → j ≢ number_of_stat s → has_bit new j ≡ has_bit old j) → IsBitset (stats ++ s ∷ []) new
one_more stats s old new is same set others = record {
  two = same ∙ is.two;
  bits = λ j. elim (cases_eq j (number_of_stat s)) [
    | inl e ↦ ap (has_bit new) e ∙ set ∙ sym (with_one stats s j ∙ ap (λ i. has_number stats j || (number_of_stat s == i)) e ∙ ap (λ b. has_number stats j || b) (number_same (number_of_stat s)) ∙ or-true (has_number stats j))
    | inr d ↦ others j d ∙ is.bits j ∙ sym (with_one stats s j ∙ ap (λ b. has_number stats j || b) (ne_eqb (number_of_stat s) j (λ q. d (sym q))) ∙ or-false (has_number stats j))
  ];
}

pub written_more : (stats : List Stat) (i : ℕ) (s : Stat) (old new : List ℕ) → i < length stats → s ≡ get_or stats i s → IsBitset (take i stats) old → length new ≡ length old → has_bit new (number_of_stat s) ≡ true → ((j : ℕ) → j ≢ number_of_stat s → has_bit new j ≡ has_bit old j) → IsBitset (take (i + 1) stats) new
written_more stats i s old new l at is same set others =
    let step : take i stats ++ s ∷ [] ≡ take (i + 1) stats = ap (λ x. take i stats ++ x ∷ []) at ∙ sym (take_more stats i s l) in
    subst (λ (xs : List Stat). IsBitset xs new) step (one_more (take i stats) s old new is same set others)

pub ruleset written = (number_within, none_written, written_more)

pub read_as_written : (stats : List Stat) (bytes : List ℕ) → IsBitset stats bytes → stats_in bytes ≡ distinct_by_number stats
read_as_written stats bytes is = ap (λ (p : Stat → Bool). filter p all_stats) (fun_ext (λ s. is.bits (number_of_stat s)))
