-- Lengths that are counted one after another.
use Rattle.std.proofs.Common.{◌≡◌, ◌∙◌, sym, ap, subst, ℕ, ℤ, pos, ◌-ℤ◌, ◌+◌, ◌-◌, ◌<◌, ◌≤◌, zero, suc, true, List, [], ◌∷◌, ◌++◌, length, take, set, get_or, map, refl, arith, FitsSigned}
use Rattle.std.specs.Prelude.{unsigned_abs}
use Rattle.std.specs.Int.{IsNonNegative, w128}
use Rattle.std.specs.List.{All, sum}
use Rattle.std.proofs.lemmas.Int.{ints}
use Rattle.std.proofs.lemmas.List.{length-map, length-set, take-map, take_all, take_more, take_more_set, map_push, get_or-map}
use Rattle.std.proofs.lemmas.List.Elements.{All-nil, All-get_or, All-push}
use Rattle.std.proofs.lemmas.List.Sums.{sum_by_push, sum_by_more_le}
use Rattle.vortex_model.specs.LogicalType.{IntKind, u8, u16, u32, u64, i8, i16, i32, i64}
use Rattle.vortex_model.specs.Valid.{in_range}
use Rattle.vortex_model.proofs.Lists.{number_at}
use Rattle.vortex_arrays_view.specs.Lengths.{counts_of, lengths_between, AddUp}

-- The first n lengths are counted, there is room for the counts of all, and `left` bytes are left.
pub record Counted (lengths : List ℤ) (n : ℕ) (counts : List ℕ) (left total : ℕ) : Type 0 where
  pub room : length counts ≡ length lengths
  pub counted : take n counts ≡ counts_of (take n lengths)
  pub natural : All IsNonNegative (take n lengths)
  pub sums : sum (take n counts) + left ≡ total

pub counted_none : (lengths : List ℤ) (counts : List ℕ) (total : ℕ) → length counts ≡ length lengths → Counted lengths 0 counts total total
counted_none lengths counts total room = record { room = room; counted = refl; natural = All-nil IsNonNegative; sums = omega arith }

pub counted_more : (lengths : List ℤ) (n : ℕ) (counts : List ℕ) (left total : ℕ) (length' : ℤ) (count : ℕ) → Counted lengths n counts left total → n < length lengths → length' ≡ get_or lengths n (pos 0) → pos count ≡ length' → count ≤ left → Counted lengths (n + 1) (set counts n count) (left - count) total
counted_more lengths n counts left total z count c l at is fits =
    let e : get_or lengths n (pos 0) ≡ pos count = sym at ∙ sym is in
    let more : take (n + 1) lengths ≡ take n lengths ++ pos count ∷ [] = take_more lengths n (pos 0) l ∙ ap (λ y. take n lengths ++ y ∷ []) e in
    let placed : take (n + 1) (set counts n count) ≡ take n counts ++ count ∷ [] = take_more_set counts n count (subst (λ m. n < m) (sym c.room) l) in
    record {
      room = length-set counts n count ∙ c.room;
      counted = placed ∙ ap (λ r. r ++ count ∷ []) c.counted ∙ sym (map_push unsigned_abs (take n lengths) (pos count)) ∙ ap counts_of (sym more);
      natural = subst (All IsNonNegative) (sym more) (All-push IsNonNegative (take n lengths) (pos count) c.natural tt);
      sums = omega (arith, c.sums, fits, ap sum placed, sum_by_push (λ x. x) (take n counts) count);
    }

pub counted_refused : (lengths : List ℤ) (n : ℕ) (counts : List ℕ) (left total : ℕ) (length' : ℤ) → Counted lengths n counts left total → n < length lengths → length' ≡ get_or lengths n (pos 0) → (IsNonNegative length' → left < unsigned_abs length') → AddUp lengths total → ⊥
counted_refused lengths n counts left total z c l at over a =
    let natural : IsNonNegative z = subst IsNonNegative (sym at) (All-get_or IsNonNegative lengths n (pos 0) l a.counts) in
    let here : get_or (counts_of lengths) n 0 ≡ unsigned_abs z = get_or-map unsigned_abs lengths n (pos 0) 0 l ∙ ap unsigned_abs (sym at) in
    let front : sum (take n (counts_of lengths)) ≡ sum (take n counts) = ap sum (take-map unsigned_abs n lengths ∙ sym c.counted) in
    omega (arith, over natural, here, front, c.sums, a.sums, sum_by_more_le (λ x. x) (counts_of lengths) n 0 (omega (arith, l, length-map lengths unsigned_abs)))

counts_whole : (lengths : List ℤ) (n : ℕ) (counts : List ℕ) (left total : ℕ) → Counted lengths n counts left total → length lengths ≤ n → take n counts ≡ counts
counts_whole lengths n counts left total c h = take_all n counts (subst (λ m. m ≤ n) (sym c.room) h)

pub counted_all : (lengths : List ℤ) (n : ℕ) (counts : List ℕ) (left total : ℕ) → Counted lengths n counts left total → length lengths ≤ n → counts ≡ counts_of lengths
counted_all lengths n counts left total c h = sym (counts_whole lengths n counts left total c h) ∙ c.counted ∙ ap counts_of (take_all n lengths h)

pub adds_up : (lengths : List ℤ) (n : ℕ) (counts : List ℕ) (left total : ℕ) → Counted lengths n counts left total → length lengths ≤ n → left ≤ 0 → AddUp lengths total
adds_up lengths n counts left total c h none = record {
  counts = subst (All IsNonNegative) (take_all n lengths h) c.natural;
  sums = ap sum (sym (counted_all lengths n counts left total c h)) ∙ omega (arith, ap sum (counts_whole lengths n counts left total c h), c.sums, none);
}

pub bytes_left : (lengths : List ℤ) (n : ℕ) (counts : List ℕ) (left total : ℕ) → Counted lengths n counts left total → length lengths ≤ n → 0 < left → AddUp lengths total → ⊥
bytes_left lengths n counts left total c h more a = omega (arith, ap sum (counts_whole lengths n counts left total c h), ap sum (counted_all lengths n counts left total c h), c.sums, a.sums, more)

-- lengths between offsets, by index
pub length-lengths_between : (offsets : List ℤ) → length (lengths_between offsets) ≡ length offsets - 1
length-lengths_between [] = refl
length-lengths_between (x ∷ []) = refl
length-lengths_between (x ∷ y ∷ zs) = omega (arith, length-lengths_between (y ∷ zs))

pub get_or-lengths_between : (offsets : List ℤ) (n : ℕ) → n + 1 < length offsets → get_or (lengths_between offsets) n (pos 0) ≡ get_or offsets (n + 1) (pos 0) -ℤ get_or offsets n (pos 0)
get_or-lengths_between [] n h = absurd (omega arith)
get_or-lengths_between (x ∷ []) n h = absurd (omega arith)
get_or-lengths_between (x ∷ y ∷ zs) zero h = refl
get_or-lengths_between (x ∷ y ∷ zs) (suc n) h =
    let e : suc n + 1 ≡ suc (n + 1) = omega arith in
    get_or-lengths_between (y ∷ zs) n (omega arith) ∙ ap (λ k. get_or (x ∷ y ∷ zs) k (pos 0) -ℤ get_or (y ∷ zs) n (pos 0)) (sym e)

pub between_places : {X : Type 0} (f : X → ℤ) (xs : List X) (i : ℕ) (x y : X) (z : ℤ) → i + 1 < length xs → y ≡ get_or xs (i + 1) y → x ≡ get_or xs i x → z ≡ f y -ℤ f x → z ≡ get_or (lengths_between (map f xs)) i (pos 0)
between_places f xs i x y z l next this e =
    e ∙ ap (λ a. a -ℤ f x) (number_at f xs (i + 1) y (f y) l next refl) ∙ ap (λ a. get_or (map f xs) (i + 1) (pos 0) -ℤ a) (number_at f xs i x (f x) (omega (arith, l)) this refl)
    ∙ sym (get_or-lengths_between (map f xs) i (omega (arith, l, length-map xs f)))

pub count-between : {X : Type 0} (f : X → ℤ) (xs : List X) → length (lengths_between (map f xs)) ≡ length xs - 1
count-between f xs = length-lengths_between (map f xs) ∙ ap (λ n. n - 1) (length-map xs f)

-- the difference of two native integers of one type fits into 128 bits
pub difference_fits : (k : IntKind) (y z : ℤ) → in_range k y ≡ true → in_range k z ≡ true → FitsSigned w128 (z -ℤ y)
difference_fits u8 y z h j = grind (arith, ints, h, j)
difference_fits u16 y z h j = grind (arith, ints, h, j)
difference_fits u32 y z h j = grind (arith, ints, h, j)
difference_fits u64 y z h j = grind (arith, ints, h, j)
difference_fits i8 y z h j = grind (arith, ints, h, j)
difference_fits i16 y z h j = grind (arith, ints, h, j)
difference_fits i32 y z h j = grind (arith, ints, h, j)
difference_fits i64 y z h j = grind (arith, ints, h, j)

pub ruleset differences = (difference_fits)
