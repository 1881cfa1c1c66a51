-- The least offset and the greatest end, one list after another.
use Rattle.std.proofs.Common.{◌≡◌, ◌<◌, ◌≤◌, ◌+◌, ◌^◌, ◌-◌, ℕ, map, sum_by, min, max, sym, ap, subst, arith, ⊎_elim}
use Rattle.std.specs.List.{range_with_len}
use Rattle.std.proofs.lemmas.Bool.{cases_lt}
use Rattle.std.proofs.lemmas.List.FromFn.{sum_by-map-range_with_len_more}
use Rattle.vortex_arrays_model.specs.Layout.{Layout, len_of, content_at, number_in}
use Rattle.vortex_arrays_model.specs.Trimmed.{AreBounds}
use Rattle.vortex_arrays_model.proofs.CanonicalLemmas.{last_or_before}

-- the bounds of the first n lists
pub record AreFirstBounds (o s : Layout) (n from to : ℕ) : Type 0 where
  pub least : (i : ℕ) → i < n → from ≤ number_in (content_at o i)
  pub greatest : (i : ℕ) → i < n → number_in (content_at o i) + number_in (content_at s i) ≤ to
  pub lowest : ℕ
  pub lowest_within : lowest < n
  pub begins : number_in (content_at o lowest) ≡ from
  pub highest : ℕ
  pub highest_within : highest < n
  pub ends : number_in (content_at o highest) + number_in (content_at s highest) ≡ to

-- the offset and the end of the first list
pub first_bounds : (o s : Layout) (from size : ℕ) → from ≡ number_in (content_at o 0) → size ≡ number_in (content_at s 0) → AreFirstBounds o s 1 from (from + size)
first_bounds o s from size f z = record {
  least = λ i l. let same : i ≡ 0 = omega arith in omega (arith, f, ap (λ k. number_in (content_at o k)) same);
  greatest = λ i l. let same : i ≡ 0 = omega arith in omega (arith, f, z, ap (λ k. number_in (content_at o k)) same, ap (λ k. number_in (content_at s k)) same);
  lowest = 0;
  lowest_within = omega arith;
  begins = sym f;
  highest = 0;
  highest_within = omega arith;
  ends = omega (arith, f, z);
}

module _ (o s : Layout) (n from to offset size : ℕ) (h : AreFirstBounds o s n from to) (f : offset ≡ number_in (content_at o n)) (z : size ≡ number_in (content_at s n)) where
  low : (k : ℕ) × (k < n + 1) × (number_in (content_at o k) ≡ min from offset)
  low = ⊎_elim
      (λ (below : offset < from). (n, omega arith, omega (arith, f, below)))
      (λ (above : from ≤ offset). (h.lowest, (let w = h.lowest_within in omega (arith, w)), (let b = h.begins in omega (arith, b, above))))
      (cases_lt offset from)

  high : (k : ℕ) × (k < n + 1) × (number_in (content_at o k) + number_in (content_at s k) ≡ max to (offset + size))
  high = ⊎_elim
      (λ (above : to < offset + size). (n, omega arith, omega (arith, f, z, above)))
      (λ (below : offset + size ≤ to). (h.highest, (let w = h.highest_within in omega (arith, w)), (let e = h.ends in omega (arith, e, below))))
      (cases_lt to (offset + size))

  -- with one more list
  pub more_bounds : AreFirstBounds o s (n + 1) (min from offset) (max to (offset + size))
  more_bounds = record {
    least = λ i l. ⊎_elim
        (λ (before : i < n). let b = h.least i before in omega (arith, b))
        (λ (last : i ≡ n). omega (arith, f, ap (λ k. number_in (content_at o k)) last))
        (last_or_before i n l);
    greatest = λ i l. ⊎_elim
        (λ (before : i < n). let b = h.greatest i before in omega (arith, b))
        (λ (last : i ≡ n). omega (arith, f, z, ap (λ k. number_in (content_at o k)) last, ap (λ k. number_in (content_at s k)) last))
        (last_or_before i n l);
    lowest = low.0;
    lowest_within = low.1;
    begins = low.2;
    highest = high.0;
    highest_within = high.1;
    ends = high.2;
  }

-- of all lists
pub all_bounds : (o s : Layout) (n from to : ℕ) → AreFirstBounds o s n from to → n ≡ len_of o → AreBounds o s from to
all_bounds o s n from to h e = record {
  least = λ i l. h.least i (subst (λ m. i < m) (sym e) l);
  greatest = λ i l. h.greatest i (subst (λ m. i < m) (sym e) l);
  lowest = h.lowest;
  lowest_within = subst (λ m. h.lowest < m) e h.lowest_within;
  begins = h.begins;
  highest = h.highest;
  highest_within = subst (λ m. h.highest < m) e h.highest_within;
  ends = h.ends;
}

pub ruleset bounds = (first_bounds, more_bounds, all_bounds)

-- the sum of the first sizes, and one more
pub more_elements : (s : Layout) (i total size : ℕ) → total ≡ min (sum_by number_in (map (content_at s) (range_with_len 0 i))) (2 ^ 64 - 1) → size ≡ number_in (content_at s i) →
    min (total + size) (2 ^ 64 - 1) ≡ min (sum_by number_in (map (content_at s) (range_with_len 0 (i + 1)))) (2 ^ 64 - 1)
more_elements s i total size h z =
    let step = sum_by-map-range_with_len_more number_in (content_at s) 0 i i (omega arith) in
    omega (arith, h, z, step)
