-- The integers of a column are between its exact bounds.
use Rattle.std.proofs.Common.{◌≡◌, ◌<◌, ◌≤ℤ◌, ℕ, ℤ, zero, suc, List, [], ◌∷◌, ◌++◌, length, get_or, Bool, true, false, cond, Option, Some, None, option_map, if◌then◌else◌, int_lt, refl, sym, ap, subst, ◌∙◌, arith}
use Rattle.std.specs.List.{All, AllByRecursion}
use Rattle.std.specs.Ordering.{is_le, int_cmp}
use Rattle.std.specs.declared.cmp.Ordering.TheVariants.{Less, Equal, Greater}
use Rattle.std.proofs.lemmas.Int.{ints}
use Rattle.std.proofs.lemmas.List.{get_or-map, length-map}
use Rattle.std.proofs.lemmas.List.Elements.{All-append}
use Rattle.vortex_model.specs.Content.{Content, null, integer, text, byte_string}
use Rattle.vortex_model.specs.LogicalType.{LogicalType}
use Rattle.vortex_model.specs.Path.{Positions, at}
use Rattle.vortex_model_table.specs.Scan.{kind_at}
use Rattle.vortex_model_table.specs.Statistics.{Precision, exact, absent, non_null, is_at_most, least_value, greatest_value}
use Rattle.vortex_model_table.specs.ZoneMap.{bound_of, values_at}
use Rattle.vortex_model_table.specs.Bounds.{low, high, is_longer}
use Rattle.vortex_model_laws.proofs.Leasts.{is_at_least, picked_end}
use Rattle.vortex_arrays_model.specs.Layout.{Layout, len_of, content_at, rows_of}
use Rattle.vortex_arrays_model.proofs.RowsLemmas.{row_at_position, row_count}
use Rattle.vortex_arrays_cast.specs.Ranges.{IsBetween, IsRangeIn, AreRangesOf}
use Rattle.vortex_arrays_cast.specs.declared.ranges.LeafRange.{LeafRange}
use Rattle.vortex_table_chunk.specs.Bounds.{AreBoundsOf}
use Rattle.vortex_stats_array.specs.Zones.{bound_content}
use Rattle.vortex_table_chunk.specs.zones.Bounds.{IsBoundsOf, WereBoundsOf}
use Rattle.vortex_stats_array.specs.declared.array_stats.ArrayStats.{ArrayStats}

-- ---- the value of an exact bound

abbrev as_low : Option Content → ℕ → Precision Content
as_low o L = elim o [ None ↦ absent | Some v ↦ bound_of (is_longer L v) (low L v) ]

abbrev as_high : Option Content → ℕ → Precision Content
as_high o L = elim o [
  | None ↦ absent
  | Some v ↦ (elim (high L v) [ None ↦ absent | Some h ↦ bound_of (is_longer L v) h ])
]

exact_so : (shortened : Bool) (c d : Content) → bound_of shortened c ≡ exact d → c ≡ d
exact_so true c d e = absurd (cc e)
exact_so false c d e = cc e

low_itself : (L : ℕ) (v : Content) (z : ℤ) → low L v ≡ integer z → v ≡ integer z
low_itself L (text bs) z e = absurd (cc e)
low_itself L (byte_string bs) z e = absurd (cc e)
low_itself L v z e = e

low_is : (o : Option Content) (L : ℕ) (z : ℤ) → as_low o L ≡ exact (integer z) → o ≡ Some (integer z)
low_is None L z e = absurd (cc e)
low_is (Some v) L z e = ap (λ c. Some c) (low_itself L v z (exact_so (is_longer L v) (low L v) (integer z) e))

abbrev high_or_absent : Bool → Option Content → Precision Content
high_or_absent longer o = elim o [ None ↦ absent | Some h ↦ bound_of longer h ]

no_text : (longer : Bool) (o : Option (List ℕ)) (z : ℤ) → high_or_absent longer (option_map text o) ≡ exact (integer z) → ⊥
no_text longer None z e = cc e
no_text longer (Some bs) z e = cc (exact_so longer (text bs) (integer z) e)

no_bytes : (longer : Bool) (o : Option (List ℕ)) (z : ℤ) → high_or_absent longer (option_map byte_string o) ≡ exact (integer z) → ⊥
no_bytes longer None z e = cc e
no_bytes longer (Some bs) z e = cc (exact_so longer (byte_string bs) (integer z) e)

no_raised_text : (b longer : Bool) (o : Option (List ℕ)) (bs : List ℕ) (z : ℤ) → high_or_absent longer (if b then option_map text o else Some (text bs)) ≡ exact (integer z) → ⊥
no_raised_text true longer o bs z e = no_text longer o z e
no_raised_text false longer o bs z e = no_text longer (Some bs) z e

no_raised_bytes : (b longer : Bool) (o : Option (List ℕ)) (bs : List ℕ) (z : ℤ) → high_or_absent longer (if b then option_map byte_string o else Some (byte_string bs)) ≡ exact (integer z) → ⊥
no_raised_bytes true longer o bs z e = no_bytes longer o z e
no_raised_bytes false longer o bs z e = no_bytes longer (Some bs) z e

high_itself : (L : ℕ) (v : Content) (z : ℤ) → high_or_absent (is_longer L v) (high L v) ≡ exact (integer z) → v ≡ integer z
high_itself L (text bs) z e = absurd (no_raised_text _ _ _ bs z e)
high_itself L (byte_string bs) z e = absurd (no_raised_bytes _ _ _ bs z e)
high_itself L v z e = cc e

high_is : (o : Option Content) (L : ℕ) (z : ℤ) → as_high o L ≡ exact (integer z) → o ≡ Some (integer z)
high_is None L z e = absurd (cc e)
high_is (Some v) L z e = ap (λ c. Some c) (high_itself L v z e)

-- ---- integers between two bounds

not_above : (x y : ℤ) → is_le (int_cmp x y) ≡ true → x ≤ℤ y
not_above x y h = by_tests (int_lt x y) refl (int_lt y x) refl h
  where
    by_tests : (a : Bool) → int_lt x y ≡ a → (b : Bool) → int_lt y x ≡ b → is_le (cond a Less (cond b Greater Equal)) ≡ true → x ≤ℤ y
    by_tests true p b q g = grind (arith, ints, p)
    by_tests false p true q g = absurd (cc g)
    by_tests false p false q g = grind (arith, ints, q)

between : (x y : ℤ) (cs : List Content) → AllByRecursion (λ c. is_at_most (integer x) c ≡ true) (non_null cs) → AllByRecursion (λ c. is_at_least (integer y) c ≡ true) (non_null cs) →
    (i : ℕ) (d : Content) → i < length cs → IsBetween x y (get_or cs i d)
between x y [] p q i d l = absurd (omega (arith, l))
between x y (null ∷ cs) p q zero d l = tt
between x y (null ∷ cs) p q (suc i) d l = between x y cs p q i d (omega (arith, l))
between x y (integer z ∷ cs) p q zero d l = (not_above x z p.0, not_above z y q.0)
between x y (integer z ∷ cs) p q (suc i) d l = between x y cs p.1 q.1 i d (omega (arith, l))
between x y (c ∷ cs) p q i d l = absurd (cc (p.0))

pub lie_between : (x y : ℤ) (b : ArrayStats) (L : ℕ) (cs : List Content) → bound_content b.min ≡ exact (integer x) → bound_content b.max ≡ exact (integer y) → WereBoundsOf L b cs → All (IsBetween x y) cs
lie_between x y b L cs p q h =
    let least : least_value (non_null cs) ≡ Some (integer x) = low_is (least_value (non_null cs)) L x (sym (ap (λ z. z.low) h.1.zone) ∙ p) in
    let greatest : greatest_value (non_null cs) ≡ Some (integer y) = high_is (greatest_value (non_null cs)) L y (sym (ap (λ z. z.high) h.1.zone) ∙ q) in
    between x y cs (picked_end is_at_most (integer x) (non_null cs) least).1 (picked_end is_at_least (integer y) (non_null cs) greatest).1

-- the bounds at an index are those of the leaf there, at some bound length
pub placed : (k : LogicalType) (lengths : List ℕ) (leaves : List Positions) (bounds : List ArrayStats) (rows : List Content) (i : ℕ) (is : Positions) (b : ArrayStats) → AreBoundsOf k lengths leaves bounds rows →
    i < length bounds → is ≡ get_or leaves i is → b ≡ get_or bounds i b → (L : ℕ) × WereBoundsOf L b (values_at is rows)
placed k [] [] [] rows i is b h l p q = absurd (omega (arith, l))
placed k (L ∷ lengths) (js ∷ leaves) (d ∷ bounds) rows zero is b h l p q =
    (L, (kind_at k js, subst (λ ks. IsBoundsOf (kind_at k js) L b (values_at ks rows)) (sym p) (subst (λ x. IsBoundsOf (kind_at k js) L x (values_at js rows)) (sym q) h.0)))
placed k (L ∷ lengths) (js ∷ leaves) (d ∷ bounds) rows (suc i) is b h l p q = placed k lengths leaves bounds rows i is b h.1 (omega (arith, l)) p q
placed k lengths leaves bounds rows i is b h l p q = absurd h

-- the rows of an array
pub of_rows : (x y : ℤ) (is : Positions) (a : Layout) → All (IsBetween x y) (values_at is (rows_of a)) → (i : ℕ) → i < len_of a → IsBetween x y (at (content_at a i) is)
of_rows x y is a h i l =
    let count = row_count a in let inside : i < length (rows_of a) = subst (λ n. i < n) (sym (row_count a)) l in
    subst (IsBetween x y) (get_or-map (λ row. at row is) (rows_of a) i null null inside ∙ ap (λ row. at row is) (row_at_position a i null l))
    (h i null (subst (λ n. i < n) (sym (length-map (rows_of a) (λ row. at row is))) inside))

-- ---- the ranges one by one

only : (P : LeafRange → Type 0) (r : LeafRange) → P r → All P (r ∷ [])
only P r p zero d l = p
only P r p (suc k) d l = absurd (omega (arith, l))

pub no_range : (a : Layout) (rs : List LeafRange) → length rs ≡ 0 → AreRangesOf 0 a rs
no_range a rs e = λ k d l. absurd (omega (arith, l, e))

pub one_more_range : (a : Layout) (rs new : List LeafRange) (r : LeafRange) → AreRangesOf 0 a rs → IsRangeIn 0 (len_of a) (content_at a) r → new ≡ rs ++ r ∷ [] → AreRangesOf 0 a new
one_more_range a rs new r h p made =
    let each : LeafRange → Type 0 = IsRangeIn 0 (len_of a) (content_at a) in
    subst (AreRangesOf 0 a) (sym made) (All-append each rs (r ∷ []) h (only each r p))

pub ruleset pushed = (no_range, one_more_range)
