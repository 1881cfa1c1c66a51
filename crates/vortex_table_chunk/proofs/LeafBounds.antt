-- The bounds that belong to the leaves.
use Rattle.std.proofs.Common.{◌≡◌, refl, sym, ◌∙◌, ap, subst, zero, suc, ℕ, ◌+◌, ◌<◌, List, [], ◌∷◌, ◌++◌, length, map, take, drop, get_or, slice_get, Bool, true, false, ◌&&◌, ◌||◌, Option, Some, None, if◌then◌else◌, add-one, arith}
use Rattle.std.proofs.lemmas.List.{take_more}
use Rattle.std.specs.Cmp.{first_so, second_so}
use Rattle.vortex_model.specs.LogicalType.{LogicalType}
use Rattle.vortex_model.specs.Path.{Positions, eq_positions}
use Rattle.vortex_model.specs.Content.{Content}
use Rattle.vortex_model_table.specs.Scan.{kind_at}
use Rattle.vortex_model_table.specs.ZoneMap.{values_at}
use Rattle.vortex_table_schema.proofs.Places.{positions_so, is_among}
use Rattle.vortex_table_chunk.specs.zones.Bounds.{IsBoundsOf}
use Rattle.vortex_table_chunk.specs.zones.Typed.{is_typed_as}
use Rattle.vortex_table_chunk.specs.Bounds.{AreBoundsOf, are_typed_at}
use Rattle.vortex_table_chunk.specs.BoundStat.{bounds_at}
use Rattle.vortex_stats_array.specs.declared.array_stats.ArrayStats.{ArrayStats}

-- ---- the bounds of a leaf

none_left : (leaves : List Positions) (is : Positions) → bounds_at leaves [] is ≡ None
none_left [] is = refl
none_left (js ∷ leaves) is = refl

either_none : (b : Bool) (o : Option ArrayStats) → o ≡ None → None ≡ (if b then None else o)
either_none true o h = refl
either_none false o h = sym h

-- what is found from here on
pub bounds_from : (leaves : List Positions) (bounds : List ArrayStats) (is : Positions) (i : ℕ) (leaf : Positions) → i < length leaves → leaf ≡ get_or leaves i leaf →
    bounds_at (drop i leaves) (drop i bounds) is ≡ (if eq_positions leaf is then slice_get bounds i else bounds_at (drop (suc i) leaves) (drop (suc i) bounds) is)
bounds_from [] bounds is i leaf h e = absurd (omega (arith, h))
bounds_from (js ∷ leaves) [] is zero leaf h e = either_none (eq_positions leaf is) (bounds_at leaves [] is) (none_left leaves is)
bounds_from (js ∷ leaves) (b ∷ bounds) is zero leaf h e = ap (λ l. if eq_positions l is then Some b else bounds_at leaves bounds is) (sym e)
bounds_from (js ∷ leaves) [] is (suc i) leaf h e = none_left (drop i leaves) is ∙ either_none (eq_positions leaf is) (bounds_at (drop (suc i) leaves) [] is) (none_left (drop (suc i) leaves) is)
bounds_from (js ∷ leaves) (b ∷ bounds) is (suc i) leaf h e = bounds_from leaves bounds is i leaf (omega (arith, h)) e

-- a leaf at other positions is passed over
pub passed_over : (leaves : List Positions) (bounds : List ArrayStats) (is : Positions) (i : ℕ) (leaf : Positions) (all : Option ArrayStats) → i < length leaves → leaf ≡ get_or leaves i leaf →
    eq_positions leaf is ≡ false → bounds_at (drop i leaves) (drop i bounds) is ≡ all → bounds_at (drop (i + 1) leaves) (drop (i + 1) bounds) is ≡ all
passed_over leaves bounds is i leaf all h e other before =
    ap (λ n. bounds_at (drop n leaves) (drop n bounds) is) (add-one i)
    ∙ sym (bounds_from leaves bounds is i leaf h e ∙ ap (λ b. if b then slice_get bounds i else bounds_at (drop (suc i) leaves) (drop (suc i) bounds) is) other) ∙ before

-- bounds of one more leaf
pub one_more_leaf : (k : LogicalType) (L : ℕ) (lengths : List ℕ) (leaves : List Positions) (bounds : List ArrayStats) (is : Positions) (b : ArrayStats) (rows : List Content) → AreBoundsOf k lengths leaves bounds rows →
    IsBoundsOf (kind_at k is) L b (values_at is rows) → AreBoundsOf k (lengths ++ L ∷ []) (leaves ++ is ∷ []) (bounds ++ b ∷ []) rows
one_more_leaf k L [] [] [] is b rows h g = (g, tt)
one_more_leaf k L (M ∷ lengths) (js ∷ leaves) (d ∷ bounds) is b rows h g = (h.0, one_more_leaf k L lengths leaves bounds is b rows h.1 g)
one_more_leaf k L lengths leaves bounds is b rows h g = absurd h

pub leaf_pushed : (k : LogicalType) (lengths : List ℕ) (leaves : List Positions) (i d L : ℕ) (leaf : Positions) (old new : List ArrayStats) (b : ArrayStats) (rows : List Content) → i < length lengths → L ≡ get_or lengths i d →
    i < length leaves → leaf ≡ get_or leaves i leaf → new ≡ old ++ b ∷ [] →
    AreBoundsOf k (take i lengths) (take i leaves) old rows → IsBoundsOf (kind_at k leaf) L b (values_at leaf rows) → AreBoundsOf k (take (i + 1) lengths) (take (i + 1) leaves) new rows
leaf_pushed k lengths leaves i d L leaf old new b rows g at_i h is made before own =
    subst (λ ns. AreBoundsOf k ns (take (i + 1) leaves) new rows) (sym (take_more lengths i d g ∙ ap (λ n. take i lengths ++ n ∷ []) (sym at_i)))
    (subst (λ ls. AreBoundsOf k (take i lengths ++ L ∷ []) ls new rows) (sym (take_more leaves i leaf h ∙ ap (λ l. take i leaves ++ l ∷ []) (sym is)))
    (subst (λ bs. AreBoundsOf k (take i lengths ++ L ∷ []) (take i leaves ++ leaf ∷ []) bs rows) (sym made) (one_more_leaf k L (take i lengths) (take i leaves) old leaf b rows before own)))

-- the sum of one more leaf
one_more_type : (k : LogicalType) (leaves : List Positions) (bounds : List ArrayStats) (is : Positions) (b : ArrayStats) → are_typed_at k leaves bounds ≡ true → is_typed_as (kind_at k is) b ≡ true →
    are_typed_at k (leaves ++ is ∷ []) (bounds ++ b ∷ []) ≡ true
one_more_type k [] [] is b h g = ap (λ t. t && true) g
one_more_type k (js ∷ leaves) (d ∷ bounds) is b h g =
    (λ i. first_so (is_typed_as (kind_at k js) d) (are_typed_at k leaves bounds) h i && one_more_type k leaves bounds is b (second_so (is_typed_as (kind_at k js) d) (are_typed_at k leaves bounds) h) g i)
one_more_type k leaves bounds is b h g = absurd (cc (h))

pub type_pushed : (k : LogicalType) (leaves : List Positions) (i : ℕ) (leaf : Positions) (old new : List ArrayStats) (b : ArrayStats) → i < length leaves → leaf ≡ get_or leaves i leaf → new ≡ old ++ b ∷ [] →
    are_typed_at k (take i leaves) old ≡ true → is_typed_as (kind_at k leaf) b ≡ true → are_typed_at k (take (i + 1) leaves) new ≡ true
type_pushed k leaves i leaf old new b h is made before g =
    (λ j. are_typed_at k ((take_more leaves i leaf h ∙ ap (λ l. take i leaves ++ l ∷ []) (sym is)) j) (made j))
    ∙ one_more_type k (take i leaves) old leaf b before g

-- the bounds of a leaf that is there
pub record Found (k : LogicalType) (L : Positions → ℕ) (leaves : List Positions) (bounds : List ArrayStats) (rows : List Content) (is : Positions) : Type 0 where
  pub bounds_of : ArrayStats
  pub there : bounds_at leaves bounds is ≡ Some bounds_of
  pub honest : IsBoundsOf (kind_at k is) (L is) bounds_of (values_at is rows)

pub found_among : (k : LogicalType) (L : Positions → ℕ) (leaves : List Positions) (bounds : List ArrayStats) (rows : List Content) (is : Positions) → AreBoundsOf k (map L leaves) leaves bounds rows → is_among leaves is ≡ true → Found k L leaves bounds rows is
found_among k L [] bounds rows is h g = absurd (cc (g))
found_among k L (js ∷ leaves) [] rows is h g = absurd h
found_among k L (js ∷ leaves) (b ∷ bounds) rows is h g = by_test (eq_positions js is) refl g (found_among k L leaves bounds rows is h.1)
  where
    by_test : (t : Bool) → eq_positions js is ≡ t → t || is_among leaves is ≡ true → (is_among leaves is ≡ true → Found k L leaves bounds rows is) → Found k L (js ∷ leaves) (b ∷ bounds) rows is
    by_test true e s f = record {
      bounds_of = b;
      there = ap (λ t. if t then Some b else bounds_at leaves bounds is) e;
      honest = subst (λ ks. IsBoundsOf (kind_at k ks) (L ks) b (values_at ks rows)) (positions_so js is e) h.0;
    }
    by_test false e s f = record {
      bounds_of = (f s).bounds_of;
      there = ap (λ t. if t then Some b else bounds_at leaves bounds is) e ∙ (f s).there;
      honest = (f s).honest;
    }

-- what is found at a position are the bounds of its leaf
pub found_bounds : (k : LogicalType) (L : Positions → ℕ) (leaves : List Positions) (bounds : List ArrayStats) (rows : List Content) (is : Positions) (b : ArrayStats) → AreBoundsOf k (map L leaves) leaves bounds rows →
    bounds_at leaves bounds is ≡ Some b → IsBoundsOf (kind_at k is) (L is) b (values_at is rows)
found_bounds k L [] bounds rows is b h e = absurd (cc (e))
found_bounds k L (js ∷ leaves) [] rows is b h e = absurd h
found_bounds k L (js ∷ leaves) (d ∷ bounds) rows is b h e = by_test (eq_positions js is) refl e (found_bounds k L leaves bounds rows is b h.1)
  where
    same : (x y : ArrayStats) → Some x ≡ Some y → x ≡ y
    same x y s = cc (s)

    by_test : (t : Bool) → eq_positions js is ≡ t → ◌≡◌ {A = Option ArrayStats} (if t then Some d else bounds_at leaves bounds is) (Some b) →
        (bounds_at leaves bounds is ≡ Some b → IsBoundsOf (kind_at k is) (L is) b (values_at is rows)) → IsBoundsOf (kind_at k is) (L is) b (values_at is rows)
    by_test true at s f = subst (λ x. IsBoundsOf (kind_at k is) (L is) x (values_at is rows)) (same d b s) (subst (λ ks. IsBoundsOf (kind_at k ks) (L ks) d (values_at ks rows)) (positions_so js is at) h.0)
    by_test false at s f = f s

-- the bounds at an index are those of the leaf at that index
pub placed_bounds : (k : LogicalType) (lengths : List ℕ) (leaves : List Positions) (bounds : List ArrayStats) (rows : List Content) (i L : ℕ) (is : Positions) (b : ArrayStats) → AreBoundsOf k lengths leaves bounds rows →
    i < length bounds → L ≡ get_or lengths i L → is ≡ get_or leaves i is → b ≡ get_or bounds i b → IsBoundsOf (kind_at k is) L b (values_at is rows)
placed_bounds k [] [] [] rows i L is b h l p q r = absurd (omega (arith, l))
placed_bounds k (M ∷ lengths) (js ∷ leaves) (d ∷ bounds) rows zero L is b h l p q r =
    subst (λ n. IsBoundsOf (kind_at k is) n b (values_at is rows)) (sym p) (subst (λ ks. IsBoundsOf (kind_at k ks) M b (values_at ks rows)) (sym q) (subst (λ x. IsBoundsOf (kind_at k js) M x (values_at js rows)) (sym r) h.0))
placed_bounds k (M ∷ lengths) (js ∷ leaves) (d ∷ bounds) rows (suc i) L is b h l p q r = placed_bounds k lengths leaves bounds rows i L is b h.1 (omega (arith, l)) p q r
placed_bounds k lengths leaves bounds rows i L is b h l p q r = absurd h
