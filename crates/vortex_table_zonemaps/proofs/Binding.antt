-- Zones by their columns, and proofs bound to zone maps.
use Rattle.std.proofs.Common.{◌≡◌, refl, sym, ap, ◌∙◌, ℕ, suc, pos, ◌==◌, Bool, true, false, not, cond, List, [], ◌∷◌, length, map, Option, Some, None, eqb-true, arith, one-add}
use Rattle.std.specs.Prelude.{slice_get, nat_lt, if◌then◌else◌}
use Rattle.std.specs.List.{position, position_or_len}
use Rattle.std.specs.Option.{unwrap_or}
use Rattle.std.specs.Ordering.{is_eq}
use Rattle.std.specs.declared.cmp.Ordering.TheVariants.{Less, Equal, Greater}
use Rattle.std.proofs.lemmas.Bool.{ltb-true, ltb-false, eqb-false}
use Rattle.std.proofs.lemmas.Option.{same_Some}
use Rattle.vortex_model.specs.Content.{null, boolean, integer}
use Rattle.vortex_model.specs.LogicalType.{LogicalType}
use Rattle.vortex_model.specs.Path.{Positions, eq_positions}
use Rattle.vortex_model.proofs.Lists.{map_twice}
use Rattle.vortex_model_table.specs.Expression.{Aggregate, min, max, null_count, all_null, all_non_null, equal}
use Rattle.vortex_model_table.specs.Truth.{compared}
use Rattle.vortex_stats_bind.specs.Bound.{Bound, Provided, place, place_of, value_type, evaluate_bound}
use Rattle.vortex_stats_bind.specs.Replaced.{answered, typed_null}
use Rattle.vortex_stats_bind.proofs.ReplacedValues.{replacing_keeps_values}
use Rattle.vortex_stats_mask.specs.Wanted.{is_wanted}
use Rattle.vortex_stats_mask.proofs.Truths.{wanted_true}
use Rattle.vortex_stats_select.specs.Wants.{value_at, values_in, wanted_rows}
use Rattle.vortex_table_chunk.specs.BoundStat.{bounds_at, stat_value_or_null, zone_stat, zone_provided}
use Rattle.vortex_table_chunk.specs.zones.StatValue.{stat_value}
use Rattle.vortex_stats_array.specs.declared.array_stats.ArrayStats.{ArrayStats}
use Rattle.vortex_table_zonemaps.specs.Answers.{row_counts, leaf_answer, answer_of, zone_answers, bound_to}
use Rattle.vortex_table_zonemaps.specs.Proved.{proved_at}
use Rattle.vortex_table_zonemaps.specs.Stats.{Zone, leaf_stat, rows_stat}
use Rattle.vortex_table_zonemaps.specs.Zone.{stat_in, stat_of, stat_or_null, columns_of}
use Rattle.vortex_table_zonemaps.specs.declared.place.ZoneStat.{ZoneStat}

-- ---- zones by their columns

-- the column at positions at which there is one
pub stats_at : (is : Positions) (s : ZoneStat) → stat_of is ≡ Some s → (zones : List Zone) → map (stat_in s) zones ≡ values_in is (map columns_of zones)
stats_at is s h zones = sym (map_twice (λ (row : Provided). row.columns is) columns_of zones ∙ (λ i. map (stat_or_null (h i)) zones))

-- zones that are selected are those of which the predicate is true
pub zones_selected : (proof : Bound) (zones : List Zone) → wanted_rows true proof (map columns_of zones) ≡ map (proved_at (Some proof)) zones
zones_selected proof zones =
    map_twice (λ row. is_wanted true (value_at proof row)) columns_of zones
    ∙ (λ i. map (λ zone. sym (wanted_true (value_at proof (columns_of zone))) i) zones)

-- ---- statistics

eq_of : (l g e : Bool) → (l ≡ true → e ≡ false) → (g ≡ true → e ≡ false) → (l ≡ false → g ≡ false → e ≡ true) → is_eq (cond l Less (cond g Greater Equal)) ≡ e
eq_of true g e h k m = sym (h refl)
eq_of false true e h k m = sym (k refl)
eq_of false false e h k m = sym (m refl refl)

module _ (a b : ℕ) where
  below : (e : Bool) → (a == b) ≡ e → nat_lt a b ≡ true → e ≡ false
  below true h l = let less = ltb-true a b l in let same = eqb-true a b h in absurd (omega (arith, less, same))
  below false h l = refl

  above : (e : Bool) → (a == b) ≡ e → nat_lt b a ≡ true → e ≡ false
  above true h l = let less = ltb-true b a l in let same = eqb-true a b h in absurd (omega (arith, less, same))
  above false h l = refl

  neither : (e : Bool) → (a == b) ≡ e → nat_lt a b ≡ false → nat_lt b a ≡ false → e ≡ true
  neither true h l g = refl
  neither false h l g = let other = eqb-false a b h in let least = ltb-false a b l in let most = ltb-false b a g in absurd (other (omega (arith, least, most)))

  counts_equal : compared equal (integer (pos a)) (integer (pos b)) ≡ boolean (a == b)
  counts_equal = ap boolean (eq_of (nat_lt a b) (nat_lt b a) (a == b) (below (a == b) refl) (above (a == b) refl) (neither (a == b) refl))

all_null_told : (j : ℕ) (zone : Zone) → compared equal (leaf_stat j null_count zone) (rows_stat zone) ≡ leaf_stat j all_null zone
all_null_told j zone = at_leaf (slice_get zone.0 j)
  where
    at_leaf : (o : Option ArrayStats) → compared equal (stat_value_or_null o zone.1 null_count) (rows_stat zone) ≡ stat_value_or_null o zone.1 all_null
    at_leaf None = refl
    at_leaf (Some b) = counts_equal b.null_count zone.1

none_null_told : (j : ℕ) (zone : Zone) → compared equal (leaf_stat j null_count zone) (integer (pos 0)) ≡ leaf_stat j all_non_null zone
none_null_told j zone = at_leaf (slice_get zone.0 j)
  where
    at_leaf : (o : Option ArrayStats) → compared equal (stat_value_or_null o zone.1 null_count) (integer (pos 0)) ≡ stat_value_or_null o zone.1 all_non_null
    at_leaf None = refl
    at_leaf (Some b) = counts_equal b.null_count 0

-- nothing is known about the other statistics
none_told : (a : Aggregate) → ((b : ArrayStats) (n : ℕ) → stat_value b n a ≡ null) → (j : ℕ) (zone : Zone) → null ≡ leaf_stat j a zone
none_told a h j zone = at_leaf (slice_get zone.0 j)
  where
    at_leaf : (o : Option ArrayStats) → null ≡ stat_value_or_null o zone.1 a
    at_leaf None = refl
    at_leaf (Some b) = sym (h b zone.1)

-- ---- the bounds at positions are those of the first leaf there

abbrev bounds_of_leaf : List ArrayStats → Option ℕ → Option ArrayStats
bounds_of_leaf bounds None = None
bounds_of_leaf bounds (Some i) = slice_get bounds i

no_bounds : (o : Option ℕ) → bounds_of_leaf [] o ≡ None
no_bounds None = refl
no_bounds (Some i) = refl

first_below : (n : ℕ) → nat_lt 0 (suc n) ≡ true
first_below n = is_so (nat_lt 0 (suc n)) refl
  where
    is_so : (x : Bool) → nat_lt 0 (suc n) ≡ x → x ≡ true
    is_so true h = refl
    is_so false h = let least = ltb-false 0 (suc n) h in absurd (omega (arith, least))

next_below : (a b : ℕ) → nat_lt (suc a) (suc b) ≡ nat_lt a b
next_below a b = by_both (nat_lt (suc a) (suc b)) (nat_lt a b) refl refl
  where
    by_both : (x y : Bool) → nat_lt (suc a) (suc b) ≡ x → nat_lt a b ≡ y → x ≡ y
    by_both true true h k = refl
    by_both false false h k = refl
    by_both true false h k = let less = ltb-true (suc a) (suc b) h in let least = ltb-false a b k in absurd (omega (arith, less, least))
    by_both false true h k = let least = ltb-false (suc a) (suc b) h in let less = ltb-true a b k in absurd (omega (arith, less, least))

next_leaf : (l : Bool) (n : ℕ) (b : ArrayStats) (bounds : List ArrayStats) → bounds_of_leaf (b ∷ bounds) (cond l (Some (suc n)) None) ≡ bounds_of_leaf bounds (cond l (Some n) None)
next_leaf true n b bounds = refl
next_leaf false n b bounds = refl

bounds_found : (leaves : List Positions) (bounds : List ArrayStats) (is : Positions) → bounds_of_leaf bounds (position (λ leaf. eq_positions leaf is) leaves) ≡ bounds_at leaves bounds is
bounds_found [] bounds is = refl
bounds_found (js ∷ leaves) [] is = no_bounds (position (λ leaf. eq_positions leaf is) (js ∷ leaves))
bounds_found (js ∷ leaves) (b ∷ bounds) is = (λ i. bounds_of_leaf (b ∷ bounds) (cond (nat_lt (cond (not (eq_positions js is)) (one-add n i) 0) (suc (length leaves))) (Some (cond (not (eq_positions js is)) (one-add n i) 0)) None)) ∙ here (bounds_found leaves bounds is) (eq_positions js is)
  where
    n : ℕ
    n = position_or_len (λ leaf. eq_positions leaf is) leaves

    here : bounds_of_leaf bounds (cond (nat_lt n (length leaves)) (Some n) None) ≡ bounds_at leaves bounds is → (t : Bool) → bounds_of_leaf (b ∷ bounds) (cond (nat_lt (cond (not t) (suc n) 0) (suc (length leaves))) (Some (cond (not t) (suc n) 0)) None) ≡ (if t then Some b else bounds_at leaves bounds is)
    here rest true = ap (λ l. bounds_of_leaf (b ∷ bounds) (cond l (Some 0) None)) (first_below (length leaves))
    here rest false = (λ i. bounds_of_leaf (b ∷ bounds) (cond (next_below n (length leaves) i) (Some (suc n)) None)) ∙ next_leaf (nat_lt n (length leaves)) n b bounds ∙ rest

-- ---- answers

pub at_a_column : (leaves : List Positions) (x : Bound) (is : Positions) (a : Aggregate) → place_of x ≡ Some is → answer_of (position (λ leaf. eq_positions leaf is) leaves) (value_type x) a ≡ zone_answers leaves x a
at_a_column leaves (place xs js k) is a h = λ i. answer_of (position (λ leaf. eq_positions leaf (sym (same_Some js is h) i)) leaves) k a
at_a_column leaves x is a h = absurd (cc h)

module _ (zone : Zone) where
  leaf_says : (j : ℕ) (k l : LogicalType) (a : Aggregate) → evaluate_bound (columns_of zone) (unwrap_or (leaf_answer j k a) (typed_null l)) ≡ leaf_stat j a zone
  leaf_says j k l min = refl
  leaf_says j k l max = refl
  leaf_says j k l null_count = refl
  leaf_says j k l all_null = all_null_told j zone
  leaf_says j k l all_non_null = none_null_told j zone
  leaf_says j k l a = none_told a (λ b n. refl) j zone

  answers_say : (leaves : List Positions) (x : Bound) (a : Aggregate) (l : LogicalType) → evaluate_bound (columns_of zone) (unwrap_or (zone_answers leaves x a) (typed_null l)) ≡ zone_stat leaves zone.0 zone.1 x a
  answers_say leaves (place xs is k) a l = of (position (λ leaf. eq_positions leaf is) leaves) (bounds_found leaves zone.0 is)
    where
      of : (o : Option ℕ) → bounds_of_leaf zone.0 o ≡ bounds_at leaves zone.0 is → evaluate_bound (columns_of zone) (unwrap_or (answer_of o k a) (typed_null l)) ≡ stat_value_or_null (bounds_at leaves zone.0 is) zone.1 a
      of None h = ap (λ b. stat_value_or_null b zone.1 a) h
      of (Some j) h = leaf_says j k l a ∙ ap (λ b. stat_value_or_null b zone.1 a) h
  answers_say leaves x a l = refl

  -- what is bound has over the columns the value of the proof over the statistics
  pub bound_says : (leaves : List Positions) (proof : Bound) → evaluate_bound (columns_of zone) (bound_to leaves proof) ≡ evaluate_bound (zone_provided leaves zone.0 zone.1) proof
  bound_says leaves proof =
      replacing_keeps_values (columns_of zone) (zone_provided leaves zone.0 zone.1) (answered (Some row_counts) (zone_answers leaves) typed_null) proof (record {
        statistics = λ x a l. answers_say leaves x a l;
        columns = λ xs is k. refl;
        rows = refl;
      })
