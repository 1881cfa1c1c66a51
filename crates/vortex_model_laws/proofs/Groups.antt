-- The bounds and counts of a group are honest.
use Rattle.std.proofs.Common.{◌≡◌, refl, sym, ◌∙◌, subst, ℕ, ◌+◌, List, [], ◌∷◌, ◌++◌, map, filter_map, flat_map, Bool, true, false, not, ◌||◌, if◌then◌else◌, Option, Some, None, inl, inr}
use Rattle.std.specs.List.{AllByRecursion, list_any}
use Rattle.std.proofs.lemmas.List.Elements.{filter-append}
use Rattle.std.proofs.lemmas.List.Sums.{sum_by-append}
use Rattle.vortex_model.specs.LogicalType.{LogicalType}
use Rattle.vortex_model.specs.Content.{Content, is_null}
use Rattle.vortex_model.specs.Valid.{IsContent}
use Rattle.vortex_model.specs.Kept.{is_leaf}
use Rattle.vortex_model.proofs.Booleans.{or_false_left, or_false_right}
use Rattle.vortex_model.proofs.Lists.{map_twice, all_append}
use Rattle.vortex_model_table.specs.Statistics.{Precision, exact, inexact, absent, non_null, null_count_of, is_at_most, IsHonest, IsHonestLeast, IsHonestGreatest}
use Rattle.vortex_model_table.specs.ZoneMap.{ZoneMap, bound_of, is_absent, value_in, is_exactly, bound_among, group_nulls, group_bounds, zone_of, statistics_of}
use Rattle.vortex_model_table.proofs.Chains.{not_above_chain}
use Rattle.vortex_model_table.proofs.Equality.{content_so}
use Rattle.vortex_model_laws.proofs.Honesty.{Among}
use Rattle.vortex_model_laws.proofs.Leasts.{is_at_least, IsEnd, picked, picked_end, as_least, as_greatest, of_least, of_greatest, all_mapped}
use Rattle.vortex_model_laws.proofs.Outcomes.{sum_first}
use Rattle.vortex_model_laws.proofs.Zones.{honest_zone}

pub among_left : {X : Type 0} (v : X) (xs ys : List X) → Among v xs → Among v (xs ++ ys)
among_left v [] ys h = absurd h
among_left v (x ∷ xs) ys (inl e) = inl e
among_left v (x ∷ xs) ys (inr h) = inr (among_left v xs ys h)

pub among_right : {X : Type 0} (v : X) (xs ys : List X) → Among v ys → Among v (xs ++ ys)
among_right v [] ys h = h
among_right v (x ∷ xs) ys h = inr (among_right v xs ys h)

-- ---- bounds by a relation: the order, or its reverse

module _ (R : Content → Content → Bool) (chain : (c d e : Content) → R c d ≡ true → R d e ≡ true → R c e ≡ true) where
  abbrev pub IsHonestBound : Precision Content → List Content → Type 0
  IsHonestBound (exact v) cs = IsEnd R v (non_null cs)
  IsHonestBound (inexact v) cs = AllByRecursion (λ c. R v c ≡ true) (non_null cs)
  IsHonestBound absent cs = Unit {0}

  module _ (f : List Content → Precision Content) where
    abbrev all_of : List (List Content) → List Content
    all_of css = flat_map (λ cs. cs) css

    abbrev AreHonestBounds : List (List Content) → Type 0
    AreHonestBounds css = AllByRecursion (λ cs. IsHonestBound (f cs) cs) css

    -- what is related to each chunk's bound is related to each value
    chunk_related : (v : Content) (p : Precision Content) (cs : List Content) (ps : List (Precision Content)) → IsHonestBound p cs → is_absent p ≡ false →
        AllByRecursion (λ c. R v c ≡ true) (filter_map value_in (p ∷ ps)) → AllByRecursion (λ c. R v c ≡ true) (non_null cs) × AllByRecursion (λ c. R v c ≡ true) (filter_map value_in ps)
    chunk_related v (exact l) cs ps h e g = (all_mapped (λ c. R l c ≡ true) (λ c. R v c ≡ true) (λ x k. chain v l x g.0 k) (non_null cs) h.1, g.1)
    chunk_related v (inexact l) cs ps h e g = (all_mapped (λ c. R l c ≡ true) (λ c. R v c ≡ true) (λ x k. chain v l x g.0 k) (non_null cs) h, g.1)
    chunk_related v absent cs ps h e g = absurd (cc (e))

    all_related : (v : Content) (css : List (List Content)) → AreHonestBounds css → list_any is_absent (map f css) ≡ false →
        AllByRecursion (λ c. R v c ≡ true) (filter_map value_in (map f css)) → AllByRecursion (λ c. R v c ≡ true) (non_null (all_of css))
    all_related v [] h e g = tt
    all_related v (cs ∷ css) h e g =
        let here = chunk_related v (f cs) cs (map f css) h.0 (or_false_left (is_absent (f cs)) _ e) g in
        subst (AllByRecursion (λ c. R v c ≡ true)) (sym (filter-append (λ c. not (is_null c)) cs (all_of css)))
        (all_append (λ c. R v c ≡ true) (non_null cs) (non_null (all_of css)) here.0 (all_related v css h.1 (or_false_right (is_absent (f cs)) _ e) here.1))

    -- an exact bound is a value of its chunk
    exactly_there : (v : Content) (p : Precision Content) (cs : List Content) → IsHonestBound p cs → is_exactly v p ≡ true → Among v (non_null cs)
    exactly_there v (exact b) cs h e = subst (λ c. Among c (non_null cs)) (content_so b v e) h.0
    exactly_there v (inexact b) cs h e = absurd (cc (e))
    exactly_there v absent cs h e = absurd (cc (e))

    some_exactly : (v : Content) (css : List (List Content)) → AreHonestBounds css → list_any (is_exactly v) (map f css) ≡ true → Among v (non_null (all_of css))
    some_exactly v [] h e = absurd (cc (e))
    some_exactly v (cs ∷ css) h e =
        subst (Among v) (sym (filter-append (λ c. not (is_null c)) cs (all_of css))) (by_test (is_exactly v (f cs)) refl e (some_exactly v css h.1))
      where
        by_test : (b : Bool) → is_exactly v (f cs) ≡ b → b || list_any (is_exactly v) (map f css) ≡ true →
            (list_any (is_exactly v) (map f css) ≡ true → Among v (non_null (all_of css))) → Among v (non_null cs ++ non_null (all_of css))
        by_test true g k more = among_left v (non_null cs) (non_null (all_of css)) (exactly_there v (f cs) cs h.0 g)
        by_test false g k more = among_right v (non_null cs) (non_null (all_of css)) (more k)

    chosen_honest : (css : List (List Content)) → AreHonestBounds css → list_any is_absent (map f css) ≡ false → (o : Option Content) → picked R (filter_map value_in (map f css)) ≡ o →
        IsHonestBound (elim o [ None ↦ absent | Some v ↦ bound_of (not (list_any (is_exactly v) (map f css))) v ]) (all_of css)
    chosen_honest css h e None p = tt
    chosen_honest css h e (Some v) p = by_test (list_any (is_exactly v) (map f css)) refl
      where
        related : AllByRecursion (λ c. R v c ≡ true) (non_null (all_of css))
        related = all_related v css h e (picked_end R v (filter_map value_in (map f css)) p).1

        by_test : (b : Bool) → list_any (is_exactly v) (map f css) ≡ b → IsHonestBound (bound_of (not b) v) (all_of css)
        by_test true g = (some_exactly v css h g, related)
        by_test false g = related

    pub bound_honest : (css : List (List Content)) → AreHonestBounds css → IsHonestBound (bound_among (picked R) (map f css)) (all_of css)
    bound_honest css h = by_test (list_any is_absent (map f css)) refl
      where
        by_test : (b : Bool) → list_any is_absent (map f css) ≡ b →
            IsHonestBound (if b then absent else (elim (picked R (filter_map value_in (map f css))) [ None ↦ absent | Some v ↦ bound_of (not (list_any (is_exactly v) (map f css))) v ])) (all_of css)
        by_test true g = tt
        by_test false g = chosen_honest css h g (picked R (filter_map value_in (map f css))) refl

-- ---- both directions

pub at_least_chain : (c d e : Content) → is_at_least c d ≡ true → is_at_least d e ≡ true → is_at_least c e ≡ true
at_least_chain c d e h g = not_above_chain e d c g h

to_low : (p : Precision Content) (cs : List Content) → IsHonestLeast p cs → IsHonestBound is_at_most not_above_chain p cs
to_low (exact v) cs h = of_least v (non_null cs) h
to_low (inexact v) cs h = h
to_low absent cs h = tt

from_low : (p : Precision Content) (cs : List Content) → IsHonestBound is_at_most not_above_chain p cs → IsHonestLeast p cs
from_low (exact v) cs h = as_least v (non_null cs) h
from_low (inexact v) cs h = h
from_low absent cs h = tt

to_high : (p : Precision Content) (cs : List Content) → IsHonestGreatest p cs → IsHonestBound is_at_least at_least_chain p cs
to_high (exact v) cs h = of_greatest v (non_null cs) h
to_high (inexact v) cs h = h
to_high absent cs h = tt

from_high : (p : Precision Content) (cs : List Content) → IsHonestBound is_at_least at_least_chain p cs → IsHonestGreatest p cs
from_high (exact v) cs h = as_greatest v (non_null cs) h
from_high (inexact v) cs h = h
from_high absent cs h = tt

-- ---- counts

nulls_append : (cs ds : List Content) → null_count_of (cs ++ ds) ≡ null_count_of cs + null_count_of ds
nulls_append cs ds = sum_by-append (λ c. if is_null c then 1 else 0) cs ds

nulls_counted : (f : List Content → ZoneMap) → ((cs : List Content) → (f cs).nulls ≡ null_count_of cs) → (css : List (List Content)) → group_nulls (map f css) ≡ null_count_of (flat_map (λ cs. cs) css)
nulls_counted f h [] = refl
nulls_counted f h (cs ∷ css) =
    sum_first (f cs).nulls (map (λ z. z.nulls) (map f css)) ∙ (λ i. h cs i + nulls_counted f h css i) ∙ sym (nulls_append cs (flat_map (λ cs. cs) css))

-- ---- a group

-- honest zone maps, each of its own rows
pub honest_group : (f : List Content → ZoneMap) → ((cs : List Content) → (f cs).nulls ≡ null_count_of cs) → (css : List (List Content)) →
    AllByRecursion (λ cs. IsHonest (statistics_of (f cs)) cs) css → IsHonest (statistics_of (group_bounds (map f css))) (flat_map (λ cs. cs) css)
honest_group f counted css h = record {
  least = subst (λ ps. IsHonestLeast (bound_among (picked is_at_most) ps) (flat_map (λ cs. cs) css)) (sym (map_twice (λ z. z.low) f css))
      (from_low (bound_among (picked is_at_most) (map (λ cs. (f cs).low) css)) (flat_map (λ cs. cs) css)
      (bound_honest is_at_most not_above_chain (λ cs. (f cs).low) css
      (all_mapped (λ cs. IsHonest (statistics_of (f cs)) cs) (λ cs. IsHonestBound is_at_most not_above_chain (f cs).low cs) (λ cs g. to_low (f cs).low cs g.least) css h)));
  greatest = subst (λ ps. IsHonestGreatest (bound_among (picked is_at_least) ps) (flat_map (λ cs. cs) css)) (sym (map_twice (λ z. z.high) f css))
      (from_high (bound_among (picked is_at_least) (map (λ cs. (f cs).high) css)) (flat_map (λ cs. cs) css)
      (bound_honest is_at_least at_least_chain (λ cs. (f cs).high) css
      (all_mapped (λ cs. IsHonest (statistics_of (f cs)) cs) (λ cs. IsHonestBound is_at_least at_least_chain (f cs).high cs) (λ cs g. to_high (f cs).high cs g.greatest) css h)));
  total = tt;
  nulls = nulls_counted f counted css;
  nans = tt;
  constant = tt;
  sorted = tt;
  strictly_sorted = tt;
}

-- the zone maps of a leaf column
pub honest_bounds : (k : LogicalType) (L : ℕ) (css : List (List Content)) → is_leaf k ≡ true → AllByRecursion (λ cs. AllByRecursion (IsContent k) cs) css →
    IsHonest (statistics_of (group_bounds (map (zone_of k L) css))) (flat_map (λ cs. cs) css)
honest_bounds k L css w h =
    honest_group (zone_of k L) (λ cs. refl) css
    (all_mapped (λ cs. AllByRecursion (IsContent k) cs) (λ cs. IsHonest (statistics_of (zone_of k L cs)) cs) (λ cs g. honest_zone k k L cs w g) css h)
