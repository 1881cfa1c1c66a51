-- The zone map of a leaf column is honest.
use Rattle.std.proofs.Common.{◌≡◌, refl, sym, ◌∙◌, subst, ℕ, ℤ, List, [], ◌∷◌, Bool, true, false, not, if◌then◌else◌, Option, Some, None, IsUtf8}
use Rattle.std.specs.List.{AllByRecursion}
use Rattle.vortex_model.specs.LogicalType.{LogicalType, IntKind, boolean_type, integer_type, utf8, binary}
use Rattle.vortex_model.specs.Content.{Content, null, boolean, integer, text, byte_string, is_null}
use Rattle.vortex_model.specs.Valid.{IsContent, AreBytes, in_range}
use Rattle.vortex_model.specs.Order.{IsAtMost}
use Rattle.vortex_model_table.specs.Bounds.{IsHigh, IsWellFormed, low, high, is_longer}
use Rattle.vortex_model.specs.Kept.{is_leaf}
use Rattle.vortex_model_table.specs.Laws.{is_leaf_value}
use Rattle.vortex_model_table.specs.Typing.{sum_kind}
use Rattle.vortex_model_table.specs.Statistics.{Precision, exact, absent, non_null, is_at_most, IsNotAbove, least_value, greatest_value, sum_of, IsLeast, IsGreatest, IsHonest, IsHonestLeast, IsHonestGreatest, IsHonestValue}
use Rattle.vortex_model_table.specs.ZoneMap.{bound_of, sum_in, zone_of, statistics_of}
use Rattle.vortex_model_laws.proofs.BoundFunctions.{low_by_function, high_by_function, low_short, high_short}
use Rattle.vortex_model_laws.proofs.Bounded.{some_equal, low_below, high_above}
use Rattle.vortex_model_table.proofs.Chains.{not_above_chain}
use Rattle.vortex_model_laws.proofs.Honesty.{all_among}
use Rattle.vortex_model_laws.proofs.Leasts.{all_mapped, is_at_least, IsEnd, picked_end, as_least, as_greatest}

-- ---- the order of leaves

-- a non-null value of the type, where it is a leaf type
abbrev pub IsValueOf : LogicalType → Content → Type 0
IsValueOf (integer_type i n) (integer z) = Unit {0}
IsValueOf (boolean_type n) (boolean b) = Unit {0}
IsValueOf (utf8 n) (text v) = IsUtf8 v
IsValueOf (binary n) (byte_string v) = AreBytes v
IsValueOf k c = ⊥

pub its_value : (k : LogicalType) (c : Content) → is_leaf k ≡ true → IsContent k c → is_null c ≡ false → IsValueOf k c
its_value (integer_type i n) (integer z) w h e = tt
its_value (integer_type i n) null w h e = absurd (cc (e))
its_value (integer_type i n) c w h e = absurd h
its_value (boolean_type n) (boolean b) w h e = tt
its_value (boolean_type n) null w h e = absurd (cc (e))
its_value (boolean_type n) c w h e = absurd h
its_value (utf8 n) (text v) w h e = h
its_value (utf8 n) null w h e = absurd (cc (e))
its_value (utf8 n) c w h e = absurd h
its_value (binary n) (byte_string v) w h e = h
its_value (binary n) null w h e = absurd (cc (e))
its_value (binary n) c w h e = absurd h
its_value k c w h e = absurd (cc (w))

its_leaf : (k : LogicalType) (c : Content) → IsValueOf k c → is_leaf_value c ≡ true
its_leaf (integer_type i n) (integer a) p = refl
its_leaf (boolean_type n) (boolean a) p = refl
its_leaf (utf8 n) (text a) p = refl
its_leaf (binary n) (byte_string a) p = refl
its_leaf (integer_type i n) c p = absurd p
its_leaf (boolean_type n) c p = absurd p
its_leaf (utf8 n) c p = absurd p
its_leaf (binary n) c p = absurd p
its_leaf k c p = absurd p

its_form : (k : LogicalType) (c : Content) → IsValueOf k c → IsWellFormed c
its_form (integer_type i n) (integer a) p = tt
its_form (boolean_type n) (boolean a) p = tt
its_form (utf8 n) (text a) p = p
its_form (binary n) (byte_string a) p = p
its_form (integer_type i n) c p = absurd p
its_form (boolean_type n) c p = absurd p
its_form (utf8 n) c p = absurd p
its_form (binary n) c p = absurd p
its_form k c p = absurd p

leaf_not_above : (c d : Content) → IsAtMost c d → IsNotAbove c d
leaf_not_above (boolean a) (boolean b) h = h
leaf_not_above (integer a) (integer b) h = h
leaf_not_above (text a) (text b) h = h
leaf_not_above (byte_string a) (byte_string b) h = h
leaf_not_above c d h = absurd (cc (h))

abbrev high_bound : ℕ → Content → Precision Content
high_bound L v = elim (high L v) [ None ↦ absent | Some h ↦ bound_of (is_longer L v) h ]

module _ (k : LogicalType) where
  -- ---- the zone map

  -- the low of the least value: that value where it fits, and else a bound
  low_by : (L : ℕ) (v : Content) (cs : List Content) (longer : Bool) → is_longer L v ≡ longer → IsValueOf k v → IsEnd is_at_most v (non_null cs) → IsHonestLeast (bound_of longer (low L v)) cs
  low_by L v cs true e p h =
      let below : IsNotAbove (low L v) v = leaf_not_above (low L v) v (low_below v L (low L v) (its_leaf k v p) (low_by_function v L (its_form k v p))) in
      all_mapped (IsNotAbove v) (IsNotAbove (low L v)) (λ x g. not_above_chain (low L v) v x below g) (non_null cs) h.1
  low_by L v cs false e p h = subst (λ l. IsLeast l (non_null cs)) (sym (low_short v L (its_form k v p) e)) (as_least v (non_null cs) h)

  low_honest : (L : ℕ) (cs : List Content) (o : Option Content) → least_value (non_null cs) ≡ o → AllByRecursion (IsValueOf k) (non_null cs) →
      IsHonestLeast (elim o [ None ↦ absent | Some v ↦ bound_of (is_longer L v) (low L v) ]) cs
  low_honest L cs None e w = tt
  low_honest L cs (Some v) e w =
      let h = picked_end is_at_most v (non_null cs) e in low_by L v cs (is_longer L v) refl (all_among (IsValueOf k) v (non_null cs) w h.0) h

  -- the high of the greatest value, where it has one
  high_by : (L : ℕ) (v : Content) (cs : List Content) (o : Option Content) (longer : Bool) → high L v ≡ o → is_longer L v ≡ longer → IsValueOf k v → IsEnd is_at_least v (non_null cs) →
      IsHonestGreatest (elim o [ None ↦ absent | Some h ↦ bound_of longer h ]) cs
  high_by L v cs None longer f e p g = tt
  high_by L v cs (Some h) true f e p g =
      let is = subst (IsHigh v L) f (high_by_function v L (its_form k v p)) in
      let above : IsNotAbove v h = leaf_not_above v h (high_above v L h (its_leaf k v p) is) in
      all_mapped (λ x. IsNotAbove x v) (λ x. IsNotAbove x h) (λ x m. not_above_chain x v h m above) (non_null cs) g.1
  high_by L v cs (Some h) false f e p g = subst (λ c. IsGreatest c (non_null cs)) (sym (some_equal h v (sym f ∙ high_short v L e))) (as_greatest v (non_null cs) g)

  high_honest : (L : ℕ) (cs : List Content) (o : Option Content) → greatest_value (non_null cs) ≡ o → AllByRecursion (IsValueOf k) (non_null cs) →
      IsHonestGreatest (elim o [ None ↦ absent | Some v ↦ high_bound L v ]) cs
  high_honest L cs None e w = tt
  high_honest L cs (Some v) e w =
      let h = picked_end is_at_least v (non_null cs) e in high_by L v cs (high L v) (is_longer L v) refl refl (all_among (IsValueOf k) v (non_null cs) w h.0) h

  values_kept : (w : is_leaf k ≡ true) (c : Content) (cs : List Content) (b : Bool) → is_null c ≡ b → IsContent k c →
      AllByRecursion (IsValueOf k) (non_null cs) → AllByRecursion (IsValueOf k) (if not b then c ∷ non_null cs else non_null cs)
  values_kept w c cs true e h g = g
  values_kept w c cs false e h g = (its_value k c w h e, g)

  values_of : (w : is_leaf k ≡ true) (cs : List Content) → AllByRecursion (IsContent k) cs → AllByRecursion (IsValueOf k) (non_null cs)
  values_of w [] h = tt
  values_of w (c ∷ cs) h = values_kept w c cs (is_null c) refl h.0 (values_of w cs h.1)

  total_honest : (o : Option IntKind) (z : ℤ) → IsHonestValue (sum_in o z) z
  total_honest None z = tt
  total_honest (Some i) z = by_test (in_range i z)
    where
      by_test : (b : Bool) → IsHonestValue (if b then exact z else absent) z
      by_test true = refl
      by_test false = tt

  -- only the sum depends on l, so it may differ from k
  pub honest_zone : (l : LogicalType) (L : ℕ) (cs : List Content) → is_leaf k ≡ true → AllByRecursion (IsContent k) cs → IsHonest (statistics_of (zone_of l L cs)) cs
  honest_zone l L cs w h = record {
    least = low_honest L cs (least_value (non_null cs)) refl (values_of w cs h);
    greatest = high_honest L cs (greatest_value (non_null cs)) refl (values_of w cs h);
    total = total_honest (sum_kind l) (sum_of cs);
    nulls = refl;
    nans = tt;
    constant = refl;
    sorted = tt;
    strictly_sorted = tt;
  }
