-- The bounds of a leaf's chunks have the form and the range of its values, and so do those of a group.
use Rattle.std.proofs.Common.{◌≡◌, refl, sym, ◌∙◌, ap, subst, ℕ, List, [], ◌∷◌, map, filter_map, Bool, true, false, not, if◌then◌else◌, Option, Some, None, option_map, take}
use Rattle.std.specs.List.{AllByRecursion, list_any}
use Rattle.std.specs.Cmp.{second_so}
use Rattle.vortex_model.specs.LogicalType.{LogicalType, boolean_type, integer_type, utf8, binary, eq_int_kind}
use Rattle.vortex_model.specs.Content.{Content, null, boolean, integer, text, byte_string, is_null, raw_number}
use Rattle.vortex_model.specs.Valid.{IsContent, in_range}
use Rattle.vortex_model.proofs.Passes.{has_passes}
use Rattle.vortex_model_table.specs.Bounds.{low, high, is_longer, raise, text_within, count_up}
use Rattle.vortex_model.specs.Kept.{is_leaf}
use Rattle.vortex_model_table.specs.Statistics.{Precision, exact, inexact, absent, non_null, is_at_most, least_value, greatest_value}
use Rattle.vortex_model_table.specs.ZoneMap.{bound_of, value_in, is_absent, is_exactly, low_of_values, high_of_values, zone_of, group_low, group_high}
use Rattle.vortex_model_laws.proofs.Honesty.{Among, all_among}
use Rattle.vortex_model_laws.proofs.JoinOrder.{Compare}
use Rattle.vortex_model_laws.proofs.Leasts.{is_at_least, picked_end}
use Rattle.vortex_table_chunk.specs.zones.Join.{BothCompare}

-- ---- values of one form

-- the value has the form of the leaf's, and is in the range of its kind
abbrev pub Fits : LogicalType → Content → Type 0
Fits (integer_type i n) (integer z) = in_range i z ≡ true
Fits (boolean_type n) (boolean b) = Unit {0}
Fits (utf8 n) (text v) = Unit {0}
Fits (binary n) (byte_string v) = Unit {0}
Fits k c = ⊥

its_value : (k : LogicalType) (c : Content) → is_leaf k ≡ true → IsContent k c → is_null c ≡ false → Fits k c
its_value (integer_type i n) (integer z) w h e = second_so (eq_int_kind i i) (in_range i z) (has_passes (integer_type i n) (raw_number i z) (refl, h))
its_value (integer_type i n) null w h e = absurd (cc (e))
its_value (integer_type i n) c w h e = absurd h
its_value (boolean_type n) (boolean b) w h e = tt
its_value (boolean_type n) null w h e = absurd (cc (e))
its_value (boolean_type n) c w h e = absurd h
its_value (utf8 n) (text v) w h e = tt
its_value (utf8 n) null w h e = absurd (cc (e))
its_value (utf8 n) c w h e = absurd h
its_value (binary n) (byte_string v) w h e = tt
its_value (binary n) null w h e = absurd (cc (e))
its_value (binary n) c w h e = absurd h
its_value k c w h e = absurd (cc (w))

kept_fits : (k : LogicalType) (c : Content) (cs : List Content) (b : Bool) → is_null c ≡ b → is_leaf k ≡ true → IsContent k c → AllByRecursion (Fits k) (non_null cs) → AllByRecursion (Fits k) (if not b then c ∷ non_null cs else non_null cs)
kept_fits k c cs true e w h g = g
kept_fits k c cs false e w h g = (its_value k c w h e, g)

all_fit : (k : LogicalType) (cs : List Content) → is_leaf k ≡ true → AllByRecursion (IsContent k) cs → AllByRecursion (Fits k) (non_null cs)
all_fit k [] w h = tt
all_fit k (c ∷ cs) w h = kept_fits k c cs (is_null c) refl w h.0 (all_fit k cs w h.1)

forms_compare : (k : LogicalType) (c d : Content) → Fits k c → Fits k d → Compare c d
forms_compare (integer_type i n) (integer a) (integer b) h g = refl
forms_compare (boolean_type n) (boolean a) (boolean b) h g = refl
forms_compare (utf8 n) (text a) (text b) h g = refl
forms_compare (binary n) (byte_string a) (byte_string b) h g = refl
forms_compare (integer_type i n) (integer a) d h g = absurd g
forms_compare (integer_type i n) c d h g = absurd h
forms_compare (boolean_type n) (boolean a) d h g = absurd g
forms_compare (boolean_type n) c d h g = absurd h
forms_compare (utf8 n) (text a) d h g = absurd g
forms_compare (utf8 n) c d h g = absurd h
forms_compare (binary n) (byte_string a) d h g = absurd g
forms_compare (binary n) c d h g = absurd h
forms_compare k c d h g = absurd h

low_form : (k : LogicalType) (L : ℕ) (c : Content) → Fits k c → Fits k (low L c)
low_form (integer_type i n) L (integer z) h = h
low_form (boolean_type n) L (boolean b) h = tt
low_form (utf8 n) L (text v) h = tt
low_form (binary n) L (byte_string v) h = tt
low_form (integer_type i n) L c h = absurd h
low_form (boolean_type n) L c h = absurd h
low_form (utf8 n) L c h = absurd h
low_form (binary n) L c h = absurd h
low_form k L c h = absurd h

abbrev pub FormIn : LogicalType → Option Content → Type 0
FormIn k None = Unit {0}
FormIn k (Some c) = Fits k c

raised_form : (k : LogicalType) (o : Option (List ℕ)) (b : Bool) (c : Content) (made : List ℕ → Content) → Fits k c → ((x : List ℕ) → Fits k (made x)) → FormIn k (if b then option_map made o else Some c)
raised_form k None true c made h g = tt
raised_form k (Some x) true c made h g = g x
raised_form k o false c made h g = h

high_form : (k : LogicalType) (L : ℕ) (c : Content) → Fits k c → FormIn k (high L c)
high_form (integer_type i n) L (integer z) h = h
high_form (boolean_type n) L (boolean b) h = tt
high_form (utf8 n) L (text v) h = raised_form (utf8 n) (raise (text_within L v)) (is_longer L (text v)) (text v) text tt (λ x. tt)
high_form (binary n) L (byte_string v) h = raised_form (binary n) (count_up (take L v)) (is_longer L (byte_string v)) (byte_string v) byte_string tt (λ x. tt)
high_form (integer_type i n) L c h = absurd h
high_form (boolean_type n) L c h = absurd h
high_form (utf8 n) L c h = absurd h
high_form (binary n) L c h = absurd h
high_form k L c h = absurd h

-- ---- bounds of one form

bound_form : (k : LogicalType) (b : Bool) (c : Content) → Fits k c → FormIn k (value_in (bound_of b c))
bound_form k true c h = h
bound_form k false c h = h

pub both_compare : (k : LogicalType) (p q : Precision Content) → FormIn k (value_in p) → FormIn k (value_in q) → BothCompare p q
both_compare k absent absent h g = tt
both_compare k absent (exact w) h g = ((forms_compare k w w g g, tt), tt)
both_compare k absent (inexact w) h g = ((forms_compare k w w g g, tt), tt)
both_compare k (exact v) absent h g = ((forms_compare k v v h h, tt), tt)
both_compare k (inexact v) absent h g = ((forms_compare k v v h h, tt), tt)
both_compare k (exact v) (exact w) h g = ((forms_compare k v v h h, (forms_compare k v w h g, tt)), ((forms_compare k w v g h, (forms_compare k w w g g, tt)), tt))
both_compare k (exact v) (inexact w) h g = ((forms_compare k v v h h, (forms_compare k v w h g, tt)), ((forms_compare k w v g h, (forms_compare k w w g g, tt)), tt))
both_compare k (inexact v) (exact w) h g = ((forms_compare k v v h h, (forms_compare k v w h g, tt)), ((forms_compare k w v g h, (forms_compare k w w g g, tt)), tt))
both_compare k (inexact v) (inexact w) h g = ((forms_compare k v v h h, (forms_compare k v w h g, tt)), ((forms_compare k w v g h, (forms_compare k w w g g, tt)), tt))

-- ---- of chunks and of groups

low_there : (k : LogicalType) (L : ℕ) (cs : List Content) (o : Option Content) → least_value cs ≡ o → AllByRecursion (Fits k) cs → FormIn k (value_in (elim o [ None ↦ absent | Some v ↦ bound_of (is_longer L v) (low L v) ]))
low_there k L cs None e h = tt
low_there k L cs (Some v) e h = bound_form k (is_longer L v) (low L v) (low_form k L v (all_among (Fits k) v cs h (picked_end is_at_most v cs e).0))

raised_there : (k : LogicalType) (b : Bool) (o : Option Content) → FormIn k o → FormIn k (value_in (elim o [ None ↦ absent | Some h ↦ bound_of b h ]))
raised_there k b None h = tt
raised_there k b (Some v) h = bound_form k b v h

abbrev high_bound : ℕ → Content → Precision Content
high_bound L v = elim (high L v) [ None ↦ absent | Some h ↦ bound_of (is_longer L v) h ]

high_there : (k : LogicalType) (L : ℕ) (cs : List Content) (o : Option Content) → greatest_value cs ≡ o → AllByRecursion (Fits k) cs → FormIn k (value_in (elim o [ None ↦ absent | Some v ↦ high_bound L v ]))
high_there k L cs None e h = tt
high_there k L cs (Some v) e h = raised_there k (is_longer L v) (high L v) (high_form k L v (all_among (Fits k) v cs h (picked_end is_at_least v cs e).0))

module _ (k : LogicalType) (L : ℕ) (cs : List Content) (leaf : is_leaf k ≡ true) (typed : AllByRecursion (IsContent k) cs) where
  pub values_low : FormIn k (value_in (low_of_values L cs))
  values_low = low_there k L (non_null cs) (least_value (non_null cs)) refl (all_fit k cs leaf typed)

  pub values_high : FormIn k (value_in (high_of_values L cs))
  values_high = high_there k L (non_null cs) (greatest_value (non_null cs)) refl (all_fit k cs leaf typed)

consed : (k : LogicalType) (o : Option Content) (p : Precision Content) (ps : List (Precision Content)) → value_in p ≡ o → FormIn k o → AllByRecursion (Fits k) (filter_map value_in ps) → AllByRecursion (Fits k) (filter_map value_in (p ∷ ps))
consed k o (exact v) ps e h g = (subst (FormIn k) (sym e) h, g)
consed k o (inexact v) ps e h g = (subst (FormIn k) (sym e) h, g)
consed k o absent ps e h g = g

module _ (k : LogicalType) (L : ℕ) (leaf : is_leaf k ≡ true) where
  abbrev AreOfType : List (List Content) → Type 0
  AreOfType chunks = AllByRecursion (λ cs. AllByRecursion (IsContent k) cs) chunks

  lows_form : (chunks : List (List Content)) → AreOfType chunks → AllByRecursion (Fits k) (filter_map value_in (map (λ z. z.low) (map (zone_of k L) chunks)))
  lows_form [] h = tt
  lows_form (cs ∷ chunks) h =
      consed k (value_in (zone_of k L cs).low) (zone_of k L cs).low (map (λ z. z.low) (map (zone_of k L) chunks)) refl (low_there k L (non_null cs) (least_value (non_null cs)) refl (all_fit k cs leaf h.0))
      (lows_form chunks h.1)

  highs_form : (chunks : List (List Content)) → AreOfType chunks → AllByRecursion (Fits k) (filter_map value_in (map (λ z. z.high) (map (zone_of k L) chunks)))
  highs_form [] h = tt
  highs_form (cs ∷ chunks) h =
      consed k (value_in (zone_of k L cs).high) (zone_of k L cs).high (map (λ z. z.high) (map (zone_of k L) chunks)) refl (high_there k L (non_null cs) (greatest_value (non_null cs)) refl (all_fit k cs leaf h.0))
      (highs_form chunks h.1)

  chosen : (pick : List Content → Option Content) → ((cs : List Content) (v : Content) → pick cs ≡ Some v → Among v cs) → (ps : List (Precision Content)) (b : Bool) (o : Option Content) →
      pick (filter_map value_in ps) ≡ o → AllByRecursion (Fits k) (filter_map value_in ps) →
      FormIn k (value_in (if b then absent else (elim o [ None ↦ absent | Some v ↦ bound_of (not (list_any (is_exactly v) ps)) v ])))
  chosen pick one ps true o e h = tt
  chosen pick one ps false None e h = tt
  chosen pick one ps false (Some v) e h = bound_form k (not (list_any (is_exactly v) ps)) v (all_among (Fits k) v (filter_map value_in ps) h (one (filter_map value_in ps) v e))

  pub group_low_form : (chunks : List (List Content)) → AreOfType chunks → FormIn k (value_in (group_low (map (zone_of k L) chunks)))
  group_low_form chunks h =
      let ps = map (λ z. z.low) (map (zone_of k L) chunks) in
      chosen least_value (λ cs v e. (picked_end is_at_most v cs e).0) ps (list_any is_absent ps) (least_value (filter_map value_in ps)) refl (lows_form chunks h)

  pub group_high_form : (chunks : List (List Content)) → AreOfType chunks → FormIn k (value_in (group_high (map (zone_of k L) chunks)))
  group_high_form chunks h =
      let ps = map (λ z. z.high) (map (zone_of k L) chunks) in
      chosen greatest_value (λ cs v e. (picked_end is_at_least v cs e).0) ps (list_any is_absent ps) (greatest_value (filter_map value_in ps)) refl (highs_form chunks h)
