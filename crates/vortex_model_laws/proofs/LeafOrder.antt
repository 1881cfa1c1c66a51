-- Values of a leaf type compare, and so do their bounds; and the least and the greatest after one
-- more value.
use Rattle.std.proofs.Common.{◌≡◌, refl, sym, ◌∙◌, ap, subst, ℕ, List, [], ◌∷◌, ◌++◌, map, filter_map, Bool, true, false, not, if◌then◌else◌, Option, Some, None, option_map, inl, inr, take}
use Rattle.std.specs.List.{AllByRecursion}
use Rattle.std.proofs.lemmas.List.{append_assoc, append-nil}
use Rattle.vortex_model.specs.LogicalType.{LogicalType, boolean_type, integer_type, utf8, binary}
use Rattle.vortex_model.specs.Content.{Content, boolean, integer, text, byte_string, is_null}
use Rattle.vortex_model.specs.Valid.{IsContent}
use Rattle.vortex_model.specs.Order.{at_most}
use Rattle.vortex_model_table.specs.Bounds.{low, high, is_longer, raise, text_within, count_up}
use Rattle.vortex_model.specs.Kept.{is_leaf}
use Rattle.vortex_model_table.specs.Laws.{is_leaf_value}
use Rattle.vortex_model_table.specs.Statistics.{Precision, exact, inexact, absent, non_null, is_at_most, least_value, greatest_value}
use Rattle.vortex_model_table.specs.ZoneMap.{ZoneMap, bound_of, value_in, zone_of, Joins, all_joined, made_by, alone, together, joined_from, zone_of_group}
use Rattle.vortex_model_table.specs.ZoneLaws.{AllCompare, HasBoundsOf}
use Rattle.vortex_model_table.proofs.Chains.{not_above_chain}
use Rattle.vortex_model_laws.proofs.Groups.{at_least_chain}
use Rattle.vortex_model_laws.proofs.Honesty.{all_among}
use Rattle.vortex_model_laws.proofs.Leasts.{is_at_least, IsEnd, picked, picked_end, end_picked, all_mapped, at_most_both, at_least_both}
use Rattle.vortex_model_laws.proofs.JoinOrder.{Compare, itself, some_end, fewer_compare, at_most_total, at_least_total, bounds_of_joins}
use Rattle.vortex_model_laws.proofs.Zones.{IsValueOf, its_value}

-- ---- values of one leaf type

-- a non-null value of the type, where it is a leaf type
abbrev pub IsOfForm : LogicalType → Content → Type 0
IsOfForm (integer_type i n) (integer z) = Unit {0}
IsOfForm (boolean_type n) (boolean b) = Unit {0}
IsOfForm (utf8 n) (text v) = Unit {0}
IsOfForm (binary n) (byte_string v) = Unit {0}
IsOfForm k c = ⊥

form_of_value : (k : LogicalType) (c : Content) → IsValueOf k c → IsOfForm k c
form_of_value (integer_type i n) (integer z) h = tt
form_of_value (boolean_type n) (boolean b) h = tt
form_of_value (utf8 n) (text v) h = tt
form_of_value (binary n) (byte_string v) h = tt
form_of_value (integer_type i n) c h = absurd h
form_of_value (boolean_type n) c h = absurd h
form_of_value (utf8 n) c h = absurd h
form_of_value (binary n) c h = absurd h
form_of_value k c h = absurd h

forms_compare : (k : LogicalType) (c d : Content) → IsOfForm k c → IsOfForm k d → Compare c d
forms_compare (integer_type i n) (integer a) (integer b) h g = refl
forms_compare (boolean_type n) (boolean a) (boolean b) h g = refl
forms_compare (utf8 n) (text a) (text b) h g = refl
forms_compare (binary n) (byte_string a) (byte_string b) h g = refl
forms_compare (integer_type i n) (integer a) d h g = absurd g
forms_compare (integer_type i n) c d h g = absurd h
forms_compare (boolean_type n) (boolean a) d h g = absurd g
forms_compare (boolean_type n) c d h g = absurd h
forms_compare (utf8 n) (text a) d h g = absurd g
forms_compare (utf8 n) c d h g = absurd h
forms_compare (binary n) (byte_string a) d h g = absurd g
forms_compare (binary n) c d h g = absurd h
forms_compare k c d h g = absurd h

all_compare : (k : LogicalType) (cs : List Content) → AllByRecursion (IsOfForm k) cs → AllCompare cs
all_compare k cs h = all_mapped (IsOfForm k) (λ c. AllByRecursion (Compare c) cs) (λ c g. all_mapped (IsOfForm k) (Compare c) (λ d f. forms_compare k c d g f) cs h) cs h

kept_form : (k : LogicalType) (c : Content) (cs : List Content) (b : Bool) → is_null c ≡ b → is_leaf k ≡ true → IsContent k c → AllByRecursion (IsOfForm k) (non_null cs) →
    AllByRecursion (IsOfForm k) (if not b then c ∷ non_null cs else non_null cs)
kept_form k c cs true e w h g = g
kept_form k c cs false e w h g = (form_of_value k c (its_value k c w h e), g)

pub forms_of : (k : LogicalType) (cs : List Content) → is_leaf k ≡ true → AllByRecursion (IsContent k) cs → AllByRecursion (IsOfForm k) (non_null cs)
forms_of k [] w h = tt
forms_of k (c ∷ cs) w h = kept_form k c cs (is_null c) refl w h.0 (forms_of k cs w h.1)

-- any two non-null values of a leaf column compare
pub leaves_compare : (k : LogicalType) (cs : List Content) → is_leaf k ≡ true → AllByRecursion (IsContent k) cs → AllCompare (non_null cs)
leaves_compare k cs w h = all_compare k (non_null cs) (forms_of k cs w h)

-- the order of leaves is that of contents
pub eq_order : (c d : Content) → is_leaf_value c ≡ true → is_leaf_value d ≡ true → at_most c d ≡ is_at_most c d
eq_order (boolean a) (boolean b) h g = refl
eq_order (integer a) (integer b) h g = refl
eq_order (text a) (text b) h g = refl
eq_order (byte_string a) (byte_string b) h g = refl
eq_order (boolean a) d h g = other_form d g
  where
    other_form : (d : Content) → is_leaf_value d ≡ true → at_most (boolean a) d ≡ is_at_most (boolean a) d
    other_form (boolean b) g = refl
    other_form (integer b) g = refl
    other_form (text b) g = refl
    other_form (byte_string b) g = refl
    other_form d g = absurd (cc (g))
eq_order (integer a) d h g = other_form d g
  where
    other_form : (d : Content) → is_leaf_value d ≡ true → at_most (integer a) d ≡ is_at_most (integer a) d
    other_form (boolean b) g = refl
    other_form (integer b) g = refl
    other_form (text b) g = refl
    other_form (byte_string b) g = refl
    other_form d g = absurd (cc (g))
eq_order (text a) d h g = other_form d g
  where
    other_form : (d : Content) → is_leaf_value d ≡ true → at_most (text a) d ≡ is_at_most (text a) d
    other_form (boolean b) g = refl
    other_form (integer b) g = refl
    other_form (text b) g = refl
    other_form (byte_string b) g = refl
    other_form d g = absurd (cc (g))
eq_order (byte_string a) d h g = other_form d g
  where
    other_form : (d : Content) → is_leaf_value d ≡ true → at_most (byte_string a) d ≡ is_at_most (byte_string a) d
    other_form (boolean b) g = refl
    other_form (integer b) g = refl
    other_form (text b) g = refl
    other_form (byte_string b) g = refl
    other_form d g = absurd (cc (g))
eq_order c d h g = absurd (cc (h))

-- ---- one more value in front

-- the end of values that compare, with one more in front
module _ (R : Content → Content → Bool) (chain : (c d e : Content) → R c d ≡ true → R d e ≡ true → R c e ≡ true)
    (antisym : (c d : Content) → R c d ≡ true → R d c ≡ true → c ≡ d) (total : (c d : Content) → Compare c d → R c d ≡ false → R d c ≡ true) where
  end_in_front : (c v : Content) (cs : List Content) (b : Bool) → R c v ≡ b → AllByRecursion (Compare c) (c ∷ cs) → IsEnd R v cs → IsEnd R (if b then c else v) (c ∷ cs)
  end_in_front c v cs true e h g = (inl refl, (itself R chain antisym total c h.0, all_mapped (λ x. R v x ≡ true) (λ x. R c x ≡ true) (λ x k. chain c v x e k) cs g.1))
  end_in_front c v cs false e h g = (inr g.0, (total c v (all_among (Compare c) v cs h.1 g.0) e, g.1))

  picked_in_front : (c : Content) (cs : List Content) → AllCompare (c ∷ cs) → picked R (c ∷ cs) ≡ Some (elim (picked R cs) [ None ↦ c | Some d ↦ (if R c d then c else d) ])
  picked_in_front c [] h = end_picked R antisym c (c ∷ []) (inl refl, (itself R chain antisym total c h.0.0, tt))
  picked_in_front c (d ∷ ds) h =
      let g = some_end R chain antisym total d ds (fewer_compare c (d ∷ ds) h) in
      end_picked R antisym (if R c g.0 then c else g.0) (c ∷ d ∷ ds) (end_in_front c g.0 (d ∷ ds) (R c g.0) refl h.0 g.1)
      ∙ ap (λ o. Some (elim o [ None ↦ c | Some v ↦ (if R c v then c else v) ])) (sym (end_picked R antisym g.0 (d ∷ ds) g.1))

  end_behind : (c v : Content) (cs : List Content) (b : Bool) → R v c ≡ b → Compare v c → Compare c c → IsEnd R v cs → IsEnd R (if b then v else c) (c ∷ cs)
  end_behind c v cs true e h own g = (inr g.0, (e, g.1))
  end_behind c v cs false e h own g = (inl refl, (itself R chain antisym total c own, all_mapped (λ x. R v x ≡ true) (λ x. R c x ≡ true) (λ x k. chain c v x (total v c h e) k) cs g.1))

  picked_behind : (c : Content) (cs : List Content) → AllCompare (c ∷ cs) → picked R (c ∷ cs) ≡ Some (elim (picked R cs) [ None ↦ c | Some d ↦ (if R d c then d else c) ])
  picked_behind c [] h = end_picked R antisym c (c ∷ []) (inl refl, (itself R chain antisym total c h.0.0, tt))
  picked_behind c (d ∷ ds) h =
      let g = some_end R chain antisym total d ds (fewer_compare c (d ∷ ds) h) in
      let back = all_among (λ x. AllByRecursion (Compare x) (c ∷ d ∷ ds)) g.0 (d ∷ ds) h.1 g.1.0 in
      end_picked R antisym (if R g.0 c then g.0 else c) (c ∷ d ∷ ds) (end_behind c g.0 (d ∷ ds) (R g.0 c) refl back.0 h.0.0 g.1)
      ∙ ap (λ o. Some (elim o [ None ↦ c | Some v ↦ (if R v c then v else c) ])) (sym (end_picked R antisym g.0 (d ∷ ds) g.1))

pub least_in_front : (c : Content) (cs : List Content) → AllCompare (c ∷ cs) → least_value (c ∷ cs) ≡ Some (elim (least_value cs) [ None ↦ c | Some d ↦ (if is_at_most c d then c else d) ])
least_in_front c cs h = picked_in_front is_at_most not_above_chain at_most_both at_most_total c cs h

pub greatest_in_front : (c : Content) (cs : List Content) → AllCompare (c ∷ cs) → greatest_value (c ∷ cs) ≡ Some (elim (greatest_value cs) [ None ↦ c | Some d ↦ (if is_at_most c d then d else c) ])
greatest_in_front c cs h = picked_behind is_at_least at_least_chain at_least_both at_least_total c cs h

-- ---- bounds of a leaf's values

low_form : (k : LogicalType) (L : ℕ) (c : Content) → IsOfForm k c → IsOfForm k (low L c)
low_form (integer_type i n) L (integer z) h = tt
low_form (boolean_type n) L (boolean b) h = tt
low_form (utf8 n) L (text v) h = tt
low_form (binary n) L (byte_string v) h = tt
low_form (integer_type i n) L c h = absurd h
low_form (boolean_type n) L c h = absurd h
low_form (utf8 n) L c h = absurd h
low_form (binary n) L c h = absurd h
low_form k L c h = absurd h

abbrev IfThere : LogicalType → Option Content → Type 0
IfThere k None = Unit {0}
IfThere k (Some c) = IsOfForm k c

raised_form : (k : LogicalType) (o : Option (List ℕ)) (b : Bool) (c : Content) (made : List ℕ → Content) → IsOfForm k c → ((x : List ℕ) → IsOfForm k (made x)) → IfThere k (if b then option_map made o else Some c)
raised_form k None true c made h g = tt
raised_form k (Some x) true c made h g = g x
raised_form k o false c made h g = h

high_form : (k : LogicalType) (L : ℕ) (c : Content) → IsOfForm k c → IfThere k (high L c)
high_form (integer_type i n) L (integer z) h = tt
high_form (boolean_type n) L (boolean b) h = tt
high_form (utf8 n) L (text v) h = raised_form (utf8 n) (raise (text_within L v)) (is_longer L (text v)) (text v) text tt (λ x. tt)
high_form (binary n) L (byte_string v) h = raised_form (binary n) (count_up (take L v)) (is_longer L (byte_string v)) (byte_string v) byte_string tt (λ x. tt)
high_form (integer_type i n) L c h = absurd h
high_form (boolean_type n) L c h = absurd h
high_form (utf8 n) L c h = absurd h
high_form (binary n) L c h = absurd h
high_form k L c h = absurd h

bound_form : (k : LogicalType) (b : Bool) (c : Content) → IsOfForm k c → IfThere k (value_in (bound_of b c))
bound_form k true c h = h
bound_form k false c h = h

low_there : (k : LogicalType) (L : ℕ) (cs : List Content) (o : Option Content) → least_value cs ≡ o → AllByRecursion (IsOfForm k) cs → IfThere k (value_in (elim o [ None ↦ absent | Some v ↦ bound_of (is_longer L v) (low L v) ]))
low_there k L cs None e h = tt
low_there k L cs (Some v) e h = bound_form k (is_longer L v) (low L v) (low_form k L v (all_among (IsOfForm k) v cs h (picked_end is_at_most v cs e).0))

raised_there : (k : LogicalType) (b : Bool) (o : Option Content) → IfThere k o → IfThere k (value_in (elim o [ None ↦ absent | Some h ↦ bound_of b h ]))
raised_there k b None h = tt
raised_there k b (Some v) h = bound_form k b v h

abbrev high_bound : ℕ → Content → Precision Content
high_bound L v = elim (high L v) [ None ↦ absent | Some h ↦ bound_of (is_longer L v) h ]

high_there : (k : LogicalType) (L : ℕ) (cs : List Content) (o : Option Content) → greatest_value cs ≡ o → AllByRecursion (IsOfForm k) cs → IfThere k (value_in (elim o [ None ↦ absent | Some v ↦ high_bound L v ]))
high_there k L cs None e h = tt
high_there k L cs (Some v) e h = raised_there k (is_longer L v) (high L v) (high_form k L v (all_among (IsOfForm k) v cs h (picked_end is_at_least v cs e).0))

consed : (k : LogicalType) (o : Option Content) (p : Precision Content) (ps : List (Precision Content)) → value_in p ≡ o → IfThere k o → AllByRecursion (IsOfForm k) (filter_map value_in ps) → AllByRecursion (IsOfForm k) (filter_map value_in (p ∷ ps))
consed k o (exact v) ps e h g = (subst (IfThere k) (sym e) h, g)
consed k o (inexact v) ps e h g = (subst (IfThere k) (sym e) h, g)
consed k o absent ps e h g = g

lows_form : (k : LogicalType) (L : ℕ) (chunks : List (List Content)) → is_leaf k ≡ true → AllByRecursion (λ cs. AllByRecursion (IsContent k) cs) chunks →
    AllByRecursion (IsOfForm k) (filter_map value_in (map (λ z. z.low) (map (zone_of k L) chunks)))
lows_form k L [] w h = tt
lows_form k L (cs ∷ chunks) w h =
    consed k (value_in (zone_of k L cs).low) (zone_of k L cs).low (map (λ z. z.low) (map (zone_of k L) chunks)) refl (low_there k L (non_null cs) (least_value (non_null cs)) refl (forms_of k cs w h.0))
    (lows_form k L chunks w h.1)

highs_form : (k : LogicalType) (L : ℕ) (chunks : List (List Content)) → is_leaf k ≡ true → AllByRecursion (λ cs. AllByRecursion (IsContent k) cs) chunks →
    AllByRecursion (IsOfForm k) (filter_map value_in (map (λ z. z.high) (map (zone_of k L) chunks)))
highs_form k L [] w h = tt
highs_form k L (cs ∷ chunks) w h =
    consed k (value_in (zone_of k L cs).high) (zone_of k L cs).high (map (λ z. z.high) (map (zone_of k L) chunks)) refl (high_there k L (non_null cs) (greatest_value (non_null cs)) refl (forms_of k cs w h.0))
    (highs_form k L chunks w h.1)

-- joins of the zone maps of a leaf column's chunks
pub bounds_of_column : (k : LogicalType) (L : ℕ) (chunks : List (List Content)) (joins : Joins) → is_leaf k ≡ true → AllByRecursion (λ chunk. AllByRecursion (IsContent k) chunk) chunks →
    all_joined joins ≡ map (zone_of k L) chunks → HasBoundsOf (map (zone_of k L) chunks) (made_by k joins)
bounds_of_column k L chunks joins w h e =
    subst (λ zones. HasBoundsOf zones (made_by k joins)) e
    (bounds_of_joins k joins
    (subst (λ zones. AllCompare (filter_map value_in (map (λ z. z.low) zones))) (sym e) (all_compare k (filter_map value_in (map (λ z. z.low) (map (zone_of k L) chunks))) (lows_form k L chunks w h)))
    (subst (λ zones. AllCompare (filter_map value_in (map (λ z. z.high) zones))) (sym e) (all_compare k (filter_map value_in (map (λ z. z.high) (map (zone_of k L) chunks))) (highs_form k L chunks w h))))

-- ---- joining from the left

abbrev from_left : Joins → List ZoneMap → Joins
from_left joins [] = joins
from_left joins (z ∷ zs) = from_left (together joins (alone z)) zs

from_left_all : (joins : Joins) (zs : List ZoneMap) → all_joined (from_left joins zs) ≡ all_joined joins ++ zs
from_left_all joins [] = sym (append-nil (all_joined joins))
from_left_all joins (z ∷ zs) = from_left_all (together joins (alone z)) zs ∙ append_assoc (all_joined joins) (z ∷ []) zs

from_left_made : (k : LogicalType) (joins : Joins) (zs : List ZoneMap) → made_by k (from_left joins zs) ≡ joined_from k (made_by k joins) zs
from_left_made k joins [] = refl
from_left_made k joins (z ∷ zs) = from_left_made k (together joins (alone z)) zs

-- so the zone map of a group joined from the left has the bounds and the counts of its chunks
pub bounds_of_group : (k : LogicalType) (L : ℕ) (chunk : List Content) (chunks : List (List Content)) → is_leaf k ≡ true → AllByRecursion (λ cs. AllByRecursion (IsContent k) cs) (chunk ∷ chunks) →
    HasBoundsOf (map (zone_of k L) (chunk ∷ chunks)) (zone_of_group k (map (zone_of k L) (chunk ∷ chunks)))
bounds_of_group k L chunk chunks w h =
    let joins = from_left (alone (zone_of k L chunk)) (map (zone_of k L) chunks) in
    subst (HasBoundsOf (map (zone_of k L) (chunk ∷ chunks))) (from_left_made k (alone (zone_of k L chunk)) (map (zone_of k L) chunks))
    (bounds_of_column k L (chunk ∷ chunks) joins w h (from_left_all (alone (zone_of k L chunk)) (map (zone_of k L) chunks)))
