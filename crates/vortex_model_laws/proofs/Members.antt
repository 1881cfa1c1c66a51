-- Non-null values of a leaf type: they compare, and the bounds of a chunk are among them.
use Rattle.std.proofs.Common.{◌≡◌, refl, sym, subst, ℕ, ◌<◌, ◌≤◌, List, [], ◌∷◌, length, take, drop, Bool, true, false, not, if◌then◌else◌, Option, Some, None, ◌⊎◌, inl, inr, IsUtf8}
use Rattle.std.specs.List.{AllByRecursion}
use Rattle.std.proofs.lemmas.Bool.{cases_lt}
use Rattle.std.proofs.lemmas.List.{take-append-drop}
use Rattle.std.proofs.lemmas.Option.{same_Some}
use Rattle.vortex_model.specs.LogicalType.{LogicalType, boolean_type, integer_type, utf8, binary, non_nullable, with_nullability, bare}
use Rattle.vortex_model.specs.Content.{Content, null, boolean, integer, text, byte_string, is_null}
use Rattle.vortex_model.specs.Valid.{IsContent, AreBytes}
use Rattle.vortex_model.specs.Kept.{is_leaf}
use Rattle.vortex_model_table.specs.Bounds.{IsHigh, IsHighText, IsHighBytes, low, high, is_longer}
use Rattle.vortex_model_table.specs.Statistics.{absent, shown, non_null, is_at_most, least_value, greatest_value}
use Rattle.vortex_model_table.specs.ZoneMap.{bound_of, zone_of}
use Rattle.vortex_model_table.specs.Class.{is_there}
use Rattle.vortex_model_laws.proofs.BoundFunctions.{low_of_text, high_by_function}
use Rattle.vortex_model_table.proofs.ContentOrder.{le}
use Rattle.vortex_model_laws.proofs.CountUp.{front_bytes}
use Rattle.vortex_model_laws.proofs.Honesty.{Among}
use Rattle.vortex_model_laws.proofs.JoinOrder.{Compare, at_most_total}
use Rattle.vortex_model_laws.proofs.Leasts.{is_at_least, picked_end}
use Rattle.vortex_model_laws.proofs.Alone.{among_kept}

-- a non-null value of the leaf type
abbrev pub IsMember : LogicalType → Content → Type 0
IsMember (boolean_type n) (boolean b) = IsContent (boolean_type non_nullable) (boolean b)
IsMember (integer_type i n) (integer z) = IsContent (integer_type i non_nullable) (integer z)
IsMember (utf8 n) (text v) = IsContent (utf8 non_nullable) (text v)
IsMember (binary n) (byte_string v) = IsContent (binary non_nullable) (byte_string v)
IsMember u c = ⊥

pub member_compares : (u : LogicalType) (c d : Content) → IsMember u c → IsMember u d → Compare c d
member_compares (boolean_type n) (boolean a) (boolean b) h g = refl
member_compares (integer_type i n) (integer a) (integer b) h g = refl
member_compares (utf8 n) (text a) (text b) h g = refl
member_compares (binary n) (byte_string a) (byte_string b) h g = refl
member_compares (boolean_type n) (boolean a) d h g = absurd g
member_compares (integer_type i n) (integer a) d h g = absurd g
member_compares (utf8 n) (text a) d h g = absurd g
member_compares (binary n) (byte_string a) d h g = absurd g
member_compares (boolean_type n) c d h g = absurd h
member_compares (integer_type i n) c d h g = absurd h
member_compares (utf8 n) c d h g = absurd h
member_compares (binary n) c d h g = absurd h
member_compares u c d h g = absurd h

pub member_not_null : (u : LogicalType) (c : Content) → IsMember u c → is_null c ≡ false
member_not_null (boolean_type n) null h = absurd h
member_not_null (integer_type i n) null h = absurd h
member_not_null (utf8 n) null h = absurd h
member_not_null (binary n) null h = absurd h
member_not_null u null h = absurd h
member_not_null u c h = refl

-- it is at most itself, and of two one is at most the other
pub member_itself : (u : LogicalType) (c : Content) → IsMember u c → le c c ≡ true
member_itself u c h = by_test (le c c) refl
  where
    by_test : (b : Bool) → le c c ≡ b → le c c ≡ true
    by_test true e = e
    by_test false e = at_most_total c c (member_compares u c c h h) e

pub member_total : (u : LogicalType) (c d : Content) → IsMember u c → IsMember u d → le c d ≡ false → le d c ≡ true
member_total u c d h g e = at_most_total c d (member_compares u c d h g) e

-- a non-null content of the type
pub member_made : (u : LogicalType) (c : Content) → is_leaf u ≡ true → is_null c ≡ false → IsContent u c → IsMember u c
member_made (boolean_type n) (boolean b) w m h = tt
member_made (integer_type i n) (integer z) w m h = h
member_made (utf8 n) (text v) w m h = h
member_made (binary n) (byte_string v) w m h = h
member_made (boolean_type n) null w m h = absurd (cc (m))
member_made (integer_type i n) null w m h = absurd (cc (m))
member_made (utf8 n) null w m h = absurd (cc (m))
member_made (binary n) null w m h = absurd (cc (m))
member_made (boolean_type n) c w m h = absurd h
member_made (integer_type i n) c w m h = absurd h
member_made (utf8 n) c w m h = absurd h
member_made (binary n) c w m h = absurd h
member_made u c w m h = absurd (cc (w))

pub member_held : (u : LogicalType) (c : Content) → IsMember u c → IsContent (with_nullability non_nullable u) c
member_held (boolean_type n) (boolean b) h = h
member_held (integer_type i n) (integer z) h = h
member_held (utf8 n) (text v) h = h
member_held (binary n) (byte_string v) h = h
member_held (boolean_type n) c h = absurd h
member_held (integer_type i n) c h = absurd h
member_held (utf8 n) c h = absurd h
member_held (binary n) c h = absurd h
member_held u c h = absurd h

-- under a type that differs only in nullability
pub member_bare : (u : LogicalType) (c : Content) → is_leaf u ≡ true → IsMember u c → IsMember (bare u) c
member_bare (boolean_type n) (boolean b) w h = h
member_bare (integer_type i n) (integer z) w h = h
member_bare (utf8 n) (text v) w h = h
member_bare (binary n) (byte_string v) w h = h
member_bare (boolean_type n) c w h = absurd h
member_bare (integer_type i n) c w h = absurd h
member_bare (utf8 n) c w h = absurd h
member_bare (binary n) c w h = absurd h
member_bare u c w h = absurd (cc (w))

pub member_of_bare : (u : LogicalType) (c : Content) → is_leaf u ≡ true → IsMember (bare u) c → IsMember u c
member_of_bare (boolean_type n) (boolean b) w h = h
member_of_bare (integer_type i n) (integer z) w h = h
member_of_bare (utf8 n) (text v) w h = h
member_of_bare (binary n) (byte_string v) w h = h
member_of_bare (boolean_type n) c w h = absurd h
member_of_bare (integer_type i n) c w h = absurd h
member_of_bare (utf8 n) c w h = absurd h
member_of_bare (binary n) c w h = absurd h
member_of_bare u c w h = absurd (cc (w))

-- ---- bounds

low_member : (u : LogicalType) (L : ℕ) (c : Content) → IsMember u c → IsMember u (low L c)
low_member (boolean_type n) L (boolean b) h = h
low_member (integer_type i n) L (integer z) h = h
low_member (utf8 n) L (text v) h = (low_of_text v L h).passes
low_member (binary n) L (byte_string v) h = front_bytes (take L v) (drop L v) (subst AreBytes (sym (take-append-drop L v)) h)
low_member (boolean_type n) L c h = absurd h
low_member (integer_type i n) L c h = absurd h
low_member (utf8 n) L c h = absurd h
low_member (binary n) L c h = absurd h
low_member u L c h = absurd h

high_text_member : (v : List ℕ) (L : ℕ) (c : Content) → IsHighText v L (Some c) → IsMember (utf8 non_nullable) c
high_text_member v L (text h) r = r.2.0
high_text_member v L c r = absurd r

high_bytes_member : (v : List ℕ) (L : ℕ) (c : Content) → IsHighBytes v L (Some c) → IsMember (binary non_nullable) c
high_bytes_member v L (byte_string h) r = r.bytes
high_bytes_member v L c r = absurd r

text_member : (v : List ℕ) (L : ℕ) (c : Content) → IsUtf8 v → IsHigh (text v) L (Some c) → (L < length v) ⊎ (length v ≤ L) → IsMember (utf8 non_nullable) c
text_member v L c u r (inl lt) = high_text_member v L c (r.1 lt)
text_member v L c u r (inr le) = subst (IsMember (utf8 non_nullable)) (sym (same_Some c (text v) (r.0 le))) u

bytes_member : (v : List ℕ) (L : ℕ) (c : Content) → AreBytes v → IsHigh (byte_string v) L (Some c) → (L < length v) ⊎ (length v ≤ L) → IsMember (binary non_nullable) c
bytes_member v L c u r (inl lt) = high_bytes_member v L c (r.1 lt)
bytes_member v L c u r (inr le) = subst (IsMember (binary non_nullable)) (sym (same_Some c (byte_string v) (r.0 le))) u

utf8_member : (n : _) (c : Content) → IsMember (utf8 non_nullable) c → IsMember (utf8 n) c
utf8_member n (text v) h = h
utf8_member n c h = absurd h

binary_member : (n : _) (c : Content) → IsMember (binary non_nullable) c → IsMember (binary n) c
binary_member n (byte_string v) h = h
binary_member n c h = absurd h

high_member : (u : LogicalType) (L : ℕ) (c d : Content) → IsMember u c → high L c ≡ Some d → IsMember u d
high_member (boolean_type n) L (boolean b) d h e = subst (IsMember (boolean_type n)) (same_Some (boolean b) d e) h
high_member (integer_type i n) L (integer z) d h e = subst (IsMember (integer_type i n)) (same_Some (integer z) d e) h
high_member (utf8 n) L (text v) d h e = utf8_member n d (text_member v L d h (subst (IsHigh (text v) L) e (high_by_function (text v) L h)) (cases_lt L (length v)))
high_member (binary n) L (byte_string v) d h e = binary_member n d (bytes_member v L d h (subst (IsHigh (byte_string v) L) e (high_by_function (byte_string v) L h)) (cases_lt L (length v)))
high_member (boolean_type n) L c d h e = absurd h
high_member (integer_type i n) L c d h e = absurd h
high_member (utf8 n) L c d h e = absurd h
high_member (binary n) L c d h e = absurd h
high_member u L c d h e = absurd h

bound_shown : (u : LogicalType) (b : Bool) (c : Content) → IsMember u c → IsMember u (shown (bound_of b c))
bound_shown u true c h = h
bound_shown u false c h = h

module _ (u : LogicalType) (L : ℕ) (cs : List Content) (leaf : is_leaf u ≡ true) (typed : AllByRecursion (IsContent u) cs) where
  value_kept : (x : Content) (ds : List Content) → AllByRecursion (IsContent u) ds → Among x (non_null ds) → IsContent u x
  value_kept x [] h a = absurd a
  value_kept x (d ∷ ds) h a = by_test (is_null d) a (value_kept x ds h.1)
    where
      by_test : (b : Bool) → Among x (if not b then d ∷ non_null ds else non_null ds) → (Among x (non_null ds) → IsContent u x) → IsContent u x
      by_test true g more = more g
      by_test false (inl s) more = subst (IsContent u) s h.0
      by_test false (inr g) more = more g

  value_member : (x : Content) → Among x (non_null cs) → IsMember u x
  value_member x a = member_made u x leaf (among_kept x cs a) (value_kept x cs typed a)

  low_by : (o : Option Content) → least_value (non_null cs) ≡ o → is_there (elim o [ None ↦ absent | Some v ↦ bound_of (is_longer L v) (low L v) ]) ≡ true →
      IsMember u (shown (elim o [ None ↦ absent | Some v ↦ bound_of (is_longer L v) (low L v) ]))
  low_by None e h = absurd (cc (h))
  low_by (Some v) e h = bound_shown u (is_longer L v) (low L v) (low_member u L v (value_member v (picked_end is_at_most v (non_null cs) e).0))

  -- the low of a chunk, where it is known
  pub low_is_member : is_there (zone_of u L cs).low ≡ true → IsMember u (shown (zone_of u L cs).low)
  low_is_member h = low_by (least_value (non_null cs)) refl h

  high_in : (v : Content) (o : Option Content) → high L v ≡ o → IsMember u v → is_there (elim o [ None ↦ absent | Some h ↦ bound_of (is_longer L v) h ]) ≡ true →
      IsMember u (shown (elim o [ None ↦ absent | Some h ↦ bound_of (is_longer L v) h ]))
  high_in v None e m h = absurd (cc (h))
  high_in v (Some d) e m h = bound_shown u (is_longer L v) d (high_member u L v d m e)

  high_by : (o : Option Content) → greatest_value (non_null cs) ≡ o →
      is_there (elim o [ None ↦ absent | Some v ↦ (elim (high L v) [ None ↦ absent | Some h ↦ bound_of (is_longer L v) h ]) ]) ≡ true →
      IsMember u (shown (elim o [ None ↦ absent | Some v ↦ (elim (high L v) [ None ↦ absent | Some h ↦ bound_of (is_longer L v) h ]) ]))
  high_by None e h = absurd (cc (h))
  high_by (Some v) e h = high_in v (high L v) refl (value_member v (picked_end is_at_least v (non_null cs) e).0) h

  pub high_is_member : is_there (zone_of u L cs).high ≡ true → IsMember u (shown (zone_of u L cs).high)
  high_is_member h = high_by (greatest_value (non_null cs)) refl h
