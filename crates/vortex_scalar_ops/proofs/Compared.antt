-- Values of one type, up to nullability, compare where they have no `Variant` values inside.
use Rattle.std.proofs.Common.{◌≡◌, refl, sym, ◌∙◌, ap, subst, ℕ, ℤ, Bool, true, false, ◌||◌, Option, Some, None, is_some, if◌then◌else◌}
use Rattle.std.specs.declared.cmp.Ordering.{Ordering}
use Rattle.std.specs.declared.cmp.Ordering.TheVariants.{Less, Equal, Greater}
use Rattle.std.specs.FinMap.{int_cmp-IsAntisymmetric}
use Rattle.std.specs.Ordering.{int_cmp, int_eq}
use Rattle.std.proofs.lemmas.Bool.{or_from}
use Rattle.vortex_model.specs.LogicalType.{LogicalType, null_only, boolean_type, integer_type, float, decimal, utf8, binary, list, fixed_list, mapping, struct, union, variant, extension, Fields, no_fields, field, Variants, no_variants, choice, stored, type_tagged, bare, bare_fields, bare_variants, EqualIgnoringNullability}
use Rattle.vortex_model.specs.Content.{Content, null, boolean, integer, text, byte_string, tuple, tagged, scalar, Contents, nothing, first}
use Rattle.vortex_model.specs.Order.{content_cmp, contents_cmp, and_then}
use Rattle.vortex_model.specs.Valid.{Holds, AllHold, EntriesHold, FieldsHold, IsContent}
use Rattle.vortex_model.proofs.Booleans.{or_false_left, or_false_right}
use Rattle.vortex_scalar_ops.specs.Equality.{holds_variant, hold_variants, has_variant, field_has_variant, choice_has_variant}

-- ---- types without variants

stored_plain : (k : LogicalType) → has_variant k ≡ false → has_variant (stored k) ≡ false
stored_plain (extension id meta k) e = stored_plain k e
stored_plain k e = e

either_plain : (b : Bool) (k l : LogicalType) → has_variant k ≡ false → has_variant l ≡ false → has_variant (if b then k else l) ≡ false
either_plain true k l e f = e
either_plain false k l e f = f

tagged_plain : (vs : Variants) (t : ℤ) → choice_has_variant vs ≡ false → has_variant (type_tagged vs t) ≡ false
tagged_plain no_variants t e = refl
tagged_plain (choice x u k vs) t e = either_plain (int_eq u t) k (type_tagged vs t) (or_false_left _ _ e) (tagged_plain vs t (or_false_right (has_variant k) _ e))

mutual
  held : (k : LogicalType) (c : Content) → has_variant k ≡ false → Holds k c → holds_variant c ≡ false
  held k null e h = refl
  held k (boolean b) e h = refl
  held k (integer z) e h = refl
  held k (text bs) e h = refl
  held k (byte_string bs) e h = refl
  held (list k n) (tuple cs) e h = all_held k cs e h
  held (fixed_list k m n) (tuple cs) e h = all_held k cs e h.1
  held (mapping k v s n) (tuple cs) e h = entries_held k v cs (or_false_left _ _ e) (or_false_right (has_variant k) _ e) h
  held (struct fs n) (tuple cs) e h = fields_held fs cs e h
  held k (tuple cs) e h = absurd h
  held (union vs n) (tagged t c) e h = held (stored (type_tagged vs t)) c (stored_plain (type_tagged vs t) (tagged_plain vs t e)) h.1
  held k (tagged t c) e h = absurd h
  held (variant n) (scalar k c) e h = absurd (cc (e))
  held k (scalar l c) e h = absurd h

  all_held : (k : LogicalType) (cs : Contents) → has_variant k ≡ false → AllHold k cs → hold_variants cs ≡ false
  all_held k nothing e h = refl
  all_held k (first c cs) e h = or_from _ _ (held (stored k) c (stored_plain k e) h.0) (all_held k cs e h.1)

  entries_held : (k v : LogicalType) (cs : Contents) → has_variant k ≡ false → has_variant v ≡ false → EntriesHold k v cs → hold_variants cs ≡ false
  entries_held k v nothing e f h = refl
  entries_held k v (first (tuple (first a (first b nothing))) cs) e f h =
      or_from _ _ (or_from _ _ (held (stored k) a (stored_plain k e) h.0) (or_from _ _ (held (stored v) b (stored_plain v f) h.1) refl)) (entries_held k v cs e f h.2)
  entries_held k v cs e f h = absurd h

  fields_held : (fs : Fields) (cs : Contents) → field_has_variant fs ≡ false → FieldsHold fs cs → hold_variants cs ≡ false
  fields_held no_fields nothing e h = refl
  fields_held (field x k fs) (first c cs) e h = or_from _ _ (held (stored k) c (stored_plain k (or_false_left _ _ e)) h.0) (fields_held fs cs (or_false_right (has_variant k) _ e) h.1)
  fields_held fs cs e h = absurd h

pub plain_values : (k : LogicalType) (c : Content) → has_variant k ≡ false → IsContent k c → holds_variant c ≡ false
plain_values k c e h = held (stored k) c (stored_plain k e) h

-- ---- contents of a type, without nulls and lengths

abbrev mutual
  Loose : Content → LogicalType → Type 0
  Loose null k = Unit {0}
  Loose (boolean b) (boolean_type n) = Unit {0}
  Loose (integer z) (integer_type i n) = Unit {0}
  Loose (text bs) (utf8 n) = Unit {0}
  Loose (byte_string bs) (binary n) = Unit {0}
  Loose (tuple cs) (list k n) = AllLoose cs k
  Loose (tuple cs) (fixed_list k m n) = AllLoose cs k
  Loose (tuple cs) (mapping k v s n) = EntriesLoose cs k v
  Loose (tuple cs) (struct fs n) = FieldsLoose cs fs
  Loose (tagged t c) (union vs n) = Loose c (stored (type_tagged vs t))
  Loose c k = ⊥

  AllLoose : Contents → LogicalType → Type 0
  AllLoose nothing k = Unit {0}
  AllLoose (first c cs) k = Loose c (stored k) × AllLoose cs k

  EntriesLoose : Contents → LogicalType → LogicalType → Type 0
  EntriesLoose nothing k v = Unit {0}
  EntriesLoose (first (tuple (first a (first b nothing))) cs) k v = Loose a (stored k) × Loose b (stored v) × EntriesLoose cs k v
  EntriesLoose cs k v = ⊥

  FieldsLoose : Contents → Fields → Type 0
  FieldsLoose nothing no_fields = Unit {0}
  FieldsLoose (first c cs) (field x k fs) = Loose c (stored k) × FieldsLoose cs fs
  FieldsLoose cs fs = ⊥

stored_bare : (k : LogicalType) → bare (stored k) ≡ stored (bare k)
stored_bare (extension id meta k) = stored_bare k
stored_bare null_only = refl
stored_bare (boolean_type n) = refl
stored_bare (integer_type i n) = refl
stored_bare (float f n) = refl
stored_bare (decimal p s n) = refl
stored_bare (utf8 n) = refl
stored_bare (binary n) = refl
stored_bare (list k n) = refl
stored_bare (fixed_list k m n) = refl
stored_bare (mapping k v s n) = refl
stored_bare (struct fs n) = refl
stored_bare (union vs n) = refl
stored_bare (variant n) = refl

either_bare : (b : Bool) (k l : LogicalType) → bare (if b then k else l) ≡ (if b then bare k else bare l)
either_bare true k l = refl
either_bare false k l = refl

tagged_bare : (vs : Variants) (t : ℤ) → bare (type_tagged vs t) ≡ type_tagged (bare_variants vs) t
tagged_bare no_variants t = refl
tagged_bare (choice x u k vs) t = either_bare (int_eq u t) k (type_tagged vs t) ∙ ap (λ l. if int_eq u t then bare k else l) (tagged_bare vs t)

at_stored : (c : Content) (k : LogicalType) → Loose c (bare (stored k)) → Loose c (stored (bare k))
at_stored c k h = subst (Loose c) (stored_bare k) h

mutual
  loosened : (k : LogicalType) (c : Content) → has_variant k ≡ false → Holds k c → Loose c (bare k)
  loosened k null e h = tt
  loosened (boolean_type n) (boolean b) e h = tt
  loosened k (boolean b) e h = absurd h
  loosened (integer_type i n) (integer z) e h = tt
  loosened k (integer z) e h = absurd h
  loosened (utf8 n) (text bs) e h = tt
  loosened k (text bs) e h = absurd h
  loosened (binary n) (byte_string bs) e h = tt
  loosened k (byte_string bs) e h = absurd h
  loosened (list k n) (tuple cs) e h = all_loosened k cs e h
  loosened (fixed_list k m n) (tuple cs) e h = all_loosened k cs e h.1
  loosened (mapping k v s n) (tuple cs) e h = entries_loosened k v cs (or_false_left _ _ e) (or_false_right (has_variant k) _ e) h
  loosened (struct fs n) (tuple cs) e h = fields_loosened fs cs e h
  loosened k (tuple cs) e h = absurd h
  loosened (union vs n) (tagged t c) e h =
      subst (λ l. Loose c (stored l)) (tagged_bare vs t)
      (at_stored c (type_tagged vs t) (loosened (stored (type_tagged vs t)) c (stored_plain (type_tagged vs t) (tagged_plain vs t e)) h.1))
  loosened k (tagged t c) e h = absurd h
  loosened (variant n) (scalar k c) e h = absurd (cc (e))
  loosened k (scalar l c) e h = absurd h

  all_loosened : (k : LogicalType) (cs : Contents) → has_variant k ≡ false → AllHold k cs → AllLoose cs (bare k)
  all_loosened k nothing e h = tt
  all_loosened k (first c cs) e h = (at_stored c k (loosened (stored k) c (stored_plain k e) h.0), all_loosened k cs e h.1)

  entries_loosened : (k v : LogicalType) (cs : Contents) → has_variant k ≡ false → has_variant v ≡ false → EntriesHold k v cs → EntriesLoose cs (bare k) (bare v)
  entries_loosened k v nothing e f h = tt
  entries_loosened k v (first (tuple (first a (first b nothing))) cs) e f h =
      (at_stored a k (loosened (stored k) a (stored_plain k e) h.0), at_stored b v (loosened (stored v) b (stored_plain v f) h.1), entries_loosened k v cs e f h.2)
  entries_loosened k v cs e f h = absurd h

  fields_loosened : (fs : Fields) (cs : Contents) → field_has_variant fs ≡ false → FieldsHold fs cs → FieldsLoose cs (bare_fields fs)
  fields_loosened no_fields nothing e h = tt
  fields_loosened (field x k fs) (first c cs) e h =
      (at_stored c k (loosened (stored k) c (stored_plain k (or_false_left _ _ e)) h.0), fields_loosened fs cs (or_false_right (has_variant k) _ e) h.1)
  fields_loosened fs cs e h = absurd h

-- ---- of one type

-- numbers that distinguish the forms of non-null values
abbrev form_of_kind : LogicalType → ℕ
form_of_kind (boolean_type n) = 1
form_of_kind (integer_type i n) = 2
form_of_kind (utf8 n) = 3
form_of_kind (binary n) = 4
form_of_kind (union vs n) = 5
form_of_kind k = 6

abbrev form_of : Content → ℕ
form_of null = 0
form_of (boolean b) = 1
form_of (integer z) = 2
form_of (text bs) = 3
form_of (byte_string bs) = 4
form_of (tagged t c) = 5
form_of (tuple cs) = 6
form_of (scalar k c) = 7

formed : (c : Content) (k : LogicalType) → Loose c k → (c ≡ null → ⊥) → form_of c ≡ form_of_kind k
formed null k h n = absurd (n refl)
formed (boolean b) (boolean_type m) h n = refl
formed (boolean b) k h n = absurd h
formed (integer z) (integer_type i m) h n = refl
formed (integer z) k h n = absurd h
formed (text bs) (utf8 m) h n = refl
formed (text bs) k h n = absurd h
formed (byte_string bs) (binary m) h n = refl
formed (byte_string bs) k h n = absurd h
formed (tuple cs) (list k m) h n = refl
formed (tuple cs) (fixed_list k l m) h n = refl
formed (tuple cs) (mapping k v s m) h n = refl
formed (tuple cs) (struct fs m) h n = refl
formed (tuple cs) k h n = absurd h
formed (tagged t c) (union vs m) h n = refl
formed (tagged t c) k h n = absurd h
formed (scalar l c) k h n = absurd h

then_known : (p q : Option Ordering) → is_some p ≡ true → is_some q ≡ true → is_some (and_then p q) ≡ true
then_known None q e f = e
then_known (Some Less) q e f = refl
then_known (Some Equal) q e f = f
then_known (Some Greater) q e f = refl

-- tags that differ decide
by_tag : (t u : ℤ) (q : Option Ordering) → (t ≡ u → is_some q ≡ true) → is_some (and_then (Some (int_cmp t u)) q) ≡ true
by_tag t u q f = of (int_cmp t u) refl
  where
    of : (o : Ordering) → int_cmp t u ≡ o → is_some (and_then (Some o) q) ≡ true
    of Less e = refl
    of Equal e = f (int_cmp-IsAntisymmetric t u e)
    of Greater e = refl

apart : (k : LogicalType) (m n : ℕ) → m ≡ form_of_kind k → n ≡ form_of_kind k → m ≡ n
apart k m n e f = e ∙ sym f

mutual
  compared : (k : LogicalType) (c d : Content) → Loose c k → Loose d k → is_some (content_cmp c d) ≡ true
  compared k null null h g = refl
  compared k null (boolean b) h g = refl
  compared k null (integer z) h g = refl
  compared k null (text bs) h g = refl
  compared k null (byte_string bs) h g = refl
  compared k null (tuple cs) h g = refl
  compared k null (tagged t c) h g = refl
  compared k null (scalar l c) h g = absurd g
  compared k (boolean b) null h g = refl
  compared k (integer z) null h g = refl
  compared k (text bs) null h g = refl
  compared k (byte_string bs) null h g = refl
  compared k (tuple cs) null h g = refl
  compared k (tagged t c) null h g = refl
  compared k (scalar l c) d h g = absurd h
  compared k (boolean a) (boolean b) h g = refl
  compared k (integer a) (integer b) h g = refl
  compared k (text a) (text b) h g = refl
  compared k (byte_string a) (byte_string b) h g = refl
  compared (list k n) (tuple cs) (tuple ds) h g = all_compared k cs ds h g
  compared (fixed_list k m n) (tuple cs) (tuple ds) h g = all_compared k cs ds h g
  compared (mapping k v s n) (tuple cs) (tuple ds) h g = entries_compared k v cs ds h g
  compared (struct fs n) (tuple cs) (tuple ds) h g = fields_compared fs cs ds h g
  compared k (tuple cs) (tuple ds) h g = absurd h
  compared (union vs n) (tagged t c) (tagged u d) h g =
      by_tag t u (content_cmp c d) (λ e. compared (stored (type_tagged vs t)) c d h (subst (λ v. Loose d (stored (type_tagged vs v))) (sym e) g))
  compared k (tagged t c) (tagged u d) h g = absurd h
  compared k c d h g = absurd (cc (apart k (form_of c) (form_of d) (formed c k h (λ e. cc (e))) (formed d k g (λ e. cc (e)))))

  all_compared : (k : LogicalType) (cs ds : Contents) → AllLoose cs k → AllLoose ds k → is_some (contents_cmp cs ds) ≡ true
  all_compared k nothing nothing h g = refl
  all_compared k nothing (first d ds) h g = refl
  all_compared k (first c cs) nothing h g = refl
  all_compared k (first c cs) (first d ds) h g = then_known _ _ (compared (stored k) c d h.0 g.0) (all_compared k cs ds h.1 g.1)

  entries_compared : (k v : LogicalType) (cs ds : Contents) → EntriesLoose cs k v → EntriesLoose ds k v → is_some (contents_cmp cs ds) ≡ true
  entries_compared k v nothing nothing h g = refl
  entries_compared k v nothing (first d ds) h g = refl
  entries_compared k v (first c cs) nothing h g = refl
  entries_compared k v (first (tuple (first a (first b nothing))) cs) (first (tuple (first x (first y nothing))) ds) h g =
      then_known _ _ (then_known _ _ (compared (stored k) a x h.0 g.0) (then_known _ _ (compared (stored v) b y h.1 g.1) refl)) (entries_compared k v cs ds h.2 g.2)
  entries_compared k v (first (tuple (first a (first b nothing))) cs) (first d ds) h g = absurd g
  entries_compared k v (first c cs) (first d ds) h g = absurd h

  fields_compared : (fs : Fields) (cs ds : Contents) → FieldsLoose cs fs → FieldsLoose ds fs → is_some (contents_cmp cs ds) ≡ true
  fields_compared no_fields nothing nothing h g = refl
  fields_compared (field x k fs) (first c cs) (first d ds) h g = then_known _ _ (compared (stored k) c d h.0 g.0) (fields_compared fs cs ds h.1 g.1)
  fields_compared no_fields nothing (first d ds) h g = absurd g
  fields_compared (field x k fs) (first c cs) nothing h g = absurd g
  fields_compared fs cs ds h g = absurd h

-- ---- of types equal up to nullability

mutual
  bare_plain : (k : LogicalType) → has_variant (bare k) ≡ has_variant k
  bare_plain null_only = refl
  bare_plain (boolean_type n) = refl
  bare_plain (integer_type i n) = refl
  bare_plain (float f n) = refl
  bare_plain (decimal p s n) = refl
  bare_plain (utf8 n) = refl
  bare_plain (binary n) = refl
  bare_plain (list k n) = bare_plain k
  bare_plain (fixed_list k m n) = bare_plain k
  bare_plain (mapping k v s n) = λ i. bare_plain k i || bare_plain v i
  bare_plain (struct fs n) = bare_fields_plain fs
  bare_plain (union vs n) = bare_choices_plain vs
  bare_plain (variant n) = refl
  bare_plain (extension id meta k) = bare_plain k

  bare_fields_plain : (fs : Fields) → field_has_variant (bare_fields fs) ≡ field_has_variant fs
  bare_fields_plain no_fields = refl
  bare_fields_plain (field x k fs) = λ i. bare_plain k i || bare_fields_plain fs i

  bare_choices_plain : (vs : Variants) → choice_has_variant (bare_variants vs) ≡ choice_has_variant vs
  bare_choices_plain no_variants = refl
  bare_choices_plain (choice x t k vs) = λ i. bare_plain k i || bare_choices_plain vs i

loose : (k : LogicalType) (c : Content) → has_variant k ≡ false → IsContent k c → Loose c (stored (bare k))
loose k c e h = at_stored c k (loosened (stored k) c (stored_plain k e) h)

pub type_compares : (k l : LogicalType) (c d : Content) → EqualIgnoringNullability k l → has_variant k ≡ false → IsContent k c → IsContent l d → is_some (content_cmp c d) ≡ true
type_compares k l c d e p h g =
    let q : has_variant l ≡ false = sym (bare_plain l) ∙ ap has_variant (sym e) ∙ bare_plain k ∙ p in
    compared (stored (bare k)) c d (loose k c p h) (subst (λ m. Loose d (stored m)) (sym e) (loose l d q g))
