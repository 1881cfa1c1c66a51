-- Values of one type with equal contents are equal.
use Rattle.std.proofs.Common.{◌≡◌, refl, sym, ap, ◌∙◌, subst, ℕ, ℤ, pos, List, [], Bool, true}
use Rattle.vortex_model.specs.LogicalType.{LogicalType, IntKind, Nullability, integer_type, list, fixed_list, mapping, struct, union, variant, Fields, no_fields, field, stored, type_tagged, null_only}
use Rattle.vortex_model.specs.Content.{Content, null, boolean, integer, text, byte_string, tuple, tagged, scalar, Contents, nothing, first, Raw, raw_null, raw_boolean, raw_number, raw_text, raw_byte_string, raw_tuple, raw_tagged, raw_scalar, Raws, no_raws, raw_first, content_of, contents_of}
use Rattle.vortex_model.proofs.Tests.{has_so}
use Rattle.vortex_model.specs.Valid.{valid, Has, AllHave, EntriesHave, FieldsHave}

-- the parts of a content
abbrev truth_of : Content → Bool
truth_of (boolean b) = b
truth_of c = true

abbrev whole_of : Content → ℤ
whole_of (integer z) = z
whole_of c = pos 0

abbrev text_of : Content → List ℕ
text_of (text bs) = bs
text_of c = []

abbrev byte_string_of : Content → List ℕ
byte_string_of (byte_string bs) = bs
byte_string_of c = []

abbrev tuple_of : Content → Contents
tuple_of (tuple cs) = cs
tuple_of c = nothing

abbrev tag_of : Content → ℤ
tag_of (tagged t c) = t
tag_of c = pos 0

abbrev type_in : Content → LogicalType
type_in (scalar k c) = k
type_in c = null_only

abbrev child_of : Content → Content
child_of (tagged t c) = c
child_of (scalar k c) = c
child_of c = c

abbrev head_of : Contents → Content
head_of (first c cs) = c
head_of nothing = null

abbrev rest_of : Contents → Contents
rest_of (first c cs) = cs
rest_of nothing = nothing

-- These match on the second form alone, so that the checker doesn't go through each pair of forms.
null_told : (s : Raw) → null ≡ content_of s → raw_null ≡ s
null_told raw_null e = refl
null_told s e = absurd (cc (e))

truth_told : (b : Bool) (s : Raw) → boolean b ≡ content_of s → raw_boolean b ≡ s
truth_told b (raw_boolean c) e = ap (λ x. raw_boolean x) (ap truth_of e)
truth_told b s e = absurd (cc (e))

number_told : (i : IntKind) (n : Nullability) (j : IntKind) (y : ℤ) (s : Raw) → j ≡ i → Has (integer_type i n) s → integer y ≡ content_of s → raw_number j y ≡ s
number_told i n j y (raw_number l z) same g e = λ t. raw_number ((same ∙ sym g.0) t) (ap whole_of e t)
number_told i n j y s same g e = absurd (cc (e))

text_told : (bs : List ℕ) (s : Raw) → text bs ≡ content_of s → raw_text bs ≡ s
text_told bs (raw_text cs) e = ap (λ x. raw_text x) (ap text_of e)
text_told bs s e = absurd (cc (e))

byte_string_told : (bs : List ℕ) (s : Raw) → byte_string bs ≡ content_of s → raw_byte_string bs ≡ s
byte_string_told bs (raw_byte_string cs) e = ap (λ x. raw_byte_string x) (ap byte_string_of e)
byte_string_told bs s e = absurd (cc (e))

mutual
  pub told : (k : LogicalType) (r s : Raw) → Has k r → Has k s → content_of r ≡ content_of s → r ≡ s
  told k raw_null s h g e = null_told s e
  told k (raw_boolean b) s h g e = truth_told b s e
  told (integer_type i n) (raw_number j y) s h g e = number_told i n j y s h.0 g e
  told k (raw_number j y) s h g e = absurd h
  told k (raw_text bs) s h g e = text_told bs s e
  told k (raw_byte_string bs) s h g e = byte_string_told bs s e
  told (list k n) (raw_tuple rs) (raw_tuple ss) h g e = ap (λ x. raw_tuple x) (all_told k rs ss h g (ap tuple_of e))
  told (list k n) (raw_tuple rs) s h g e = absurd (cc (e))
  told (fixed_list k m n) (raw_tuple rs) (raw_tuple ss) h g e = ap (λ x. raw_tuple x) (all_told k rs ss h.1 g.1 (ap tuple_of e))
  told (fixed_list k m n) (raw_tuple rs) s h g e = absurd (cc (e))
  told (mapping k v b n) (raw_tuple rs) (raw_tuple ss) h g e = ap (λ x. raw_tuple x) (entries_told k v rs ss h g (ap tuple_of e))
  told (mapping k v b n) (raw_tuple rs) s h g e = absurd (cc (e))
  told (struct fs n) (raw_tuple rs) (raw_tuple ss) h g e = ap (λ x. raw_tuple x) (fields_told fs rs ss h g (ap tuple_of e))
  told (struct fs n) (raw_tuple rs) s h g e = absurd (cc (e))
  told k (raw_tuple rs) s h g e = absurd h
  told (union vs n) (raw_tagged t r) (raw_tagged u s) h g e =
      let tags : u ≡ t = sym (ap tag_of e) in
      λ i. raw_tagged (ap tag_of e i) (told (stored (type_tagged vs t)) r s h.1 (subst (λ x. Has (stored (type_tagged vs x)) s) tags g.1) (ap child_of e) i)
  told (union vs n) (raw_tagged t r) s h g e = absurd (cc (e))
  told k (raw_tagged t r) s h g e = absurd h
  told (variant n) (raw_scalar k r) (raw_scalar l s) h g e =
      let kinds : l ≡ k = sym (ap type_in e) in
      λ i. raw_scalar (ap type_in e i) (told (stored k) r s h (subst (λ x. Has (stored x) s) kinds g) (ap child_of e) i)
  told (variant n) (raw_scalar k r) s h g e = absurd (cc (e))
  told k (raw_scalar l r) s h g e = absurd h

  all_told : (k : LogicalType) (rs ss : Raws) → AllHave k rs → AllHave k ss → contents_of rs ≡ contents_of ss → rs ≡ ss
  all_told k no_raws no_raws h g e = refl
  all_told k (raw_first r rs) (raw_first s ss) h g e = λ i. raw_first (told (stored k) r s h.0 g.0 (ap head_of e) i) (all_told k rs ss h.1 g.1 (ap rest_of e) i)
  all_told k rs ss h g e = absurd (cc (e))

  entries_told : (k v : LogicalType) (rs ss : Raws) → EntriesHave k v rs → EntriesHave k v ss → contents_of rs ≡ contents_of ss → rs ≡ ss
  entries_told k v no_raws no_raws h g e = refl
  entries_told k v no_raws (raw_first s ss) h g e = absurd (cc (e))
  entries_told k v (raw_first (raw_tuple (raw_first a (raw_first b no_raws))) rs) (raw_first (raw_tuple (raw_first c (raw_first d no_raws))) ss) h g e =
      λ i. raw_first (raw_tuple (raw_first (told (stored k) a c h.0 g.0 (ap (λ x. head_of (tuple_of (head_of x))) e) i) (raw_first (told (stored v) b d h.1 g.1 (ap (λ x. head_of (rest_of (tuple_of (head_of x)))) e) i) no_raws))) (entries_told k v rs ss h.2 g.2 (ap rest_of e) i)
  entries_told k v (raw_first (raw_tuple (raw_first a (raw_first b no_raws))) rs) no_raws h g e = absurd (cc (e))
  entries_told k v (raw_first (raw_tuple (raw_first a (raw_first b no_raws))) rs) ss h g e = absurd g
  entries_told k v rs ss h g e = absurd h

  fields_told : (fs : Fields) (rs ss : Raws) → FieldsHave fs rs → FieldsHave fs ss → contents_of rs ≡ contents_of ss → rs ≡ ss
  fields_told no_fields no_raws no_raws h g e = refl
  fields_told no_fields no_raws (raw_first s ss) h g e = absurd g
  fields_told (field x k fs) (raw_first r rs) (raw_first s ss) h g e = λ i. raw_first (told (stored k) r s h.0 g.0 (ap head_of e) i) (fields_told fs rs ss h.1 g.1 (ap rest_of e) i)
  fields_told (field x k fs) (raw_first r rs) no_raws h g e = absurd g
  fields_told fs rs ss h g e = absurd h

pub back_again : (k l : LogicalType) (r s : Raw) → l ≡ k → valid k r ≡ true → valid l s ≡ true → content_of s ≡ content_of r → s ≡ r
back_again k l r s e h g same = told (stored k) s r (subst (λ m. Has (stored m) s) e (has_so (stored l) s g)) (has_so (stored k) r h) same
