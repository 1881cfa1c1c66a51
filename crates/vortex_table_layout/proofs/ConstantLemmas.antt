-- Rows that are all equal.
use Rattle.std.proofs.Common.{◌≡◌, ◌<◌, ℕ, true, false, ◌||◌, List, [], ◌∷◌, length, get_or, replicate, refl, sym, ap, subst, ◌∙◌, arith}
use Rattle.std.specs.List.{list_all}
use Rattle.std.proofs.lemmas.Bool.Decides.{Decides-int_eq}
use Rattle.std.proofs.lemmas.Slice.Eq.{bytes_eq-Decides}
use Rattle.std.specs.Prelude.{◌==◌}
use Rattle.std.specs.Ordering.{int_eq}
use Rattle.std.specs.Cmp.{first_so, second_so}
use Rattle.vortex_model.specs.LogicalType.{LogicalType, boolean_type, integer_type, utf8, binary, list, fixed_list, struct, Fields, no_fields, field}
use Rattle.vortex_model.specs.Content.{Content, null, boolean, integer, text, byte_string, tuple, tagged, scalar, Contents, nothing, first, content_of, contents_of, Raw, raw_null, raw_boolean, raw_number, raw_text, raw_byte_string, raw_tuple, raw_count, Raws, no_raws, raw_first}
use Rattle.vortex_model.specs.Valid.{valid, all_have, fields_have}
use Rattle.vortex_model.proofs.Booleans.{or_false_left, or_false_right}
use Rattle.vortex_model.proofs.Tests.{flag_so}
use Rattle.vortex_scalar_ops.specs.Equality.{eq_content, eq_contents, holds_variant, hold_variants}
use Rattle.vortex_arrays_model.specs.Layout.{Layout, constant, len_of, array_type_of, content_at, rows_of}
use Rattle.vortex_arrays_model.proofs.RowsLemmas.{row_at_position, row_count}
use Rattle.vortex_arrays_builder.specs.Fits.{fits_constant}
use Rattle.vortex_arrays_builder.specs.Types.{HasPlain, HavePlain}
use Rattle.vortex_table_layout.specs.Hinted.{IsConstant}

-- contents without variants in them are equal where the test passes
mutual
  same : (c d : Content) → holds_variant c ≡ false → eq_content c d ≡ true → c ≡ d
  same null null h e = refl
  same (boolean a) (boolean b) h e = ap boolean (flag_so a b e)
  same (integer a) (integer b) h e = ap integer ((Decides-int_eq a b).0 e)
  same (text a) (text b) h e = ap text ((bytes_eq-Decides a b).0 e)
  same (byte_string a) (byte_string b) h e = ap byte_string ((bytes_eq-Decides a b).0 e)
  same (tuple cs) (tuple ds) h e = ap tuple (all_same cs ds h e)
  same (tagged t c) (tagged u d) h e = λ i. tagged ((Decides-int_eq t u).0 (first_so (int_eq t u) (eq_content c d) e) i) (same c d h (second_so (int_eq t u) (eq_content c d) e) i)
  same (scalar k c) d h e = absurd (cc h)
  same c d h e = absurd (cc e)

  all_same : (cs ds : Contents) → hold_variants cs ≡ false → eq_contents cs ds ≡ true → cs ≡ ds
  all_same nothing nothing h e = refl
  all_same (first c cs) (first d ds) h e = λ i. first (same c d (or_false_left (holds_variant c) (hold_variants cs) h) (first_so (eq_content c d) (eq_contents cs ds) e) i) (all_same cs ds (or_false_right (holds_variant c) (hold_variants cs) h) (second_so (eq_content c d) (eq_contents cs ds) e) i)
  all_same cs ds h e = absurd (cc e)

-- values of types that have a plain layout have no variants in them
mutual
  plain_value : (k : LogicalType) (r : Raw) → HasPlain k → valid k r ≡ true → holds_variant (content_of r) ≡ false
  plain_value k raw_null p h = refl
  plain_value k (raw_boolean b) p h = refl
  plain_value k (raw_number i z) p h = refl
  plain_value k (raw_text bs) p h = refl
  plain_value k (raw_byte_string bs) p h = refl
  plain_value (list k n) (raw_tuple rs) p h = plain_items k rs p h
  plain_value (fixed_list k m n) (raw_tuple rs) p h = plain_items k rs p (second_so (raw_count rs == m) (all_have k rs) h)
  plain_value (struct fs n) (raw_tuple rs) p h = plain_parts fs rs p h
  plain_value (boolean_type n) r p h = absurd (cc h)
  plain_value (integer_type i n) r p h = absurd (cc h)
  plain_value (utf8 n) r p h = absurd (cc h)
  plain_value (binary n) r p h = absurd (cc h)
  plain_value (list k n) r p h = absurd (cc h)
  plain_value (fixed_list k m n) r p h = absurd (cc h)
  plain_value (struct fs n) r p h = absurd (cc h)
  plain_value k r p h = absurd p

  plain_items : (k : LogicalType) (rs : Raws) → HasPlain k → all_have k rs ≡ true → hold_variants (contents_of rs) ≡ false
  plain_items k no_raws p h = refl
  plain_items k (raw_first r rs) p h = λ i. plain_value k r p (first_so (valid k r) (all_have k rs) h) i || plain_items k rs p (second_so (valid k r) (all_have k rs) h) i

  plain_parts : (fs : Fields) (rs : Raws) → HavePlain fs → fields_have fs rs ≡ true → hold_variants (contents_of rs) ≡ false
  plain_parts no_fields no_raws p h = refl
  plain_parts (field x k fs) (raw_first r rs) p h = λ i. plain_value k r p.0 (first_so (valid k r) (fields_have fs rs) h) i || plain_parts fs rs p.1 (second_so (valid k r) (fields_have fs rs) h) i
  plain_parts no_fields (raw_first r rs) p h = absurd (cc h)
  plain_parts (field x k fs) no_raws p h = absurd (cc h)

equal_rows : (c : Content) (ds : List Content) → holds_variant c ≡ false → list_all (λ d. eq_content c d) ds ≡ true → replicate (length ds) c ≡ ds
equal_rows c [] v h = refl
equal_rows c (d ∷ ds) v h =
    λ i. same c d v (first_so (eq_content c d) (list_all (λ e. eq_content c e) ds) h) i ∷ equal_rows c ds v (second_so (eq_content c d) (list_all (λ e. eq_content c e) ds) h) i

pub constant_kind : (k : LogicalType) (r : Raw) (n : ℕ) (a : Layout) → a ≡ constant k r n → array_type_of a ≡ k
constant_kind k r n a e = ap array_type_of e

pub constant_made : (k : LogicalType) (r : Raw) (n : ℕ) (a : Layout) → a ≡ constant k r n → IsConstant a
constant_made k r n a e = subst IsConstant (sym e) tt

pub rows_there : (a : Layout) → fits_constant (rows_of a) ≡ true → 0 < len_of a
rows_there a h = subst (λ n. 0 < n) (row_count a) (some_rows (rows_of a) h)
  where
    some_rows : (cs : List Content) → fits_constant cs ≡ true → 0 < length cs
    some_rows [] h = absurd (cc h)
    some_rows (c ∷ cs) h = omega arith

all_first : (cs : List Content) (c : Content) → fits_constant cs ≡ true → c ≡ get_or cs 0 c → holds_variant c ≡ false → replicate (length cs) c ≡ cs
all_first [] c h e v = refl
all_first (d ∷ cs) c h e v =
    (λ i. replicate (length (d ∷ cs)) (e i)) ∙ ap (λ xs. d ∷ xs) (equal_rows d cs (subst (λ x. holds_variant x ≡ false) e v) h)

pub first_everywhere : (a b : Layout) (r : Raw) (n : ℕ) → HasPlain (array_type_of a) → fits_constant (rows_of a) ≡ true → content_of r ≡ content_at a 0 → valid (array_type_of a) r ≡ true → n ≡ len_of a → rows_of b ≡ replicate n (content_of r) → rows_of b ≡ rows_of a
first_everywhere a b r n p h e v m made =
    made ∙ (λ i. replicate ((m ∙ sym (row_count a)) i) (content_of r))
    ∙ all_first (rows_of a) (content_of r) h (e ∙ sym (row_at_position a 0 (content_of r) (rows_there a h))) (plain_value (array_type_of a) r p v)

pub ruleset repeated = (rows_there, first_everywhere, constant_kind, constant_made)
