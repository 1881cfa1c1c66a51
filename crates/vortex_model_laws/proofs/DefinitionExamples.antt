-- Examples that distinguish definitions from similar ones: each equation is false of the nearest
-- wrong definition.
use Rattle.std.proofs.Common.{◌≡◌, refl, ℕ, pos, List, [], ◌∷◌, ◌++◌, Some, None, filter, true, false}
use Rattle.std.specs.Prelude.{codes}
use Rattle.std.specs.Str.{chars, is_utf8}
use Rattle.std.specs.declared.cmp.Ordering.TheVariants.{Less, Equal, Greater}
use Rattle.vortex_model.specs.LogicalType.{LogicalType, integer_type, float, utf8, struct, field, no_fields, non_nullable, nullable, i32, f32}
use Rattle.vortex_model.specs.Content.{Content, null, boolean, integer, text, tuple, scalar, nothing, first, raw_null, raw_text, raw_tuple, raw_first, no_raws}
use Rattle.vortex_model.specs.Valid.{valid}
use Rattle.vortex_model.specs.Order.{content_cmp}
use Rattle.vortex_model_table.specs.Expression.{Expression, literal, column, compare, both, either, is_null, is_nan, like, greater, equal, statistic, null_count, all_non_null}
use Rattle.vortex_model_table.specs.Truth.{value_at, has_truth, selects}
use Rattle.vortex_model_table.specs.Rewrite.{count_literal, boolean_literal, falsifiers, falsifier, joined_proofs}
use Rattle.vortex_model_table.specs.Table.{Table}
use Rattle.vortex_model_table.specs.Scan.{tested, chunk_outcome}
use Rattle.vortex_model_laws.proofs.Examples.{a, table, low_chunk, above_20}

abbrev record_of : List ℕ → LogicalType → LogicalType
record_of x k = struct (field x k no_fields) non_nullable

abbrev row : Content → Content
row c = tuple (first c nothing)

-- ---- predicates without a truth

abbrev S : LogicalType
S = record_of (codes "s") (utf8 non_nullable)

abbrev s : Expression
s = column (codes "s" ∷ [])

abbrev pattern : List ℕ → Expression
pattern form = literal (utf8 non_nullable) (text form)

any_case : has_truth S (like s (pattern (codes "a")) false true) ≡ false
any_case = refl

one_case : has_truth S (like s (pattern (codes "a")) false false) ≡ true
one_case = refl

backslash : has_truth S (like s (pattern (0x5c ∷ 0x61 ∷ [])) false false) ≡ false
backslash = refl

-- also where the strings are equal in case
null_in_any_case : value_at S (like s (pattern (codes "a")) false true) (row (text (codes "a"))) ≡ null
null_in_any_case = refl

true_in_one_case : value_at S (like s (pattern (codes "a")) false false) (row (text (codes "a"))) ≡ boolean true
unfolding chars
true_in_one_case = refl

abbrev F : LogicalType
F = record_of (codes "f") (float f32 nullable)

abbrev f : Expression
f = column (codes "f" ∷ [])

floats : has_truth F (compare equal f f) ≡ false
floats = refl

floats_below : has_truth F (both (boolean_literal true) (compare greater f f)) ≡ false
floats_below = refl

null_floats : has_truth F (is_null f) ≡ true
null_floats = refl

nan : has_truth F (is_nan f) ≡ false
nan = refl

-- ---- literals that are not of their types

-- Bytes 62 ff are between "a" and "z" and are not UTF-8: no row is equal to them, but the chunk is
-- tested.
abbrev texts : List Content
texts = row (text (codes "a")) ∷ row (text (codes "z")) ∷ []

abbrev table_of_texts : Table
table_of_texts = record { kind = S; default = 16; lengths = []; chunks = texts ∷ []; groups = 1 ∷ [] }

no_text : valid (utf8 non_nullable) (raw_text (0x62 ∷ 0xff ∷ [])) ≡ false
unfolding is_utf8 chars lib.Utf8.encode
no_text = refl

no_text_is_tested : chunk_outcome table_of_texts (compare equal s (pattern (0x62 ∷ 0xff ∷ []))) texts ≡ tested
unfolding chars is_utf8 lib.Utf8.encode
no_text_is_tested = refl

-- ---- rows are of the type

null_row : valid S (raw_tuple (raw_first raw_null no_raws)) ≡ false
null_row = refl

-- ---- proofs of several rules

-- a null test has the proofs of two rules, in the order of the rules
abbrev two_rules : List Expression
two_rules = compare equal (statistic a null_count) (count_literal 0) ∷ statistic a all_non_null ∷ []

of_null_test : falsifiers table.kind (is_null a) ≡ two_rules
of_null_test = refl

both_as_one : falsifier table.kind (is_null a) ≡ Some (either (compare equal (statistic a null_count) (count_literal 0)) (statistic a all_non_null))
both_as_one = refl

-- two more proofs: neighbours are paired, as (count OR flag) OR (true OR false)
paired_with_two : joined_proofs (two_rules ++ boolean_literal true ∷ boolean_literal false ∷ [])
    ≡ Some (either (either (compare equal (statistic a null_count) (count_literal 0)) (statistic a all_non_null)) (either (boolean_literal true) (boolean_literal false)))
paired_with_two = refl

paired_with_one : joined_proofs (two_rules ++ boolean_literal true ∷ [])
    ≡ Some (either (either (compare equal (statistic a null_count) (count_literal 0)) (statistic a all_non_null)) (boolean_literal true))
paired_with_one = refl

-- ---- `Variant` values

abbrev variant_of : ℕ → Content
variant_of n = scalar (integer_type i32 non_nullable) (integer (pos n))

nulls_of_variants : content_cmp null null ≡ Some Equal
nulls_of_variants = refl

null_below_variant : content_cmp null (variant_of 1) ≡ Some Less
null_below_variant = refl

variant_above_null : content_cmp (variant_of 1) null ≡ Some Greater
variant_above_null = refl

no_order_of_variants : content_cmp (variant_of 1) (variant_of 1) ≡ None
no_order_of_variants = refl

-- ---- rows of a hopeless chunk

none_found : filter (selects table.kind above_20) low_chunk ≡ []
none_found = refl
