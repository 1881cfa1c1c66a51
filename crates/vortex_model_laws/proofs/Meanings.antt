-- Truths, proofs and soundness on examples.
use Rattle.std.proofs.Common.{◌≡◌, refl, pos, ◌<◌, List, [], ◌∷◌, ◌++◌, filter, Some, None, true, false, inl, arith}
use Rattle.std.specs.Prelude.{codes}
use Rattle.std.specs.List.{AllByRecursion}
use Rattle.std.specs.Str.{chars, is_utf8}
use Rattle.std.proofs.lemmas.Str.{is_utf8-from_IsUtf8}
use Rattle.std.specs.declared.cmp.Ordering.TheVariants.{Less, Equal, Greater}
use Rattle.vortex_model.specs.LogicalType.{LogicalType, boolean_type, float, variant, non_nullable, nullable, f32}
use Rattle.vortex_model.specs.Content.{Content, null, boolean, integer, text, tuple, scalar, first}
use Rattle.vortex_model.specs.Valid.{IsContent}
use Rattle.vortex_model.specs.Order.{scalar_cmp}
use Rattle.vortex_model_table.specs.Expression.{Expression, literal, compare, either, is_null, is_nan, like, statistic, equal, greater, null_count, all_non_null, HasFormedLiterals}
use Rattle.vortex_model_table.specs.Truth.{value_at, has_truth, selects, Satisfies}
use Rattle.vortex_model_table.specs.Cut.{covers}
use Rattle.vortex_model_table.specs.Table.{Table}
use Rattle.vortex_model_table.specs.Scan.{chunk_zone}
use Rattle.vortex_model_table.specs.Class.{box_of, IsCounted, IsBetween, Hopeless, is_wide}
use Rattle.vortex_model_table.specs.Rewrite.{letter, wildcard, signs_of, falsifiers, falsifier, joined_proofs, count_literal, boolean_literal}
use Rattle.vortex_model_table.specs.Sound.{Placeholders, AreHonest, Proves, IsSoundFalsifier}
use Rattle.vortex_model_table.proofs.Examples.{one, row, a, A, N, col, lit32, s, S, lit_text}

-- ---- predicates that have a truth

-- the string "A" is neither LIKE nor NOT LIKE "A" where case is ignored
case_ignored : value_at S (like (col s) (lit_text (codes "A")) false true) (row (text (codes "A"))) ≡ null
case_ignored = refl

case_kept : value_at S (like (col s) (lit_text (codes "A")) false false) (row (text (codes "A"))) ≡ boolean true
unfolding chars
case_kept = refl

no_truth_without_case : has_truth S (like (col s) (lit_text (codes "A")) false true) ≡ false
no_truth_without_case = refl

no_truth_by_backslash : has_truth S (like (col s) (lit_text (0x5c ∷ 0x61 ∷ [])) false false) ≡ false
no_truth_by_backslash = refl

truth_of_likes : has_truth S (like (col s) (lit_text (codes "A")) true false) ≡ true
truth_of_likes = refl

abbrev F : LogicalType
F = one a (float f32 nullable)

no_truth_of_floats : has_truth F (either (is_null (col a)) (compare equal (col a) (col a))) ≡ false
no_truth_of_floats = refl

no_truth_of_nan : has_truth F (is_nan (col a)) ≡ false
no_truth_of_nan = refl

truth_of_null_tests : has_truth F (is_null (col a)) ≡ true
truth_of_null_tests = refl

-- ---- literals

no_text : is_utf8 (0x62 ∷ 0xff ∷ []) ≡ false
unfolding chars is_utf8 lib.Utf8.encode
no_text = refl

unformed : ¬ (HasFormedLiterals (compare equal (col s) (lit_text (0x62 ∷ 0xff ∷ []))))
unformed h = let e : is_utf8 (0x62 ∷ 0xff ∷ []) ≡ true = is_utf8-from_IsUtf8 (0x62 ∷ 0xff ∷ []) h.1 in let f = no_text in absurd (cc (e, f))

null_unformed : ¬ (HasFormedLiterals (literal (boolean_type non_nullable) null))
null_unformed h = h

null_formed : HasFormedLiterals (literal (boolean_type nullable) null)
null_formed = tt

-- ---- rows of a type

never_null : (r : Content) → IsContent A r → ¬ (Satisfies A (is_null (col a)) r)
never_null (tuple (first (integer z) cs)) h = λ e. absurd (cc (e))
never_null (tuple (first c cs)) h = absurd h.0
never_null r h = absurd h

none_null : (rows : List Content) → AllByRecursion (IsContent A) rows → AllByRecursion (λ r. ¬ (Satisfies A (is_null (col a)) r)) rows
none_null [] h = tt
none_null (r ∷ rows) h = (never_null r h.0, none_null rows h.1)

-- in a non-nullable column, no row is null
sound_of_the_type : IsSoundFalsifier A (is_null (col a)) (boolean_literal true)
sound_of_the_type rows given typed honest t = none_null rows typed

-- over rows of any type that would be false
not_of_any_rows : ¬ ((rows : List Content) (given : Placeholders) → AreHonest A rows given → Proves given rows (boolean_literal true) →
    AllByRecursion (λ r. ¬ (Satisfies A (is_null (col a)) r)) rows)
not_of_any_rows h = (h (row null ∷ []) (λ x g. null) (λ x g. inl refl) (refl, refl)).0 refl

-- ---- lists of proofs

two_proofs : falsifiers N (is_null (col a)) ≡ compare equal (statistic (col a) null_count) (count_literal 0) ∷ statistic (col a) all_non_null ∷ []
two_proofs = refl

as_one : falsifier N (is_null (col a)) ≡ Some (either (compare equal (statistic (col a) null_count) (count_literal 0)) (statistic (col a) all_non_null))
as_one = refl

-- with two more after them, the first two are paired, and so are the others
four_proofs : joined_proofs (falsifiers N (is_null (col a)) ++ boolean_literal true ∷ boolean_literal false ∷ [])
    ≡ Some (either (either (compare equal (statistic (col a) null_count) (count_literal 0)) (statistic (col a) all_non_null)) (either (boolean_literal true) (boolean_literal false)))
four_proofs = refl

-- ---- `Variant` values

abbrev five : Content
five = scalar A (integer (pos 5))

nulls_equal : scalar_cmp (variant nullable) null (variant nullable) null ≡ Some Equal
nulls_equal = refl

null_least : scalar_cmp (variant nullable) null (variant nullable) five ≡ Some Less
null_least = refl

above_null : scalar_cmp (variant nullable) five (variant nullable) null ≡ Some Greater
above_null = refl

not_compared : scalar_cmp (variant nullable) five (variant nullable) five ≡ None
not_compared = refl

-- ---- patterns

escaped_then_bare : signs_of (0x61 ∷ 0x5c ∷ 0x25 ∷ 0x25 ∷ 0x62 ∷ []) ≡ Some (letter 0x61 ∷ letter 0x25 ∷ wildcard ∷ letter 0x62 ∷ [])
escaped_then_bare = refl

open_behind_a_wildcard : signs_of (0x25 ∷ 0x5c ∷ []) ≡ None
open_behind_a_wildcard = refl

-- ---- hopeless boxes

abbrev two_nulls : Table
two_nulls = record { kind = N; default = 16; lengths = []; chunks = (row null ∷ row null ∷ []) ∷ []; groups = 1 ∷ [] }

abbrev null_or_above : Expression
null_or_above = either (is_null (col a)) (compare greater (col a) (lit32 5))

no_such_value : (v : Content) → IsCounted N (box_of (chunk_zone two_nulls (row null ∷ row null ∷ []))) (a ∷ []) v → IsBetween N (box_of (chunk_zone two_nulls (row null ∷ row null ∷ []))) (a ∷ []) v → ⊥
no_such_value null c b = b.value
no_such_value v c b = let few : 2 < 2 = (c.at_value refl).1 in omega (arith, few)

-- No value is null and between bounds, so the box of a column that is used twice may be hopeless
-- although its rows satisfy the predicate.
twice_hopeless : Hopeless N null_or_above (box_of (chunk_zone two_nulls (row null ∷ row null ∷ [])))
twice_hopeless choice is e = no_such_value (choice (a ∷ [])) is.0 is.1.0

twice_satisfied : filter (selects N null_or_above) (row null ∷ row null ∷ []) ≡ row null ∷ row null ∷ []
twice_satisfied = refl

twice_not_wide : is_wide null_or_above ≡ false
twice_not_wide = refl

-- ---- paths

root_covers_more : covers ([] ∷ []) (a ∷ []) ≡ true
root_covers_more = refl

-- the longer path covers less, but both keep the only field
part_covers_less : covers ((a ∷ []) ∷ []) [] ≡ false
part_covers_less = refl
