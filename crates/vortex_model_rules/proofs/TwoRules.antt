-- NOTs pushed inward, and comparisons with an all-null side, on examples.
use Rattle.std.proofs.Common.{◌≡◌, refl, [], ◌∷◌, true, false, Some, None}
use Rattle.std.specs.Prelude.{codes}
use Rattle.vortex_model.specs.LogicalType.{boolean_type, integer_type, utf8, non_nullable, nullable, i32}
use Rattle.vortex_model.specs.Content.{null, text}
use Rattle.vortex_model_table.specs.Expression.{Expression, literal, compare, both, either, negation, is_null, is_not_null, between, like, row_count, statistic, equal, not_equal, greater, at_least, at_most, less, min, max, null_count, all_null, all_non_null}
use Rattle.vortex_model_table.specs.Rewrite.{count_literal, boolean_literal}
use Rattle.vortex_model_rules.specs.Rules.{no_proof, proof, fals, sat}
use Rattle.vortex_model_rules.specs.PushNot.{pushed_in, push_not}
use Rattle.vortex_model_rules.specs.NullComparison.{only_nulls, null_comparison}
use Rattle.vortex_model_rules.proofs.Examples.{K, a, b, s, number, above, at_most_max}

-- ---- pushed inward

of_equal : pushed_in (negation (compare equal a (number 5))) ≡ compare not_equal a (number 5)
of_equal = refl

of_greater : pushed_in (negation (above 20)) ≡ compare at_most a (number 20)
of_greater = refl

of_less : pushed_in (negation (compare less (number 3) a)) ≡ compare at_least (number 3) a
of_less = refl

-- by De Morgan; NOT NOT is dropped
of_and : pushed_in (negation (both (above 20) (negation b))) ≡ either (compare at_most a (number 20)) b
of_and = refl

of_or : pushed_in (negation (either (is_null a) (negation (negation (above 20))))) ≡ both (is_not_null a) (compare at_most a (number 20))
of_or = refl

-- a strict end becomes inclusive on the other side, and the other way round
of_between : pushed_in (negation (between a (number 1) (number 9) false true)) ≡ either (compare greater (number 1) a) (compare at_least a (number 9))
of_between = refl

twice_between : pushed_in (negation (negation (between a (number 1) (number 9) false true))) ≡ between a (number 1) (number 9) false true
twice_between = refl

of_truth : pushed_in (negation (boolean_literal true)) ≡ boolean_literal false
of_truth = refl

abbrev form : Expression
form = literal (utf8 non_nullable) (text (codes "x%"))

of_not_like : pushed_in (negation (like s form true false)) ≡ like s form false false
of_not_like = refl

-- a NOT of any other expression stays, and so does one inside of it
of_column : pushed_in (negation b) ≡ negation b
of_column = refl

of_null : pushed_in (negation (literal (boolean_type nullable) null)) ≡ negation (literal (boolean_type nullable) null)
of_null = refl

below_null_test : pushed_in (is_null (negation (above 20))) ≡ is_null (negation (above 20))
below_null_test = refl

-- ---- the proofs with the rule

without : fals K [] (negation (above 20)) ≡ no_proof
without = refl

with_it : fals K (push_not ∷ []) (negation (above 20)) ≡ proof (compare greater (statistic a min) (number 20))
with_it = refl

inside_and : fals K (push_not ∷ []) (both (above 40) (negation (above 20))) ≡ proof (either (at_most_max 40) (compare greater (statistic a min) (number 20)))
inside_and = refl

no_proof_of_column : fals K (push_not ∷ []) (negation b) ≡ no_proof
no_proof_of_column = refl

of_all_rows : sat K (push_not ∷ []) (negation (is_null a)) ≡ proof (either (compare equal (statistic a null_count) (count_literal 0)) (statistic a all_non_null))
of_all_rows = refl

-- ---- an all-null side

abbrev only_nulls_of_a : Expression
only_nulls_of_a = either (compare equal (statistic a null_count) row_count) (statistic a all_null)

of_column_and_number : fals K (null_comparison ∷ []) (above 20) ≡ proof (either (at_most_max 20) only_nulls_of_a)
of_column_and_number = refl

of_two_columns : fals K (null_comparison ∷ []) (compare less a a)
    ≡ proof (either (compare at_least (statistic a min) (statistic a max)) (either only_nulls_of_a only_nulls_of_a))
of_two_columns = refl

-- a literal null is null at each row, and any other literal at none
of_null_literal : only_nulls K (literal (integer_type i32 nullable) null) ≡ Some (boolean_literal true)
of_null_literal = refl

of_literal : only_nulls K (number 8) ≡ None
of_literal = refl

-- AND and OR are not comparisons
of_conjunction : fals K (null_comparison ∷ []) (both (is_null a) (is_null a)) ≡ fals K [] (both (is_null a) (is_null a))
of_conjunction = refl

for_all_rows : sat K (null_comparison ∷ []) (above 20) ≡ no_proof
for_all_rows = refl
