-- What callers' rules add to the built-in proofs, and when they make a fault, on examples.
use Rattle.std.proofs.Common.{◌≡◌, refl, ℕ, pos, List, [], ◌∷◌, Some, None, true, false, not}
use Rattle.std.specs.Prelude.{codes}
use Rattle.vortex_model.specs.LogicalType.{LogicalType, boolean_type, integer_type, float, utf8, struct, field, no_fields, non_nullable, nullable, i32, f32}
use Rattle.vortex_model.specs.Content.{null, boolean, integer, text}
use Rattle.vortex_model_table.specs.Expression.{Expression, literal, column, compare, both, either, negation, is_null, between, like, statistic, greater, at_least, equal, at_most, less, min, max, sum, null_count, all_null, all_non_null}
use Rattle.vortex_model_table.specs.Rewrite.{count_literal, boolean_literal}
use Rattle.vortex_model_rules.specs.Faults.{proof_fault, unknown_column, unequal_types, not_boolean, unsupported_aggregate, not_evaluable, reads_a_column}
use Rattle.vortex_model_rules.specs.Rules.{no_proof, proof, fault, of_binary, of_between, of_not, of_is_null, Meaning, Rule, falsify_answers, joined_answers, fals, sat}

-- a struct of an integer, a boolean, a string and a float
abbrev pub K : LogicalType
K = struct (field (codes "a") (integer_type i32 nullable) (field (codes "b") (boolean_type non_nullable) (field (codes "s") (utf8 non_nullable) (field (codes "f") (float f32 nullable) no_fields)))) non_nullable

abbrev pub a : Expression
a = column (codes "a" ∷ [])

abbrev pub b : Expression
b = column (codes "b" ∷ [])

abbrev pub s : Expression
s = column (codes "s" ∷ [])

abbrev f : Expression
f = column (codes "f" ∷ [])

abbrev pub number : ℕ → Expression
number n = literal (integer_type i32 non_nullable) (integer (pos n))

abbrev pub above : ℕ → Expression
above n = compare greater a (number n)

abbrev pub at_most_max : ℕ → Expression
at_most_max n = compare at_most (statistic a max) (number n)

-- ---- no rules

no_rules : fals K [] (above 20) ≡ proof (at_most_max 20)
no_rules = refl

no_rules_of_not : fals K [] (negation (boolean_literal true)) ≡ no_proof
no_rules_of_not = refl

no_rules_of_all : sat K [] (boolean_literal true) ≡ proof (boolean_literal true)
no_rules_of_all = refl

-- ---- a rule for comparisons: with an all-null column they are true of no row

abbrev nothing_said : Meaning
nothing_said k e = no_proof

abbrev by_nulls : Meaning
by_nulls k (compare op (column xs) y) = proof (statistic (column xs) all_null)
by_nulls k (compare op x (column xs)) = proof (statistic (column xs) all_null)
by_nulls k e = no_proof

abbrev nulls : Rule
nulls = record { root = of_binary; falsify = by_nulls; satisfy = nothing_said }

one_rule : fals K (nulls ∷ []) (above 20) ≡ proof (either (at_most_max 20) (statistic a all_null))
one_rule = refl

-- the rules get the sides of AND and OR
in_and : fals K (nulls ∷ []) (both (above 20) (negation b)) ≡ proof (either (at_most_max 20) (statistic a all_null))
in_and = refl

in_or : fals K (nulls ∷ []) (either (above 20) (above 30))
    ≡ proof (both (either (at_most_max 20) (statistic a all_null)) (either (at_most_max 30) (statistic a all_null)))
in_or = refl

-- an OR where one side has no proof has none
half_an_or : fals K (nulls ∷ []) (either (above 20) (negation b)) ≡ no_proof
half_an_or = refl

-- a rule gets only nodes with its root
other_root : fals K (record nulls { root = of_not } ∷ []) (above 20) ≡ proof (at_most_max 20)
other_root = refl

-- the rules don't get a side for the satisfier
root_alone : sat K (record { root = of_is_null; falsify = nothing_said; satisfy = λ k e. fault } ∷ []) (both (is_null a) (is_null a)) ≡ no_proof
root_alone = refl

-- ---- BETWEEN: the rules get it, its AND, and its comparisons

abbrev within : Expression
within = between a (number 1) (number 9) false true

-- the proof of the lower end is joined with the rule's, and so is that of the upper end
of_comparisons : fals K (nulls ∷ []) within
    ≡ proof (either (either (compare greater (number 1) (statistic a max)) (statistic a all_null))
    (either (compare at_least (statistic a min) (number 9)) (statistic a all_null)))
of_comparisons = refl

abbrev marked : Expression → Meaning
marked p k (both x y) = proof p
marked p k (between x lo hi lower_strict upper_strict) = proof p
marked p k e = no_proof

of_its_and : fals K (record { root = of_binary; falsify = marked (boolean_literal false); satisfy = nothing_said } ∷ []) within
    ≡ proof (either (either (compare greater (number 1) (statistic a max)) (compare at_least (statistic a min) (number 9))) (boolean_literal false))
of_its_and = refl

of_itself : fals K (record { root = of_between; falsify = marked (boolean_literal false); satisfy = nothing_said } ∷ []) within
    ≡ proof (either (either (compare greater (number 1) (statistic a max)) (compare at_least (statistic a min) (number 9))) (boolean_literal false))
of_itself = refl

-- BETWEEN has the proofs of its AND
as_its_and : (rules : List Rule) → fals K rules within ≡ joined_answers (fals K rules (both (compare at_most (number 1) a) (compare less a (number 9))) ∷ falsify_answers K rules within)
as_its_and rules = refl

-- ---- rules that make a fault

abbrev faulty : Rule
faulty = record { root = of_not; falsify = λ k e. fault; satisfy = λ k e. fault }

faults : fals K (faulty ∷ []) (negation b) ≡ fault
faults = refl

faults_for_all : sat K (faulty ∷ []) (negation b) ≡ fault
faults_for_all = refl

-- at any node, and whatever the other answers are
faults_in_and : fals K (nulls ∷ faulty ∷ []) (both (above 20) (negation b)) ≡ fault
faults_in_and = refl

faults_in_or : fals K (nulls ∷ faulty ∷ []) (either (negation b) (above 20)) ≡ fault
faults_in_or = refl

-- but not where the rules get no such node
no_such_node : fals K (nulls ∷ faulty ∷ []) (above 20) ≡ proof (either (at_most_max 20) (statistic a all_null))
no_such_node = refl

below_null_test : fals K (faulty ∷ []) (is_null (negation b)) ≡ fals K [] (is_null (negation b))
below_null_test = refl

-- a proof that can't be used
abbrev answers : Expression → Rule
answers p = record { root = of_not; falsify = λ k e. proof p; satisfy = λ k e. proof p }

a_number : fals K (answers (number 7) ∷ []) (negation b) ≡ fault
a_number = refl

why_number : proof_fault K (number 7) ≡ Some not_boolean
why_number = refl

why_column : proof_fault K b ≡ Some reads_a_column
why_column = refl

why_no_column : proof_fault K (is_null (column (codes "z" ∷ []))) ≡ Some unknown_column
why_no_column = refl

-- the first fault in order: the comparison's sides, then the comparison
why_unequal : proof_fault K (both (compare equal a (boolean_literal true)) (is_null (column (codes "z" ∷ [])))) ≡ Some unequal_types
why_unequal = refl

why_sum : proof_fault K (is_null (statistic s sum)) ≡ Some unsupported_aggregate
why_sum = refl

why_floats : proof_fault K (compare equal (statistic f max) (statistic f min)) ≡ Some not_evaluable
why_floats = refl

why_backslash : proof_fault K (like (statistic s min) (literal (utf8 non_nullable) (text (0x5c ∷ 0x61 ∷ []))) false false) ≡ Some not_evaluable
why_backslash = refl

faultless : proof_fault K (statistic a all_null) ≡ None
faultless = refl

null_is_faultless : proof_fault K (literal (boolean_type nullable) null) ≡ None
null_is_faultless = refl

-- ---- two callers' proofs after the two built-in ones of a null test, paired with their neighbours

abbrev of_null_tests : Expression → Rule
of_null_tests p = record { root = of_is_null; falsify = λ k e. proof p; satisfy = nothing_said }

two_and_two : fals K (of_null_tests (boolean_literal false) ∷ of_null_tests (statistic a all_non_null) ∷ []) (is_null a)
    ≡ proof (either (either (compare equal (statistic a null_count) (count_literal 0)) (statistic a all_non_null)) (either (boolean_literal false) (statistic a all_non_null)))
two_and_two = refl

two_and_one : fals K (of_null_tests (boolean_literal false) ∷ []) (is_null a)
    ≡ proof (either (either (compare equal (statistic a null_count) (count_literal 0)) (statistic a all_non_null)) (boolean_literal false))
two_and_one = refl

-- ---- two rules for NOT, in their order

abbrev pub never : Rule
never = record { root = of_not; falsify = λ k e. proof (boolean_literal false); satisfy = λ k e. proof (boolean_literal false) }

abbrev falsify_literal : Meaning
falsify_literal k (negation (literal l (boolean c))) = proof (boolean_literal c)
falsify_literal k e = no_proof

abbrev satisfy_literal : Meaning
satisfy_literal k (negation (literal l (boolean c))) = proof (boolean_literal (not c))
satisfy_literal k e = no_proof

abbrev pub not_literal : Rule
not_literal = record { root = of_not; falsify = falsify_literal; satisfy = satisfy_literal }

not_true : fals K (never ∷ not_literal ∷ []) (negation (boolean_literal true)) ≡ proof (either (boolean_literal false) (boolean_literal true))
not_true = refl

not_false : sat K (never ∷ not_literal ∷ []) (negation (boolean_literal false)) ≡ proof (either (boolean_literal false) (boolean_literal true))
not_false = refl
