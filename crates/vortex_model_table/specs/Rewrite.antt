-- Falsifiers and satisfiers: proofs over statistics that no row, or every row, satisfies a
-- predicate.
use Rattle.std.specs.Prelude.{ℕ, zero, suc, pos, List, [], ◌∷◌, length, Option, Some, None, Bool, true, false, not, ◌&&◌, ◌||◌, if◌then◌else◌, ◌==◌, chars, encode_utf8_all, option_map}
use Rattle.std.specs.Option.{option_map_or}
use Rattle.vortex_model.specs.LogicalType.{LogicalType, boolean_type, integer_type, utf8, non_nullable, u64}
use Rattle.vortex_model.specs.Content.{boolean, integer, text, is_null as is_null_content}
use Rattle.vortex_model_table.specs.Bounds.{raise}
use Rattle.vortex_model_table.specs.Typing.{expression_type, has_bounds, is_of_floats}
use Rattle.vortex_model_table.specs.Expression.{Expression, literal, compare, both, either, is_null, is_not_null, is_nan, between, like, row_count, statistic, Comparison, equal, not_equal, greater, at_least, less, at_most, Aggregate, min, max, null_count, nan_count, all_null, all_non_null, all_nan, all_non_nan}
use Rattle.vortex_model_table.specs.Truth.{end_of}

-- literals of proofs, none of them null
abbrev pub count_literal : ℕ → Expression
count_literal n = literal (integer_type u64 non_nullable) (integer (pos n))

abbrev pub boolean_literal : Bool → Expression
boolean_literal b = literal (boolean_type non_nullable) (boolean b)

abbrev pub text_literal : List ℕ → Expression
text_literal t = literal (utf8 non_nullable) (text t)

-- Statistics of a literal are literals: it is its own least and greatest value, its null count is 1
-- or 0, and its NaN count 0. Those of any other expression are placeholders.
abbrev pub bound_expression : Aggregate → Expression → Expression
bound_expression a (literal k c) = literal k c
bound_expression a x = statistic x a

abbrev pub null_count_expression : Expression → Expression
null_count_expression (literal k c) = count_literal (if is_null_content c then 1 else 0)
null_count_expression x = statistic x null_count

abbrev pub nan_count_expression : Expression → Expression
nan_count_expression (literal k c) = count_literal 0
nan_count_expression x = statistic x nan_count

-- a literal, or an expression whose type has bounds
abbrev pub is_comparable : LogicalType → Expression → Bool
is_comparable k (literal l c) = true
is_comparable k x = option_map_or has_bounds (expression_type k x) false

-- of float type and not a literal: to be guarded against NaN
abbrev pub is_float_placeholder : LogicalType → Expression → Bool
is_float_placeholder k (literal l c) = false
is_float_placeholder k x = is_of_floats k x

-- by the bounds of both sides, the comparison is true of no two values
abbrev pub comparison_falsifier : Comparison → Expression → Expression → Expression
comparison_falsifier equal l r =
    either (compare greater (bound_expression min l) (bound_expression max r))
    (compare greater (bound_expression min r) (bound_expression max l))
comparison_falsifier not_equal l r =
    both (compare equal (bound_expression min l) (bound_expression max r))
    (compare equal (bound_expression max l) (bound_expression min r))
comparison_falsifier greater l r = compare at_most (bound_expression max l) (bound_expression min r)
comparison_falsifier at_least l r = compare less (bound_expression max l) (bound_expression min r)
comparison_falsifier less l r = compare at_least (bound_expression min l) (bound_expression max r)
comparison_falsifier at_most l r = compare greater (bound_expression min l) (bound_expression max r)

-- no value of the expression is NaN: by the count, and by the flag
abbrev pub no_nan_by_count : Expression → Expression
no_nan_by_count x = compare equal (statistic x nan_count) (count_literal 0)

abbrev pub no_nan_by_flag : Expression → Expression
no_nan_by_flag x = statistic x all_non_nan

-- the proof, and that each side that is a float placeholder has no NaN
abbrev pub guarded : (Expression → Expression) → Bool → Bool → Expression → Expression →
    Expression → Expression
guarded guard true true l r proof = both (both (guard l) (guard r)) proof
guarded guard true false l r proof = both (guard l) proof
guarded guard false true l r proof = both (guard r) proof
guarded guard false false l r proof = proof

-- one proof; for floats two, by the count and by the flag of NaN
abbrev pub comparison_falsifiers : LogicalType → Comparison → Expression → Expression →
    List Expression
comparison_falsifiers k op l r =
    if not (is_comparable k l && is_comparable k r) then []
    else (if is_float_placeholder k l || is_float_placeholder k r
    then guarded no_nan_by_count (is_float_placeholder k l) (is_float_placeholder k r) l r
    (comparison_falsifier op l r)
    ∷ guarded no_nan_by_flag (is_float_placeholder k l) (is_float_placeholder k r) l r
    (comparison_falsifier op l r) ∷ []
    else comparison_falsifier op l r ∷ [])

-- ---- LIKE

-- An item of a pattern: a character that matches itself, or an unescaped % (37) or _ (95).
pub data Sign : Type 0 where
  letter : ℕ → Sign
  wildcard : Sign

abbrev pub sign_of : ℕ → Sign
sign_of c = if (c == 37) || (c == 95) then wildcard else letter c

-- The signs of a pattern given in characters. A backslash (92) escapes the character after it, and
-- can't be last.
abbrev pub signs_of : List ℕ → Option (List Sign)
signs_of [] = Some []
signs_of (c ∷ []) = if c == 92 then None else Some (sign_of c ∷ [])
signs_of (c ∷ d ∷ cs) = if c == 92 then option_map (λ signs. letter d ∷ signs) (signs_of cs)
    else option_map (λ signs. sign_of c ∷ signs) (signs_of (d ∷ cs))

-- A string that a match equals, or a prefix that each match has.
pub data Shape : Type 0 where
  exact_text : List ℕ → Shape
  beginning : List ℕ → Shape
  no_shape : Shape

-- with this character in front
abbrev pub onto_shape : ℕ → Shape → Shape
onto_shape c (exact_text t) = exact_text (c ∷ t)
onto_shape c (beginning t) = beginning (c ∷ t)
onto_shape c no_shape = no_shape

-- Letters up to the end are an exact string, and those before the first wildcard a prefix.
abbrev pub shape_of_signs : List Sign → Shape
shape_of_signs [] = exact_text []
shape_of_signs (letter c ∷ signs) = onto_shape c (shape_of_signs signs)
shape_of_signs (wildcard ∷ signs) = beginning []

-- the shape of a pattern given in characters
abbrev pub shape_of : List ℕ → Shape
shape_of cs = elim (signs_of cs) [ None ↦ no_shape | Some signs ↦ shape_of_signs signs ]

-- the least value is at or beyond `above`, as `op` states, or the greatest is below `below`
abbrev pub outside : Expression → List ℕ → List ℕ → Comparison → Expression
outside x below above op =
    either (compare op (bound_expression min x) (text_literal above))
    (compare less (bound_expression max x) (text_literal below))

-- No value is the exact string, or none has the prefix: what has it is below the prefix raised.
abbrev pub shape_falsifier : Expression → Shape → Option Expression
shape_falsifier x (exact_text t) = Some (outside x (encode_utf8_all t) (encode_utf8_all t) greater)
shape_falsifier x (beginning t) =
    option_map (λ above. outside x (encode_utf8_all t) above at_least) (raise (encode_utf8_all t))
shape_falsifier x no_shape = None

-- of a LIKE that keeps case and isn't negated, whose pattern is a literal
abbrev pub like_falsifier : Expression → Expression → Bool → Bool → Option Expression
like_falsifier x (literal k (text form)) false false = shape_falsifier x (shape_of (chars form))
like_falsifier x form negated ignores_case = None

-- ---- several proofs in one

-- neighbours joined by OR in pairs, an odd last one left alone
abbrev pub paired : List Expression → List Expression
paired [] = []
paired (x ∷ []) = x ∷ []
paired (x ∷ y ∷ es) = either x y ∷ paired es

-- n rounds of pairing
abbrev pub rounds : ℕ → List Expression → List Expression
rounds zero es = es
rounds (suc n) es = rounds n (paired es)

abbrev pub first_of_list : List Expression → Option Expression
first_of_list [] = None
first_of_list (e ∷ es) = Some e

-- joined by OR as a balanced tree
abbrev pub joined_proofs : List Expression → Option Expression
joined_proofs es = first_of_list (rounds (length es) es)

-- ---- the two proofs

-- the OR of those that exist
abbrev pub either_there : Option Expression → Option Expression → Option Expression
either_there (Some x) (Some y) = Some (either x y)
either_there (Some x) None = Some x
either_there None q = q

-- the AND, where both exist
abbrev pub both_there : Option Expression → Option Expression → Option Expression
both_there (Some x) (Some y) = Some (both x y)
both_there p q = None

-- as a list of proofs
abbrev pub as_list : Option Expression → List Expression
as_list None = []
as_list (Some proof) = proof ∷ []

-- all values are non-null, or all are null: each by the count and by the flag
abbrev pub no_nulls_proofs : Expression → List Expression
no_nulls_proofs x =
    compare equal (null_count_expression x) (count_literal 0) ∷ statistic x all_non_null ∷ []

abbrev pub only_nulls_proofs : Expression → List Expression
only_nulls_proofs x = compare equal (null_count_expression x) row_count ∷ statistic x all_null ∷ []

-- The proofs that the built-in rules give at one node, in the order of the rules: each is true only
-- where no row satisfies the predicate. AND, OR and BETWEEN have none here, since theirs are made
-- from their parts.
abbrev pub falsifiers : LogicalType → Expression → List Expression
falsifiers k (literal l (boolean b)) = boolean_literal (not b) ∷ []
falsifiers k (compare op l r) = comparison_falsifiers k op l r
falsifiers k (is_null x) = no_nulls_proofs x
falsifiers k (is_not_null x) = only_nulls_proofs x
falsifiers k (is_nan x) =
    if is_of_floats k x then compare equal (nan_count_expression x) (count_literal 0) ∷
    statistic x all_non_nan ∷ [] else []
falsifiers k (like x form negated ignores_case) =
    as_list (like_falsifier x form negated ignores_case)
falsifiers k e = []

-- the one falsifier of a predicate, where it has any
abbrev pub falsifier : LogicalType → Expression → Option Expression
falsifier k (both x y) = either_there (falsifier k x) (falsifier k y)
falsifier k (either x y) = both_there (falsifier k x) (falsifier k y)
falsifier k (between x lo hi lower_strict upper_strict) =
    either_there (joined_proofs (falsifiers k (compare (end_of lower_strict) lo x)))
    (joined_proofs (falsifiers k (compare (end_of upper_strict) x hi)))
falsifier k e = joined_proofs (falsifiers k e)

-- the proofs that the built-in rules give at one node that every row satisfies it
abbrev pub satisfiers : LogicalType → Expression → List Expression
satisfiers k (literal l (boolean b)) = boolean_literal b ∷ []
satisfiers k (is_null x) = only_nulls_proofs x
satisfiers k (is_not_null x) = no_nulls_proofs x
satisfiers k (is_nan x) = if is_of_floats k x
    then compare equal (nan_count_expression x) row_count ∷ statistic x all_nan ∷ [] else []
satisfiers k e = []

abbrev pub satisfier : LogicalType → Expression → Option Expression
satisfier k e = joined_proofs (satisfiers k e)
