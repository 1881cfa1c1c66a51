-- The model's table of proofs over bound expressions, whose types are at their nodes. What it gives
-- of one that is bound is what the model gives, bound: `proofs/Same.antt`.
use Rattle.std.specs.Prelude.{ℕ, zero, suc, pos, List, [], ◌∷◌, length, Option, Some, None, Bool, true, false, not, ◌&&◌, ◌||◌, if◌then◌else◌, chars, encode_utf8_all, option_map, map, Box}
use Rattle.std.specs.declared.alloc.Global.{Global}
use Rattle.vortex_model.specs.LogicalType.{boolean_type, integer_type, utf8, non_nullable, u64}
use Rattle.vortex_model.specs.Content.{boolean, integer, text, is_null}
use Rattle.vortex_model_table.specs.Bounds.{raise}
use Rattle.vortex_model_table.specs.Expression.{Comparison, equal, not_equal, greater, at_least, less, at_most, Aggregate, min, max, null_count, nan_count, all_null, all_non_null, all_nan, all_non_nan}
use Rattle.vortex_model_table.specs.Truth.{end_of}
use Rattle.vortex_model_table.specs.Rewrite.{Shape, exact_text, beginning, no_shape, shape_of}
use Rattle.vortex_model_table.specs.Typing.{has_bounds}
use Rattle.vortex_stats_bind.specs.Bound.{Bound, fixed, test, each, some, null_test, value_test, nan_test, match_test, count_of_rows, placeholder, placeholder_type, value_type}
use Rattle.vortex_stats_bind.specs.Truths.{is_literal, is_of_floats}
use Rattle.vortex_stats_rules.specs.NotLiterals.{truth_in}
use Rattle.vortex_stats_rules.specs.declared.rewrite.NanGuard.{NanGuard}
use Rattle.vortex_stats_rules.specs.declared.rewrite.NanGuard.TheVariants as guard

-- a bound expression in a box, and what boxes hold
abbrev pub Boxed : Type 0
Boxed = Box Bound Global

abbrev pub unboxed : Option Boxed → Option Bound
unboxed o = option_map (λ b. b.value) o

abbrev pub all_unboxed : List Boxed → List Bound
all_unboxed bs = map (λ b. b.value) bs

-- ---- statistics

-- literals of proofs, none of them null
abbrev pub fixed_truth : Bool → Bound
fixed_truth b = fixed (boolean_type non_nullable) (boolean b)

abbrev pub fixed_count : ℕ → Bound
fixed_count n = fixed (integer_type u64 non_nullable) (integer (pos n))

abbrev pub fixed_text : List ℕ → Bound
fixed_text t = fixed (utf8 non_nullable) (text t)

-- a placeholder, of the type of the statistic
abbrev pub stat_of : Aggregate → Bound → Bound
stat_of a x = placeholder x a (placeholder_type a x)

-- the least or the greatest value, the number of nulls and that of NaN, which literals have
abbrev pub end_of_values : Aggregate → Bound → Bound
end_of_values a (fixed k c) = fixed k c
end_of_values a x = stat_of a x

abbrev pub nulls_of : Bound → Bound
nulls_of (fixed k c) = fixed_count (if is_null c then 1 else 0)
nulls_of x = stat_of null_count x

abbrev pub nans_of : Bound → Bound
nans_of (fixed k c) = fixed_count 0
nans_of x = stat_of nan_count x

-- ---- comparisons

abbrev pub is_comparable : Bound → Bool
is_comparable x = is_literal x || has_bounds (value_type x)

-- of float type and no literal
abbrev pub may_be_nan : Bound → Bool
may_be_nan x = not (is_literal x) && is_of_floats x

abbrev pub low : Bound → Bound
low x = end_of_values min x

abbrev pub high : Bound → Bound
high x = end_of_values max x

-- true where the comparison is true of none, by the least and the greatest values
abbrev pub refuted : Comparison → Bound → Bound → Bound
refuted equal x y = some (test greater (low x) (high y)) (test greater (low y) (high x))
refuted not_equal x y = each (test equal (low x) (high y)) (test equal (high x) (low y))
refuted greater x y = test at_most (high x) (low y)
refuted at_least x y = test less (high x) (low y)
refuted less x y = test at_least (low x) (high y)
refuted at_most x y = test greater (low x) (high y)

-- no value is NaN
abbrev pub no_nan : NanGuard → Bound → Bound
no_nan guard.Count x = test equal (stat_of nan_count x) (fixed_count 0)
no_nan guard.Flag x = stat_of all_non_nan x

-- the proof, where the flagged sides hold no NaN
abbrev pub guarded : NanGuard → Bool → Bool → Bound → Bound → Bound → Bound
guarded g true true x y proof = each (each (no_nan g x) (no_nan g y)) proof
guarded g true false x y proof = each (no_nan g x) proof
guarded g false true x y proof = each (no_nan g y) proof
guarded g false false x y proof = proof

abbrev pub kept_from_nan : Bool → Bool → Bound → Bound → Bound → List Bound
kept_from_nan f g x y proof = if f || g
    then guarded guard.Count f g x y proof ∷ guarded guard.Flag f g x y proof ∷ []
    else proof ∷ []

abbrev pub comparison_proofs : Comparison → Bound → Bound → List Bound
comparison_proofs op x y = if not (is_comparable x && is_comparable y) then []
    else kept_from_nan (may_be_nan x) (may_be_nan y) x y (refuted op x y)

-- the AND of a BETWEEN's comparisons
abbrev pub range_of : Bound → Bound → Bound → Bool → Bool → Bound
range_of x lo hi lower_strict upper_strict =
    each (test (end_of lower_strict) lo x) (test (end_of upper_strict) x hi)

-- ---- LIKE

abbrev pub outside : Bound → List ℕ → List ℕ → Comparison → Bound
outside x below above op =
    some (test op (low x) (fixed_text above)) (test less (high x) (fixed_text below))

abbrev pub shape_proof : Bound → Shape → Option Bound
shape_proof x (exact_text t) = Some (outside x (encode_utf8_all t) (encode_utf8_all t) greater)
shape_proof x (beginning t) =
    option_map (λ above. outside x (encode_utf8_all t) above at_least) (raise (encode_utf8_all t))
shape_proof x no_shape = None

abbrev pub like_proof : Bound → Bound → Bool → Bool → Option Bound
like_proof x (fixed k (text form)) false false = shape_proof x (shape_of (chars form))
like_proof x form negated ignores_case = None

-- ---- several proofs in one

abbrev pub paired : List Bound → List Bound
paired [] = []
paired (x ∷ []) = x ∷ []
paired (x ∷ y ∷ bs) = some x y ∷ paired bs

abbrev pub rounds : ℕ → List Bound → List Bound
rounds zero bs = bs
rounds (suc n) bs = rounds n (paired bs)

abbrev pub first_of_list : List Bound → Option Bound
first_of_list [] = None
first_of_list (b ∷ bs) = Some b

abbrev pub joined_proofs : List Bound → Option Bound
joined_proofs bs = first_of_list (rounds (length bs) bs)

abbrev pub either_there : Option Bound → Option Bound → Option Bound
either_there (Some x) (Some y) = Some (some x y)
either_there (Some x) None = Some x
either_there None q = q

abbrev pub both_there : Option Bound → Option Bound → Option Bound
both_there (Some x) (Some y) = Some (each x y)
both_there p q = None

abbrev pub as_list : Option Bound → List Bound
as_list None = []
as_list (Some b) = b ∷ []

-- ---- the proofs at a node

-- by a count that is this number of rows, and by the flag that says so
abbrev pub counted : Bound → Bound → Aggregate → Bound → List Bound
counted count rows flag x = test equal count rows ∷ stat_of flag x ∷ []

abbrev pub no_nulls : Bound → List Bound
no_nulls x = counted (nulls_of x) (fixed_count 0) all_non_null x

abbrev pub only_nulls : Bound → List Bound
only_nulls x = counted (nulls_of x) count_of_rows all_null x

abbrev pub no_nans : Bound → List Bound
no_nans x = if is_of_floats x then counted (nans_of x) (fixed_count 0) all_non_nan x else []

abbrev pub only_nans : Bound → List Bound
only_nans x = if is_of_floats x then counted (nans_of x) count_of_rows all_nan x else []

-- the literal of a boolean, where there is one
abbrev pub truth_proofs : Option Bool → List Bound
truth_proofs None = []
truth_proofs (Some b) = fixed_truth b ∷ []

abbrev pub falsifiers : Bound → List Bound
falsifiers (fixed k c) = truth_proofs (option_map not (truth_in c))
falsifiers (test op x y) = comparison_proofs op x y
falsifiers (null_test x) = no_nulls x
falsifiers (value_test x) = only_nulls x
falsifiers (nan_test x) = no_nans x
falsifiers (match_test x form negated ignores_case) =
    as_list (like_proof x form negated ignores_case)
falsifiers b = []

abbrev pub satisfiers : Bound → List Bound
satisfiers (fixed k c) = truth_proofs (truth_in c)
satisfiers (null_test x) = only_nulls x
satisfiers (value_test x) = no_nulls x
satisfiers (nan_test x) = only_nans x
satisfiers b = []

-- ---- a side of nulls alone

-- null at each row: of a literal that is known
abbrev pub only_null : Bound → Option Bound
only_null (fixed k c) = if is_null c then Some (fixed_truth true) else None
only_null x = joined_proofs (only_nulls x)

abbrev pub null_side : Bound → Option Bound
null_side (test op x y) = either_there (only_null x) (only_null y)
null_side b = None
