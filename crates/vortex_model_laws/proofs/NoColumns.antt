-- The built-in falsifiers and satisfiers read columns only through placeholders.
use Rattle.std.proofs.Common.{◌≡◌, refl, ℕ, zero, suc, List, [], ◌∷◌, length, Bool, true, false, not, ◌&&◌, ◌||◌, Option, Some, None, if◌then◌else◌, IfSome}
use Rattle.std.specs.Prelude.{chars, encode_utf8_all, option_map}
use Rattle.std.specs.List.{AllByRecursion}
use Rattle.std.proofs.lemmas.Bool.{or_from}
use Rattle.vortex_model.specs.LogicalType.{LogicalType}
use Rattle.vortex_model.specs.Content.{boolean, text}
use Rattle.vortex_model_table.specs.Bounds.{raise}
use Rattle.vortex_model_table.specs.Expression.{Expression, literal, compare, both, either, is_null, is_not_null, is_nan, between, like, row_count, statistic, reads_columns, Comparison, equal, not_equal, greater, at_least, less, at_most, Aggregate, min, max, all_nan, all_non_nan}
use Rattle.vortex_model_table.specs.Truth.{end_of}
use Rattle.vortex_model_table.specs.Typing.{is_of_floats}
use Rattle.vortex_model_table.specs.Rewrite.{bound_expression, null_count_expression, nan_count_expression, is_comparable, is_float_placeholder, comparison_falsifier, no_nan_by_count, no_nan_by_flag, guarded, comparison_falsifiers, Shape, exact_text, beginning, no_shape, shape_of, outside, shape_falsifier, like_falsifier, paired, rounds, first_of_list, joined_proofs, either_there, both_there, as_list, count_literal, falsifier, satisfier}

abbrev ReadsNone : Expression → Type 0
ReadsNone e = reads_columns e ≡ false

abbrev AllReadNone : List Expression → Type 0
AllReadNone es = AllByRecursion ReadsNone es

bound_none : (a : Aggregate) (x : Expression) → ReadsNone (bound_expression a x)
bound_none a (literal k c) = refl
bound_none a x = refl

nulls_none : (x : Expression) → ReadsNone (null_count_expression x)
nulls_none (literal k c) = refl
nulls_none x = refl

nans_none : (x : Expression) → ReadsNone (nan_count_expression x)
nans_none (literal k c) = refl
nans_none x = refl

two_bounds : (a b : Aggregate) (x y : Expression) → reads_columns (bound_expression a x) || reads_columns (bound_expression b y) ≡ false
two_bounds a b x y = or_from _ _ (bound_none a x) (bound_none b y)

comparison_none : (op : Comparison) (l r : Expression) → ReadsNone (comparison_falsifier op l r)
comparison_none equal l r = or_from _ _ (two_bounds min max l r) (two_bounds min max r l)
comparison_none not_equal l r = or_from _ _ (two_bounds min max l r) (two_bounds max min l r)
comparison_none greater l r = two_bounds max min l r
comparison_none at_least l r = two_bounds max min l r
comparison_none less l r = two_bounds min max l r
comparison_none at_most l r = two_bounds min max l r

guarded_none : (guard : Expression → Expression) → ((x : Expression) → ReadsNone (guard x)) → (c d : Bool) (l r proof : Expression) → ReadsNone proof → ReadsNone (guarded guard c d l r proof)
guarded_none guard g true true l r proof h = or_from _ _ (or_from _ _ (g l) (g r)) h
guarded_none guard g true false l r proof h = or_from _ _ (g l) h
guarded_none guard g false true l r proof h = or_from _ _ (g r) h
guarded_none guard g false false l r proof h = h

by_count_none : (x : Expression) → ReadsNone (no_nan_by_count x)
by_count_none x = refl

by_flag_none : (x : Expression) → ReadsNone (no_nan_by_flag x)
by_flag_none x = refl

both_guards : (c d : Bool) (op : Comparison) (l r : Expression) →
    AllReadNone (guarded no_nan_by_count c d l r (comparison_falsifier op l r) ∷ guarded no_nan_by_flag c d l r (comparison_falsifier op l r) ∷ [])
both_guards c d op l r =
    let proof : Expression = comparison_falsifier op l r in (
      guarded_none no_nan_by_count by_count_none c d l r proof (comparison_none op l r),
      (guarded_none no_nan_by_flag by_flag_none c d l r proof (comparison_none op l r), tt),
    )

proofs_none : (b c d : Bool) (op : Comparison) (l r : Expression) →
    AllReadNone (if b then []
    else (if c || d then guarded no_nan_by_count c d l r (comparison_falsifier op l r) ∷ guarded no_nan_by_flag c d l r (comparison_falsifier op l r) ∷ []
    else comparison_falsifier op l r ∷ []))
proofs_none true c d op l r = tt
proofs_none false true d op l r = both_guards true d op l r
proofs_none false false true op l r = both_guards false true op l r
proofs_none false false false op l r = (comparison_none op l r, tt)

paired_none : (es : List Expression) → AllReadNone es → AllReadNone (paired es)
paired_none [] h = tt
paired_none (x ∷ []) h = h
paired_none (x ∷ y ∷ es) h = (or_from _ _ h.0 h.1.0, paired_none es h.1.1)

rounds_none : (n : ℕ) (es : List Expression) → AllReadNone es → AllReadNone (rounds n es)
rounds_none zero es h = h
rounds_none (suc n) es h = rounds_none n (paired es) (paired_none es h)

first_none : (es : List Expression) → AllReadNone es → IfSome (first_of_list es) ReadsNone
first_none [] h = tt
first_none (e ∷ es) h = h.0

joined_none : (es : List Expression) → AllReadNone es → IfSome (joined_proofs es) ReadsNone
joined_none es h = first_none (rounds (length es) es) (rounds_none (length es) es h)

compared_none : (k : LogicalType) (op : Comparison) (l r : Expression) → IfSome (joined_proofs (comparison_falsifiers k op l r)) ReadsNone
compared_none k op l r = joined_none (comparison_falsifiers k op l r) (proofs_none (not (is_comparable k l && is_comparable k r)) (is_float_placeholder k l) (is_float_placeholder k r) op l r)

either_none : (p q : Option Expression) → IfSome p ReadsNone → IfSome q ReadsNone → IfSome (either_there p q) ReadsNone
either_none (Some x) (Some y) h g = or_from _ _ h g
either_none (Some x) None h g = h
either_none None q h g = g

both_none : (p q : Option Expression) → IfSome p ReadsNone → IfSome q ReadsNone → IfSome (both_there p q) ReadsNone
both_none (Some x) (Some y) h g = or_from _ _ h g
both_none (Some x) None h g = tt
both_none None q h g = tt

outside_none : (x : Expression) (below above : List ℕ) (op : Comparison) → ReadsNone (outside x below above op)
outside_none x below above op = or_from _ _ (or_from _ _ (bound_none min x) refl) (or_from _ _ (bound_none max x) refl)

raised_none : (x : Expression) (t : List ℕ) (above : Option (List ℕ)) → IfSome (option_map (λ up. outside x (encode_utf8_all t) up at_least) above) ReadsNone
raised_none x t None = tt
raised_none x t (Some up) = outside_none x (encode_utf8_all t) up at_least

shape_none : (x : Expression) (s : Shape) → IfSome (shape_falsifier x s) ReadsNone
shape_none x (exact_text t) = outside_none x (encode_utf8_all t) (encode_utf8_all t) greater
shape_none x (beginning t) = raised_none x t (raise (encode_utf8_all t))
shape_none x no_shape = tt

like_none : (x form : Expression) (negated ignores_case : Bool) → IfSome (like_falsifier x form negated ignores_case) ReadsNone
like_none x (literal k (text form)) false false = shape_none x (shape_of (chars form))
like_none x form negated ignores_case = tt

nan_none : (b : Bool) (p q : Expression) → ReadsNone p → ReadsNone q → IfSome (joined_proofs (if b then p ∷ q ∷ [] else [])) ReadsNone
nan_none true p q h g = or_from _ _ h g
nan_none false p q h g = tt

listed_none : (o : Option Expression) → IfSome o ReadsNone → IfSome (joined_proofs (as_list o)) ReadsNone
listed_none None h = tt
listed_none (Some p) h = h

pub falsifier_none : (k : LogicalType) (e : Expression) → IfSome (falsifier k e) ReadsNone
falsifier_none k (literal l (boolean b)) = refl
falsifier_none k (compare op l r) = compared_none k op l r
falsifier_none k (both x y) = either_none (falsifier k x) (falsifier k y) (falsifier_none k x) (falsifier_none k y)
falsifier_none k (either x y) = both_none (falsifier k x) (falsifier k y) (falsifier_none k x) (falsifier_none k y)
falsifier_none k (between x lo hi s t) =
    either_none (joined_proofs (comparison_falsifiers k (end_of s) lo x)) (joined_proofs (comparison_falsifiers k (end_of t) x hi)) (compared_none k (end_of s) lo x) (compared_none k (end_of t) x hi)
falsifier_none k (is_null x) = or_from _ _ (or_from _ _ (nulls_none x) refl) refl
falsifier_none k (is_not_null x) = or_from _ _ (or_from _ _ (nulls_none x) refl) refl
falsifier_none k (is_nan x) = nan_none (is_of_floats k x) (compare equal (nan_count_expression x) (count_literal 0)) (statistic x all_non_nan) (or_from _ _ (nans_none x) refl) refl
falsifier_none k (like x form n i) = listed_none (like_falsifier x form n i) (like_none x form n i)
falsifier_none k e = tt

pub satisfier_none : (k : LogicalType) (e : Expression) → IfSome (satisfier k e) ReadsNone
satisfier_none k (literal l (boolean b)) = refl
satisfier_none k (is_null x) = or_from _ _ (or_from _ _ (nulls_none x) refl) refl
satisfier_none k (is_not_null x) = or_from _ _ (or_from _ _ (nulls_none x) refl) refl
satisfier_none k (is_nan x) = nan_none (is_of_floats k x) (compare equal (nan_count_expression x) row_count) (statistic x all_nan) (or_from _ _ (nans_none x) refl) refl
satisfier_none k e = tt
