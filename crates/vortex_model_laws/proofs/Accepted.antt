-- A predicate that a scan accepts has a truth.
use Rattle.std.proofs.Common.{◌≡◌, refl, ap, Bool, true, false, not, ◌&&◌, ◌||◌, Option, Some, None}
use Rattle.std.specs.Option.{option_map_or}
use Rattle.std.proofs.lemmas.Bool.{and_from}
use Rattle.vortex_model.specs.LogicalType.{LogicalType, boolean_type, integer_type, utf8, binary}
use Rattle.vortex_model.specs.Content.{text}
use Rattle.vortex_model.specs.Path.{type_of_column}
use Rattle.vortex_model.specs.Kept.{is_leaf}
use Rattle.vortex_model_table.specs.Like.{has_backslash}
use Rattle.vortex_model.specs.Refusal.{Refusal, or_else, not_a_leaf, unequal_types, not_boolean, unsupported_like, unsupported_predicate, placeholder}
use Rattle.vortex_model.proofs.Refusals.{first_none, second_none}
use Rattle.vortex_model_table.specs.Typing.{expression_type, is_float, is_of_floats}
use Rattle.vortex_model_table.specs.Expression.{Expression, literal, column, compare, both, either, negation, is_null, is_not_null, is_nan, between, like, row_count, statistic}
use Rattle.vortex_model_table.specs.Truth.{has_truth, HasTruth}
use Rattle.vortex_model_table.specs.Command.{expression_fault, predicate_fault, column_fault, unless, is_boolean, eq_optional_type, is_utf8_type, is_supported_like}

pub unless_none : (b : Bool) (r : Refusal) → unless b r ≡ None → b ≡ true
unless_none true r e = refl
unless_none false r e = absurd (cc (e))

none_true : (b c : Bool) → b ≡ false → c ≡ false → not (b || c) ≡ true
none_true true c e f = absurd (cc (e))
none_true false c e f = ap not f

pub leaf_no_float : (u : LogicalType) → is_leaf u ≡ true → is_float u ≡ false
leaf_no_float (boolean_type n) e = refl
leaf_no_float (integer_type i n) e = refl
leaf_no_float (utf8 n) e = refl
leaf_no_float (binary n) e = refl
leaf_no_float u e = absurd (cc (e))

column_no_float : (o : Option LogicalType) → column_fault o ≡ None → option_map_or is_float o false ≡ false
column_no_float None e = refl
column_no_float (Some u) e = leaf_no_float u (unless_none (is_leaf u) not_a_leaf e)

no_floats : (k : LogicalType) (x : Expression) → expression_fault k x ≡ None → is_of_floats k x ≡ false
no_floats k (literal l c) e = leaf_no_float l (unless_none (is_leaf l) unsupported_predicate e)
no_floats k (column xs) e = column_no_float (type_of_column k xs) e
no_floats k (statistic x a) e = let f = second_none (expression_fault k x) (Some placeholder) e in absurd (cc (f))
no_floats k x e = refl

module _ (k : LogicalType) where
  two_none : (x y : Expression) (r : Option Refusal) → or_else (expression_fault k x) (or_else (expression_fault k y) r) ≡ None →
      (expression_fault k x ≡ None) × (expression_fault k y ≡ None) × (r ≡ None)
  two_none x y r e =
      let f = second_none (expression_fault k x) (or_else (expression_fault k y) r) e in
      (first_none (expression_fault k x) (or_else (expression_fault k y) r) e, first_none (expression_fault k y) r f, second_none (expression_fault k y) r f)

  like_kept : (x form : Expression) (negated ignores_case : Bool) → is_supported_like form ignores_case ≡ true → has_truth k x ≡ true → has_truth k form ≡ true →
      has_truth k (like x form negated ignores_case) ≡ true
  like_kept x (literal l (text t)) negated ignores_case s e f =
      and_from (not ignores_case && not (has_backslash t)) (has_truth k x && true) s (and_from (has_truth k x) true e refl)
  like_kept x form negated ignores_case s e f = absurd (cc (s))

  pub faultless_truth : (e : Expression) → expression_fault k e ≡ None → has_truth k e ≡ true
  faultless_truth (literal l c) e = refl
  faultless_truth (column xs) e = refl
  faultless_truth (compare op x y) e =
      let f = two_none x y (unless (eq_optional_type (expression_type k x) (expression_type k y)) unequal_types) e in
      and_from (not (is_of_floats k x || is_of_floats k y)) (has_truth k x && has_truth k y) (none_true (is_of_floats k x) (is_of_floats k y) (no_floats k x f.0) (no_floats k y f.1))
      (and_from (has_truth k x) (has_truth k y) (faultless_truth x f.0) (faultless_truth y f.1))
  faultless_truth (both x y) e =
      let f = two_none x y (unless (is_boolean (expression_type k x) && is_boolean (expression_type k y)) not_boolean) e in
      and_from (has_truth k x) (has_truth k y) (faultless_truth x f.0) (faultless_truth y f.1)
  faultless_truth (either x y) e =
      let f = two_none x y (unless (is_boolean (expression_type k x) && is_boolean (expression_type k y)) not_boolean) e in
      and_from (has_truth k x) (has_truth k y) (faultless_truth x f.0) (faultless_truth y f.1)
  faultless_truth (negation x) e = faultless_truth x (first_none (expression_fault k x) (unless (is_boolean (expression_type k x)) not_boolean) e)
  faultless_truth (is_null x) e = faultless_truth x e
  faultless_truth (is_not_null x) e = faultless_truth x e
  faultless_truth (is_nan x) e = let f = second_none (expression_fault k x) (Some unsupported_predicate) e in absurd (cc (f))
  faultless_truth (between x lo hi s t) e =
      let r = unless (eq_optional_type (expression_type k x) (expression_type k lo) && eq_optional_type (expression_type k x) (expression_type k hi)) unequal_types in
      let f = two_none x lo (or_else (expression_fault k hi) r) e in let g = first_none (expression_fault k hi) r f.2 in
      and_from (not (is_of_floats k x || is_of_floats k lo || is_of_floats k hi)) (has_truth k x && (has_truth k lo && has_truth k hi))
      (none_true (is_of_floats k x || is_of_floats k lo) (is_of_floats k hi) ((λ i. no_floats k x f.0 i || no_floats k lo f.1 i)) (no_floats k hi g))
      (and_from (has_truth k x) (has_truth k lo && has_truth k hi) (faultless_truth x f.0) (and_from (has_truth k lo) (has_truth k hi) (faultless_truth lo f.1) (faultless_truth hi g)))
  faultless_truth (like x form negated ignores_case) e =
      let t = unless (is_utf8_type (expression_type k x) && is_utf8_type (expression_type k form)) unequal_types in let s = unless (is_supported_like form ignores_case) unsupported_like in
      let f = two_none x form (or_else t s) e in
      like_kept x form negated ignores_case (unless_none (is_supported_like form ignores_case) unsupported_like (second_none t s f.2)) (faultless_truth x f.0) (faultless_truth form f.1)
  faultless_truth row_count e = refl
  faultless_truth (statistic x a) e = let f = second_none (expression_fault k x) (Some placeholder) e in absurd (cc (f))

pub accepted_truth : (k : LogicalType) (e : Expression) → predicate_fault k e ≡ None → HasTruth k e
accepted_truth k e f = faultless_truth k e (first_none (expression_fault k e) (unless (is_boolean (expression_type k e)) not_boolean) f)
