-- The value of a predicate that a scan accepts is a boolean or null, so pushing NOTs inward doesn't
-- change it.
use Rattle.std.proofs.Common.{◌≡◌, refl, sym, ◌∙◌, Bool, true, false, not, ◌||◌, if◌then◌else◌, Option, Some, None}
use Rattle.std.specs.Prelude.{option_and_then}
use Rattle.std.specs.declared.cmp.Ordering.{Ordering}
use Rattle.vortex_model.specs.LogicalType.{LogicalType, boolean_type, stored}
use Rattle.vortex_model.specs.Content.{Content, null, boolean, text, is_null as is_null_content}
use Rattle.vortex_model.specs.Order.{content_cmp}
use Rattle.vortex_model.specs.Path.{Positions, positions, type_at, at}
use Rattle.vortex_model.specs.Valid.{IsContent, Holds}
use Rattle.vortex_model_table.specs.Command.{is_boolean, predicate_fault}
use Rattle.vortex_model_table.specs.Expression.{Expression, literal, column, compare, both, either, negation, is_null, is_not_null, is_nan, between, like, row_count, statistic, Comparison, HasFormedLiterals}
use Rattle.vortex_model_table.specs.Like.{is_like, has_backslash}
use Rattle.vortex_model_table.specs.Truth.{value_at, of_row, kleene_and, kleene_or, test_of, compared, liked, end_of}
use Rattle.vortex_model_laws.proofs.Columns.{at_type}
use Rattle.vortex_model_rules.specs.Faults.{is_truth}
use Rattle.vortex_model_rules.specs.PushNot.{pushed_in, as_truth}
use Rattle.vortex_model_rules.proofs.PushedIn.{not_truth, same_truth, formed_kept}
use Rattle.vortex_model_rules.proofs.PushNot.{accepted_so}
use Rattle.vortex_model_rules.proofs.Usable.{IsAccepted, accepted_kept}

-- a boolean or null
abbrev IsTruthOrNull : Content → Type 0
IsTruthOrNull c = as_truth c ≡ c

held : (u : LogicalType) (c : Content) → is_boolean (Some u) ≡ true → Holds (stored u) c → IsTruthOrNull c
held (boolean_type n) null h g = refl
held (boolean_type n) (boolean b) h g = refl
held (boolean_type n) c h g = absurd g
held u c h g = absurd (cc (h))

at_truth : (k : LogicalType) (is : Positions) (row : Content) (o : Option LogicalType) → type_at k is ≡ o → is_boolean o ≡ true → IsContent k row → IsTruthOrNull (at row is)
at_truth k is row None e h g = absurd (cc (h))
at_truth k is row (Some u) e h g = held u (at row is) h (at_type k is u row e g)

column_truth : (k : LogicalType) (row : Content) (o : Option Positions) → is_boolean (option_and_then (type_at k) o) ≡ true → IsContent k row →
    IsTruthOrNull (elim o [ None ↦ null | Some is ↦ at row is ])
column_truth k row None h g = refl
column_truth k row (Some is) h g = at_truth k is row (type_at k is) refl h g

ordered : (op : Comparison) (o : Option Ordering) → IsTruthOrNull (elim o [ None ↦ null | Some r ↦ boolean (test_of op r) ])
ordered op None = refl
ordered op (Some r) = refl

compared_truth : (op : Comparison) (c d : Content) → IsTruthOrNull (compared op c d)
compared_truth op c d = by_test (is_null_content c || is_null_content d)
  where
    by_test : (b : Bool) → IsTruthOrNull (if b then null else (elim (content_cmp c d) [ None ↦ null | Some r ↦ boolean (test_of op r) ]))
    by_test true = refl
    by_test false = ordered op (content_cmp c d)

and_truth : (c d : Content) → IsTruthOrNull (kleene_and c d)
and_truth (boolean false) d = refl
and_truth (boolean true) (boolean false) = refl
and_truth (boolean true) (boolean true) = refl
and_truth (boolean true) d = refl
and_truth c (boolean false) = refl
and_truth c (boolean true) = refl
and_truth c d = refl

or_truth : (c d : Content) → IsTruthOrNull (kleene_or c d)
or_truth (boolean true) d = refl
or_truth (boolean false) (boolean true) = refl
or_truth (boolean false) (boolean false) = refl
or_truth (boolean false) d = refl
or_truth c (boolean true) = refl
or_truth c (boolean false) = refl
or_truth c d = refl

liked_truth : (c d : Content) (n : Bool) → IsTruthOrNull (liked c d n)
liked_truth (text v) (text form) n = by_tests (has_backslash form) n
  where
    by_tests : (b m : Bool) → IsTruthOrNull (if b then null else (if m then boolean (not (is_like form v)) else boolean (is_like form v)))
    by_tests true m = refl
    by_tests false true = refl
    by_tests false false = refl
liked_truth (text v) d n = refl
liked_truth c d n = refl

module _ (k : LogicalType) (row : Content) (typed : IsContent k row) where
  of_truth : (e : Expression) → is_truth k e ≡ true → HasFormedLiterals e → IsTruthOrNull (value_at k e row)
  of_truth (literal l c) h f = held l c h f
  of_truth (column xs) h f = column_truth k row (positions k xs) h typed
  of_truth (compare op x y) h f = compared_truth op (value_at k x row) (value_at k y row)
  of_truth (both x y) h f = and_truth (value_at k x row) (value_at k y row)
  of_truth (either x y) h f = or_truth (value_at k x row) (value_at k y row)
  of_truth (negation x) h f = not_truth (value_at k x row)
  of_truth (is_null x) h f = refl
  of_truth (is_not_null x) h f = refl
  of_truth (is_nan x) h f = refl
  of_truth (between x lo hi s t) h f =
      and_truth (compared (end_of s) (value_at k lo row) (value_at k x row)) (compared (end_of t) (value_at k x row) (value_at k hi row))
  of_truth (like x form n true) h f = refl
  of_truth (like x form n false) h f = liked_truth (value_at k x row) (value_at k form row) n
  of_truth row_count h f = absurd (cc (h))
  of_truth (statistic x a) h f = refl

pub same_value : (k : LogicalType) (e : Expression) (row : Content) → predicate_fault k e ≡ None → HasFormedLiterals e → IsContent k row → value_at k (pushed_in e) row ≡ value_at k e row
same_value k e row n formed typed =
    let a : IsAccepted k e = accepted_so k e n in
    sym (of_truth k row typed (pushed_in e) (accepted_kept k e a).1 (formed_kept e formed)) ∙ same_truth (of_row k row) e ∙ of_truth k row typed e a.1 formed
