-- What is bound to a source of statistics has the value of the proof.
use Rattle.std.proofs.Common.{◌≡◌, true, false, not, refl, ap}
use Rattle.vortex_model.specs.Content.{boolean, is_null as is_null_content}
use Rattle.vortex_model_table.specs.Truth.{compared, kleene_and, kleene_or, kleene_not, liked, end_of}
use Rattle.vortex_stats_bind.specs.Bound.{Bound, Provided, fixed, place, test, each, some, opposite, null_test, value_test, nan_test, range_test, match_test, count_of_rows, placeholder, evaluate_bound}
use Rattle.vortex_stats_bind.specs.Replaced.{Answers, replaced, HasValuesOf, BindingKeepsValues}

module _ (p q : Provided) (f : Answers) (h : HasValuesOf p q f) where
  kept : (b : Bound) → evaluate_bound p (replaced f b) ≡ evaluate_bound q b
  kept (fixed k c) = refl
  kept (place xs is k) = h.columns xs is k
  kept (test o x y) = λ i. compared o (kept x i) (kept y i)
  kept (each x y) = λ i. kleene_and (kept x i) (kept y i)
  kept (some x y) = λ i. kleene_or (kept x i) (kept y i)
  kept (opposite x) = ap kleene_not (kept x)
  kept (null_test x) = ap (λ c. boolean (is_null_content c)) (kept x)
  kept (value_test x) = ap (λ c. boolean (not (is_null_content c))) (kept x)
  kept (nan_test x) = refl
  kept (range_test x lo hi s t) = λ i. kleene_and (compared (end_of s) (kept lo i) (kept x i)) (compared (end_of t) (kept x i) (kept hi i))
  kept (match_test x form n true) = refl
  kept (match_test x form n false) = λ i. liked (kept x i) (kept form i) n
  kept count_of_rows = h.rows
  kept (placeholder x a k) = h.statistics x a k

pub replacing_keeps_values : BindingKeepsValues
replacing_keeps_values p q f proof h = kept p q f h proof

pub ruleset keeping = (replacing_keeps_values)
