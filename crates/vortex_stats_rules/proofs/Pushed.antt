-- NOT pushed inward in what is bound leaves what is bound.
use Rattle.std.proofs.Common.{refl}
use Rattle.vortex_model.specs.LogicalType.{LogicalType}
use Rattle.vortex_model.specs.Content.{Content, boolean}
use Rattle.vortex_model_table.specs.Expression.{literal, compare, negation, Comparison}
use Rattle.vortex_model_table.specs.Truth.{end_of}
use Rattle.vortex_model_rules.specs.PushNot as model
use Rattle.vortex_stats_bind.specs.Bound.{Bound, fixed, test, each, some, opposite, null_test, value_test, range_test, match_test, expression_of}
use Rattle.vortex_stats_bind.proofs.Made.{compare_judged, not_judged}
use Rattle.vortex_stats_rules.specs.Meanings.{IsBoundTruth}
use Rattle.vortex_stats_rules.specs.PushedIn.{pushed_in, negated}
use Rattle.vortex_stats_rules.proofs.Parts.{AreAlike, of_test, of_each, of_some, of_opposite, of_range}
use Rattle.vortex_stats_rules.proofs.Same.{IsProofOf, anded, ored}

module _ (k : LogicalType) where
  as_it_is : (e : Bound) → IsBoundTruth k e → IsProofOf k (expression_of e) e
  as_it_is e h = record { bound = h.bound; boolean = h.boolean }

  under_not : (e : Bound) → IsBoundTruth k e → IsProofOf k (negation (expression_of e)) (opposite e)
  under_not e h = record { bound = (not_judged k _ e h.bound).passed h.boolean; boolean = refl }

  compared : (op : Comparison) (x y : Bound) → AreAlike k x y → IsProofOf k (compare op (expression_of x) (expression_of y)) (test op x y)
  compared op x y a = record { bound = (compare_judged k _ _ x y a.left a.right op).passed a.same; boolean = refl }

  literal_so : (l : LogicalType) (c : Content) → IsBoundTruth k (fixed l c) → IsProofOf k (model.negated (literal l c)) (negated (fixed l c))
  literal_so l (boolean b) h = record { bound = record { tree = refl; faultless = refl }; boolean = refl }
  literal_so l c h = under_not (fixed l c) h

  mutual
    pub pushed_so : (e : Bound) → IsBoundTruth k e → IsProofOf k (model.pushed_in (expression_of e)) (pushed_in e)
    pushed_so (opposite x) h = negated_so x (of_opposite k x h.bound)
    pushed_so (each x y) h = let s = of_each k x y h.bound in anded k _ _ _ _ (pushed_so x s.0) (pushed_so y s.1)
    pushed_so (some x y) h = let s = of_some k x y h.bound in ored k _ _ _ _ (pushed_so x s.0) (pushed_so y s.1)
    pushed_so e h = as_it_is e h

    pub negated_so : (e : Bound) → IsBoundTruth k e → IsProofOf k (model.negated (expression_of e)) (negated e)
    negated_so (fixed l c) h = literal_so l c h
    negated_so (test op x y) h = compared (model.opposite op) x y (of_test k op x y h.bound)
    negated_so (each x y) h = let s = of_each k x y h.bound in ored k _ _ _ _ (negated_so x s.0) (negated_so y s.1)
    negated_so (some x y) h = let s = of_some k x y h.bound in anded k _ _ _ _ (negated_so x s.0) (negated_so y s.1)
    negated_so (opposite x) h = pushed_so x (of_opposite k x h.bound)
    negated_so (null_test x) h = record { bound = record { tree = cc (h.bound.tree); faultless = h.bound.faultless }; boolean = refl }
    negated_so (value_test x) h = record { bound = record { tree = cc (h.bound.tree); faultless = h.bound.faultless }; boolean = refl }
    negated_so (range_test x lo hi s t) h =
        let ends = of_range k x lo hi s t h.bound in
        ored k _ _ _ _ (compared (model.opposite (end_of s)) lo x ends.0) (compared (model.opposite (end_of t)) x hi ends.1)
    negated_so (match_test x form n i) h = record { bound = record { tree = cc (h.bound.tree); faultless = h.bound.faultless }; boolean = refl }
    negated_so e h = under_not e h
