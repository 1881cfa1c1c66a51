-- What the ready rules answer.
use Rattle.std.proofs.Common.{◌≡◌, Bool, true, false, if◌then◌else◌, Option, Some, None, option_map, IfSome, Ok, Err, List, [], refl, sym, ap, ◌∙◌, subst}
use Rattle.vortex_model.specs.LogicalType.{LogicalType}
use Rattle.vortex_model.specs.Content.{boolean, is_null as is_null_content}
use Rattle.vortex_model_table.specs.Expression.{Expression}
use Rattle.vortex_model_table.specs.Rewrite as model
use Rattle.vortex_model_table.specs.Rewrite.{boolean_literal, falsifier, satisfier}
use Rattle.vortex_model_rules.specs.Rules.{Answer, proof, answer_of, fals, root_of, of_not}
use Rattle.vortex_model_rules.specs.Laws.{NoRulesAddNothing}
use Rattle.vortex_model_rules.specs.NullComparison as nulls
use Rattle.vortex_model_rules.specs.PushNot as push
use Rattle.vortex_dtype_core.specs.Parts.{is_boolean_type}
use Rattle.vortex_stats_bind.specs.Bound.{Bound, fixed, test, opposite, value_type, expression_of}
use Rattle.vortex_stats_bind.specs.Bindings.{IsBoundTo}
use Rattle.vortex_stats_expr.specs.declared.error.StatsError.{StatsError}
use Rattle.vortex_stats_expr.specs.declared.error.StatsError.TheVariants as error
use Rattle.vortex_stats_rules.specs.Meanings.{IsBoundTruth, IsFault, IsAnswer, IsJudged}
use Rattle.vortex_stats_rules.specs.PushedIn.{pushed_in}
use Rattle.vortex_stats_rules.specs.Table as table
use Rattle.vortex_stats_rules.specs.Table.{Boxed, fixed_truth, unboxed, all_unboxed}
use Rattle.vortex_stats_rules.proofs.Joining.{itself}
use Rattle.vortex_stats_rules.proofs.Parts.{of_test}
use Rattle.vortex_stats_rules.proofs.Pushed.{pushed_so}
use Rattle.vortex_stats_rules.proofs.Same.{IsProofOf, IsProofIf, ored, only_nulls_proofs, joined_so, same_satisfiers}

-- a proof of the model, bound
said : (k : LogicalType) (p : Option Expression) (o : Option Bound) → IsProofIf k p o → IsAnswer k (Ok o) (answer_of p)
said k None None h = refl
said k (Some p) (Some b) h = let is = itself k p b h in (ap proof is.0, is.1.bound)
said k p o h = absurd h

-- ---- a side of nulls alone

module _ (k : LogicalType) where
  known_null : (b : Bool) → IsProofIf k (if b then Some (boolean_literal true) else None) (if b then Some (fixed_truth true) else None)
  known_null true = record { bound = record { tree = refl; faultless = refl }; boolean = refl }
  known_null false = tt

  only_null_so : (x : Bound) → IsBoundTo k x → IsProofIf k (nulls.only_nulls k (expression_of x)) (table.only_null x)
  only_null_so (fixed l c) h = known_null (is_null_content c)
  only_null_so x h = joined_so k (model.only_nulls_proofs (expression_of x)) (table.only_nulls x) (only_nulls_proofs k x h)

  either_so : (p q : Option Expression) (b c : Option Bound) → IsProofIf k p b → IsProofIf k q c → IsProofIf k (model.either_there p q) (table.either_there b c)
  either_so None q None c h g = g
  either_so (Some p) None (Some b) None h g = h
  either_so (Some p) (Some q) (Some b) (Some c) h g = ored k p q b c h g
  either_so (Some p) None (Some b) (Some c) h g = absurd g
  either_so (Some p) (Some q) (Some b) None h g = absurd g
  either_so p q b c h g = absurd h

  pub null_side_said : (e : Bound) (o : Option Bound) → o ≡ table.null_side e → IsBoundTo k e → IsAnswer k (Ok o) (nulls.null_side k (expression_of e))
  null_side_said e o is h = subst (λ b. IsAnswer k (Ok b) (nulls.null_side k (expression_of e))) (sym is) (by_cases e h)
    where
      by_cases : (e : Bound) → IsBoundTo k e → IsAnswer k (Ok (table.null_side e)) (nulls.null_side k (expression_of e))
      by_cases (test op x y) h = let a = of_test k op x y h in said k _ _ (either_so _ _ _ _ (only_null_so x a.left) (only_null_so y a.right))
      by_cases e h = refl

  -- ---- NOT pushed inward

  truth_of_not : (e : Bound) → root_of (expression_of e) ≡ of_not → is_boolean_type (value_type e) ≡ true
  truth_of_not (opposite x) h = refl
  truth_of_not e h = absurd (cc (h))

  -- at a NOT that is handed to the rule
  pub pushed_proof : (e p : Bound) → root_of (expression_of e) ≡ of_not → p ≡ pushed_in e → IsBoundTo k e → IsProofOf k (push.pushed_in (expression_of e)) p
  pushed_proof e p handed is h = subst (IsProofOf k (push.pushed_in (expression_of e))) (sym is) (pushed_so k e record { bound = h; boolean = truth_of_not e handed })

  answered : (a : Answer) (q : Option Bound) → a ≡ answer_of (option_map expression_of q) → IfSome q (IsBoundTruth k) → IsAnswer k (Ok q) a
  answered a None is h = is
  answered a (Some b) is h = (is, h.bound)

  -- without rules
  pub falsifier_said : (e p : Bound) (q : Option Boxed) (o : Option Bound) → NoRulesAddNothing → root_of (expression_of e) ≡ of_not → p ≡ pushed_in e → IsBoundTo k e →
      (IsBoundTo k p → IsJudged k (Ok q) (fals k [] (expression_of p))) → o ≡ unboxed q → IsAnswer k (Ok o) (answer_of (falsifier k (push.pushed_in (expression_of e))))
  falsifier_said e p q o none handed is h judged out =
      let one = itself k _ p (pushed_proof e p handed is h) in
      let j = judged one.1.bound in
      subst (λ c. IsAnswer k (Ok c) (answer_of (falsifier k (push.pushed_in (expression_of e))))) (sym out)
      (answered _ (unboxed q) (sym (none k (push.pushed_in (expression_of e))).0 ∙ ap (fals k []) one.0 ∙ j.0) j.1)

  fault_said : (err : StatsError) (a b : Answer) → a ≡ b → IsFault err a → IsAnswer k (Err err) b
  fault_said error.Memory a b is h = tt
  fault_said error.RuleFault a b is h = sym is ∙ h
  fault_said err a b is h = absurd h

  pub falsifier_failed : (e p : Bound) (err : StatsError) → NoRulesAddNothing → root_of (expression_of e) ≡ of_not → p ≡ pushed_in e → IsBoundTo k e →
      (IsBoundTo k p → IsFault err (fals k [] (expression_of p))) → IsAnswer k (Err err) (answer_of (falsifier k (push.pushed_in (expression_of e))))
  falsifier_failed e p err none handed is h failed =
      let one = itself k _ p (pushed_proof e p handed is h) in
      fault_said err _ _ (ap (fals k []) (sym one.0) ∙ (none k (push.pushed_in (expression_of e))).0) (failed one.1.bound)

  pub satisfier_said : (e p : Bound) (bs : List Boxed) (q : Option Boxed) (o : Option Bound) → root_of (expression_of e) ≡ of_not → p ≡ pushed_in e → IsBoundTo k e →
      all_unboxed bs ≡ table.satisfiers p → unboxed q ≡ table.joined_proofs (all_unboxed bs) → o ≡ unboxed q →
      IsAnswer k (Ok o) (answer_of (satisfier k (push.pushed_in (expression_of e))))
  satisfier_said e p bs q o handed is h made joined out =
      let one = itself k _ p (pushed_proof e p handed is h) in
      subst (λ c. IsAnswer k (Ok c) (answer_of (satisfier k (push.pushed_in (expression_of e))))) (sym (out ∙ joined ∙ ap table.joined_proofs made))
      (subst (λ f. IsAnswer k (Ok (table.joined_proofs (table.satisfiers p))) (answer_of (satisfier k f))) (sym one.0) (said k _ _ (joined_so k _ _ (same_satisfiers k p one.1.bound))))
