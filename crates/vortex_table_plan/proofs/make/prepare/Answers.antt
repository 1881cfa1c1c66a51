use Rattle.std.proofs.Common.{[]}
use Rattle.std.proofs.lemmas.Result.{IfOk-weaker, IfErr-weaker}
use Rattle.vortex_dtype_core.specs.View.{type_of}
use Rattle.vortex_model_rules.specs.Rules.{fals, sat}
use Rattle.vortex_table_plan.proofs.Refusals.{one_proof, faultless_without, refused_without}
use Rattle.vortex_table_plan.proofs.make.prepare.Goals as goal

pub returns-clause-falsifier : goal.returns-clause-falsifier
returns-clause-falsifier c =
    let k = type_of c.args.dtype.now in let e = c.args.predicate.now in
    IfOk-weaker c.prepare_with.result _ _ (λ made is. one_proof (fals k [] e) _ _ is (c.no_rules_add_nothing.ensures k e).0) c.prepare_with.ensures.falsifier

pub returns-clause-satisfier : goal.returns-clause-satisfier
returns-clause-satisfier c =
    let k = type_of c.args.dtype.now in let e = c.args.predicate.now in
    IfOk-weaker c.prepare_with.result _ _ (λ made is. one_proof (sat k [] e) _ _ is (c.no_rules_add_nothing.ensures k e).1) c.prepare_with.ensures.satisfier

pub returns-clause-refused : goal.returns-clause-refused
returns-clause-refused c =
    let k = type_of c.args.dtype.now in let e = c.args.predicate.now in
    IfErr-weaker c.prepare_with.result _ _ (λ x h. refused_without _ _ x (faultless_without c.no_rules_add_nothing.ensures k e) h) c.prepare_with.ensures.refused
