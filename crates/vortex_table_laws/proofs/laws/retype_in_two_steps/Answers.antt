use Rattle.std.proofs.Common.{◌≡◌, subst}
use Rattle.std.specs.Prelude.{OnOk}
use Rattle.vortex_model_table.specs.Command.{retype, after}
use Rattle.vortex_dtype_core.specs.View.{type_of}
use Rattle.vortex_table_core.specs.TableView.{table_of}
use Rattle.vortex_table_laws.proofs.Answered.{at_once}
use Rattle.vortex_table_laws.proofs.laws.retype_in_two_steps.Goals as goal

pub returns-clause-law : goal.returns-clause-law
returns-clause-law c = λ same.
    let s = table_of c.args.stepwise.now in let d = table_of c.args.direct.now in
    let first = c.retype-first.ensures in let second = c.retype-second.ensures in
    at_once s d (table_of c.retype-first.new.self) (table_of c.retype-second.new.self)
    (table_of c.retype-at_once.new.self) (type_of c.args.through) (type_of c.args.dtype)
    c.retype-first.result c.retype-second.result c.retype-at_once.result
    c.retyping_twice_is_retyping_at_once.ensures same first.retyped first.accepted second.retyped
    second.accepted
    (subst (λ k. OnOk c.retype-at_once.result
    (table_of c.retype-at_once.new.self ≡ after d (retype k))) c.in_ok-again.ensures.cases
    c.retype-at_once.ensures.retyped)
