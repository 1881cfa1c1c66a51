use Rattle.std.proofs.Common.{◌∙◌}
use Rattle.std.proofs.lemmas.Result.{IfOk-weaker}
use Rattle.vortex_stats_select.proofs.validity.packed.Goals as goal

pub returns : goal.returns
returns c = IfOk-weaker c.from_bools.result _ _ (λ bits is. is ∙ c.deref.ensures.value ∙ c.in_ok-truths.ensures) c.from_bools.ensures
