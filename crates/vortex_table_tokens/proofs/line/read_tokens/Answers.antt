use Rattle.std.proofs.lemmas.Result.{IfOk-weaker}
use Rattle.vortex_table_tokens.proofs.Lines.{line_read}
use Rattle.vortex_table_tokens.proofs.line.read_tokens.Goals as goal

pub returns-in-Ok : goal.returns-in-Ok
returns-in-Ok c =
    IfOk-weaker c.read_either_order.result _ _ (λ command h. line_read c.args.line.now c.in-Ok.text.now command c.in-Ok.ensures.0 c.in-Ok.ensures.1 h) c.read_either_order.ensures
