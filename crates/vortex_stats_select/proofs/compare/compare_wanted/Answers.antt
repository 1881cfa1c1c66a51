use Rattle.std.proofs.Common.{◌≡◌, subst, map}
use Rattle.std.specs.Prelude.{IfOk, IfSome}
use Rattle.std.specs.List.{zip}
use Rattle.vortex_stats_select.specs.Operands.{operand_rows}
use Rattle.vortex_stats_select.proofs.compare.compare_wanted.Goals as goal

pub returns : goal.returns
returns c =
    let ps = zip (operand_rows c.args.left.now c.args.len) (operand_rows c.args.right.now c.args.len) in
    subst (λ ms. IfOk c.compare_operands.result (λ found. IfSome found (λ mask. mask.items ≡ ms)))
    (λ i. map (λ p. c.wanted.ensures p.0 p.1 i) ps) c.compare_operands.ensures
