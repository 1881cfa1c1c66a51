use Rattle.std.proofs.Common.{◌∙◌, sym}
use Rattle.vortex_model_table.specs.Truth.{compared, is_true}
use Rattle.vortex_stats_expr.specs.Tree.{comparison_of}
use Rattle.vortex_stats_mask.specs.Wanted.{is_wanted}
use Rattle.vortex_stats_mask.proofs.Truths.{wanted_false, wanted_true}
use Rattle.vortex_stats_mask.proofs.turned.wanted.Goals as goal

pub returns-then-want : goal.returns-then-want
returns-then-want c = λ x y.
    let op = comparison_of c.args.comparison in
    wanted_true (compared op x y) ∙ (λ i. is_wanted (sym c.if-want.true i) (compared op x y))

pub returns-else-want : goal.returns-else-want
returns-else-want c = λ x y.
    let op = comparison_of c.args.comparison in
    (λ i. is_true (compared (c.negated.ensures i) x y)) ∙ sym (wanted_false op x y) ∙ (λ i. is_wanted (sym c.if-want.false i) (compared op x y))
