use Rattle.std.proofs.Common.{◌∙◌, ap, sym}
use Rattle.vortex_model.specs.Content.{content_of}
use Rattle.vortex_stats_bind.specs.BoundTree.{bound_tree}
use Rattle.vortex_stats_select.specs.Wants.{value_at}
use Rattle.vortex_stats_select.proofs.operand.literal_of.Goals as goal

pub returns-in-Literal : goal.returns-in-Literal
returns-in-Literal c row =
    ap (λ b. value_at b row) (sym c.e.view_is ∙ ap bound_tree c.in-Literal.is) ∙ ap content_of (sym c.value.ensures.value)
