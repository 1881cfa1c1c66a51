use Rattle.std.proofs.Common.{ap, ◌∙◌, nat_eq}
use Rattle.std.specs.Cmp.Lexicographic.{pointwise}
use Rattle.vortex_stats_evaluate.proofs.Found.{by_steps}
use Rattle.vortex_stats_evaluate.proofs.column.ColumnStats.is_at.Goals as goal

pub returns : goal.returns
returns c =
    c.eq.ensures ∙ ap (λ xs. pointwise nat_eq xs c.args.path.now) c.as_slice.ensures.value
    ∙ by_steps c.args.self.now.path.items c.args.path.now
