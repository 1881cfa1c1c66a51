use Rattle.std.proofs.Common.{◌∙◌, sym, map, cond}
use Rattle.std.specs.List.{zip}
use Rattle.vortex_model.specs.Content.{Content}
use Rattle.vortex_model_table.specs.Truth.{compared}
use Rattle.vortex_scalar_value.specs.View.{content_at}
use Rattle.vortex_stats_expr.specs.Tree.{comparison_of}
use Rattle.vortex_stats_mask.specs.Wanted.{is_wanted, joined_by}
use Rattle.vortex_stats_mask.specs.Columns.{both_rows, column_of}
use Rattle.vortex_stats_mask.proofs.narrow.narrow_wanted.Goals as goal

pub returns-then-at : goal.returns-then-at
returns-then-at c =
    let d = content_at c.args.literal in let rows = column_of c.args.column.now in let ms = c.args.mask.now.items in
    let wants = λ (e : Content). is_wanted c.args.want (compared (comparison_of c.args.comparison) e d) in
    let told = c.narrow_literal.result in
    c.narrow_literal.ensures ∙ (λ i. cond told (both_rows ms (map (λ e. c.wanted.ensures e d i) rows)) ms)
    ∙ (λ i. cond told (map (λ p. joined_by (sym c.if-at.true i) p.0 p.1) (zip ms (map wants rows))) ms)
