use Rattle.std.proofs.Common.{◌∙◌, ap, map, cond}
use Rattle.vortex_model.specs.Content.{Content}
use Rattle.vortex_model.proofs.Lists.{map_twice}
use Rattle.vortex_model_table.specs.Truth.{compared}
use Rattle.vortex_scalar_value.specs.View.{content_at}
use Rattle.vortex_stats_expr.specs.Tree.{comparison_of}
use Rattle.vortex_stats_mask.specs.Wanted.{is_wanted}
use Rattle.vortex_stats_select.proofs.AskedLemmas.{joined_rows}
use Rattle.vortex_stats_select.specs.Wants.{value_at}
use Rattle.vortex_stats_select.proofs.narrow.narrow_beside.Goals as goal

pub returns-in-Some : goal.returns-in-Some
returns-in-Some g c =
    let rows = g.S.Columns.rows c.args.columns.now in let ms = c.args.mask.now.items in
    let test = λ (d : Content). is_wanted c.args.want (compared (comparison_of c.args.comparison) d (content_at c.args.literal)) in
    c.narrow_wanted.ensures ∙ ap (λ ys. cond c.narrow_wanted.result (joined_rows c.args.at ms ys) ms)
    (ap (map test) c.in-Some.ensures ∙ map_twice test (value_at c.args.input.now) rows)
