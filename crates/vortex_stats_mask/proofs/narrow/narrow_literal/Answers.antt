use Rattle.std.proofs.Common.{◌∙◌, ap, sym, map}
use Rattle.std.specs.Prelude.{option_map}
use Rattle.vortex_model.specs.Content.{Content}
use Rattle.vortex_model_table.specs.Truth.{compared, is_true}
use Rattle.vortex_stats_mask.specs.Integers.{integers_in}
use Rattle.vortex_scalar_value.specs.Numbers.{integer_of}
use Rattle.vortex_scalar_value.specs.View.{content_at}
use Rattle.vortex_stats_expr.specs.Tree.{comparison_of}
use Rattle.vortex_stats_mask.specs.Columns.{both_rows, contents_of, kept}
use Rattle.vortex_stats_mask.specs.Valid.{valid_in}
use Rattle.vortex_stats_mask.proofs.Comparing.{integers_by}
use Rattle.vortex_stats_mask.proofs.Kept.{kept_both}
use Rattle.vortex_stats_mask.proofs.Shown.{compared_where_valid}
use Rattle.vortex_stats_mask.proofs.narrow.narrow_literal.Goals as goal

pub returns : goal.returns
returns c =
    let op = comparison_of c.args.comparison in let d = content_at c.args.literal in
    let ms = c.args.mask.now.items in let col = c.args.column.now in let o = valid_in col.validity in
    let zs = integers_in c.in-Some.numbers in let test = λ (e : Content). is_true (compared op e d) in
    let e = sym c.number.ensures ∙ ap (option_map integer_of) c.in-Some-number.is in
    c.narrow_valid.ensures ∙ ap (kept o) c.narrow_numbers.ensures ∙ kept_both o ms _
    ∙ ap (λ rows. both_rows ms (kept o rows)) (sym (integers_by op d _ e zs) ∙ ap (map test) (sym c.in-Some.ensures))
    ∙ ap (both_rows ms) (sym (compared_where_valid op d o (contents_of col.items)))
