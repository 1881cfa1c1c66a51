use Rattle.std.proofs.Common.{rules, ◌≡◌, ap, map}
use Rattle.std.specs.Prelude.{IfOk}
use Rattle.std.proofs.lemmas.Result.{IfOk-weaker}
use Rattle.vortex_model.specs.Content.{Content}
use Rattle.vortex_model_table.specs.Truth.{compared, is_true}
use Rattle.vortex_scalar_value.specs.View.{content_at}
use Rattle.vortex_stats_expr.specs.Tree.{comparison_of}
use Rattle.vortex_stats_mask.specs.Columns.{contents_of, kept}
use Rattle.vortex_stats_mask.proofs.compare.compare_items.Goals as goal

pub returns-in-Bools : goal.returns-in-Bools
returns-in-Bools c valid headed =
    let test = λ (d : Content). is_true (compared (comparison_of c.args.comparison) d (content_at c.args.literal)) in
    let told : IfOk c.compare_bools.result (λ mask. mask.items ≡ map test (contents_of c.args.items.now)) = search rules in
    IfOk-weaker c.compare_bools.result _ _ (λ mask is. ap (kept valid) is) told

pub returns-in-Numbers : goal.returns-in-Numbers
returns-in-Numbers c valid headed =
    let test = λ (d : Content). is_true (compared (comparison_of c.args.comparison) d (content_at c.args.literal)) in
    let told : IfOk c.compare_integers.result (λ mask. mask.items ≡ map test (contents_of c.args.items.now)) = search rules in
    IfOk-weaker c.compare_integers.result _ _ (λ mask is. ap (kept valid) is) told
