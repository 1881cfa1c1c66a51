use Rattle.std.proofs.Common.{sym, ◌∙◌, replicate, false, ap, length, map}
use Rattle.vortex_model.specs.Order.{bytes_cmp}
use Rattle.vortex_model_table.specs.Truth.{test_of}
use Rattle.std.proofs.lemmas.Result.{IfOk-weaker}
use Rattle.std.specs.Prelude.{option_copied}
use Rattle.vortex_scalar_value.specs.View.{content_at}
use Rattle.vortex_stats_expr.specs.Tree.{comparison_of}
use Rattle.vortex_stats_mask.specs.Columns.{kept, values_of}
use Rattle.vortex_stats_mask.proofs.HeadedLemmas.{tested_by_head}
use Rattle.vortex_stats_mask.proofs.Through.{values_counted}
use Rattle.vortex_stats_mask.proofs.Comparing.{byte_strings_by, byte_strings_never}
use Rattle.vortex_stats_mask.proofs.compare.compare_binaries.Goals as goal

pub returns-in-Some : goal.returns-in-Some
returns-in-Some c valid headed =
    let op = comparison_of c.args.comparison in let s = c.args.strings.now in
    let e = sym c.bytes.ensures ∙ ap option_copied c.in-Some.is in
    IfOk-weaker c.test_views.result _ _ (λ mask is. ap (kept valid) is ∙ tested_by_head op _ valid s headed
    ∙ ap (kept valid) (sym (byte_strings_by op (content_at c.args.literal) _ e (values_of s)))) c.test_views.ensures

pub returns-in-None : goal.returns-in-None
returns-in-None c valid headed =
    let e = sym c.bytes.ensures ∙ ap option_copied c.in-None.is in
    IfOk-weaker c.no_rows.result _ _ (λ mask is. ap (kept valid) (is ∙ ap (λ n. replicate n false) (values_counted c.args.strings.now)
    ∙ sym (byte_strings_never (comparison_of c.args.comparison) (content_at c.args.literal) e (values_of c.args.strings.now)))) c.no_rows.ensures
