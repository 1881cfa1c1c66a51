use Rattle.std.proofs.Common.{sym, ◌∙◌, replicate, false, ap, length}
use Rattle.std.proofs.lemmas.Result.{IfOk-weaker}
use Rattle.std.specs.Prelude.{option_map}
use Rattle.vortex_scalar_value.specs.Numbers.{integer_of}
use Rattle.vortex_scalar_value.specs.View.{content_at}
use Rattle.vortex_stats_expr.specs.Tree.{comparison_of}
use Rattle.vortex_stats_mask.specs.Integers.{integers_in}
use Rattle.vortex_stats_mask.proofs.Comparing.{integers_by, integers_never}
use Rattle.vortex_stats_mask.proofs.compare.compare_integers.Goals as goal

pub returns-in-Some : goal.returns-in-Some
returns-in-Some c =
    let e = sym c.number.ensures ∙ ap (option_map integer_of) c.in-Some.is in
    IfOk-weaker c.compare_numbers.result _ _ (λ mask is. is ∙ sym (integers_by (comparison_of c.args.comparison) (content_at c.args.literal) _ e (integers_in c.args.numbers.now))) c.compare_numbers.ensures

pub returns-in-None : goal.returns-in-None
returns-in-None c =
    let e = sym c.number.ensures ∙ ap (option_map integer_of) c.in-None.is in
    IfOk-weaker c.no_rows.result _ _ (λ mask is. is ∙ ap (λ n. replicate n false) c.len.ensures ∙ sym (integers_never (comparison_of c.args.comparison) (content_at c.args.literal) e (integers_in c.args.numbers.now))) c.no_rows.ensures
