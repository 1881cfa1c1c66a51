use Rattle.std.proofs.Common.{◌≡◌, ◌∙◌, subst, map}
use Rattle.std.specs.Prelude.{IfSome}
use Rattle.vortex_arrays_model.specs.Layout.{rows_of}
use Rattle.vortex_stats_select.specs.Coded.{value_of_code}
use Rattle.vortex_stats_select.specs.Leaves.{leaf_rows}
use Rattle.vortex_stats_select.proofs.CodedLemmas.{coded_rows}
use Rattle.vortex_stats_select.proofs.operand.dictionary_operand.Goals as goal

pub returns : goal.returns
returns c f =
    let coded = subst (λ o. IfSome o (λ leaf. leaf_rows leaf ≡ rows_of c.args.codes.now)) c.in-Some.is c.in_ok-codes.ensures in
    let held = subst (λ o. IfSome o (λ leaf. leaf_rows leaf ≡ rows_of c.args.values.now)) c.in-Some-2.is c.in_ok-values.ensures in
    (λ i. map (value_of_code (held i)) (coded i)) ∙ coded_rows c.args.codes.now c.args.values.now f c.requires
