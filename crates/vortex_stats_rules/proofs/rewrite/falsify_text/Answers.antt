use Rattle.std.proofs.Common.{◌≡◌, ◌∙◌, string_bytes, Some}
use Rattle.std.proofs.lemmas.Str.{IsUtf8-string_bytes}
use Rattle.vortex_stats_rules.specs.Table.{outside, unboxed}
use Rattle.vortex_model_table.specs.Expression.{greater}
use Rattle.vortex_stats_rules.proofs.Outside.{outside_text}
use Rattle.vortex_stats_rules.proofs.rewrite.falsify_text.Goals as goal

pub returns : goal.returns
returns c =
    let same : unboxed (Some c.in_ok-proof.proof) ≡ Some (outside c.args.x.now (string_bytes c.args.text) (string_bytes c.args.text) greater) =
    cc (c.in_ok-proof.ensures, c.in_ok-below.ensures.cases, c.in_ok-above.ensures) in
    same ∙ outside_text c.args.x.now (string_bytes c.args.text) (IsUtf8-string_bytes c.args.text)
