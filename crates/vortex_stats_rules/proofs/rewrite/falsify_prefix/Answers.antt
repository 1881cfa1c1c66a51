use Rattle.std.proofs.Common.{◌≡◌, ◌∙◌, subst, Some, None, string_bytes, option_map}
use Rattle.std.proofs.lemmas.Str.{IsUtf8-string_bytes}
use Rattle.vortex_model_table.specs.Bounds.{IsRaise}
use Rattle.vortex_model_table.specs.Expression.{at_least}
use Rattle.vortex_stats_rules.specs.Table.{unboxed, outside}
use Rattle.vortex_stats_rules.proofs.Outside.{outside_beginning, not_raised}
use Rattle.vortex_stats_rules.proofs.rewrite.falsify_prefix.Goals as goal

pub returns-in_ok-proof-in-Some : goal.returns-in_ok-proof-in-Some
returns-in_ok-proof-in-Some c =
    let here : IsRaise c.deref.result.now (Some (string_bytes c.in-Some.raised)) = subst (λ o. IsRaise c.deref.result.now (option_map string_bytes o)) c.in-Some.is c.in_ok-raised.ensures in
    let raised : IsRaise (string_bytes c.args.prefix) (Some (string_bytes c.in-Some.raised)) = subst (λ t. IsRaise t (Some (string_bytes c.in-Some.raised))) c.deref.ensures here in
    let same : unboxed (Some c.in_ok-proof-in-Some.proof) ≡ Some (outside c.args.x.now (string_bytes c.args.prefix) (string_bytes c.in-Some.raised) at_least) =
    cc (c.in_ok-proof-in-Some.ensures, c.in_ok-below-in-Some.ensures, c.in_ok-above-in-Some.ensures) in
    same ∙ outside_beginning c.args.x.now (string_bytes c.args.prefix) (string_bytes c.in-Some.raised) (IsUtf8-string_bytes c.args.prefix) raised

pub returns-in-None : goal.returns-in-None
returns-in-None c =
    let here : IsRaise c.deref.result.now None = subst (λ o. IsRaise c.deref.result.now (option_map string_bytes o)) c.in-None.is c.in_ok-raised.ensures in
    let none : IsRaise (string_bytes c.args.prefix) None = subst (λ t. IsRaise t None) c.deref.ensures here in
    not_raised c.args.x.now (string_bytes c.args.prefix) (IsUtf8-string_bytes c.args.prefix) none
