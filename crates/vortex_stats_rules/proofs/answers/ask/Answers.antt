use Rattle.std.proofs.Common.{◌≡◌, ◌∙◌, ap, sym}
use denote.Enum.Bare.{differs_true}
use Rattle.vortex_stats_expr.specs.contracts.scalar_fn.ScalarFnId.{the_type}
use Rattle.vortex_stats_bind.specs.Bound.{expression_of}
use Rattle.vortex_stats_rules.specs.Meanings.{root_in}
use Rattle.vortex_stats_rules.proofs.Roots.{not_handed}
use Rattle.vortex_stats_rules.proofs.answers.ask.Goals as goal

pub returns-then-ne : goal.returns-then-ne
returns-then-ne g c =
    let rule = ((goal.StatsRewriteRule-dyn g (c.args.rule.now.vtable, c.args.rule.now.value)).meaning c.args.rule.now.value).rule in
    let root : root_in c.scalar_fn_id.result ≡ rule.root = c.scalar_fn_id.ensures ∙ ap (λ v. ((goal.StatsRewriteRule-dyn g v).meaning v.1).rule.root) c.deref_box-1.ensures.1 in
    λ k h. (
      not_handed c.args.claim k (expression_of c.args.e.now) rule c.scalar_fn_id.result root
          (λ same. differs_true the_type c.scalar_fn_id.result c.scalar_fn_id-2.result (sym c.if-ne.ensures) (same ∙ sym c.scalar_fn_id-2.ensures)),
      tt,
    )
