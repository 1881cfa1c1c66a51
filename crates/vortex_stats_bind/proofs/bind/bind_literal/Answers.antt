use Rattle.std.proofs.Common.{◌≡◌, ap, subst}
use Rattle.vortex_model.specs.Content.{content_of}
use Rattle.vortex_model_table.specs.Expression.{literal}
use Rattle.vortex_scalar_core.specs.Scalar.{scalar_type, scalar_content}
use Rattle.vortex_stats_bind.specs.Bindings.{IsBoxed}
use Rattle.vortex_stats_bind.proofs.bind.bind_literal.Goals as goal

pub returns-clause-bound : goal.returns-clause-bound
returns-clause-bound c =
    let said : scalar_content c.in_ok-clone.field-0 ≡ scalar_content c.args.value.now = ap content_of c.in_ok-clone.ensures.cases.1 in
    let same : literal (scalar_type c.in_ok-clone.field-0) (scalar_content c.in_ok-clone.field-0) ≡ literal (scalar_type c.args.value.now) (scalar_content c.args.value.now) =
    λ i. literal (c.in_ok-clone.ensures.cases.0 i) (said i) in
    λ k. subst (λ e. IsBoxed k e c.lit.result) same (c.lit.ensures k)
