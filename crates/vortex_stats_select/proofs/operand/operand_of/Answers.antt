use Rattle.std.proofs.Common.{◌≡◌, ◌∙◌, ap, sym, refl, map, length, replicate}
use Rattle.std.proofs.lemmas.Simd.{splat_is_map}
use Rattle.vortex_model.specs.Content.{content_of}
use Rattle.vortex_scalar_core.specs.Scalar.{scalar_type, scalar_raw, scalar_content}
use Rattle.vortex_scalar_value.specs.View.{raw_in}
use Rattle.vortex_stats_bind.specs.Bound.{fixed}
use Rattle.vortex_stats_bind.specs.BoundTree.{bound_tree}
use Rattle.vortex_stats_select.specs.Wants.{value_at}
use Rattle.vortex_stats_select.proofs.operand.operand_of.Goals as goal

pub returns-in_ok-value-in-Literal : goal.returns-in_ok-value-in-Literal
returns-in_ok-value-in-Literal g c =
    let rows = g.S.Columns.rows c.args.columns.now in let s = c.in-Literal.scalar in
    let same : c.args.e.now ≡ fixed (scalar_type s) (scalar_content s) = sym c.e.view_is ∙ ap bound_tree c.in-Literal.is in
    let said : raw_in c.in_ok-value-in-Literal.value ≡ scalar_raw s = c.in_ok-value-in-Literal.ensures ∙ c.value.ensures.value in
    (λ i. replicate (length rows) (content_of (said i))) ∙ splat_is_map rows (length rows) (scalar_content s) refl
    ∙ (λ i. map (λ row. value_at (sym same i) row) rows)
