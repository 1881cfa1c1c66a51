use Rattle.std.proofs.Common.{◌≡◌, ◌∙◌, sym, subst, true}
use Rattle.vortex_model.specs.LogicalType.{stored}
use Rattle.vortex_model.specs.Valid.{valid, IsContent}
use Rattle.vortex_model.proofs.Contents.{said}
use Rattle.vortex_model.proofs.Tests.{has_so}
use Rattle.vortex_scalar_core.specs.Scalar.{scalar_type, scalar_raw, scalar_content}
use Rattle.vortex_scalar_convert.proofs.casts.order_and_equality.Goals as goal

pub returns-clause-tied : goal.returns-clause-tied
returns-clause-tied c =
    let left = c.args.left.now in
    let right = c.args.right.now in
    let is_there : valid (scalar_type left) (scalar_raw left) ≡ true = subst (λ r. valid (scalar_type left) r ≡ true) c.value.ensures.value c.value.ensures.is_valid in
    let held : IsContent (scalar_type left) (scalar_content left) = said (stored (scalar_type left)) (scalar_raw left) (has_so (stored (scalar_type left)) (scalar_raw left) is_there) in
    λ plain.
    let law = c.tied_values_are_equal.ensures (scalar_type left) (scalar_type right) (scalar_content left) (scalar_content right) plain held in
    (λ e. c.eq_ignore_nullability.ensures ∙ law.0 (sym c.partial_cmp.ensures ∙ e), λ e. c.partial_cmp.ensures ∙ law.1 (sym c.eq_ignore_nullability.ensures ∙ e))
