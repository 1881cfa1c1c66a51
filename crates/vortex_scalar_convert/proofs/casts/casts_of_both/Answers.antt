use Rattle.std.proofs.Common.{◌≡◌, ◌∙◌, sym}
use Rattle.vortex_model.specs.Order.{scalar_cmp}
use Rattle.vortex_dtype_core.specs.View.{type_of}
use Rattle.vortex_scalar_core.specs.Equality.{eq_typed}
use Rattle.vortex_scalar_core.specs.Scalar.{scalar_type, scalar_content}
use Rattle.vortex_scalar_convert.proofs.Compared.{order_kept, equality_kept}
use Rattle.vortex_scalar_convert.proofs.casts.casts_of_both.Goals as goal

pub returns-clause-order_kept : goal.returns-clause-order_kept
returns-clause-order_kept c = λ e.
    let left = c.args.left.now in
    let right = c.args.right.now in
    let of_left = c.in_ok-of_left.of_left in
    let of_right = c.in_ok-of_right.of_right in
    c.order_and_equality-after.ensures.order
    ∙ (λ i. scalar_cmp (c.in_ok-of_left.ensures.dtype i) (scalar_content of_left) (c.in_ok-of_right.ensures.dtype i) (scalar_content of_right))
    ∙ order_kept (scalar_type left) (scalar_type right) (type_of c.args.target.now) (scalar_content left) (scalar_content right) (scalar_content of_left) (scalar_content of_right) e
    c.in_ok-of_left.ensures.content c.in_ok-of_right.ensures.content
    ∙ sym c.order_and_equality-before.ensures.order

pub returns-clause-equality_kept : goal.returns-clause-equality_kept
returns-clause-equality_kept c = λ e.
    let left = c.args.left.now in
    let right = c.args.right.now in
    let of_left = c.in_ok-of_left.of_left in
    let of_right = c.in_ok-of_right.of_right in
    c.order_and_equality-after.ensures.equality
    ∙ (λ i. eq_typed (c.in_ok-of_left.ensures.dtype i) (scalar_content of_left) (c.in_ok-of_right.ensures.dtype i) (scalar_content of_right))
    ∙ equality_kept (scalar_type left) (scalar_type right) (type_of c.args.target.now) (scalar_content left) (scalar_content right) (scalar_content of_left) (scalar_content of_right) e
    c.in_ok-of_left.ensures.content c.in_ok-of_right.ensures.content
    ∙ sym c.order_and_equality-before.ensures.equality
