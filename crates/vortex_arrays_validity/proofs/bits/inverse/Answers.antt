use Rattle.std.proofs.Common.{◌∙◌, ap}
use Rattle.vortex_arrays_model.specs.Layout.{bools, required, by_array}
use Rattle.vortex_arrays_core.specs.LayoutOf.{valid_of}
use Rattle.vortex_arrays_validity.proofs.Rows.{inverted}
use Rattle.vortex_arrays_validity.proofs.bits.inverse.Goals as goal

pub returns : goal.returns
returns c = inverted c.args.rows.now c.in_ok-bits.bits (valid_of c.in_ok-made.made)
    c.in_ok-bits.ensures
    (c.in_ok-made.ensures ∙ ap (λ bits. by_array (bools bits required)) c.in_ok-other.ensures)
