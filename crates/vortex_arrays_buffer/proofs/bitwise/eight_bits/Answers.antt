use Rattle.std.proofs.Common.{◌≡◌, ◌+◌, slice_index, sym, refl, ◌∙◌, arith}
use Rattle.std.proofs.lemmas.List.{get_or_past}
use Rattle.vortex_arrays_buffer.proofs.BitMoves.{across}
use Rattle.vortex_arrays_buffer.proofs.bitwise.eight_bits.Goals as goal
use Rattle.vortex_arrays_buffer.proofs.bitwise.eight_bits.Goals.{then-k-bytes, else-k-bytes}

pub returns : goal.returns
returns c = λ j l.
    let high : c.if-k-bytes.high ≡ slice_index c.args.bytes.now (c.args.k + 1) = elim c.if-k-bytes.branch [
      | then-k-bytes w ↦ w.high-is
      | else-k-bytes w ↦ w.high-is ∙ sym (get_or_past c.args.bytes.now (c.args.k + 1) 0 (omega (arith, w.if-k-bytes.false)))
    ] in
    across c.args.bytes.now c.args.k c.args.by (slice_index c.args.bytes.now c.args.k) c.if-k-bytes.high j c.requires.few (omega (arith, c.type_inv.bytes c.args.k)) refl high l
