use Rattle.std.proofs.Common.{◌≡◌, ◌+◌, ◌*◌, length, take, ap, ◌∙◌, arith}
use Rattle.std.proofs.lemmas.List.{take_all}
use Rattle.vortex_arrays_buffer.specs.Bits.{positions_of}
use Rattle.vortex_table_select.proofs.select.true_positions.Goals as goal

pub loop-k-preserved : goal.loop-k-preserved
loop-k-preserved c =
    let next : 64 * c.loop-k.k + 64 ≡ 64 * (c.loop-k.k + 1) = omega arith in
    c.in_ok-push_block.ensures ∙ ap (λ n. positions_of (take n c.args.mask.now)) next

pub returns : goal.returns
returns c = c.in_ok-push_true.ensures ∙ ap positions_of (take_all (length c.args.mask.now) c.args.mask.now (omega arith))
