use Rattle.std.proofs.Common.{◌≡◌, ◌≤◌, ◌+◌, ◌-◌, ◌*◌, slice_index, refl, sym, ap, subst, ◌∙◌, arith}
use Rattle.std.specs.Prelude.{count_ones}
use Rattle.vortex_arrays_buffer.proofs.Counts.{none_counted, few_trues, trues_in, with_byte}
use Rattle.vortex_arrays_buffer.proofs.count.count_bytes.Goals as goal

pub loop-k-init : goal.loop-k-init
loop-k-init c = record {
  counted = none_counted c.args.bytes.now (8 * c.args.first) (8 * (c.args.first - c.args.first)) (omega arith);
  few = omega arith;
}

pub loop-k-preserved : goal.loop-k-preserved
loop-k-preserved c =
    let byte = slice_index c.args.bytes.now c.loop-k.k in
    let with_it : c.loop-k.count + count_ones byte ≡ trues_in c.args.bytes.now (8 * c.args.first) (8 * (c.loop-k.k + 1 - c.args.first)) =
    ap (λ n. n + count_ones byte) c.loop-k.invariant.counted
    ∙ sym (with_byte c.args.bytes.now c.args.first c.loop-k.k byte (count_ones byte) (omega arith) refl (c.type_inv.bytes c.loop-k.k).fits refl) in
    record {
      counted = with_it;
      few = subst (λ n. n ≤ 8 * (c.loop-k.k + 1 - c.args.first)) (sym with_it) (few_trues c.args.bytes.now (8 * c.args.first) (8 * (c.loop-k.k + 1 - c.args.first)));
    }
