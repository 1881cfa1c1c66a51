use Rattle.std.proofs.Common.{◌∙◌, arith}
use Rattle.std.proofs.lemmas.Result.{IfOk-weaker}
use Rattle.vortex_arrays_rebuild.proofs.ItemLemmas.{room_left, written_more, written_all}
use Rattle.vortex_arrays_rebuild.proofs.items.copy_bits.Goals as goal

pub put_bits-requires-clause-room : goal.put_bits-requires-clause-room
put_bits-requires-clause-room c = room_left c.args.bits.now c.loop-i.copied.items c.args.runs.now.list.items c.loop-i.i c.loop-i.next c.index-run.result.now (omega arith) c.index-run.ensures c.loop-i.invariant

pub loop-i-preserved : goal.loop-i-preserved
loop-i-preserved c = written_more c.args.bits.now c.loop-i.copied.items c.put_bits.new.copied.items c.args.runs.now.list.items c.loop-i.i c.loop-i.next c.index-run.result.now (omega arith) c.index-run.ensures c.put_bits.ensures.front c.put_bits.ensures.same c.loop-i.invariant

pub returns : goal.returns
returns c = IfOk-weaker c.from_bools.result _ _ (λ b is. is ∙ c.deref.ensures.value ∙ written_all c.args.bits.now c.loop-i.copied.items c.args.runs.now.list.items c.loop-i.i c.loop-i.next (omega arith) c.loop-i.invariant) c.from_bools.ensures
