use Rattle.std.proofs.Common.{◌≡◌, rules}
use Rattle.vortex_arrays_concat.specs.Columns.{field_at}
use Rattle.vortex_arrays_concat.proofs.RecordLemmas.{more_fields}
use Rattle.vortex_arrays_concat.proofs.records.field_of_all.Goals as goal

pub loop-array-preserved : goal.loop-array-preserved
loop-array-preserved c =
    let copy = c.in_ok-clone-in-Some.field-0 in
    let same : copy ≡ field_at c.args.i c.array-item.result = search rules in
    more_fields c.args.i c.args.arrays.now c.loop-array.array-index c.array-item.result copy c.loop-array.parts.items c.push.new.self.items
    c.loop-array.invariant c.loop-array-test.true c.array-item.is c.in-Some.ensures.there same c.in_ok-push-in-Some.ensures.items
