use Rattle.std.proofs.Common.{◌≡◌, rules}
use Rattle.vortex_arrays_concat.specs.FixedLists.{elements_in}
use Rattle.vortex_arrays_concat.proofs.FixedLemmas.{more_parts}
use Rattle.vortex_arrays_concat.proofs.fixed_lists.elements_of_all.Goals as goal

pub loop-array-preserved : goal.loop-array-preserved
loop-array-preserved c =
    let copy = c.in_ok-clone-in-Some.field-0 in
    let same : copy ≡ elements_in c.array-item.result = search rules in
    more_parts c.args.size c.args.arrays.now c.loop-array.array-index c.array-item.result copy c.loop-array.parts.items c.push.new.self.items
    c.loop-array.invariant c.loop-array-test.true c.array-item.is c.in-Some.ensures.kind same c.in_ok-push-in-Some.ensures.items
