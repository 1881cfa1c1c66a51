use Rattle.std.proofs.Common.{◌≡◌, ◌<◌, ◌+◌, ◌^◌, ◌++◌, ap, ◌∙◌, rules, arith}
use Rattle.vortex_arrays_model.specs.Layout.{len_of}
use Rattle.vortex_arrays_concat.specs.FixedLists.{elements_in}
use Rattle.vortex_arrays_concat.specs.Lists.{starts_in, sizes_in, AreLists}
use Rattle.vortex_arrays_concat.proofs.ListLemmas.{more_lists}
use Rattle.vortex_arrays_concat.proofs.lists.lists_of_all.Goals as goal

pub loop-array-preserved : goal.loop-array-preserved
loop-array-preserved c =
    let ls = c.args.arrays.now in
    let a = c.array-item.result in
    let e = c.in-Some.own.now in
    let copy = c.in_ok-clone.field-0 in
    let os = c.loop-array.offsets.items in
    let moved = c.in_ok-starts.starts.items in
    let total = c.loop-array.total in
    let end = c.in-Some-checked_add.end in
    let listed : AreLists a = c.in-Some.ensures.kind in
    let elements : e ≡ elements_in a = c.in-Some.ensures.elements in
    let starts : c.in-Some.starts.now ≡ starts_in a = c.in-Some.ensures.starts in
    let sizes : c.in-Some.counts.now ≡ sizes_in a = c.in-Some.ensures.sizes in
    let more = c.in-Some-checked_add.ensures in
    let many = c.len.ensures.count in
    let sum : end ≡ total + len_of e = omega (arith, more, many) in
    let room : end < 2 ^ 64 = omega (arith, more, many) in
    let same : copy ≡ e = search rules in
    more_lists ls c.loop-array.array-index a e copy c.loop-array.elements.items c.push.new.self.items os c.loop-array.sizes.items c.in-Some.starts.now c.in-Some.counts.now moved
    c.extend_from_slice.new.self.items c.extend_from_slice-in-loop-array.new.self.items total end
    c.loop-array.invariant c.loop-array-test.true c.array-item.is listed elements starts sizes sum room c.in_ok-starts.ensures
    (c.in_ok-extend_from_slice.ensures.items ∙ ap (λ xs. os ++ xs) c.as_slice.ensures.value) c.in_ok-extend_from_slice-2.ensures.items same c.in_ok-push.ensures.items
