use Rattle.std.proofs.Common.{◌≡◌, length, rules}
use Rattle.vortex_arrays_core.specs.LayoutOf.{strings_of}
use Rattle.vortex_arrays_concat.proofs.StringLemmas.{more_views}
use Rattle.vortex_arrays_concat.proofs.strings.views_of_all.Goals as goal

pub loop-array-preserved : goal.loop-array-preserved
loop-array-preserved c =
    let before : c.len.result ≡ length c.loop-array.buffers.items = search rules in
    more_views (strings_of c.args.kind) c.args.arrays.now c.loop-array.array-index c.array-item.result c.loop-array.views.items c.loop-array.buffers.items
    c.in-Some.own_views.now c.in-Some.own_buffers.now c.push_views.new.views.items c.push_buffers.new.buffers.items c.in-Some-first_index.before c.len.result
    c.loop-array.invariant c.loop-array-test.true c.array-item.is c.in-Some.ensures.kind c.in-Some.ensures.views c.in-Some.ensures.buffers
    before c.in-Some-first_index.ensures.0 c.in-Some-first_index.ensures.1
    c.in_ok-push_views.ensures.count c.in_ok-push_views.ensures.front c.in_ok-push_views.ensures.moved c.in_ok-push_buffers.ensures
