use Rattle.std.proofs.Common.{◌≡◌, ◌<◌, length, get_or, refl, rules}
use Rattle.vortex_arrays_concat.proofs.StringLemmas.{more_moved}
use Rattle.vortex_arrays_concat.proofs.strings.move_views.Goals as goal

pub loop-i-preserved : goal.loop-i-preserved
loop-i-preserved c =
    let now = c.loop-i.views.items in
    let test = c.loop-i-test.true in
    let end = c.loop-i.auto.i-end in
    let len = c.len-i-end.ensures in
    let count = c.loop-i.invariant.count in
    let inside : c.loop-i.i < length now = search rules in
    let here : c.index.result.now ≡ get_or now c.loop-i.i c.index.result.now = search rules in
    more_moved c.args.before c.args.start c.loop-i.i c.args.views.now.items now _ c.index.result.now c.moved.result
    c.loop-i.invariant inside here c.moved.ensures refl
