use Rattle.std.proofs.Common.{rules, arith, refl, get_or, replicate, ◌≡◌, ◌<◌, length}
use Rattle.vortex_arrays_rebuild.proofs.DensityLemmas.{none_reached, empty_passed, one_reached, same_read}
use Rattle.vortex_arrays_rebuild.proofs.density.furthest_ends.Goals.{then-sizes-i-gt0, else-sizes-i-gt0}
use Rattle.vortex_arrays_rebuild.proofs.density.furthest_ends.Goals as goal

pub loop-i-init : goal.loop-i-init
loop-i-init c =
    let made : c.in_ok-ends.ends.items ≡ replicate c.args.count 0 = search rules in
    rw made (none_reached c.args.offsets.now c.args.sizes.now c.args.count)

pub loop-i-preserved : goal.loop-i-preserved
loop-i-preserved c = elim c.if-sizes-i-gt0.branch [
  | then-sizes-i-gt0 w ↦
      let within : get_or c.args.offsets.now c.loop-i.i 0 < length c.loop-i.ends.items =
      let lies = c.requires.within c.loop-i.i c.loop-i-test.true in
      let many = c.loop-i.invariant.many in
      omega (arith, lies, many, w.if-sizes-i-gt0.true) in
      rw (w.ends-is, w.max.ensures)
      (one_reached c.args.offsets.now c.args.sizes.now c.loop-i.i c.args.count c.loop-i.ends.items (get_or c.args.offsets.now c.loop-i.i 0) (get_or c.args.sizes.now c.loop-i.i 0) w.index.result.now c.loop-i.invariant refl refl
      (same_read c.loop-i.ends.items (get_or c.args.offsets.now c.loop-i.i 0) w.index.result.now within w.index.ensures)
      (omega (arith, w.if-sizes-i-gt0.true)) within)
  | else-sizes-i-gt0 w ↦ rw w.ends-is (empty_passed c.args.offsets.now c.args.sizes.now c.loop-i.i c.args.count c.loop-i.ends.items c.loop-i.invariant (omega (arith, w.if-sizes-i-gt0.false)))
]
