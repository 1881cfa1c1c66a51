use Rattle.std.proofs.Common.{◌<◌, ◌^◌, ◌++◌, [], replicate, subst, arith}
use Rattle.vortex_stats_array.specs.Running.{IsSeen}
use Rattle.vortex_stats_array.proofs.Repeated.{same_rows}
use Rattle.vortex_stats_array.proofs.seen.seen_constant.Goals as goal

pub with_many-requires-clause-nulls : goal.with_many-requires-clause-nulls
with_many-requires-clause-nulls g c =
    let few : c.args.len < 2 ^ 64 = omega arith in let held = c.none-start.ensures.fits.nulls in
    omega (arith, few, held)

pub with_many-requires-clause-above : goal.with_many-requires-clause-above
with_many-requires-clause-above g c =
    let few : c.args.len < 2 ^ 64 = omega arith in let held = c.none-start.ensures.fits.sum.above in
    omega (arith, few, held)

pub with_many-requires-clause-below : goal.with_many-requires-clause-below
with_many-requires-clause-below g c =
    let few : c.args.len < 2 ^ 64 = omega arith in let held = c.none-start.ensures.fits.sum.below in
    omega (arith, few, held)

pub returns : goal.returns
returns g c content read =
    let test = c.if-len-eq0.false in
    let some : 0 < c.args.len = omega (arith, test) in
    subst (IsSeen g.V.LeafValue.said c.with_many.result) (same_rows c.args.len content)
    (subst (λ d. IsSeen g.V.LeafValue.said c.with_many.result (replicate c.args.len d ++ [])) (read 0 c.row.result some c.row.ensures)
    (c.with_many.ensures.seen [] c.none-start.ensures.seen))
