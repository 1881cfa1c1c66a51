use Rattle.std.proofs.Common.{◌≤◌, subst}
use Rattle.vortex_arrays_struct.proofs.Rows.{nested_rows}
use Rattle.vortex_arrays_struct.proofs.slices.slice_of_slice.Goals as goal

pub returns-clause-rows : goal.returns-clause-rows
returns-clause-rows c =
    let part = c.in_ok-part.ensures.made in
    let twice = c.in_ok-twice.ensures.made in
    nested_rows c.args.array.now c.in_ok-part.part c.in_ok-twice.twice c.in_ok-once.once c.args.outer.start c.args.outer.end c.args.inner.start c.args.inner.end twice.0 (subst (λ n. c.args.inner.end ≤ n) part.2.len twice.1) part.2 twice.2 c.in_ok-once.ensures.made.2
