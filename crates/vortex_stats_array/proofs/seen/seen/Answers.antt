use Rattle.std.proofs.Common.{sym, subst}
use Rattle.vortex_stats_array.specs.Counted.{CountsEach, StandIn, counted_rows}
use Rattle.vortex_stats_array.specs.Running.{ReadsRows}
use Rattle.vortex_stats_array.proofs.Moved.{seen_moved}
use Rattle.vortex_stats_array.proofs.seen.seen.Goals as goal

pub returns-in-Some : goal.returns-in-Some
returns-in-Some g c content read rows stand =
    let counts = c.in-Some.counts in
    let each = subst (λ o. CountsEach o c.args.len) c.in-Some.is c.requires.counted in
    let moved = subst (λ o. StandIn o content c.args.len rows) c.in-Some.is stand in
    seen_moved g.V.LeafValue.said c.seen_counted.result (counted_rows counts.now content) rows moved
    (c.seen_counted.ensures content (subst (λ n. ReadsRows g.V.LeafValue.said n (λ i v. g.F.Fn.post c.args.value (i, tt) v) content) (sym each) read))
