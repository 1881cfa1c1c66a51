use Rattle.std.proofs.Common.{◌≡◌, ◌+ℤ◌, refl, ap, Some, arith}
use Rattle.std.proofs.lemmas.Int.{ints}
use Rattle.vortex_stats_array.specs.Sums.{sum_in_parts}
use Rattle.vortex_stats_array.proofs.InFront.{with_value}
use Rattle.vortex_stats_array.proofs.running.Running.with.Goals as goal

pub returns-in-Some-clause-seen : goal.returns-in-Some-clause-seen
returns-in-Some-clause-seen g c =
    let sum = c.plus.ensures.sum in
    let added : sum_in_parts c.plus.result ≡ c.number.result +ℤ sum_in_parts c.args.self.sum = omega (arith, ints, sum) in
    with_value g.V.LeafValue.said c.args.self _ c.args.value c.in-Some.value c.number.result c.in-Some.is (g.V.LeafValue.never_null c.in-Some.value)
    (ap Some c.least_with.ensures) (ap Some c.greatest_with.ensures) refl c.number.ensures.number added
