use Rattle.std.proofs.Common.{◌≡◌, ◌∙◌, refl, ap, Some, to_z, of_z, arith}
use Rattle.std.specs.Int.{w128}
use Rattle.std.proofs.lemmas.Int.{ints}
use Rattle.vortex_stats_array.proofs.Repeated.{value_many, null_many}
use Rattle.vortex_stats_array.proofs.running.Running.with_many.Goals as goal

pub returns-in-None-clause-seen : goal.returns-in-None-clause-seen
returns-in-None-clause-seen g c = null_many g.V.LeafValue.said c.args.self _ c.args.value c.args.n c.in-None.is refl refl refl refl

pub returns-in-Some-clause-seen : goal.returns-in-Some-clause-seen
returns-in-Some-clause-seen g c =
    let least = c.number.ensures.least in let greatest = c.number.ensures.greatest in
    let same : to_z w128 (of_z w128 c.number.result) ≡ c.number.result = omega (arith, ints, least, greatest) in
    value_many g.V.LeafValue.said c.args.self _ c.args.value c.in-Some.value (to_z w128 (of_z w128 c.number.result)) c.args.n c.in-Some.is (g.V.LeafValue.never_null c.in-Some.value)
    (ap Some c.least_with.ensures) (ap Some c.greatest_with.ensures) refl (same ∙ c.number.ensures.number) c.plus_many.ensures.sum c.requires.some
