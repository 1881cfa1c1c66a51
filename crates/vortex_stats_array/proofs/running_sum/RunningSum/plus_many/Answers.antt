use Rattle.std.proofs.Common.{◌≡◌, ◌∙◌, ◌+◌, ◌*◌, ap, pos, neg_ℤ, ◌+ℤ◌, ◌-ℤ◌, arith}
use Rattle.std.proofs.lemmas.Int.{ints}
use Rattle.vortex_stats_array.specs.Sums.{sum_in_parts, repeated_sum}
use Rattle.vortex_stats_array.proofs.Repeated.{times_below}
use Rattle.vortex_stats_array.proofs.running_sum.RunningSum.plus_many.Goals as goal

pub returns-else-number-ge0-clause-sum : goal.returns-else-number-ge0-clause-sum
returns-else-number-ge0-clause-sum c =
    let size = c.unsigned_abs.ensures.value in let sign = c.if-number-ge0.false in let n = c.args.n in let a = c.unsigned_abs.result in
    let is : neg_ℤ (pos a) ≡ c.args.number = grind (arith, ints, size, sign) in
    let less = times_below n a in
    let more : pos c.args.self.above -ℤ pos (c.args.self.below + n * a) ≡ repeated_sum n (neg_ℤ (pos a)) +ℤ (pos c.args.self.above -ℤ pos c.args.self.below) = omega (arith, ints, less) in
    more ∙ ap (λ z. repeated_sum n z +ℤ sum_in_parts c.args.self) is
