use Rattle.std.proofs.Common.{◌≡◌, ◌+◌, ◌-◌, ◌*◌, arith}
use Rattle.vortex_table_response.proofs.Digits.{decimal_three, triple_at}
use Rattle.vortex_table_response.proofs.indices.place_index.Goals as goal

pub returns-then-n-lt1000-clause-written : goal.returns-then-n-lt1000-clause-written
returns-then-n-lt1000-clause-written c =
    let n = c.args.n in
    let e : 4 * n + 4 - 4 * n ≡ 4 = omega arith in
    rw (decimal_three n (omega arith) (omega arith)) (rw (e, triple_at n (omega arith)) at c.place.ensures.written)
