use Rattle.std.proofs.Common.{◌≡◌, ◌/◌, ◌%◌, arith}
use Rattle.std.proofs.lemmas.Fmt.{decimal_digit}
use Rattle.vortex_table_response.proofs.Digits.{decimal_two, TRIPLES_at}
use Rattle.vortex_table_response.proofs.indices.place_below_100.Goals as goal

pub returns-then-n-lt10-clause-written : goal.returns-then-n-lt10-clause-written
returns-then-n-lt10-clause-written c = rw (decimal_digit c.args.n (omega arith)) c.place.ensures.written

pub returns-clause-written : goal.returns-clause-written
returns-clause-written c =
    let n = c.args.n in
    let e : n / 10 % 10 ≡ n / 10 = omega arith in
    rw (decimal_two n (omega arith) (omega arith)) (rw (TRIPLES_at n 2 (omega arith) (omega arith), TRIPLES_at n 3 (omega arith) (omega arith), e) at c.place-2.ensures.written)
