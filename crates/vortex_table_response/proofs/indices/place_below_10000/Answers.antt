use Rattle.std.proofs.Common.{◌%◌, arith}
use Rattle.vortex_table_response.proofs.Digits.{decimal_four, TRIPLES_at}
use Rattle.vortex_table_response.proofs.indices.place_below_10000.Goals as goal

pub returns-clause-written : goal.returns-clause-written
returns-clause-written c =
    let n = c.args.n in
    let r = n % 1000 in
    rw (decimal_four n c.requires.0 c.requires.1) (rw (TRIPLES_at r 1 (omega arith) (omega arith), TRIPLES_at r 2 (omega arith) (omega arith), TRIPLES_at r 3 (omega arith) (omega arith)) at c.place.ensures.written)
