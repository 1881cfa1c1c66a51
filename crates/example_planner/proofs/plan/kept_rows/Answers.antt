use Rattle.std.proofs.Common.{◌≡◌, ◌≤◌, ◌<◌, ◌+◌, ◌^◌, length, arith, subst}
use Rattle.vortex_arrays_model.specs.Layout.{rows_of}
use Rattle.vortex_arrays_model.proofs.RowsLemmas.{row_count as rows_counted}
use Rattle.vortex_table_core.specs.TableView.{table_of}
use Rattle.example_planner.specs.Split.{kept, row_count}
use Rattle.example_planner.proofs.Shares.{AreCounted, none_counted, one_passed, countable, one_counted, all_counted}
use Rattle.example_planner.proofs.Tables.{lent, next_chunk}
use Rattle.example_planner.proofs.plan.kept_rows.Goals as goal

pub loop-index-init : goal.loop-index-init
loop-index-init c = none_counted (table_of c.args.table.now).chunks c.args.marks.now

pub loop-index-preserved-then-marks-index : goal.loop-index-preserved-then-marks-index
loop-index-preserved-then-marks-index c =
    let t = c.args.table.now in let count = c.chunk_count-index-end.ensures in let more = c.loop-index-test.true in
    one_passed (table_of t).chunks c.args.marks.now c.loop-index.index c.loop-index.rows (omega (arith, count, more)) c.loop-index.invariant c.if-marks-index.true

pub overflow_add-rows : goal.overflow_add-rows
overflow_add-rows c =
    let t = c.args.table.now in let array = c.in-Some.array.now in let count = c.chunk_count-index-end.ensures in let more = c.loop-index-test.true in
    let inside : c.loop-index.index < length (table_of t).chunks = omega (arith, count, more) in
    let fits = countable (table_of t).chunks c.args.marks.now c.loop-index.index c.loop-index.rows inside c.loop-index.invariant (rows_of array) (next_chunk t c.loop-index.index array c.in-Some.ensures) in
    let all : c.len-all.result ≡ row_count (table_of t).chunks = c.len-all.ensures in
    let small : c.len-all.result < 2 ^ 64 = omega arith in
    let counted = rows_counted array in let told = c.len-rows.ensures.count in
    omega (arith, fits, all, small, counted, told)

pub loop-index-preserved : goal.loop-index-preserved
loop-index-preserved c =
    let t = c.args.table.now in let array = c.in-Some.array.now in let count = c.chunk_count-index-end.ensures in let more = c.loop-index-test.true in
    let inside : c.loop-index.index < length (table_of t).chunks = omega (arith, count, more) in
    let counted = rows_counted array in let told = c.len-rows.ensures.count in
    let same : length (rows_of array) ≡ c.len-rows.result = omega (arith, counted, told) in
    subst (λ m. AreCounted (table_of t).chunks c.args.marks.now (c.loop-index.index + 1) (c.loop-index.rows + m)) same
    (one_counted (table_of t).chunks c.args.marks.now c.loop-index.index c.loop-index.rows inside c.loop-index.invariant (rows_of array) (next_chunk t c.loop-index.index array c.in-Some.ensures) c.if-marks-index.false)

pub returns : goal.returns
returns c = λ left so.
    let chunks = (table_of c.args.table.now).chunks in let count = c.chunk_count-index-end.ensures in let done = c.loop-index-test.false in
    let past : length chunks ≤ c.loop-index.index = omega (arith, count, done) in
    all_counted left chunks c.loop-index.index c.loop-index.rows (row_count (kept left 0 chunks)) past (c.loop-index.invariant.counted left so)

pub unreachable-requires : goal.unreachable-requires
unreachable-requires c =
    let count = c.chunk_count-index-end.ensures in let more = c.loop-index-test.true in
    lent c.args.table.now c.loop-index.index (omega (arith, count, more)) c.in-None.ensures
