use Rattle.std.proofs.Common.{◌≡◌, None, rules, sym, ◌∙◌, ap, subst, ◌≤◌, ◌<◌, ◌^◌, ◌∷◌, [], length, map, arith}
use Rattle.std.specs.Int.{div_ceil}
use Rattle.std.proofs.lemmas.List.{map-append}
use Rattle.vortex_table_schema.specs.Error.{Explains}
use Rattle.vortex_table_core.specs.Arrays.{arrays_of}
use Rattle.vortex_table_core.specs.TableView.{table_of}
use Rattle.example_planner.specs.Split.{row_count, AreMarks, ClosesFull, HasTooLarge, IsSplit}
use Rattle.example_planner.proofs.Shares.{AreShared, share, none_shared, left_out, added, next_kind, room, marked_so, all_shared}
use Rattle.example_planner.proofs.Refused.{at_memory}
use Rattle.example_planner.proofs.plan.split.Goals as goal

pub kept_rows-rows-requires : goal.kept_rows-rows-requires
kept_rows-rows-requires c = ap length c.deref.ensures.value ∙ c.in_ok-marks.ensures.long ∙ c.chunk_count-count.ensures

pub loop-index-init : goal.loop-index-init
loop-index-init c =
    subst (λ parts. AreShared (table_of c.args.table.now) c.args.left_out.now c.args.workers 0 parts (table_of c.in_ok-part.part)) (sym (ap (map table_of) c.new-parts.ensures.items))
    (none_shared (table_of c.args.table.now) c.args.left_out.now c.args.workers (table_of c.in_ok-part.part) c.requires c.in_ok-part.ensures.made)

pub loop-index-preserved-then-index : goal.loop-index-preserved-then-index
loop-index-preserved-then-index c =
    let count = c.chunk_count-count.ensures in let more = c.loop-index-test.true in
    let inside : c.loop-index.index < length (table_of c.args.table.now).chunks = omega (arith, count, more) in
    left_out (table_of c.args.table.now) c.args.left_out.now c.args.workers c.loop-index.index (map table_of c.loop-index.parts.items) (table_of c.loop-index.part) inside
    (marked_so c.args.left_out.now c.chunk_count-count.result c.in_ok-marks.marks.items c.loop-index.index c.index.result.now c.in_ok-marks.ensures more c.index.ensures ∙ c.if-index.true) c.loop-index.invariant

pub add_chunk-requires-clause-kind : goal.add_chunk-requires-clause-kind
add_chunk-requires-clause-kind c =
    let whole = table_of c.args.table.now in let out = c.args.left_out.now in let workers = c.args.workers in
    let marked = subst (λ n. AreMarks out n c.in_ok-marks.marks.items) c.chunk_count-count.ensures c.in_ok-marks.ensures in
    let equal : c.div_ceil-share.result ≡ share whole out workers =
    c.div_ceil-share.ensures ∙ ap (λ n. div_ceil n workers) (c.kept_rows-rows.ensures out (subst (AreMarks out (length whole.chunks)) (sym c.deref.ensures.value) marked)) in
    let old = map table_of c.loop-index.parts.items in let new = map table_of c.close_full.new.parts.items in
    let part = table_of c.loop-index.part in let next = table_of c.close_full.new.part in
    next_kind whole out workers c.loop-index.index old part new next (subst (λ s. ClosesFull whole.kind s old part new next) equal c.in_ok-close_full.ensures.closed) c.loop-index.invariant

pub add_chunk-requires-clause-room : goal.add_chunk-requires-clause-room
add_chunk-requires-clause-room c =
    let whole = table_of c.args.table.now in let out = c.args.left_out.now in let workers = c.args.workers in
    let marked = subst (λ n. AreMarks out n c.in_ok-marks.marks.items) c.chunk_count-count.ensures c.in_ok-marks.ensures in
    let equal : c.div_ceil-share.result ≡ share whole out workers =
    c.div_ceil-share.ensures ∙ ap (λ n. div_ceil n workers) (c.kept_rows-rows.ensures out (subst (AreMarks out (length whole.chunks)) (sym c.deref.ensures.value) marked)) in
    let old = map table_of c.loop-index.parts.items in let new = map table_of c.close_full.new.parts.items in
    let part = table_of c.loop-index.part in let next = table_of c.close_full.new.part in
    let all : c.len-all.result ≡ row_count whole.chunks = c.len-all.ensures in let fits : c.len-all.result < 2 ^ 64 = omega arith in
    room whole out workers c.loop-index.index old part new next (omega (arith, all, fits))
    (marked_so out c.chunk_count-count.result c.in_ok-marks.marks.items c.loop-index.index c.index.result.now c.in_ok-marks.ensures c.loop-index-test.true c.index.ensures ∙ c.if-index.false)
    (subst (λ s. ClosesFull whole.kind s old part new next) equal c.in_ok-close_full.ensures.closed) c.loop-index.invariant

pub loop-index-preserved : goal.loop-index-preserved
loop-index-preserved c =
    let whole = table_of c.args.table.now in let out = c.args.left_out.now in let workers = c.args.workers in
    let marked = subst (λ n. AreMarks out n c.in_ok-marks.marks.items) c.chunk_count-count.ensures c.in_ok-marks.ensures in
    let equal : c.div_ceil-share.result ≡ share whole out workers =
    c.div_ceil-share.ensures ∙ ap (λ n. div_ceil n workers) (c.kept_rows-rows.ensures out (subst (AreMarks out (length whole.chunks)) (sym c.deref.ensures.value) marked)) in
    let old = map table_of c.loop-index.parts.items in let new = map table_of c.close_full.new.parts.items in
    let part = table_of c.loop-index.part in let next = table_of c.close_full.new.part in
    added whole out workers c.loop-index.index old part new next (table_of c.add_chunk.new.part) c.requires
    (marked_so out c.chunk_count-count.result c.in_ok-marks.marks.items c.loop-index.index c.index.result.now c.in_ok-marks.ensures c.loop-index-test.true c.index.ensures ∙ c.if-index.false)
    (subst (λ s. ClosesFull whole.kind s old part new next) equal c.in_ok-close_full.ensures.closed) c.in_ok-add_chunk.ensures.added c.loop-index.invariant

pub returns-clause-shared : goal.returns-clause-shared
returns-clause-shared c =
    let whole = table_of c.args.table.now in let parts = c.loop-index.parts.items in let part = c.loop-index.part in
    let count = c.chunk_count-count.ensures in let done = c.loop-index-test.false in
    let past : length whole.chunks ≤ c.loop-index.index = omega (arith, count, done) in
    subst (IsSplit whole c.args.left_out.now c.args.workers) (sym (ap (map table_of) c.in_ok-push.ensures.items ∙ map-append table_of parts (part ∷ [])))
    (all_shared whole c.args.left_out.now c.args.workers c.loop-index.index (map table_of parts) (table_of part) past c.loop-index.invariant)

pub returns-in_err-part-clause-refused : goal.returns-in_err-part-clause-refused
returns-in_err-part-clause-refused c =
    let large = HasTooLarge (table_of c.args.table.now).kind (arrays_of c.args.table.now) in let e = c.in_err-part.field-0.0 in
    let refused : Explains large None e = at_memory large None e c.in_err-part.ensures.refused in
    let gives = c.from_residual-in_err-part.ensures.1 in
    search (rules, refused, gives)

pub returns-in_err-close_full-clause-refused : goal.returns-in_err-close_full-clause-refused
returns-in_err-close_full-clause-refused c =
    let large = HasTooLarge (table_of c.args.table.now).kind (arrays_of c.args.table.now) in let e = c.in_err-close_full.field-0.0 in
    let refused : Explains large None e = at_memory large None e c.in_err-close_full.ensures.refused in
    let gives = c.from_residual-in_err-close_full.ensures.1 in
    search (rules, refused, gives)
