use Rattle.std.proofs.Common.{◌≡◌, ◌∷◌, ◌∙◌, sym, ap, subst, refl, length, arith}
use Rattle.std.proofs.lemmas.List.{length-map, length-drop}
use Rattle.std.specs.Prelude.{slice_set}
use Rattle.std.specs.Vec.Iter.{into_iter_items}
use Rattle.vortex_arrays_model.specs.Layout.{array_type_of, rows_of}
use Rattle.vortex_table_chunk.specs.Chunk.{chunk_rows}
use Rattle.vortex_table_core.proofs.Rearrayed.{Placing, place_as, place_more, placed_all}
use Rattle.vortex_table_core.proofs.arrays.put_arrays.Goals as goal

pub put_array-requires-clause-rows : goal.put_array-requires-clause-rows
put_array-requires-clause-rows c =
    let old = c.args.chunks.now.items in let arrays = c.args.arrays.items in let i = c.loop-array.index in
    let now = c.loop-array.chunks.items in let a = c.in-Some.array in let left = into_iter_items c.next.new.self in
    let p : Placing old arrays i now (a ∷ left) = subst (Placing old arrays i now) c.in-Some.ensures.steps.0 c.loop-array.invariant in
    place_as old arrays i now a left p c.requires.rows rows_of c.requires.rows c.index_mut.result.now c.index_mut.ensures.value

pub put_array-requires-clause-kind : goal.put_array-requires-clause-kind
put_array-requires-clause-kind c =
    let old = c.args.chunks.now.items in let arrays = c.args.arrays.items in let i = c.loop-array.index in
    let now = c.loop-array.chunks.items in let a = c.in-Some.array in let left = into_iter_items c.next.new.self in
    let p : Placing old arrays i now (a ∷ left) = subst (Placing old arrays i now) c.in-Some.ensures.steps.0 c.loop-array.invariant in
    place_as old arrays i now a left p c.requires.rows array_type_of c.requires.types c.index_mut.result.now c.index_mut.ensures.value

pub loop-array-preserved : goal.loop-array-preserved
loop-array-preserved c =
    let old = c.args.chunks.now.items in let arrays = c.args.arrays.items in let i = c.loop-array.index in
    let now = c.loop-array.chunks.items in let a = c.in-Some.array in let left = into_iter_items c.next.new.self in
    let p : Placing old arrays i now (a ∷ left) = subst (Placing old arrays i now) c.in-Some.ensures.steps.0 c.loop-array.invariant in
    place_more old arrays i now a left p c.requires.rows c.index_mut.result.now c.put_array.new.chunk (slice_set now i c.put_array.new.chunk) c.index_mut.ensures.value c.put_array.ensures refl

pub returns : goal.returns
returns c =
    let old = c.args.chunks.now.items in let arrays = c.args.arrays.items in let i = c.loop-array.index in
    let it = c.loop-array.array-iterator in let left = into_iter_items it in
    let n : length left ≡ 0 = omega (arith, it.rest.ok.0, c.in-None.ensures.steps.0) in
    let rest = ap length c.loop-array.invariant.rest in let dropped = length-drop i arrays in
    let many : length arrays ≡ length old = sym (length-map arrays rows_of) ∙ ap length c.requires.rows ∙ length-map old chunk_rows in
    placed_all old arrays i c.loop-array.chunks.items left c.loop-array.invariant c.requires.rows (omega (arith, n, rest, dropped, many))
