use Rattle.std.proofs.Common.{rules, ◌≡◌, ◌<◌, ◌∙◌, ℤ, List, length, get_or, sym, ap, subst, FitsSigned}
use Rattle.std.specs.List.{All}
use Rattle.std.specs.Int.{w128}
use Rattle.std.proofs.lemmas.Int.{to_z-of_z}
use Rattle.vortex_model.specs.Path.{Positions, at}
use Rattle.vortex_model_table.specs.ZoneMap.{values_at}
use Rattle.vortex_arrays_model.specs.Layout.{array_type_of, content_at}
use Rattle.vortex_arrays_cast.specs.Ranges.{IsBetween}
use Rattle.vortex_table_chunk.specs.Chunk.{chunk_rows}
use Rattle.vortex_stats_array.specs.declared.array_stats.ArrayStats.{ArrayStats}
use Rattle.vortex_table_layout.proofs.RangeLemmas.{placed, of_rows}
use Rattle.vortex_table_layout.proofs.ranges.range_at.Goals as goal

pub returns : goal.returns
returns c = λ i l.
    let chunk = c.args.chunk.now in let index = c.args.index in let rows = chunk_rows chunk in
    let is = c.in-Some.leaf.now in let b = c.in-Some-get.bounds.now in let x = c.in-Some-range_of.low in let y = c.in-Some-range_of.high in
    let leaves : c.deref-2.result.now ≡ chunk.leaves.value.items = c.deref-2.ensures.value ∙ ap (λ v. v.items) c.deref.ensures in
    let bounds : c.deref-3.result.now ≡ chunk.bounds.items = c.deref-3.ensures.value in
    let inside : index < length chunk.bounds.items = subst (λ (bs : List ArrayStats). index < length bs) bounds c.in-Some-get.ensures.lookup.3.0 in
    let same_place : is ≡ get_or chunk.leaves.value.items index is = subst (λ (ls : List Positions). is ≡ get_or ls index is) leaves c.in-Some.ensures.lookup.1 in
    let same_bounds : b ≡ get_or chunk.bounds.items index b = subst (λ (bs : List ArrayStats). b ≡ get_or bs index b) bounds c.in-Some-get.ensures.lookup.1 in
    let here = placed (array_type_of chunk.array) chunk.lengths.value.items chunk.leaves.value.items chunk.bounds.items rows index is b chunk.honest inside same_place same_bounds in
    let all : All (IsBetween x y) (values_at is rows) = c.in-Some-range_of.ensures here.0 (values_at is rows) here.1 in
    let low : FitsSigned w128 x = search rules in let high : FitsSigned w128 y = search rules in
    subst (λ (p : (ℤ × ℤ) × Positions). IsBetween p.0.0 p.0.1 (at (content_at chunk.array i) p.1))
    (λ t. ((sym (to_z-of_z w128 x low) t, sym (to_z-of_z w128 y high) t), sym c.as_slice-positions.ensures t))
    (of_rows x y is chunk.array all i l)
