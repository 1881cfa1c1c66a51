use Rattle.std.proofs.Common.{◌≡◌, ◌<◌, ℕ, List, length, get_or, sym, ap, subst, ◌∙◌}
use Rattle.vortex_model.specs.Path.{Positions}
use Rattle.vortex_model_table.specs.Scan.{kind_at}
use Rattle.vortex_model_table.specs.ZoneMap.{values_at}
use Rattle.vortex_arrays_model.specs.Layout.{array_type_of}
use Rattle.vortex_table_schema.proofs.Places.{positions_so}
use Rattle.vortex_table_chunk.specs.Chunk.{chunk_rows}
use Rattle.vortex_stats_array.specs.declared.array_stats.ArrayStats.{ArrayStats}
use Rattle.vortex_table_chunk.specs.zones.Bounds.{IsBoundsOf}
use Rattle.vortex_table_chunk.proofs.LeafBounds.{placed_bounds}
use Rattle.vortex_table_chunk.proofs.retyped.stays_at.Goals as goal

pub returns : goal.returns
returns c =
    let chunk = c.args.chunk.now in let i = c.args.index in let rows = chunk_rows chunk in
    let is = c.in-Some.place.now in let L = c.in-Some-get.length.now in let b = c.in-Some-get-2.bounds.now in
    let leaves : c.deref-2.result.now ≡ chunk.leaves.value.items = c.deref-2.ensures.value ∙ ap (λ v. v.items) c.deref.ensures in
    let lengths : c.deref-4.result.now ≡ chunk.lengths.value.items = c.deref-4.ensures.value ∙ ap (λ v. v.items) c.deref-3.ensures in
    let bounds : c.deref-5.result.now ≡ chunk.bounds.items = c.deref-5.ensures.value in
    let inside : i < length chunk.bounds.items = subst (λ (bs : List ArrayStats). i < length bs) bounds c.in-Some-get-2.ensures.lookup.3.0 in
    let same_length : L ≡ get_or chunk.lengths.value.items i L = subst (λ (ns : List ℕ). L ≡ get_or ns i L) lengths c.in-Some-get.ensures.lookup.1 in
    let same_place : is ≡ get_or chunk.leaves.value.items i is = subst (λ (ls : List Positions). is ≡ get_or ls i is) leaves c.in-Some.ensures.lookup.1 in
    let same_bounds : b ≡ get_or chunk.bounds.items i b = subst (λ (bs : List ArrayStats). b ≡ get_or bs i b) bounds c.in-Some-get-2.ensures.lookup.1 in
    let k = array_type_of chunk.array in
    let here : IsBoundsOf (kind_at k is) L b (values_at is rows) = placed_bounds k chunk.lengths.value.items chunk.leaves.value.items chunk.bounds.items rows i L is b chunk.honest inside same_length same_place same_bounds in (
      kind_at k is,
      subst (λ n. IsBoundsOf (kind_at k is) n b (values_at c.args.leaf.now rows)) c.if-length-max_length.false
          (subst (λ js. IsBoundsOf (kind_at k is) L b (values_at js rows)) (positions_so is c.args.leaf.now (sym c.equals.ensures ∙ c.if-not-equals.false)) here),
    )
