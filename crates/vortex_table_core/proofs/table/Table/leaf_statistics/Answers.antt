use Rattle.std.proofs.Common.{◌≡◌, ◌∙◌, ap, sym, subst, map, arith, Some, None}
use Rattle.std.specs.Prelude.{is_some, option_map}
use Rattle.vortex_dtype_core.specs.View.{type_of}
use Rattle.vortex_table_schema.specs.Leaves.{leaf_positions}
use Rattle.vortex_table_chunk.specs.BoundStat.{bounds_at}
use Rattle.vortex_table_chunk.specs.Chunk.{chunk_rows}
use Rattle.vortex_table_chunk.specs.Joined.{IsJoined}
use Rattle.vortex_table_core.specs.Group.{chunks_of}
use Rattle.vortex_table_core.proofs.Described.{leaf_has_bounds, leaf_joined}
use Rattle.vortex_table_chunk.proofs.EqualLeaves.{leaves_so}
use Rattle.vortex_table_core.proofs.JoinedGroups.{group_at, group_within, same_at}
use Rattle.vortex_table_core.proofs.Merged.{found_at}
use Rattle.vortex_table_schema.proofs.LeafPlaces.{leaf_part}
use Rattle.vortex_table_schema.specs.Lengths.{length_in}
use Rattle.vortex_table_core.proofs.table.Table.leaf_statistics.Goals as goal

pub statistics-requires-clause-inside : goal.statistics-requires-clause-inside
statistics-requires-clause-inside c =
    let t = c.args.self.now in let g = c.item-group.result.now in
    let is = group_at (type_of t.dtype) (length_in t.bound_lengths) t.chunks.items 0 t.groups t.grouped c.args.group g c.requires.group c.item-group.ensures in
    let w = group_within (type_of t.dtype) (length_in t.bound_lengths) g t.chunks.items is in let s = is.some in omega (arith, w, s)

pub statistics-requires-clause-group : goal.statistics-requires-clause-group
statistics-requires-clause-group c =
    let t = c.args.self.now in
    group_at (type_of t.dtype) (length_in t.bound_lengths) t.chunks.items 0 t.groups t.grouped c.args.group c.item-group.result.now c.requires.group c.item-group.ensures

pub unreachable-requires : goal.unreachable-requires
unreachable-requires c =
    let t = c.args.self.now in let k = type_of t.dtype in let place = c.args.place.now in
    let leaf = leaf_part k place c.requires.leaf in
    let leaves = c.deref-2.ensures.value ∙ ap (λ v. v.items) c.deref.ensures ∙ leaves_so t.leaves.value.items (leaf_positions k) t.led in
    let none : bounds_at (leaf_positions k) c.statistics.result.now place ≡ None =
    ap (λ ls. bounds_at ls c.statistics.result.now place) (sym leaves) ∙ sym c.bounds_at.ensures ∙ ap (option_map (λ found. found.now)) c.in_default.is in
    let some = leaf_has_bounds k (length_in t.bound_lengths) c.statistics.result.now (map chunk_rows (chunks_of t.chunks.items c.item-group.result.now)) place leaf.part leaf.there leaf.leaf c.statistics.ensures.joined in
    absurd (cc (some, ap is_some none))

pub returns-clause-joined : goal.returns-clause-joined
returns-clause-joined c = λ d.
    let t = c.args.self.now in let k = type_of t.dtype in let place = c.args.place.now in let g = c.item-group.result.now in
    let b = c.in-Some.bounds.now in
    let leaf = leaf_part k place c.requires.leaf in
    let leaves = c.deref-2.ensures.value ∙ ap (λ v. v.items) c.deref.ensures ∙ leaves_so t.leaves.value.items (leaf_positions k) t.led in
    let found : bounds_at (leaf_positions k) c.statistics.result.now place ≡ Some b =
    ap (λ ls. bounds_at ls c.statistics.result.now place) (sym leaves) ∙ sym c.bounds_at.ensures ∙ ap (option_map (λ found. found.now)) c.in-Some.is in
    subst (λ x. ∥ IsJoined k (length_in t.bound_lengths) place b (map chunk_rows (chunks_of t.chunks.items x)) ∥₁)
    (same_at t.groups c.args.group g g d c.requires.group c.item-group.ensures)
    (leaf_joined k (length_in t.bound_lengths) c.statistics.result.now (map chunk_rows (chunks_of t.chunks.items g)) place leaf.part leaf.there leaf.leaf c.statistics.ensures.joined b found)

pub returns-clause-own : goal.returns-clause-own
returns-clause-own c =
    let t = c.args.self.now in let k = type_of t.dtype in let place = c.args.place.now in let g = c.item-group.result.now in
    let b = c.in-Some.bounds.now in
    let leaves = c.deref-2.ensures.value ∙ ap (λ v. v.items) c.deref.ensures ∙ leaves_so t.leaves.value.items (leaf_positions k) t.led in
    let found : bounds_at (leaf_positions k) c.statistics.result.now place ≡ Some b =
    ap (λ ls. bounds_at ls c.statistics.result.now place) (sym leaves) ∙ sym c.bounds_at.ensures ∙ ap (option_map (λ found. found.now)) c.in-Some.is in
    found_at (leaf_positions k) place t.chunks.items t.groups c.args.group g c.statistics.result.now b c.requires.group c.item-group.ensures c.statistics.ensures.own found
