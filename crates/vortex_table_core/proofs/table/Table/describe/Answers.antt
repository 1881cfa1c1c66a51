use Rattle.std.proofs.Common.{◌≡◌, ◌<◌, Some, refl, sym, ◌∙◌, subst, map, length, get_or, arith}
use Rattle.std.proofs.lemmas.Grind.{common_steps}
use Rattle.vortex_dtype_core.specs.View.{type_of}
use Rattle.vortex_model_table.specs.Reply.{Describes}
use Rattle.vortex_model_table.specs.Scan.{kind_at}
use Rattle.vortex_table_plan.specs.Described.{IsOfLeaf}
use Rattle.vortex_table_chunk.specs.Chunk.{chunk_rows}
use Rattle.vortex_table_chunk.specs.Joined.{IsJoined}
use Rattle.vortex_stats_array.specs.Zones.{zone_in}
use Rattle.vortex_table_core.specs.Group.{chunks_of}
use Rattle.vortex_table_core.specs.Statistics.{statistics_at}
use Rattle.vortex_table_core.specs.TableView.{table_of}
use Rattle.vortex_table_core.proofs.Described.{chunks_typed, column_described}
use Rattle.vortex_table_plan.proofs.DescribedBounds.{leaf_bounds, joined_types}
use Rattle.vortex_table_core.proofs.JoinedGroups.{same_at}
use Rattle.vortex_table_schema.proofs.LeafPlaces.{leaf_part, one_of}
use Rattle.vortex_table_schema.specs.Lengths.{length_in}
use Rattle.vortex_table_core.proofs.table.Table.describe.Goals as goal

pub returns-clause-described : goal.returns-clause-described
returns-clause-described c =
    let t = c.args.self.now in let k = type_of t.dtype in let i = c.args.group in let all = t.groups in
    let inside : i < length all = grind (arith, common_steps) in
    let d = one_of all i inside in let g = get_or all i d in
    let at_i = same_at all i g d g inside refl in
    let place = c.in_ok-place.place.items in
    let leaf = leaf_part k place c.in_ok-place.ensures.leaf in
    let b = c.leaf_statistics-statistics.result.now in
    let rows = map chunk_rows (chunks_of t.chunks.items g) in
    let z = zone_in b in
    let joined : ∥ IsJoined k (length_in t.bound_lengths) place b rows ∥₁ =
    subst (λ is. ∥ IsJoined k (length_in t.bound_lengths) is b rows ∥₁) c.deref.ensures.value (c.leaf_statistics-statistics.ensures.joined d) in (
      z,
      subst (λ is. Describes (table_of t) is i z) (sym c.in_ok-place.ensures.place)
          (column_described t i g inside at_i place leaf.part b leaf.there leaf.leaf joined),
      c.in_ok-description.ensures.described
          (leaf_bounds k (length_in t.bound_lengths) place leaf.part b rows leaf.there leaf.leaf (chunks_typed t i g inside at_i) joined),
    )

pub returns-clause-statistics : goal.returns-clause-statistics
returns-clause-statistics c =
    let t = c.args.self.now in let k = type_of t.dtype in let i = c.args.group in let all = t.groups in
    let inside : i < length all = grind (arith, common_steps) in
    let d = one_of all i inside in let g = get_or all i d in
    let at_i = same_at all i g d g inside refl in
    let place = c.in_ok-place.place.items in
    let leaf = leaf_part k place c.in_ok-place.ensures.leaf in
    let b = c.leaf_statistics-statistics.result.now in
    let rows = map chunk_rows (chunks_of t.chunks.items g) in
    let joined : ∥ IsJoined k (length_in t.bound_lengths) place b rows ∥₁ =
    subst (λ is. ∥ IsJoined k (length_in t.bound_lengths) is b rows ∥₁) c.deref.ensures.value (c.leaf_statistics-statistics.ensures.joined d) in
    let bounds = leaf_bounds k (length_in t.bound_lengths) place leaf.part b rows leaf.there leaf.leaf (chunks_typed t i g inside at_i) joined in (
      b,
      subst (λ is. statistics_at t is i ≡ Some b) (c.deref.ensures.value ∙ sym c.in_ok-place.ensures.place) c.leaf_statistics-statistics.ensures.own,
      record { contents = c.in_ok-description.ensures.described bounds; types = c.in_ok-description.ensures.types },
    )

pub returns-clause-types : goal.returns-clause-types
returns-clause-types c =
    let t = c.args.self.now in let k = type_of t.dtype in let i = c.args.group in let all = t.groups in
    let inside : i < length all = grind (arith, common_steps) in
    let d = one_of all i inside in let place = c.in_ok-place.place.items in
    let leaf = leaf_part k place c.in_ok-place.ensures.leaf in
    let b = c.leaf_statistics-statistics.result.now in
    let rows = map chunk_rows (chunks_of t.chunks.items (get_or all i d)) in
    let joined : ∥ IsJoined k (length_in t.bound_lengths) place b rows ∥₁ =
    subst (λ is. ∥ IsJoined k (length_in t.bound_lengths) is b rows ∥₁) c.deref.ensures.value (c.leaf_statistics-statistics.ensures.joined d) in
    subst (λ is. IsOfLeaf (kind_at k is) c.in_ok-description.description) (sym c.in_ok-place.ensures.place)
    (joined_types k (length_in t.bound_lengths) place leaf.part b rows c.in_ok-description.description leaf.there leaf.leaf joined c.in_ok-description.ensures.types)
