use Rattle.std.proofs.Common.{◌≡◌, refl, ap, ◌∙◌, subst, ℕ, ◌+◌, ◌<◌, ◌≤◌, get_or, length, map, add-one, Some, arith}
use Rattle.vortex_dtype_core.specs.View.{type_of}
use Rattle.vortex_table_chunk.specs.Chunk.{chunk_rows}
use Rattle.vortex_table_chunk.specs.Formed.{is_formed}
use Rattle.vortex_table_chunk.proofs.JoinedLemmas.{groups_can_join}
use Rattle.vortex_table_chunk.proofs.TypedRows.{all_said}
use Rattle.vortex_table_schema.specs.Leaves.{leaf_positions}
use Rattle.vortex_table_core.specs.Group.{IsGroup, chunks_of}
use Rattle.vortex_table_core.specs.Statistics.{statistics_in, AreMerged}
use Rattle.vortex_table_core.specs.declared.group.Group.{Group}
use Rattle.vortex_table_core.specs.declared.table.Table.{Table}
use Rattle.vortex_table_core.proofs.JoinedGroups.{group_at, group_within, next_first, few_rows, one_group, same_at}
use Rattle.vortex_table_core.proofs.Groups.{formed_in}
use Rattle.vortex_table_core.proofs.Merged.{all_merged}
use Rattle.vortex_table_core.proofs.Walked.{few_groups}
use Rattle.vortex_table_schema.specs.Lengths.{length_in}
use Rattle.vortex_table_core.proofs.table.Table.joined_group.Goals as goal

-- two neighbouring groups of a table
module _ (t : Table) (i : ℕ) (a b : Group) (inside : i + 1 < length t.groups) (at_a : a ≡ get_or t.groups i a) (at_b : b ≡ get_or t.groups (i + 1) b) where
  left_is : IsGroup (type_of t.dtype) (length_in t.bound_lengths) a (chunks_of t.chunks.items a)
  left_is = group_at (type_of t.dtype) (length_in t.bound_lengths) t.chunks.items 0 t.groups t.grouped i a (omega (arith, inside)) at_a

  right_is : IsGroup (type_of t.dtype) (length_in t.bound_lengths) b (chunks_of t.chunks.items b)
  right_is = group_at (type_of t.dtype) (length_in t.bound_lengths) t.chunks.items 0 t.groups t.grouped (i + 1) b inside at_b

  next_is : b.first ≡ a.first + a.chunks
  next_is =
      next_first (type_of t.dtype) (length_in t.bound_lengths) t.chunks.items 0 t.groups t.grouped i a b (let h = add-one i in omega (arith, inside, h)) at_a
      (subst (λ n. b ≡ get_or t.groups n b) (add-one i) at_b)

  left_inside : a.first < length t.chunks.items
  left_inside = let w = group_within (type_of t.dtype) (length_in t.bound_lengths) a t.chunks.items left_is in let s = left_is.some in omega (arith, w, s)

  right_inside : b.first < length t.chunks.items
  right_inside = let w = group_within (type_of t.dtype) (length_in t.bound_lengths) b t.chunks.items right_is in let s = right_is.some in omega (arith, w, s)

  few_chunks : a.chunks + b.chunks ≤ length t.chunks.items
  few_chunks = let w = group_within (type_of t.dtype) (length_in t.bound_lengths) b t.chunks.items right_is in let n = next_is in omega (arith, w, n)

  few : a.rows + b.rows ≤ t.len
  few = let r = few_rows (type_of t.dtype) (length_in t.bound_lengths) t.chunks.items a b left_is right_is next_is in let n = t.counted in omega (arith, r, n)

pub statistics-requires-clause-inside : goal.statistics-requires-clause-inside
statistics-requires-clause-inside c = left_inside c.args.self.now c.args.index c.item-left.result.now c.item-right.result.now c.requires c.item-left.ensures c.item-right.ensures

pub statistics-requires-clause-group : goal.statistics-requires-clause-group
statistics-requires-clause-group c = left_is c.args.self.now c.args.index c.item-left.result.now c.item-right.result.now c.requires c.item-left.ensures c.item-right.ensures

pub statistics-requires-2-clause-inside : goal.statistics-requires-2-clause-inside
statistics-requires-2-clause-inside c = right_inside c.args.self.now c.args.index c.item-left.result.now c.item-right.result.now c.requires c.item-left.ensures c.item-right.ensures

pub statistics-requires-2-clause-group : goal.statistics-requires-2-clause-group
statistics-requires-2-clause-group c = right_is c.args.self.now c.args.index c.item-left.result.now c.item-right.result.now c.requires c.item-left.ensures c.item-right.ensures

pub join_bounds-requires : goal.join_bounds-requires
join_bounds-requires c =
    let t = c.args.self.now in let a = c.item-left.result.now in let b = c.item-right.result.now in
    let p = left_is t c.args.index a b c.requires c.item-left.ensures c.item-right.ensures in
    let q = right_is t c.args.index a b c.requires c.item-left.ensures c.item-right.ensures in
    let rows = few t c.args.index a b c.requires c.item-left.ensures c.item-right.ensures in
    let first = p.rows in let second = q.rows in
    groups_can_join (type_of t.dtype) (length_in t.bound_lengths) (map chunk_rows (chunks_of t.chunks.items a)) (map chunk_rows (chunks_of t.chunks.items b)) (leaf_positions (type_of t.dtype))
    c.statistics.result.now c.statistics-2.result.now (omega (arith, rows, first, second)) c.statistics.ensures.joined c.statistics-2.ensures.joined

pub overflow_add-index : goal.overflow_add-index
overflow_add-index c =
    let t = c.args.self.now in let few = few_groups (type_of t.dtype) (length_in t.bound_lengths) 0 t.groups t.chunks.items t.grouped in
    let h = c.requires in let same = t.chunks.ok.0 in let held = t.chunks.ok.1 in let small = t.chunks.small in omega (arith, few, h, same, held, small)

pub overflow_add-result : goal.overflow_add-result
overflow_add-result c =
    let n = few_chunks c.args.self.now c.args.index c.item-left.result.now c.item-right.result.now c.requires c.item-left.ensures c.item-right.ensures in
    let t = c.args.self.now in let same = t.chunks.ok.0 in let held = t.chunks.ok.1 in let small = t.chunks.small in omega (arith, n, same, held, small)

pub overflow_add-result-2 : goal.overflow_add-result-2
overflow_add-result-2 c =
    let n = few c.args.self.now c.args.index c.item-left.result.now c.item-right.result.now c.requires c.item-left.ensures c.item-right.ensures in omega (arith, n)

pub returns-clause-group : goal.returns-clause-group
returns-clause-group c =
    let t = c.args.self.now in let a = c.item-left.result.now in let b = c.item-right.result.now in let k = type_of t.dtype in
    let p = left_is t c.args.index a b c.requires c.item-left.ensures c.item-right.ensures in
    let q = right_is t c.args.index a b c.requires c.item-left.ensures c.item-right.ensures in
    let next = next_is t c.args.index a b c.requires c.item-left.ensures c.item-right.ensures in
    let inside : c.args.index < length t.groups = (let h = c.requires in omega (arith, h)) in
    let one : Group = record {
      first = a.first;
      chunks = a.chunks + b.chunks;
      rows = a.rows + b.rows;
      joined = Some c.in_ok-joined.joined;
    } in record {
      first = ap (λ (g : Group). g.first) (same_at t.groups c.args.index a a one inside c.item-left.ensures);
      count = (λ i. (same_at t.groups c.args.index a a one inside c.item-left.ensures i).chunks + (same_at t.groups (c.args.index + 1) b b one c.requires c.item-right.ensures i).chunks);
      group = one_group k (length_in t.bound_lengths) t.chunks.items a b one c.statistics.result.now c.statistics-2.result.now c.in_ok-joined.joined.items t.formed p q next
          c.statistics.ensures.joined c.statistics-2.ensures.joined c.in_ok-joined.ensures refl refl refl refl;
    }

pub returns-clause-merged : goal.returns-clause-merged
returns-clause-merged c =
    let t = c.args.self.now in let a = c.item-left.result.now in let b = c.item-right.result.now in let k = type_of t.dtype in let L = length_in t.bound_lengths in
    let chunks = t.chunks.items in
    let inside : c.args.index < length t.groups = (let h = c.requires in omega (arith, h)) in
    let one : Group = record {
      first = a.first;
      chunks = a.chunks + b.chunks;
      rows = a.rows + b.rows;
      joined = Some c.in_ok-joined.joined;
    } in
    let left : c.statistics.result.now ≡ statistics_in chunks (get_or t.groups c.args.index one)
    = c.statistics.ensures.own ∙ ap (statistics_in chunks) (same_at t.groups c.args.index a a one inside c.item-left.ensures) in
    let right : c.statistics-2.result.now ≡ statistics_in chunks (get_or t.groups (c.args.index + 1) one)
    = c.statistics-2.ensures.own ∙ ap (statistics_in chunks) (same_at t.groups (c.args.index + 1) b b one c.requires c.item-right.ensures) in
    let merged : AreMerged k (leaf_positions k) c.statistics.result.now c.statistics-2.result.now c.in_ok-joined.joined.items =
    all_merged k L (map chunk_rows (chunks_of chunks a)) (map chunk_rows (chunks_of chunks b))
    (all_said L k (chunks_of chunks a) (formed_in (is_formed L k) a chunks t.formed)) (all_said L k (chunks_of chunks b) (formed_in (is_formed L k) b chunks t.formed))
    (leaf_positions k) c.statistics.result.now c.statistics-2.result.now c.in_ok-joined.joined.items c.statistics.ensures.joined c.statistics-2.ensures.joined c.in_ok-joined.ensures in
    subst (λ x. AreMerged k (leaf_positions k) x (statistics_in chunks (get_or t.groups (c.args.index + 1) one)) c.in_ok-joined.joined.items) left
    (subst (λ y. AreMerged k (leaf_positions k) c.statistics.result.now y c.in_ok-joined.joined.items) right merged)
