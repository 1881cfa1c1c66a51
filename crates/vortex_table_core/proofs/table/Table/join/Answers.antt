use Rattle.std.proofs.Common.{◌≡◌, sym, ap, subst, ◌∙◌, ℕ, ◌+◌, ◌<◌, ◌++◌, List, map, suc, take, drop, get_or, length, add-one, arith}
use Rattle.std.specs.Prelude.{slice_set}
use Rattle.vortex_model_table.specs.Command.{joined_at}
use Rattle.vortex_dtype_core.specs.View.{type_of}
use Rattle.vortex_table_core.specs.Group.{AreGroups, IsOneGroup}
use Rattle.vortex_table_core.specs.Statistics.{statistics_in, AreMerged, AreMergedAt, IsMergedGroup}
use Rattle.vortex_table_core.specs.TableView.{table_of}
use Rattle.vortex_table_core.specs.declared.group.Group.{Group}
use Rattle.vortex_table_core.specs.declared.table.Table.{Table}
use Rattle.vortex_table_core.proofs.JoinedGroups.{with_one, edited, sizes_joined, groups_replaced}
use Rattle.vortex_table_core.proofs.Merged.{merged_at}
use Rattle.vortex_table_schema.specs.Leaves.{leaf_positions}
use Rattle.vortex_table_schema.specs.Lengths.{length_in}
use Rattle.vortex_table_core.proofs.table.Table.join.Goals as goal

-- the groups with one in place of two
module _ (t : Table) (i : ℕ) (g : Group) (mid new : List Group) (inside : suc i < length t.groups) (set : mid ≡ slice_set t.groups i g) (removed : new ≡ take (i + 1) mid ++ drop (i + 1 + 1) mid)
    (one : IsOneGroup (type_of t.dtype) (length_in t.bound_lengths) t.groups i t.chunks.items g) where
  is_with_one : new ≡ with_one (type_of t.dtype) (length_in t.bound_lengths) t.chunks.items i g t.groups
  is_with_one =
      removed ∙ (λ j. take (add-one i j) (set j) ++ drop ((add-one (i + 1) ∙ ap suc (add-one i)) j) (set j))
      ∙ edited (type_of t.dtype) (length_in t.bound_lengths) t.chunks.items i g t.groups inside

  counted : g.chunks ≡ (get_or t.groups i g).chunks + (get_or t.groups (suc i) g).chunks
  counted = one.count ∙ ap (λ n. (get_or t.groups i g).chunks + (get_or t.groups n g).chunks) (add-one i)

  new_groups : AreGroups (type_of t.dtype) (length_in t.bound_lengths) 0 new t.chunks.items
  new_groups =
      subst (λ gs. AreGroups (type_of t.dtype) (length_in t.bound_lengths) 0 gs t.chunks.items) (sym is_with_one)
      (groups_replaced (type_of t.dtype) (length_in t.bound_lengths) t.chunks.items 0 i g t.groups inside t.grouped one.first counted one.group)

  new_sizes : map (λ (x : Group). x.chunks) new ≡ joined_at i (map (λ (x : Group). x.chunks) t.groups)
  new_sizes = ap (map (λ (x : Group). x.chunks)) is_with_one ∙ sizes_joined (type_of t.dtype) (length_in t.bound_lengths) t.chunks.items i g t.groups inside counted

  new_statistics : IsMergedGroup (type_of t.dtype) t.groups i t.chunks.items g → AreMergedAt (type_of t.dtype) i (map (statistics_in t.chunks.items) t.groups) (map (statistics_in t.chunks.items) new)
  new_statistics merged =
      subst (λ gs. AreMergedAt (type_of t.dtype) i (map (statistics_in t.chunks.items) t.groups) (map (statistics_in t.chunks.items) gs)) (sym is_with_one)
      (merged_at (type_of t.dtype) (length_in t.bound_lengths) t.chunks.items i g t.groups inside
      (subst (λ n. AreMerged (type_of t.dtype) (leaf_positions (type_of t.dtype)) (statistics_in t.chunks.items (get_or t.groups i g)) (statistics_in t.chunks.items (get_or t.groups n g)) (statistics_in t.chunks.items g))
      (add-one i) merged))

pub invariant_of-self-clause-grouped : goal.invariant_of-self-clause-grouped
invariant_of-self-clause-grouped c =
    let t = c.args.self.now in
    let size = c.len.ensures in let again = c.len-else-len-lt2.ensures in
    let inside : suc c.args.index < length t.groups = omega (arith, size, again, c.if-len-lt2.false, c.if-index-len.false) in
    new_groups t c.args.index c.in_ok-joined.joined c.replace.new.self c.remove.new.self inside c.replace.ensures c.remove.ensures c.in_ok-joined.ensures.group

pub returns-clause-joined : goal.returns-clause-joined
returns-clause-joined c =
    let t = c.args.self.now in
    let size = c.len.ensures in let again = c.len-else-len-lt2.ensures in
    let inside : suc c.args.index < length t.groups = omega (arith, size, again, c.if-len-lt2.false, c.if-index-len.false) in
    λ i. record {
      kind = (table_of t).kind;
      default = (table_of t).default;
      lengths = (table_of t).lengths;
      chunks = (table_of t).chunks;
      groups = new_sizes t c.args.index c.in_ok-joined.joined c.replace.new.self c.remove.new.self inside c.replace.ensures c.remove.ensures c.in_ok-joined.ensures.group i;
    }

pub returns-clause-statistics : goal.returns-clause-statistics
returns-clause-statistics c =
    let t = c.args.self.now in
    let size = c.len.ensures in let again = c.len-else-len-lt2.ensures in
    let inside : suc c.args.index < length t.groups = omega (arith, size, again, c.if-len-lt2.false, c.if-index-len.false) in
    new_statistics t c.args.index c.in_ok-joined.joined c.replace.new.self c.remove.new.self inside c.replace.ensures c.remove.ensures c.in_ok-joined.ensures.group c.in_ok-joined.ensures.merged
