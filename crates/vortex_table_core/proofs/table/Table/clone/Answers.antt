use Rattle.std.proofs.Common.{◌≡◌, ◌∙◌, sym, ap, subst, ℕ, length, map, is_none}
use Rattle.std.specs.List.{AllZip, list_all}
use Rattle.vortex_model.specs.Kept.{type_fault}
use Rattle.vortex_model.specs.Path.{Positions}
use Rattle.vortex_model_table.specs.Table.{length_for}
use Rattle.vortex_dtype_core.specs.View.{type_of}
use Rattle.vortex_table_schema.specs.Leaves.{leaf_positions}
use Rattle.vortex_table_schema.specs.Lengths.{length_in}
use Rattle.vortex_table_chunk.specs.Chunk.{chunk_rows}
use Rattle.vortex_table_chunk.specs.Cloned.{IsCloneOf}
use Rattle.vortex_table_chunk.specs.Formed.{is_formed, eq_leaves, are_lengths_of}
use Rattle.vortex_table_chunk.specs.Joined.{rows_in}
use Rattle.vortex_table_chunk.proofs.ClonedLemmas.{all_own_formed, own_rows}
use Rattle.vortex_table_chunk.proofs.TypedRows.{all_counted}
use Rattle.vortex_table_zonemaps.specs.Stats.{zone_of}
use Rattle.vortex_table_zonemaps.specs.Zones.{AreZoneMaps}
use Rattle.vortex_table_core.specs.Group.{AreGroups}
use Rattle.vortex_table_core.specs.TableView.{table_of}
use Rattle.vortex_table_core.proofs.ClonedLemmas.{IsSameGroup, all_same, groups_same, own_arrays, own_bounds, own_groups, own_sizes, own_statistics}
use Rattle.vortex_table_core.proofs.Rearrayed.{groups_again}
use Rattle.vortex_table_core.proofs.table.Table.clone.Goals as goal

pub invariant_of-result : goal.invariant_of-result
invariant_of-result c =
    let t = c.args.self.now in let k = type_of t.dtype in let L = length_in t.bound_lengths in
    let l = type_of c.in_ok-dtype.dtype in let M = length_in c.in_ok-bound_lengths.bound_lengths in
    let old = t.chunks.items in let new = c.in_ok-chunks.chunks.items in let groups = c.in_ok-groups.groups in
    let z : AllZip IsCloneOf old new = c.in_ok-chunks.ensures.cases.0 in
    let s : AllZip IsSameGroup t.groups groups = groups_same _ (λ g h r. r.0) (λ g h r. r.1.0) (λ g h r. r.1.1.0) (λ g h v w r. r.1.1.1.0) (λ g h v r. r.1.1.1) (λ g h v r. r.1.1.1) t.groups groups c.in_ok-groups.ensures in
    let kind : l ≡ k = c.in_ok-dtype.ensures.cases in
    let bound = c.in_ok-bound_lengths.bound_lengths in let says = c.in_ok-bound_lengths.ensures.cases in
    let entries : bound.entries.items ≡ t.bound_lengths.entries.items =
    all_same _ (λ x y r. sym r.3 ∙ (λ i. (all_same _ (λ a b e. e) _ _ r.4.0.0 i, r.4.1 i)) ∙ r.2) t.bound_lengths.entries.items bound.entries.items says.1.0 in
    let far : M ≡ L = λ i. length_for (entries i) (says.0 i) in
    let leaves : c.in_ok-leaves.leaves.value.items ≡ t.leaves.value.items = ap (λ v. v.items) c.in_ok-leaves.ensures.cases in
    let lengths : c.in_ok-lengths.lengths.value.items ≡ t.lengths.value.items = ap (λ v. v.items) c.in_ok-lengths.ensures.cases in
    record {
      kept = ap (λ x. is_none (type_fault x)) kind ∙ t.kept;
      led = (λ i. eq_leaves (leaves i) (leaf_positions (kind i))) ∙ t.led;
      measured = (λ i. are_lengths_of (far i) (kind i) (lengths i)) ∙ t.measured;
      formed = (λ i. list_all (is_formed (far i) (kind i)) new) ∙ all_own_formed L k old new z ∙ t.formed;
      counted = sym (all_counted new) ∙ ap rows_in (own_rows old new z) ∙ all_counted old ∙ t.counted;
      grouped = subst (λ x. AreGroups x M 0 groups new) (sym kind) (subst (λ f. AreGroups k f 0 groups new) (sym far)
          (own_groups k L 0 t.groups groups new s (groups_again k L 0 t.groups old new (own_rows old new z) t.grouped)));
      zoned = subst (λ cs. AreZoneMaps c.in_ok-zones.zones (map zone_of cs)) c.deref-3.ensures.value c.in_ok-zones.ensures;
    }

pub returns : goal.returns
returns c =
    let t = c.args.self.now in
    let old = t.chunks.items in let new = c.in_ok-chunks.chunks.items in let groups = c.in_ok-groups.groups in
    let z : AllZip IsCloneOf old new = c.in_ok-chunks.ensures.cases.0 in
    let s : AllZip IsSameGroup t.groups groups = groups_same _ (λ g h r. r.0) (λ g h r. r.1.0) (λ g h r. r.1.1.0) (λ g h v w r. r.1.1.1.0) (λ g h v r. r.1.1.1) (λ g h v r. r.1.1.1) t.groups groups c.in_ok-groups.ensures in
    let bound = c.in_ok-bound_lengths.bound_lengths in let says = c.in_ok-bound_lengths.ensures.cases in
    let entries : bound.entries.items ≡ t.bound_lengths.entries.items =
    all_same _ (λ x y r. sym r.3 ∙ (λ i. (all_same _ (λ a b e. e) _ _ r.4.0.0 i, r.4.1 i)) ∙ r.2) t.bound_lengths.entries.items bound.entries.items says.1.0 in
    record {
      table = λ i. record {
        kind = c.in_ok-dtype.ensures.cases i;
        default = says.0 i;
        lengths = entries i;
        chunks = own_rows old new z i;
        groups = own_sizes t.groups groups s i;
      };
      arrays = own_arrays old new z;
      chunks = own_bounds old new z;
      groups = own_statistics t.groups groups old new s z;
    }
