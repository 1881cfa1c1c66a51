use Rattle.std.proofs.Common.{ap, sym, ◌∙◌, subst, [], map, is_none}
use Rattle.std.specs.List.{list_all}
use Rattle.vortex_dtype_core.specs.View.{type_of}
use Rattle.vortex_table_chunk.specs.Chunk.{row_count}
use Rattle.vortex_table_schema.specs.Leaves.{leaf_positions}
use Rattle.vortex_table_schema.specs.Lengths.{length_in}
use Rattle.vortex_table_zonemaps.specs.Stats.{zone_of}
use Rattle.vortex_table_zonemaps.specs.Zones.{AreZoneMaps}
use Rattle.vortex_table_core.specs.Group.{AreGroups}
use Rattle.vortex_table_chunk.specs.Formed.{is_formed}
use Rattle.vortex_table_chunk.proofs.EqualLeaves.{leaves_same}
use Rattle.vortex_table_chunk.proofs.Formed.{lengths_same}
use Rattle.vortex_table_core.proofs.table.Table.create.Goals as goal

pub invariant_of-result : goal.invariant_of-result
invariant_of-result c =
    let k = type_of c.args.dtype in let L = length_in c.in_ok-bound_lengths.bound_lengths in record {
      kept = ap is_none c.in_ok-check_type.ensures.ok;
      led = leaves_same c.in_ok-leaves.leaves.value.items (leaf_positions k) c.in_ok-leaves.ensures;
      measured = lengths_same L k c.in_ok-lengths.lengths.value.items
          (c.in_ok-lengths.ensures ∙ ap (map L) (c.deref-2.ensures.value ∙ ap (λ v. v.items) c.deref.ensures ∙ c.in_ok-leaves.ensures));
      formed = ap (list_all (is_formed L k)) c.new-2.ensures.items;
      counted = ap row_count c.new-2.ensures.items;
      grouped =
          subst (λ gs. AreGroups k L 0 gs c.new-2.result.items) (sym c.new-3.ensures)
          (subst (λ cs. AreGroups k L 0 [] cs) (sym c.new-2.ensures.items) tt);
      zoned = subst (λ cs. AreZoneMaps c.in_ok-zones.zones (map zone_of cs)) (sym c.new-2.ensures.items) c.in_ok-zones.ensures;
    }
