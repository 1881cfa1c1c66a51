use Rattle.std.proofs.Common.{◌≡◌, ◌∙◌, sym, ap, subst, map}
use Rattle.vortex_dtype_core.specs.View.{type_of}
use Rattle.vortex_arrays_model.specs.Layout.{rows_of}
use Rattle.vortex_table_schema.specs.Lengths.{length_in}
use Rattle.vortex_table_chunk.specs.Chunk.{chunk_rows}
use Rattle.vortex_table_chunk.specs.Joined.{rows_in}
use Rattle.vortex_table_chunk.specs.declared.chunk.Chunk.{Chunk}
use Rattle.vortex_table_chunk.proofs.TypedRows.{all_counted}
use Rattle.vortex_table_zonemaps.specs.Zones.{AreZoneMaps}
use Rattle.vortex_table_core.specs.Arrays.{AreAllCompacted}
use Rattle.vortex_table_core.specs.TableView.{table_of}
use Rattle.vortex_table_core.proofs.Rearrayed.{rows_again, arrays_again, bounds_again, zones_again, formed_again, groups_again, rows_fused, kinds_fused}
use Rattle.vortex_table_core.proofs.table.Table.compact.Goals as goal

pub put_arrays-requires-clause-rows : goal.put_arrays-requires-clause-rows
put_arrays-requires-clause-rows c = c.in_ok-arrays.ensures.rows ∙ rows_fused c.args.self.now.chunks.items

pub put_arrays-requires-clause-types : goal.put_arrays-requires-clause-types
put_arrays-requires-clause-types c = c.in_ok-arrays.ensures.types ∙ kinds_fused c.args.self.now.chunks.items

pub invariant_of-self : goal.invariant_of-self
invariant_of-self c =
    let t = c.args.self.now in let k = type_of t.dtype in let L = length_in t.bound_lengths in
    let old = t.chunks.items in let arrays = c.in_ok-arrays.arrays.items in let new = c.put_arrays.new.chunks.items in
    let w = c.put_arrays.ensures in
    let rows : map rows_of arrays ≡ map chunk_rows old = c.in_ok-arrays.ensures.rows ∙ rows_fused old in
    let same : map chunk_rows new ≡ map chunk_rows old = rows_again old arrays new w ∙ rows in
    record {
      kept = t.kept;
      led = t.led;
      measured = t.measured;
      formed = formed_again k L old arrays new w rows (c.in_ok-arrays.ensures.types ∙ kinds_fused old) t.formed;
      counted = sym (all_counted new) ∙ ap rows_in same ∙ all_counted old ∙ t.counted;
      grouped = groups_again k L 0 t.groups old new same t.grouped;
      zoned = subst (AreZoneMaps t.zones) (sym (zones_again old arrays new w same)) t.zoned;
    }

pub returns-clause-compacted : goal.returns-clause-compacted
returns-clause-compacted c =
    let old = c.args.self.now.chunks.items in
    subst (AreAllCompacted (map (λ (x : Chunk). x.array) old)) (sym (arrays_again old c.in_ok-arrays.arrays.items c.put_arrays.new.chunks.items c.put_arrays.ensures)) c.in_ok-arrays.ensures.compacted

pub returns-clause-rows : goal.returns-clause-rows
returns-clause-rows c =
    let t = c.args.self.now in let old = t.chunks.items in let arrays = c.in_ok-arrays.arrays.items in let new = c.put_arrays.new.chunks.items in
    let same : map chunk_rows new ≡ map chunk_rows old = rows_again old arrays new c.put_arrays.ensures ∙ c.in_ok-arrays.ensures.rows ∙ rows_fused old in
    λ i. record {
      kind = (table_of t).kind;
      default = (table_of t).default;
      lengths = (table_of t).lengths;
      chunks = same i;
      groups = (table_of t).groups;
    }

pub returns-clause-statistics : goal.returns-clause-statistics
returns-clause-statistics c = bounds_again c.args.self.now.chunks.items c.in_ok-arrays.arrays.items c.put_arrays.new.chunks.items c.put_arrays.ensures
