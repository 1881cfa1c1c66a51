use Rattle.std.proofs.Common.{sym, subst}
use Rattle.vortex_arrays_model.specs.Layout.{array_type_of, rows_of}
use Rattle.vortex_table_chunk.specs.Bounds.{AreBoundsOf}
use Rattle.vortex_table_chunk.specs.Kept.{AreKeptOf}
use Rattle.vortex_table_chunk.proofs.TypedRows.{rows_pass}
use Rattle.vortex_table_core.proofs.arrays.put_array.Goals as goal

pub invariant_of-chunk : goal.invariant_of-chunk
invariant_of-chunk c =
    let chunk = c.args.chunk.now in
    record {
      sound = ∣ c.len-rows.ensures.sound ∣₁;
      typed = rows_pass c.args.array c.tests_of_validity_are_right.ensures c.len-rows.ensures.sound;
      honest = subst (λ k. AreBoundsOf k chunk.lengths.value.items chunk.leaves.value.items chunk.bounds.items (rows_of c.args.array)) (sym c.requires.kind)
          (subst (AreBoundsOf (array_type_of chunk.array) chunk.lengths.value.items chunk.leaves.value.items chunk.bounds.items) (sym c.requires.rows) chunk.honest);
      kept = subst (λ columns. AreKeptOf chunk.leaves.value.items columns (rows_of c.args.array)) (sym c.clear.ensures.items) tt;
      counted = c.len-rows.ensures.count;
    }
