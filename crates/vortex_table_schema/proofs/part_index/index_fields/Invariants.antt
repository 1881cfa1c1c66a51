use Rattle.std.proofs.Common.{◌≤◌, drop, length}
use Rattle.vortex_dtype_core.specs.View.{fields_of}
use Rattle.vortex_table_schema.specs.PartIndex.{AreOf}
use Rattle.vortex_table_schema.proofs.part_index.index_fields.Given as goal

abbrev pub invariant-loop-rest : goal.invariant-loop-rest
invariant-loop-rest l = record {
  within : l.rest ≤ length l.fields;
  parts : AreOf l.index (fields_of (drop l.rest l.fields));
}

abbrev pub decreases-loop-rest : goal.decreases-loop-rest
decreases-loop-rest l = l.rest
