use Rattle.std.proofs.Common.{◌≡◌, ◌≤◌, true, drop, length}
use Rattle.vortex_model.specs.Kept.{names_distinct}
use Rattle.vortex_dtype_core.specs.View.{fields_of}
use Rattle.vortex_table_schema.proofs.Distinct.{IsSeen}
use Rattle.vortex_table_schema.proofs.type_fault.has_repeated_name.Given as goal

abbrev pub invariant-loop-rest : goal.invariant-loop-rest
invariant-loop-rest l = record {
  within : l.rest ≤ length l.fields;
  seen : IsSeen l.seen (drop l.rest l.fields);
  distinct : names_distinct (fields_of (drop l.rest l.fields)) ≡ true;
}

abbrev pub decreases-loop-rest : goal.decreases-loop-rest
decreases-loop-rest l = l.rest
