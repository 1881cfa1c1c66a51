use Rattle.std.proofs.Common.{◌≡◌, [], map, take, drop}
use Rattle.vortex_model_table.specs.Command.{entries_fault}
use Rattle.vortex_dtype_core.specs.View.{type_of}
use Rattle.vortex_table_schema.specs.Lengths.{entries_in}
use Rattle.vortex_table_schema.proofs.BoundEntries.{backwards, kept_entry}
use Rattle.vortex_table_schema.proofs.lengths.check_lengths.Given as goal

abbrev pub invariant-loop-index : goal.invariant-loop-index
invariant-loop-index l = record {
  kept : l.entries.items ≡ map (kept_entry (type_of l.dtype)) (take l.index l.lengths);
  left : entries_fault l.index (type_of l.dtype) (backwards [] l.entries.items) (entries_in (drop l.index l.lengths)) ≡ entries_fault 0 (type_of l.dtype) [] (entries_in l.lengths);
}
