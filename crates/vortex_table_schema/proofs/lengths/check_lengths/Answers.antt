use Rattle.std.proofs.Common.{[], rules}
use Rattle.vortex_model_table.specs.Command.{entries_fault}
use Rattle.vortex_dtype_core.specs.View.{type_of}
use Rattle.vortex_table_schema.specs.Error.{Explains}
use Rattle.vortex_table_schema.specs.Lengths.{entries_in}
use Rattle.vortex_table_schema.proofs.BoundEntries.{entry_refused, left_behind, kept_more, all_kept}
use Rattle.vortex_table_schema.proofs.lengths.check_lengths.Goals as goal

pub returns-in_err-push_entry-clause-refused : goal.returns-in_err-push_entry-clause-refused
returns-in_err-push_entry-clause-refused c =
    let k = type_of c.args.dtype.now in let lengths = c.args.lengths.now in let at = c.loop-index in
    let e = c.in_err-push_entry.field-0.0 in
    let why : Explains ⊥ (entries_fault 0 k [] (entries_in lengths)) e
    = entry_refused k lengths at.index c.index-lengths-index.result c.loop-index-test.true c.index-lengths-index.is at.entries.items (entries_fault 0 k [] (entries_in lengths)) e at.invariant.left
    c.in_err-push_entry.ensures.refused in
    let gives = c.from_residual-in_err-push_entry.ensures.1 in
    search (rules, why, gives)

pub loop-index-preserved : goal.loop-index-preserved
loop-index-preserved c =
    let k = type_of c.args.dtype.now in let lengths = c.args.lengths.now in let at = c.loop-index in
    let entry = c.index-lengths-index.result in let made = c.in_ok-push_entry.ensures in let new = c.push_entry.new.entries.items in record {
      kept = kept_more k lengths at.index entry c.loop-index-test.true c.index-lengths-index.is at.entries.items new made.pushed at.invariant.kept;
      left = left_behind k lengths at.index entry c.loop-index-test.true c.index-lengths-index.is at.entries.items (entries_fault 0 k [] (entries_in lengths)) new made.pushed made.accepted
          at.invariant.left;
    }

pub returns-clause-entries : goal.returns-clause-entries
returns-clause-entries c = all_kept (type_of c.args.dtype.now) c.args.lengths.now c.loop-index.index c.loop-index.entries.items c.loop-index-test.false c.loop-index.invariant.kept
