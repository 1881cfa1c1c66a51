use Rattle.vortex_table_columns.proofs.NestedLemmas.{ColumnsLeft}
use Rattle.vortex_table_columns.proofs.nested.NestedBuilder.+new.Given as goal

abbrev pub invariant-of_fields-loop-field : goal.invariant-of_fields-loop-field
invariant-of_fields-loop-field l = ColumnsLeft l.fields l.field-index l.columns.items
