use Rattle.std.proofs.Common.{None}
use Rattle.vortex_table_columns.proofs.ColumnLemmas.{number_taken}
use Rattle.vortex_table_columns.proofs.column.ColumnBuilder.push_null.Goals as goal

pub returns-in_ok-push-in-Integers : goal.returns-in_ok-push-in-Integers
returns-in_ok-push-in-Integers c = rw c.in-Integers.is (number_taken c.in-Integers.field-0 c.in-Integers.cells c.push-in-Integers.new.self None c.in_ok-push-in-Integers.ensures)
