use Rattle.std.proofs.Common.{map, take}
use Rattle.std.specs.List.{AllZip}
use Rattle.vortex_dtype_path.specs.View.{steps_of}
use Rattle.vortex_table_core.specs.TableView.{table_of}
use Rattle.vortex_table_laws.specs.Calls.{IsScanned}
use Rattle.vortex_table_laws.proofs.laws.scan_each.Given as goal

abbrev pub invariant-loop-table : goal.invariant-loop-table
invariant-loop-table l = AllZip
    (λ table r. IsScanned (table_of table) (map steps_of l.paths) l.predicate r)
    (take l.table-index l.tables) l.all.items
