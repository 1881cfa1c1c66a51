use Rattle.std.proofs.Common.{◌+◌, sym, subst, map, take}
use Rattle.std.specs.List.{AllZip}
use Rattle.vortex_dtype_path.specs.View.{steps_of}
use Rattle.vortex_table_core.specs.TableView.{table_of}
use Rattle.vortex_table_laws.specs.Calls.{IsScanned}
use Rattle.vortex_table_laws.proofs.PartsScanned.{one_more}
use Rattle.vortex_table_laws.proofs.laws.scan_each.Goals as goal

pub loop-table-preserved : goal.loop-table-preserved
loop-table-preserved c =
    let tables = c.args.tables.now in let i = c.loop-table.table-index in
    let paths = map steps_of c.args.paths.now in let scanned = c.scan-found.ensures in
    subst (AllZip (λ table r. IsScanned (table_of table) paths c.args.predicate.now r)
    (take (i + 1) tables)) (sym c.in_ok-push.ensures.items)
    (one_more (λ table r. IsScanned (table_of table) paths c.args.predicate.now r) tables
    c.loop-table.all.items i c.table-item.result c.scan-found.result c.loop-table-test.true
    c.table-item.is c.loop-table.invariant (record {
      found = scanned.found;
      typed = scanned.typed;
      accepted = scanned.accepted;
      refused = scanned.refused;
    }))
