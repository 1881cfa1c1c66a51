use Rattle.std.proofs.Common.{Some, refl}
use Rattle.vortex_model.specs.Content.{raw_boolean}
use Rattle.vortex_table_columns.proofs.ColumnLemmas.{taken_more}
use Rattle.vortex_table_columns.proofs.column.ColumnBuilder.push_boolean.Goals as goal

pub returns-in_ok-push-in-Booleans : goal.returns-in_ok-push-in-Booleans
returns-in_ok-push-in-Booleans c =
    rw c.in-Booleans.is (
      raw_boolean c.args.truth,
      refl,
      record { kind = refl; cells = taken_more raw_boolean c.in-Booleans.cells.items c.push.new.self.items (Some c.args.truth) c.in_ok-push-in-Booleans.ensures.items },
    )
