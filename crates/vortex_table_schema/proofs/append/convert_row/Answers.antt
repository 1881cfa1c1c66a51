use Rattle.std.proofs.Common.{arith}
use Rattle.vortex_table_schema.proofs.append.convert_row.Goals as goal

pub returns-in-Err-NotConvertible : goal.returns-in-Err-NotConvertible
returns-in-Err-NotConvertible c = record {
  converts = tt;
  content = tt;
  valid = tt;
  refused = grind (arith, c.in-Err-NotConvertible.ensures.refused);
}
