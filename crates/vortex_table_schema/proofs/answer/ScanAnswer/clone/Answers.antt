use Rattle.std.proofs.Common.{refl}
use Rattle.std.specs.List.{each_same}
use Rattle.vortex_table_schema.proofs.ClonedAnswers.{same_rows}
use Rattle.vortex_table_schema.proofs.answer.ScanAnswer.clone.Goals as goal

pub returns : goal.returns
returns c = record {
  rows = same_rows c.args.self.now.rows.items c.in_ok-rows.rows.items c.in_ok-rows.ensures.cases.0;
  dtype = c.in_ok-dtype.ensures.cases;
  skipped = each_same c.args.self.now.skipped.items c.in_ok-skipped.skipped.items c.in_ok-skipped.ensures.cases.0;
  whole = each_same c.args.self.now.whole.items c.in_ok-whole.whole.items c.in_ok-whole.ensures.cases.0;
  rows_tested = refl;
  proofs = refl;
}
