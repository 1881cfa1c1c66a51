use Rattle.std.proofs.Common.{◌≡◌, ap, length, arith}
use Rattle.vortex_table_select.specs.Selected.{rows_in, cut_rows}
use Rattle.vortex_table_core.proofs.plan.Scan.run.Goals as goal

pub add_all-requires-clause-typed : goal.add_all-requires-clause-typed
add_all-requires-clause-typed c = let none : length c.new.result.items ≡ 0 = ap length c.new.ensures.items in λ j d inside. absurd (omega (arith, inside, none))

pub add_all-requires-clause-none : goal.add_all-requires-clause-none
add_all-requires-clause-none c =
    let plan = c.args.self.now in λ i. record {
      rows = cut_rows plan.prepared.now.cut (rows_in (c.new.ensures.items i));
      kind = c.requires.prepared.cut_kind i;
      skipped = c.in_ok-skipped.ensures.items i;
      whole = c.new-2.ensures.items i;
      rows_tested = 0;
      proofs = 0;
    }
