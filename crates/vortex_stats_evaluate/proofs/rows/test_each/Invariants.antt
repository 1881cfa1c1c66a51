use Rattle.std.proofs.Common.{◌≡◌, map, take}
use Rattle.vortex_arrays_model.specs.Layout.{rows_of}
use Rattle.vortex_stats_mask.specs.Wanted.{is_wanted}
use Rattle.vortex_stats_select.specs.Wants.{row_among, value_at}
use Rattle.vortex_stats_evaluate.proofs.rows.test_each.Given as goal

abbrev pub invariant-loop-i : goal.invariant-loop-i
invariant-loop-i l =
    l.mask.items
    ≡ map (λ row. is_wanted l.want (value_at l.predicate (row_among l.rows row)))
    (take l.i (rows_of l.array))
