use Rattle.std.proofs.Common.{◌≡◌, ◌-◌, ◌^◌, map, min, sum_by}
use Rattle.std.specs.List.{range_with_len}
use Rattle.vortex_arrays_model.specs.Layout.{content_at, number_in}
use Rattle.vortex_arrays_nested.proofs.bounds.rows_total.Given as goal

abbrev pub invariant-loop-i : goal.invariant-loop-i
invariant-loop-i l = l.total ≡ min (sum_by number_in (map (content_at l.sizes) (range_with_len 0 l.i))) (2 ^ 64 - 1)
