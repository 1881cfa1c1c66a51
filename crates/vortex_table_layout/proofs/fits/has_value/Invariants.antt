use Rattle.std.proofs.Common.{◌≡◌, false, not, take}
use Rattle.std.specs.List.{list_any}
use Rattle.vortex_model.specs.Content.{is_null}
use Rattle.vortex_arrays_model.specs.Layout.{rows_of}
use Rattle.vortex_table_layout.proofs.fits.has_value.Given as goal

abbrev pub invariant-loop-i : goal.invariant-loop-i
invariant-loop-i l = list_any (λ c. not (is_null c)) (take l.i (rows_of l.column)) ≡ false
