use Rattle.std.proofs.Common.{◌≡◌, map, drop}
use Rattle.std.specs.List.{list_all}
use Rattle.vortex_scalar_value.specs.View.{content_at}
use Rattle.vortex_scalar_ops.specs.Equality.{eq_content}
use Rattle.vortex_arrays_builder.proofs.fits.all_equal.Given as goal

abbrev pub invariant-loop-other : goal.invariant-loop-other
invariant-loop-other l = list_all (λ other. eq_content (content_at l.value) other) (map content_at (drop l.other-index l.others)) ≡ list_all (λ other. eq_content (content_at l.value) other) (map content_at l.others)
