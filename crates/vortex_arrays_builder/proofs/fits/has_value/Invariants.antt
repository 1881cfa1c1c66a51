use Rattle.std.proofs.Common.{◌≡◌, not, map, drop}
use Rattle.std.specs.List.{list_any}
use Rattle.vortex_model.specs.Content.{is_null}
use Rattle.vortex_scalar_value.specs.View.{content_at}
use Rattle.vortex_arrays_builder.proofs.fits.has_value.Given as goal

abbrev pub invariant-loop-value : goal.invariant-loop-value
invariant-loop-value l = list_any (λ c. not (is_null c)) (map content_at (drop l.value-index l.values)) ≡ list_any (λ c. not (is_null c)) (map content_at l.values)
