use Rattle.std.proofs.Common.{ℕ, ◌<◌, ◌≢◌, slice_get, Some}
use Rattle.vortex_dtype_ptype.proofs.field_names.FieldNames.find.Given as goal

abbrev pub invariant-loop-place : goal.invariant-loop-place
invariant-loop-place l = (i : ℕ) → i < l.place → slice_get l.name-items i ≢ Some l.text
