use Rattle.std.proofs.Common.{◌≡◌, ◌<◌, ℕ, get_or}
use Rattle.vortex_arrays_model.specs.Layout.{Layout, IsSound, len_of}
use Rattle.vortex_arrays_struct.proofs.check.have_rows.Given as goal

abbrev pub invariant-loop-field : goal.invariant-loop-field
invariant-loop-field l = record {
  rows : (k : ℕ) (d : Layout) → k < l.field-index → len_of (get_or l.fields k d) ≡ l.len;
  sound : (k : ℕ) (d : Layout) → k < l.field-index → IsSound (get_or l.fields k d);
}
