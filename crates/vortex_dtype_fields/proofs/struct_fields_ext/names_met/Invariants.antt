use Rattle.std.proofs.Common.{◌≡◌, ◌||◌, drop, Bor, List, ℕ}
use Rattle.std.specs.BTreeSet.{contains}
use Rattle.vortex_model.specs.Kept.{has_name}
use Rattle.vortex_dtype_core.specs.View.{fields_of}
use Rattle.vortex_dtype_fields.specs.Records.{text_cmp}
use Rattle.vortex_dtype_fields.proofs.struct_fields_ext.names_met.Given as goal

abbrev pub invariant-loop-field : goal.invariant-loop-field
invariant-loop-field l = (q : Bor (List ℕ)) → contains text_cmp l.names q || has_name q.now (fields_of (drop l.field-index l.fields)) ≡ has_name q.now (fields_of l.fields)
