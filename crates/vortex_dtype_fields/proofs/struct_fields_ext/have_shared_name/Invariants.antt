use Rattle.std.proofs.Common.{◌≡◌, drop}
use Rattle.vortex_dtype_core.specs.View.{fields_of}
use Rattle.vortex_dtype_fields.specs.Records.{shares_name}
use Rattle.vortex_dtype_fields.proofs.struct_fields_ext.have_shared_name.Given as goal

abbrev pub invariant-loop-other : goal.invariant-loop-other
invariant-loop-other l = shares_name (fields_of l.fields) (fields_of (drop l.other-index l.others)) ≡ shares_name (fields_of l.fields) (fields_of l.others)
