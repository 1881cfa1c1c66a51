use Rattle.std.proofs.Common.{◌≡◌, drop}
use Rattle.vortex_dtype_core.specs.View.{variants_of}
use Rattle.vortex_dtype_proto.proofs.Shapings.{have_tags}
use Rattle.vortex_dtype_proto.proofs.shape_test.have_distinct_tags.Given as goal

abbrev pub invariant-loop-i : goal.invariant-loop-i
invariant-loop-i l = have_tags (drop l.i l.variants) ≡ have_tags l.variants
