use Rattle.std.proofs.Common.{◌≡◌, drop}
use Rattle.vortex_dtype_proto.proofs.Shapings.{bear}
use Rattle.vortex_dtype_proto.proofs.shape_test.has_tag.Given as goal

abbrev pub invariant-loop-variant : goal.invariant-loop-variant
invariant-loop-variant l = bear l.fn.tag (drop l.variant-index l.variants) ≡ bear l.fn.tag l.variants
