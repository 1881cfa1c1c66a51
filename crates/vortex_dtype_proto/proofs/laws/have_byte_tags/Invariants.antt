use Rattle.std.proofs.Common.{◌≡◌, drop}
use Rattle.vortex_dtype_proto.specs.Messages.{are_tags}
use Rattle.vortex_dtype_proto.proofs.laws.have_byte_tags.Given as goal

abbrev pub invariant-loop-tag : goal.invariant-loop-tag
invariant-loop-tag l = are_tags (drop l.tag-index l.tags) ≡ are_tags l.tags
