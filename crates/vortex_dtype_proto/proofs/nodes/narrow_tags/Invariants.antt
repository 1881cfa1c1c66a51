use Rattle.std.proofs.Common.{◌≡◌, take, drop}
use Rattle.vortex_dtype_proto.specs.Messages.{are_tags}
use Rattle.vortex_dtype_proto.proofs.nodes.narrow_tags.Given as goal

abbrev pub invariant-loop-tag : goal.invariant-loop-tag
invariant-loop-tag l = record {
  same : l.narrow.items ≡ take l.tag-index l.tags;
  left : are_tags (drop l.tag-index l.tags) ≡ are_tags l.tags;
}
