use Rattle.std.proofs.Common.{◌≡◌, map, take}
use Rattle.vortex_dtype_proto.specs.View.{tree_of}
use Rattle.vortex_dtype_proto.proofs.message.+copy_message.Given as goal

abbrev pub invariant-loop-child : goal.invariant-loop-child
invariant-loop-child l = map tree_of l.children.items ≡ map tree_of (take l.child-index l.child-items)
