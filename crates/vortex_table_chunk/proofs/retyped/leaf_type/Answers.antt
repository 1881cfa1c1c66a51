use Rattle.std.proofs.Common.{rules}
use Rattle.vortex_dtype_core.specs.View.{type_of}
use Rattle.vortex_table_chunk.proofs.LeafTypes.{next_type}
use Rattle.vortex_table_chunk.proofs.retyped.leaf_type.Goals as goal

pub loop-position-preserved : goal.loop-position-preserved
loop-position-preserved c =
    let i = c.loop-position.position-index in let leaf = c.args.leaf.now in
    next_type (type_of c.loop-position.part.now) (type_of c.in-Some.field.now) (type_of c.args.dtype.now) leaf leaf i _ c.loop-position-test.true (search rules) c.in-Some.ensures c.loop-position.invariant
