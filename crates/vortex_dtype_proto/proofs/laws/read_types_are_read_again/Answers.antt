use Rattle.std.proofs.Common.{rules}
use Rattle.vortex_dtype_core.specs.View.{type_of}
use Rattle.vortex_dtype_proto.specs.View.{tree_of}
use Rattle.vortex_dtype_proto.proofs.Again.{memory_gives}
use Rattle.vortex_dtype_proto.proofs.Shaped.{read_is_shaped}
use Rattle.vortex_dtype_proto.proofs.laws.read_types_are_read_again.Goals as goal

pub written_types_are_read-requires : goal.written_types_are_read-requires
written_types_are_read-requires g c = read_is_shaped _ (tree_of c.args.message.now) (type_of c.in_ok-dtype.dtype) c.in_ok-dtype.ensures

pub returns-in_err-written-clause-first : goal.returns-in_err-written-clause-first
returns-in_err-written-clause-first g c =
    let why = c.in_err-written.ensures.refused in
    let gives = c.from_residual-in_err-written.ensures.1 in
    search (rules, memory_gives, why, gives)
