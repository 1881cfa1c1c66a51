use Rattle.std.proofs.Common.{◌≡◌}
use Rattle.vortex_dtype_ptype.specs.declared.error.DTypeError.TheVariants.{Memory}
use Rattle.vortex_dtype_core.specs.View.{type_of}
use Rattle.vortex_dtype_proto.specs.Shapes.{is_shaped}
use Rattle.vortex_dtype_proto.proofs.Again.{read_alike, refused_alike, only_memory, passed_on}
use Rattle.vortex_dtype_proto.proofs.laws.written_types_are_read.Goals as goal

pub returns-in_err-again-clause-refused : goal.returns-in_err-again-clause-refused
returns-in_err-again-clause-refused c =
    let e = c.in_err-again.field-0.0 in
    passed_on c.from_residual-in_err-again.result e (λ e. e ≡ Memory) c.from_residual-in_err-again.ensures.1
    (only_memory e (is_shaped (type_of c.args.dtype.now)) (refused_alike c.in_ok-message.message c.args.dtype.now e c.in_ok-message.ensures.made c.in_err-again.ensures) c.requires)

pub returns-clause-alike : goal.returns-clause-alike
returns-clause-alike c = (read_alike c.in_ok-message.message c.args.dtype.now c.in_ok-again.again c.in_ok-message.ensures.made c.in_ok-again.ensures).1
