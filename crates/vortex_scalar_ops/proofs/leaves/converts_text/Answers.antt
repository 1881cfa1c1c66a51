use Rattle.vortex_dtype_core.specs.View.{type_of}
use Rattle.vortex_scalar_ops.proofs.LeafValues.{valid-text}
use Rattle.vortex_scalar_ops.proofs.leaves.converts_text.Goals as goal

pub returns-then-is_utf8-clause-valid : goal.returns-then-is_utf8-clause-valid
returns-then-is_utf8-clause-valid c = λ h. valid-text (type_of c.args.target.now) c.args.value.now c.utf8.value (cc (h, c.is_utf8-then-is_utf8.ensures))
