use Rattle.std.proofs.Common.{◌∙◌}
use Rattle.vortex_dtype_core.specs.View.{type_of}
use Rattle.vortex_scalar_ops.proofs.LeafValues.{has-text}
use Rattle.vortex_scalar_ops.proofs.leaves.has_text.Goals as goal

pub returns : goal.returns
returns c = c.is_utf8.ensures ∙ has-text (type_of c.args.dtype.now) c.args.value.now c.utf8.value
