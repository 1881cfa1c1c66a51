use Rattle.std.proofs.Common.{IsUtf8, subst}
use Rattle.vortex_scalar_builders.proofs.Made.{text_valid}
use Rattle.vortex_scalar_builders.proofs.leaves.text_value.Goals as goal

pub new_unchecked-requires : goal.new_unchecked-requires
new_unchecked-requires c = text_valid c.args.nullability c.args.text (subst (λ bs. IsUtf8 bs) c.as_bytes.ensures.value c.as_bytes.ensures.utf8)
