use Rattle.std.proofs.Common.{IsUtf8, subst}
use Rattle.vortex_scalar_core.proofs.Natives.{text_valid}
use Rattle.vortex_scalar_core.proofs.from_native.of_text.Goals as goal

pub new_unchecked-requires : goal.new_unchecked-requires
new_unchecked-requires c = text_valid c.args.nullability c.args.text (subst (λ bs. IsUtf8 bs) c.as_bytes.ensures.value c.as_bytes.ensures.utf8)
