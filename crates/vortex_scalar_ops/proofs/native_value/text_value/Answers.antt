use Rattle.std.proofs.Common.{IsUtf8, subst, ap, ◌∙◌}
use Rattle.std.proofs.lemmas.Str.{is_utf8-from_IsUtf8}
use Rattle.vortex_model.specs.LogicalType.{utf8, non_nullable}
use Rattle.vortex_model.specs.Valid.{valid}
use Rattle.vortex_scalar_value.proofs.Views.{raw_of-Utf8}
use Rattle.vortex_scalar_ops.proofs.native_value.text_value.Goals as goal

pub returns-clause-valid : goal.returns-clause-valid
returns-clause-valid c = ap (λ r. valid (utf8 non_nullable) r) (raw_of-Utf8 c.args.text) ∙ is_utf8-from_IsUtf8 c.args.text (subst (λ bs. IsUtf8 bs) c.as_bytes.ensures.value c.as_bytes.ensures.utf8)
