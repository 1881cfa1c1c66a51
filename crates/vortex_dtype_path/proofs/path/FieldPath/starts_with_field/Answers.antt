use Rattle.vortex_dtype_path.proofs.Steps.{first_step}
use Rattle.vortex_dtype_path.proofs.path.FieldPath.starts_with_field.Goals as goal

pub returns-in-Some : goal.returns-in-Some
returns-in-Some c = first_step _ _ _ _ _ c.in-Some.ensures.value c.deref.ensures.value c.eq.ensures
