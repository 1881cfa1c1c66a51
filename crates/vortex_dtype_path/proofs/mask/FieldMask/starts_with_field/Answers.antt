use Rattle.vortex_dtype_path.specs.View.{step_of, steps_of}
use Rattle.vortex_dtype_path.proofs.Masks.{root_starts, step_starts}
use Rattle.vortex_dtype_path.proofs.mask.FieldMask.starts_with_field.Goals as goal

pub returns-then-is_root : goal.returns-then-is_root
returns-then-is_root c = rw c.in-Prefix.is (root_starts (steps_of c.in-Prefix.path) (step_of c.args.field.now) c.is_root.result c.is_root.ensures c.if-is_root.true)

pub returns-else-is_root : goal.returns-else-is_root
returns-else-is_root c =
    rw c.in-Prefix.is (step_starts (steps_of c.in-Prefix.path) (step_of c.args.field.now) c.is_root.result c.starts_with_field.result c.is_root.ensures c.if-is_root.false c.starts_with_field.ensures)
