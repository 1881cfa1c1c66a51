use Rattle.vortex_dtype_path.specs.View.{steps_of}
use Rattle.vortex_dtype_path.proofs.Masks.{root_only}
use Rattle.vortex_dtype_path.proofs.mask.FieldMask.matches_root.Goals as goal

pub returns-in-Prefix : goal.returns-in-Prefix
returns-in-Prefix c = rw c.in-Prefix.is (root_only (steps_of c.in-Prefix.path) c.is_root.result c.is_root.ensures)
