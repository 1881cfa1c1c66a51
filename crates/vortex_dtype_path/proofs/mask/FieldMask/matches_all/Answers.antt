use Rattle.vortex_dtype_path.specs.View.{steps_of}
use Rattle.vortex_dtype_path.proofs.Masks.{root_all, one_alone}
use Rattle.vortex_dtype_path.proofs.mask.FieldMask.matches_all.Goals as goal

pub returns-in-Prefix : goal.returns-in-Prefix
returns-in-Prefix c = rw c.in-Prefix.is (root_all (steps_of c.in-Prefix.path) c.is_root.result c.is_root.ensures)

pub returns-in-Exact : goal.returns-in-Exact
returns-in-Exact c = rw c.in-Exact.is (one_alone (steps_of c.in-Exact.field-0))
