use Rattle.std.proofs.Common.{subst, []}
use Rattle.vortex_dtype_path.specs.View.{step_of, steps_of}
use Rattle.vortex_dtype_path.specs.Masks.{Denotes}
use Rattle.vortex_dtype_path.proofs.Masks.{behind_root, goes_on, goes_on_behind}
use Rattle.vortex_dtype_path.proofs.mask.FieldMask.step_into.Goals as goal

pub returns-in-Some-clause-whole : goal.returns-in-Some-clause-whole
returns-in-Some-clause-whole c =
    λ all. absurd (goes_on_behind (steps_of c.in-Prefix.path) (steps_of c.in-Some.rest) c.in-Some.ensures (subst (λ m. Denotes m []) c.in-Prefix.is (all [])))

pub returns-in-None-clause-behind : goal.returns-in-None-clause-behind
returns-in-None-clause-behind c = rw c.in-Prefix.is (behind_root (steps_of c.in-Prefix.path) (step_of c.args.field.now) c.in-None.ensures)

pub returns-in-Some-step_into-clause-whole : goal.returns-in-Some-step_into-clause-whole
returns-in-Some-step_into-clause-whole c =
    λ all. absurd (goes_on (steps_of c.in-Exact.path) (steps_of c.in-Some-step_into.rest) c.in-Some-step_into.ensures (subst (λ m. Denotes m []) c.in-Exact.is (all [])))
