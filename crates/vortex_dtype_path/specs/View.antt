-- The Rust types of this crate in the model.
use Rattle.std.specs.Prelude.{List, map, Bool}
use Rattle.std.specs.Cmp.{IsEquivalence, on_equiv}
use Rattle.vortex_model.specs.Path.{Step, name, element}
use Rattle.vortex_dtype_path.specs.Steps.{eq_step, eq_steps, eq_step_equiv, eq_steps_equiv}
use Rattle.vortex_dtype_path.specs.declared.field.Field.{Field}
use Rattle.vortex_dtype_path.specs.declared.field.Field.TheVariants as step
use Rattle.vortex_dtype_path.specs.declared.path.FieldPath.{FieldPath}

abbrev pub step_of : Field → Step
step_of (step.Name x) = name x
step_of step.ElementType = element

-- the steps of a path
abbrev pub steps_of : FieldPath → List Step
steps_of path = map step_of path.parts.items

-- the steps of each path
abbrev pub paths_of : List FieldPath → List (List Step)
paths_of paths = map steps_of paths

abbrev pub eq_field : Field → Field → Bool
eq_field a b = eq_step (step_of a) (step_of b)

abbrev pub eq_path : FieldPath → FieldPath → Bool
eq_path a b = eq_steps (steps_of a) (steps_of b)

pub eq_field_equiv : IsEquivalence eq_field
eq_field_equiv = on_equiv step_of eq_step_equiv

pub eq_path_equiv : IsEquivalence eq_path
eq_path_equiv = on_equiv steps_of eq_steps_equiv
