-- Why the flag of a dictionary can't be set.
use Rattle.vortex_arrays_view.specs.declared.error.ArrayError.{ArrayError}
use Rattle.vortex_arrays_view.specs.declared.error.ArrayError.TheVariants.{Memory, OutOfRange}
use Rattle.vortex_arrays_model.specs.Layout.{Layout, AllReferenced}

-- memory ran out, or no code refers to some value
abbrev pub IsReferenceFault : ArrayError → Layout → Layout → Type 0
IsReferenceFault Memory c v = Unit {0}
IsReferenceFault OutOfRange c v = ¬ AllReferenced c v
IsReferenceFault e c v = ⊥
