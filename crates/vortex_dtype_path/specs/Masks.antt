-- The paths of a mask.
use Rattle.std.specs.Prelude.{◌≡◌, List, ◌∷◌}
use Rattle.vortex_model.specs.Path.{Step}
use Rattle.vortex_dtype_path.specs.Steps.{Begins}
use Rattle.vortex_dtype_path.specs.View.{steps_of}
use Rattle.vortex_dtype_path.specs.declared.mask.FieldMask.{FieldMask}
use Rattle.vortex_dtype_path.specs.declared.mask.FieldMask.TheVariants as mask

abbrev pub Denotes : FieldMask → List Step → Type 0
Denotes mask.All q = Unit {0}
Denotes (mask.Prefix p) q = Begins (steps_of p) q
Denotes (mask.Exact p) q = steps_of p ≡ q

-- some path of the mask starts with this step
abbrev pub StartsWith : FieldMask → Step → Type 0
StartsWith m s = (q : List Step) × Denotes m (s ∷ q)
