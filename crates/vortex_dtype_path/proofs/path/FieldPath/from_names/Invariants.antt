use Rattle.std.proofs.Common.{◌≡◌, take, map}
use Rattle.vortex_model.specs.Path.{name}
use Rattle.vortex_dtype_path.specs.View.{step_of}
use Rattle.vortex_dtype_path.proofs.path.FieldPath.from_names.Given as goal

abbrev pub invariant-loop-text : goal.invariant-loop-text
invariant-loop-text l = map step_of l.parts.items ≡ map (λ text. name text.now) (take l.text-index l.names)
