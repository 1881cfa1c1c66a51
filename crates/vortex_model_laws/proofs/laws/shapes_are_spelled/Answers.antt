use Rattle.vortex_model_table.specs.Rewrite.{signs_of}
use Rattle.vortex_model_laws.proofs.Shapes.{exact_told, exact_spelled, begun_told, begun_spelled}
use Rattle.vortex_model_laws.proofs.laws.shapes_are_spelled.Goals as goal

pub returns : goal.returns
returns c = λ form t. (
  (exact_told (signs_of form) t, exact_spelled (signs_of form) t),
  (begun_told (signs_of form) t, begun_spelled (signs_of form) t),
)
