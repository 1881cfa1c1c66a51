-- What is at a path.
use Rattle.std.proofs.Common.{◌≡◌, refl, [], ◌∷◌}
use Rattle.vortex_model.specs.Content.{null}
use Rattle.vortex_model.specs.Path.{Positions, at}

pub at_null : (is : Positions) → at null is ≡ null
at_null [] = refl
at_null (i ∷ is) = at_null is
