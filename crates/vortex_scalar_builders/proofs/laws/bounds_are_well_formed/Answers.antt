use Rattle.vortex_scalar_builders.proofs.Covered.{low_well_formed, high_well_formed}
use Rattle.vortex_scalar_builders.proofs.laws.bounds_are_well_formed.Goals as goal

pub returns : goal.returns
returns c = λ v L w. (λ l h. low_well_formed v l L w h, λ h p. high_well_formed v h L w p)
