use Rattle.vortex_scalar_builders.proofs.Covered.{low_fits, high_fits}
use Rattle.vortex_scalar_builders.proofs.laws.bounds_fit.Goals as goal

pub returns : goal.returns
returns c = λ v L. (λ l h. low_fits v l L h, λ h p. high_fits v h L p)
