-- Parts of records, as contents.
use Rattle.vortex_scalar_value.proofs.Views.{content_of-part}

pub ruleset parts = (content_of-part)
