-- Rules as they are handed in keep their law.
use Rattle.std.proofs.Common.{List, [], ◌∷◌}
use Rattle.std.specs.List.{AllByRecursion}
use Rattle.vortex_model.specs.LogicalType.{LogicalType}
use Rattle.vortex_model_rules.specs.Laws.{KeepsItsLaw}
use Rattle.vortex_stats_rules.specs.Meanings.{SoundRule, rules_of}

pub all_keep : {B : Type 0} (meaning : B → SoundRule) (bs : List B) (k : LogicalType) → AllByRecursion (KeepsItsLaw k) (rules_of meaning bs)
all_keep meaning [] k = tt
all_keep meaning (b ∷ bs) k = ((meaning b).keeps_its_law k, all_keep meaning bs k)
