-- The two rules of the model, each with why its proofs are sound.
use Rattle.vortex_model_rules.specs.PushNot.{push_not}
use Rattle.vortex_model_rules.specs.NullComparison.{null_comparison}
use Rattle.vortex_model_rules.proofs.PushNot.{keeps_its_law as push_not_keeps}
use Rattle.vortex_model_rules.proofs.NullComparison.{keeps_its_law as null_comparison_keeps}
use Rattle.vortex_stats_rules.specs.Meanings.{SoundRule}

abbrev pub push_not_is_sound : SoundRule
push_not_is_sound = record { rule = push_not; keeps_its_law = push_not_keeps }

abbrev pub null_comparison_is_sound : SoundRule
null_comparison_is_sound = record {
  rule = null_comparison;
  keeps_its_law = null_comparison_keeps;
}
