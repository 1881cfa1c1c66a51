use Rattle.std.proofs.Common.{◌∙◌, subst, IsUtf8}
use Rattle.vortex_stats_array.proofs.ValueBounds.{text_below_is}
use Rattle.vortex_stats_array.proofs.OwnTypes.{text_valid}
use Rattle.vortex_stats_array.proofs.shortened.text_below.Goals as goal

pub returns-clause-content : goal.returns-clause-content
returns-clause-content c =
    c.bound.ensures.content
    ∙ text_below_is c.args.value.now c.in_ok-copy.copy c.lower_text-low.result.0 c.args.max_length c.lower_text-low.result.1 c.requires c.in_ok-copy.ensures c.lower_text-low.ensures.bound c.lower_text-low.ensures.longer

pub returns-clause-types : goal.returns-clause-types
returns-clause-types c k h =
    c.bound.ensures.types k (text_valid k c.lower_text-low.result.0 h (subst (λ bs. IsUtf8 bs) c.as_bytes.ensures.value c.as_bytes.ensures.utf8))
