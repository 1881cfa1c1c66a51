use Rattle.std.proofs.Common.{◌∙◌, subst, IsUtf8}
use Rattle.vortex_stats_array.proofs.ValueBounds.{text_above_is, no_text_above}
use Rattle.vortex_stats_array.proofs.OwnTypes.{text_valid}
use Rattle.vortex_stats_array.proofs.shortened.text_above.Goals as goal

pub returns-in-Some-clause-content : goal.returns-in-Some-clause-content
returns-in-Some-clause-content c =
    c.bound.ensures.content
    ∙ text_above_is c.args.value.now c.in_ok-copy.copy c.args.max_length c.in_ok-high.field-0 c.in-Some.high c.in-Some.shortened c.requires c.in_ok-copy.ensures c.in-Some.is c.in_ok-high.ensures.bound c.in_ok-high.ensures.longer

pub returns-in-None-clause-content : goal.returns-in-None-clause-content
returns-in-None-clause-content c =
    no_text_above c.args.value.now c.in_ok-copy.copy c.args.max_length c.in_ok-high.field-0 c.requires c.in_ok-copy.ensures c.in-None.is c.in_ok-high.ensures.bound

pub returns-in-Some-clause-types : goal.returns-in-Some-clause-types
returns-in-Some-clause-types c k h =
    c.bound.ensures.types k (text_valid k c.in-Some.high h (subst (λ bs. IsUtf8 bs) c.as_bytes.ensures.value c.as_bytes.ensures.utf8))
