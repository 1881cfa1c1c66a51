use Rattle.std.proofs.Common.{◌∙◌, subst}
use Rattle.vortex_model.specs.Valid.{AreBytes}
use Rattle.vortex_stats_array.proofs.ValueBounds.{bytes_above_is, no_bytes_above}
use Rattle.vortex_stats_array.proofs.OwnTypes.{bytes_valid}
use Rattle.vortex_stats_array.proofs.shortened.bytes_above.Goals as goal

pub returns-in-Some-clause-content : goal.returns-in-Some-clause-content
returns-in-Some-clause-content c =
    c.bound.ensures.content
    ∙ bytes_above_is c.args.value.now c.in_ok-copy.copy c.args.max_length c.in_ok-high.field-0 c.in-Some.high c.in-Some.shortened c.are_bytes.ensures c.in_ok-copy.ensures c.in-Some.is c.in_ok-high.ensures.bound c.in_ok-high.ensures.longer

pub returns-in-None-clause-content : goal.returns-in-None-clause-content
returns-in-None-clause-content c =
    no_bytes_above c.args.value.now c.in_ok-copy.copy c.args.max_length c.in_ok-high.field-0 c.are_bytes.ensures c.in_ok-copy.ensures c.in-None.is c.in_ok-high.ensures.bound

pub returns-in-Some-clause-types : goal.returns-in-Some-clause-types
returns-in-Some-clause-types c k h = c.bound.ensures.types k (bytes_valid k c.in-Some.high h (subst AreBytes c.as_slice.ensures c.are_bytes-in-Some.ensures))
