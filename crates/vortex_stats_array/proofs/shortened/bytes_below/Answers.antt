use Rattle.std.proofs.Common.{◌∙◌, subst}
use Rattle.vortex_model.specs.Valid.{AreBytes}
use Rattle.vortex_stats_array.proofs.ValueBounds.{bytes_below_is}
use Rattle.vortex_stats_array.proofs.OwnTypes.{bytes_valid}
use Rattle.vortex_stats_array.proofs.shortened.bytes_below.Goals as goal

pub returns-clause-content : goal.returns-clause-content
returns-clause-content c =
    c.bound.ensures.content
    ∙ bytes_below_is c.args.value.now c.in_ok-copy.copy c.lower_bytes-low.result.0 c.args.max_length c.lower_bytes-low.result.1 c.are_bytes.ensures c.in_ok-copy.ensures c.lower_bytes-low.ensures.bound c.lower_bytes-low.ensures.longer

pub returns-clause-types : goal.returns-clause-types
returns-clause-types c k h = c.bound.ensures.types k (bytes_valid k c.lower_bytes-low.result.0 h (subst AreBytes c.as_slice.ensures c.are_bytes-2.ensures))
