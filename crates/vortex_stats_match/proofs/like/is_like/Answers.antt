use Rattle.std.proofs.Common.{◌∙◌}
use Rattle.vortex_stats_match.specs.Bytes.{byte_matches}
use Rattle.vortex_stats_match.proofs.ByteLemmas.{bytes_like}
use Rattle.vortex_stats_match.proofs.like.is_like.Goals as goal

pub returns : goal.returns
returns c =
    c.is_match-2.ensures ∙ (λ i. byte_matches ((c.new.ensures ∙ c.as_bytes.ensures.value) i) (c.as_bytes-2.ensures.value i))
    ∙ bytes_like c.args.pattern.now c.args.text.now c.utf8.pattern c.utf8.text
