use Rattle.std.proofs.Common.{◌++◌, ◌∙◌, ap}
use Rattle.std.specs.Char.{encode_utf8}
use Rattle.vortex_scalar_builders.proofs.Beginnings.{pushed}
use Rattle.vortex_scalar_builders.proofs.raising.with_last.Goals as goal

pub returns : goal.returns
returns c =
    c.in_ok-push.ensures.bytes ∙ ap (λ t. t ++ encode_utf8 c.args.last) (c.in_ok-push_str.ensures.bytes ∙ ap (λ t. t ++ c.args.front.now) c.in_ok-made.ensures.bytes) ∙ pushed c.args.front.now c.args.last c.utf8.front
