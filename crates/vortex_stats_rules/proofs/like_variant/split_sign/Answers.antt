use Rattle.std.proofs.Common.{sym, ap, ◌∙◌, ◌∷◌, chars, option_map}
use Rattle.vortex_model_table.specs.Rewrite.{signs_of}
use Rattle.vortex_stats_rules.proofs.Signs.{plain, other}
use Rattle.vortex_stats_rules.proofs.like_variant.split_sign.Goals as goal

pub returns-in-Some-clause-signs : goal.returns-in-Some-clause-signs
returns-in-Some-clause-signs c =
    ap signs_of c.in-Some.ensures.parts ∙ plain c.in-Some.first (chars c.in-Some.rest.now) (other c.in-Some.first c.in-Some.first-test.1)
    ∙ ap (λ s. option_map (λ signs. s ∷ signs) (signs_of (chars c.in-Some.rest.now))) (sym c.sign_of.ensures)
