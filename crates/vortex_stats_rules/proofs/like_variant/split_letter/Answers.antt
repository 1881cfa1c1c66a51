use Rattle.std.proofs.Common.{ap, ◌∙◌, ◌∷◌, chars, option_map}
use Rattle.vortex_model_table.specs.Rewrite.{signs_of}
use Rattle.vortex_stats_rules.specs.Patterns.{sign_in}
use Rattle.vortex_stats_rules.proofs.Signs.{wild}
use Rattle.vortex_stats_rules.proofs.like_variant.split_letter.Goals as goal

pub returns-in-Some-Letter-default-clause-signs : goal.returns-in-Some-Letter-default-clause-signs
returns-in-Some-Letter-default-clause-signs c =
    c.in-Some-Letter-default.ensures.signs
    ∙ ap (λ s. option_map (λ signs. sign_in s ∷ signs) (signs_of (chars c.in-Some-Letter-default.rest.now))) c.in-Some-Letter-default.field-0-0-is

pub returns-in-Some-Wildcard-default-clause-signs :
    goal.returns-in-Some-Wildcard-default-clause-signs
returns-in-Some-Wildcard-default-clause-signs c =
    wild (chars c.args.pattern.now) (signs_of (chars c.in-Some-Wildcard-default.field-0-1.now))
    (c.in-Some-Wildcard-default.ensures.signs
    ∙ ap (λ s. option_map (λ signs. sign_in s ∷ signs) (signs_of (chars c.in-Some-Wildcard-default.field-0-1.now))) c.in-Some-Wildcard-default.field-0-0-is)
