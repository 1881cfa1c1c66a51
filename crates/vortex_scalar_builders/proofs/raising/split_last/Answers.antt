use Rattle.std.proofs.Common.{◌++◌, ◌∙◌, sym, ap, length, rules}
use Rattle.std.specs.Char.{encode_utf8}
use Rattle.vortex_scalar_builders.proofs.Beginnings.{chars_last, chars_none}
use Rattle.vortex_scalar_builders.proofs.raising.split_last.Goals as goal

pub returns-in-None-clause-parts : goal.returns-in-None-clause-parts
returns-in-None-clause-parts c = chars_none c.args.text.now (ap length (sym c.chars-letters.ensures.rest) ∙ c.in-None.ensures.steps.0)

pub returns-in-Some-clause-parts : goal.returns-in-Some-clause-parts
returns-in-Some-clause-parts c =
    chars_last c.args.text.now c.as_str.result.now c.in-Some.last c.utf8.text c.as_str.utf8
    (sym c.chars-letters.ensures.rest ∙ c.in-Some.ensures.steps ∙ ap (λ t. t ++ encode_utf8 c.in-Some.last) (sym c.as_str.ensures))

pub returns-in-Some-clause-utf8 : goal.returns-in-Some-clause-utf8
returns-in-Some-clause-utf8 c = search rules

pub returns-in-None-clause-utf8 : goal.returns-in-None-clause-utf8
returns-in-None-clause-utf8 c = search rules
