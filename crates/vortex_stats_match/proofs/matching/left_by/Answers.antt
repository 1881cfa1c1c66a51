use Rattle.std.proofs.Common.{◌∙◌, sym}
use Rattle.vortex_stats_match.proofs.SignLemmas.{left_none, left_inside, left_char, left_this, left_other}
use Rattle.vortex_stats_match.proofs.matching.left_by.Goals as goal

pub returns-in-None : goal.returns-in-None
returns-in-None c = left_none c.args.sign c.args.text.now c.in-None.ensures.cases

pub returns-then-goes_on : goal.returns-then-goes_on
returns-then-goes_on c = left_inside c.args.sign c.in-Some.byte.now c.args.text.now c.in-Some.rest.now c.in-Some.ensures.cases.0 c.if-sign-eq95.true (sym c.goes_on.ensures ∙ c.if-goes_on.true)

pub returns-else-goes_on : goal.returns-else-goes_on
returns-else-goes_on c =
    left_char c.args.sign c.in-Some.byte.now c.args.text.now c.in-Some.rest.now c.in-Some.ensures.cases.0 c.past_char.result.now c.if-sign-eq95.true (sym c.goes_on.ensures ∙ c.if-goes_on.false) c.past_char.ensures

pub returns-then-sign-byte : goal.returns-then-sign-byte
returns-then-sign-byte c = left_this c.args.sign c.in-Some.byte.now c.args.text.now c.in-Some.rest.now c.in-Some.ensures.cases.0 c.if-sign-eq95.false c.if-sign-byte.true

pub returns-else-sign-byte : goal.returns-else-sign-byte
returns-else-sign-byte c = left_other c.args.sign c.in-Some.byte.now c.args.text.now c.in-Some.rest.now c.in-Some.ensures.cases.0 c.if-sign-eq95.false c.if-sign-byte.false
