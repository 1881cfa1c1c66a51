use Rattle.std.proofs.Common.{◌∙◌, sym, ap}
use Rattle.vortex_stats_match.specs.Bytes.{left_by}
use Rattle.vortex_stats_match.proofs.FindLemmas.{inside, takes_one}
use Rattle.vortex_stats_match.proofs.matching.past_one.Goals as goal

pub returns-then-begins_inside : goal.returns-then-begins_inside
returns-then-begins_inside c = inside c.args.behind.now c.args.text.now (sym c.begins_inside.ensures ∙ c.if-begins_inside.true)

pub returns : goal.returns
returns c =
    takes_one c.args.behind.now c.args.text.now c.left_by.result (sym c.begins_inside.ensures ∙ c.if-begins_inside.false)
    (c.left_by.ensures ∙ ap (left_by 95) c.past_char.ensures)
