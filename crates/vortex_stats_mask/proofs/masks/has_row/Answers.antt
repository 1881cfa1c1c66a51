use Rattle.std.proofs.Common.{◌≡◌, ◌<◌, ◌∙◌, ◌||◌, ap, false, length, get_or, arith}
use Rattle.std.specs.List.{list_any, slice_range}
use Rattle.vortex_stats_mask.proofs.Kept.{no_row_yet, one_row_more}
use Rattle.vortex_stats_mask.proofs.masks.has_row.Goals as goal

pub loop-i-init : goal.loop-i-init
loop-i-init c = no_row_yet c.args.mask.now c.args.from

pub loop-i-preserved : goal.loop-i-preserved
loop-i-preserved c =
    let rows = c.args.mask.now in let i = c.loop-i.i in
    let test = c.loop-i-test.true in let within = c.requires.within in
    let here : i < length rows = omega (arith, test, within) in
    ap (λ b. b || get_or rows i false) c.loop-i.invariant ∙ one_row_more rows c.args.from i c.loop-i.auto.i here

pub returns : goal.returns
returns c =
    let stop = c.loop-i-test.false in let auto = c.loop-i.auto.i-end in let order = c.requires.order in
    let whole : c.loop-i.i ≡ c.args.to = omega (arith, stop, auto, order) in
    c.loop-i.invariant ∙ ap (λ n. list_any (λ row. row) (slice_range c.args.mask.now c.args.from n)) whole
