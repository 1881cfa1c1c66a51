use Rattle.std.proofs.Common.{◌≡◌, ◌≤◌, ◌<◌, ◌+◌, suc, ◌∙◌, ◌&&◌, ap, Bool, false, length, get_or, set, take, arith}
use Rattle.std.proofs.lemmas.List.{length-take}
use Rattle.vortex_stats_mask.proofs.Changed.{changed_first, changed_more, changed_whole}
use Rattle.vortex_stats_mask.proofs.masks.keep_flags.Goals as goal

pub loop-i-preserved : goal.loop-i-preserved
loop-i-preserved c =
    let f = λ (m : Bool) (x : Bool). m && x in let xs = c.args.rows.now in let ms = take (length xs) c.args.mask.now.items in
    let i = c.loop-i.i in let b = c.index.result.now in
    let many = ap length c.truncate.ensures.items in let cut = length-take (length xs) c.args.mask.now.items in
    let test = c.loop-i-test.true in let end = c.len-i-end.ensures in
    let here : i < length ms = omega (arith, test, end, many) in let beside : i < length xs = omega (arith, here, cut) in
    let next : suc i ≡ i + 1 = omega arith in
    (λ k. set (c.loop-i.invariant k) i ((c.index.ensures ∙ ap (λ ys. get_or ys i b) c.loop-i.invariant) k && get_or xs i false))
    ∙ changed_more f i ms xs b false here beside
    ∙ ap (λ n. changed_first f n ms xs) next

pub returns : goal.returns
returns c =
    let f = λ (m : Bool) (x : Bool). m && x in let xs = c.args.rows.now in let ms = take (length xs) c.args.mask.now.items in
    let many = ap length c.truncate.ensures.items in let cut = length-take (length xs) c.args.mask.now.items in
    let stop = c.loop-i-test.false in let auto = c.loop-i.auto.i-end in let end = c.len-i-end.ensures in
    let whole : c.loop-i.i ≡ length ms = omega (arith, stop, auto, end, many) in
    c.loop-i.invariant ∙ changed_whole f c.args.mask.now.items xs c.loop-i.i whole (omega (arith, cut))
