use Rattle.std.proofs.Common.{◌≡◌, ◌+◌, ◌*◌, ◌/◌, ◌∙◌, ◌&&◌, Bool, ap, length, arith}
use Rattle.vortex_stats_mask.specs.Columns.{kept_first}
use Rattle.vortex_stats_mask.proofs.Changed.{changed_all}
use Rattle.vortex_stats_mask.proofs.masks.keep_bits.Goals as goal

pub loop-k-preserved : goal.loop-k-preserved
loop-k-preserved c =
    let next : 16 * c.loop-k.k + 16 ≡ 16 * (c.loop-k.k + 1) = omega arith in
    record {
      count = c.keep_run.ensures.count ∙ c.loop-k.invariant.count;
      rows = c.keep_run.ensures.rows c.args.mask.now.items c.loop-k.invariant.rows ∙ ap (λ n. kept_first n c.args.bits.now c.args.mask.now.items) next;
    }

pub returns : goal.returns
returns c =
    let f = λ (m : Bool) (v : Bool). m && v in let ms = c.args.mask.now.items in let vs = c.args.bits.now in
    let stop = c.loop-k-test.false in let auto = c.loop-k.auto.k-end in
    let end = c.len-len.ensures in let many = c.loop-k.invariant.count in
    let all : c.len-len.result ≡ length ms = omega (arith, end, many) in
    let runs : c.loop-k.k ≡ c.len-runs.result / 16 = omega (arith, stop, auto) in
    c.keep_rows.ensures.rows ms (c.loop-k.invariant.rows ∙ ap (λ n. kept_first (16 * n) vs ms) runs)
    ∙ ap (λ n. kept_first n vs ms) all
    ∙ changed_all f ms vs c.requires
