use Rattle.std.proofs.Common.{◌≡◌, ◌<◌, ◌+◌, suc, ◌∙◌, ◌&&◌, ap, Bool, false, length, get_or, set, arith}
use Rattle.std.proofs.lemmas.List.{length-set}
use Rattle.vortex_stats_mask.specs.Columns.{kept_first}
use Rattle.vortex_stats_mask.proofs.Changed.{changed_more}
use Rattle.vortex_stats_mask.proofs.Kept.{kept_length}
use Rattle.vortex_stats_mask.proofs.masks.keep_rows.Goals as goal

pub loop-i-preserved : goal.loop-i-preserved
loop-i-preserved c = record {
  count = length-set c.loop-i.mask.items c.loop-i.i c.is_kept.result ∙ c.loop-i.invariant.count;
  rows = λ all e.
      let f = λ (m : Bool) (v : Bool). m && v in let vs = c.args.bits.now in
      let i = c.loop-i.i in let b = c.index.result.now in
      let test = c.loop-i-test.true in let within = c.requires.within in let fits = c.requires.beside in
      let same = c.loop-i.invariant.count in let inv = c.loop-i.invariant.rows all e in
      let beside : i < length vs = omega (arith, test, within, fits) in
      let many = ap length inv in let all_many = kept_length i vs all (omega (arith, beside)) in
      let here : i < length all = omega (arith, test, within, same, many, all_many) in
      let next : suc i ≡ i + 1 = omega arith in
      (λ k. set (inv k) i ((c.is_kept.ensures ∙ (λ j. (c.index.ensures ∙ ap (λ ys. get_or ys i b) inv) j && get_or vs i false)) k))
      ∙ changed_more f i all vs b false here beside
      ∙ ap (λ n. kept_first n vs all) next;
}

pub returns-clause-rows : goal.returns-clause-rows
returns-clause-rows c = λ all e.
    let stop = c.loop-i-test.false in let auto = c.loop-i.auto.i-end in let order = c.requires.order in
    let whole : c.loop-i.i ≡ c.args.to = omega (arith, stop, auto, order) in
    c.loop-i.invariant.rows all e ∙ ap (λ n. kept_first n c.args.bits.now all) whole
