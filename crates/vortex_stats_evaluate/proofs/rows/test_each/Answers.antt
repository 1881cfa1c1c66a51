use Rattle.std.proofs.Common.{◌<◌, ◌∙◌, sym, subst, arith}
use Rattle.vortex_model.proofs.Lists.{map_twice}
use Rattle.vortex_arrays_model.specs.Layout.{rows_of}
use Rattle.vortex_scalar_value.specs.View.{content_in}
use Rattle.vortex_stats_mask.specs.Wanted.{is_wanted}
use Rattle.vortex_stats_select.specs.Wants.{row_among, value_at}
use Rattle.vortex_stats_evaluate.proofs.RowLemmas.{tested_more, tested_all}
use Rattle.vortex_stats_evaluate.proofs.rows.test_each.Goals as goal

pub loop-i-preserved : goal.loop-i-preserved
loop-i-preserved c =
    tested_more (λ row. is_wanted c.args.want (value_at c.args.predicate.now (row_among c.args.rows row))) c.args.array.now c.loop-i.i
    c.loop-i.mask.items c.push.new.self.items (content_in c.in_ok-value.value) c.is_wanted_at.result
    c.loop-i.invariant (subst (λ n. c.loop-i.i < n) c.len-len.ensures.count c.loop-i-test.true)
    c.in_ok-value.ensures.content c.is_wanted_at.ensures c.in_ok-push.ensures.items

pub returns : goal.returns
returns c =
    let n = c.len-len.ensures.count in let e = c.args.predicate.now in let a = c.args.array.now in
    tested_all (λ row. is_wanted c.args.want (value_at e (row_among c.args.rows row))) a c.loop-i.i
    c.loop-i.mask.items c.loop-i.invariant (omega (arith, c.loop-i-test.false, n))
    ∙ sym (map_twice (λ row. is_wanted c.args.want (value_at e row)) (row_among c.args.rows) (rows_of a))
