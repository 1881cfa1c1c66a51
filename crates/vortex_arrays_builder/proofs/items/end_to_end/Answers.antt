use Rattle.std.proofs.Common.{rules, ◌++◌, ◌∙◌, ap, map}
use Rattle.vortex_scalar_value.specs.View.{raw_at}
use Rattle.vortex_arrays_builder.specs.Items.{raw_items}
use Rattle.vortex_arrays_builder.proofs.ItemLemmas.{first_more, flat_more}
use Rattle.vortex_arrays_builder.proofs.items.end_to_end.Goals as goal

pub loop-i-preserved : goal.loop-i-preserved
loop-i-preserved c =
    let vs = c.args.values.now in
    let i = c.loop-i.i in
    let v = c.index-values-i.result in
    let items = c.loop-i.items.items in
    let list = c.list_of-list.result.now in
    record {
      stand = first_more vs i v c.loop-i.offsets.items c.loop-i.sizes.items items _ _ list c.loop-i.invariant.stand c.loop-i.invariant.gathered c.loop-i-test.true c.index-values-i.is (search rules) c.list_of-list.ensures (search rules);
      gathered = flat_more raw_items vs i v (map raw_at items) (map raw_at c.push_items.new.all.items) c.loop-i.invariant.gathered c.loop-i-test.true c.index-values-i.is (c.in_ok-push_items.ensures ∙ ap (λ xs. map raw_at items ++ xs) c.list_of-list.ensures);
    }
