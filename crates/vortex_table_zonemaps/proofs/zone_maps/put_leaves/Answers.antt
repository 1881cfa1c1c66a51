use Rattle.std.proofs.Common.{◌<◌, refl, sym, length, arith}
use Rattle.vortex_table_zonemaps.proofs.Held.{found_at, put_start, one_put, still_kept, all_kept, all_put}
use Rattle.vortex_table_zonemaps.proofs.zone_maps.put_leaves.Goals as goal

pub loop-index-init : goal.loop-index-init
loop-index-init c = put_start c.args.count c.args.bounds.now c.args.rows c.args.leaves.now.items

pub loop-index-preserved : goal.loop-index-preserved
loop-index-preserved c =
    let n = c.args.count in let bounds = c.args.bounds.now in let rows = c.args.rows in
    let old = c.args.leaves.now.items in let now = c.loop-index.leaves.items in let i = c.loop-index.index in
    let p = c.loop-index.invariant in
    let inside : i < length now = (let many = p.many in let len = c.len-index-end.ensures in let same = c.args.leaves.now.ok.0 in let less = c.loop-index-test.true in omega (arith, many, len, same, less)) in
    one_put n bounds rows old now i p c.index_mut.result.now c.put.new.self _ inside c.index_mut.ensures.value refl
    (λ zones many is. c.put.ensures.kept i zones many is)
    (λ zones many is. c.in_ok-put.ensures.put i zones (bounds, rows) many (found_at _ bounds i c.get.result c.get.ensures.lookup.3 c.get.ensures.lookup.1) refl is)

pub returns-in_err-put-clause-kept : goal.returns-in_err-put-clause-kept
returns-in_err-put-clause-kept c =
    let n = c.args.count in let bounds = c.args.bounds.now in let rows = c.args.rows in
    let old = c.args.leaves.now.items in let now = c.loop-index.leaves.items in let i = c.loop-index.index in
    let p = c.loop-index.invariant in
    let inside : i < length now = (let many = p.many in let len = c.len-index-end.ensures in let same = c.args.leaves.now.ok.0 in let less = c.loop-index-test.true in omega (arith, many, len, same, less)) in
    still_kept n bounds rows old now i p c.index_mut.result.now c.put.new.self _ inside c.index_mut.ensures.value refl
    (λ zones many is. c.put.ensures.kept i zones many is)

pub returns-clause-kept : goal.returns-clause-kept
returns-clause-kept c =
    all_kept c.args.count c.args.bounds.now c.args.rows c.args.leaves.now.items c.loop-index.leaves.items c.loop-index.index c.loop-index.invariant

pub returns-clause-put : goal.returns-clause-put
returns-clause-put c =
    let end = c.loop-index-test.false in let len = c.len-index-end.ensures in let same = c.args.leaves.now.ok.0 in
    all_put c.args.count c.args.bounds.now c.args.rows c.args.leaves.now.items c.loop-index.leaves.items c.loop-index.index c.loop-index.invariant (omega (arith, end, len, same))
