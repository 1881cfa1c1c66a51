use Rattle.std.proofs.Common.{◌<◌, ◌≤◌, ◌+◌, ◌++◌, ◌∙◌, ℕ, List, false, take, sym, subst, arith}
use Rattle.std.proofs.lemmas.List.{length-set}
use Rattle.vortex_arrays_model.specs.Layout.{Layout, list_views, content_at, len_of, rows_of}
use Rattle.vortex_arrays_core.specs.LayoutOf.{valid_of}
use Rattle.vortex_arrays_rebuild.specs.Rebuilds.{total_of}
use Rattle.vortex_arrays_rebuild.specs.Runs.{positions_of, positions_in}
use Rattle.vortex_arrays_rebuild.proofs.PlanLemmas.{canonical_set, canonical_whole, planned_row, planned_within, total_reached, sum_fault}
use Rattle.vortex_arrays_rebuild.proofs.plan.plan_layout.Goals as goal

pub add-requires : goal.add-requires
add-requires c =
    let within : c.loop-i.i < len_of c.args.offsets.now = omega (arith, c.in_ok-starts.ensures.many) in
    subst (λ n. c.index-start.result.now + c.index-count.result.now ≤ n) (sym c.loop-i.invariant.limit)
    (planned_within c.args.elements.now c.args.offsets.now c.args.sizes.now (valid_of c.args.validity.now) c.in_ok-starts.starts.items c.in_ok-counts.counts.items c.loop-i.i c.index-start.result.now c.index-count.result.now c.requires c.in_ok-starts.ensures c.in_ok-counts.ensures within c.index-start.ensures c.index-count.ensures)

pub loop-i-preserved : goal.loop-i-preserved
loop-i-preserved c =
    let a : Layout = list_views c.args.elements.now c.args.offsets.now c.args.sizes.now false (valid_of c.args.validity.now) in
    let ps : List ℕ = positions_in c.loop-i.runs.done.items ++ positions_of c.loop-i.runs.last in
    let within : c.loop-i.i < len_of c.args.offsets.now = omega (arith, c.in_ok-starts.ensures.many) in
    let row = planned_row c.args.elements.now c.args.offsets.now c.args.sizes.now (valid_of c.args.validity.now) c.in_ok-starts.starts.items c.in_ok-counts.counts.items c.loop-i.i c.index-start.result.now c.index-count.result.now c.requires c.in_ok-starts.ensures c.in_ok-counts.ensures within c.index-start.ensures c.index-count.ensures in
    record {
      canonical = rw c.in_ok-add.ensures.positions (canonical_set a (content_at c.args.elements.now) c.loop-i.new_starts.items c.loop-i.new_counts.items ps c.loop-i.i c.index-start.result.now c.index-count.result.now c.loop-i.runs.len c.loop-i.runs.counted (omega (arith, c.loop-i.invariant.as_many_starts)) (omega (arith, c.loop-i.invariant.as_many_counts)) c.loop-i.invariant.canonical within row);
      limit = c.in_ok-add.ensures.limit ∙ c.loop-i.invariant.limit;
      as_many_starts = length-set c.loop-i.new_starts.items c.loop-i.i c.loop-i.runs.len ∙ c.loop-i.invariant.as_many_starts;
      as_many_counts = length-set c.loop-i.new_counts.items c.loop-i.i c.index-count.result.now ∙ c.loop-i.invariant.as_many_counts;
    }

pub returns-in_err-add-clause-refused : goal.returns-in_err-add-clause-refused
returns-in_err-add-clause-refused c =
    let a : Layout = list_views c.args.elements.now c.args.offsets.now c.args.sizes.now false (valid_of c.args.validity.now) in
    let ps : List ℕ = positions_in c.loop-i.runs.done.items ++ positions_of c.loop-i.runs.last in
    let within : c.loop-i.i < len_of c.args.offsets.now = omega (arith, c.in_ok-starts.ensures.many) in
    let row = planned_row c.args.elements.now c.args.offsets.now c.args.sizes.now (valid_of c.args.validity.now) c.in_ok-starts.starts.items c.in_ok-counts.counts.items c.loop-i.i c.index-start.result.now c.index-count.result.now c.requires c.in_ok-starts.ensures c.in_ok-counts.ensures within c.index-start.ensures c.index-count.ensures in
    let reached = total_reached a (content_at c.args.elements.now) (take c.loop-i.i c.loop-i.new_starts.items) (take c.loop-i.i c.loop-i.new_counts.items) ps c.loop-i.i c.index-start.result.now c.index-count.result.now c.loop-i.invariant.canonical within row in
    let enough : c.loop-i.runs.len + c.index-count.result.now ≤ total_of (rows_of a) = rw c.loop-i.runs.counted reached in
    grind (arith, sum_fault)

pub returns-clause-canonical : goal.returns-clause-canonical
returns-clause-canonical c =
    let a : Layout = list_views c.args.elements.now c.args.offsets.now c.args.sizes.now false (valid_of c.args.validity.now) in
    rw c.in_ok-runs.ensures.positions (canonical_whole a c.loop-i.i c.loop-i.new_starts.items c.loop-i.new_counts.items _ (omega (arith, c.in_ok-starts.ensures.many)) (omega (arith, c.in_ok-starts.ensures.many, c.loop-i.invariant.as_many_starts)) (omega (arith, c.in_ok-starts.ensures.many, c.loop-i.invariant.as_many_counts)) c.loop-i.invariant.canonical)
