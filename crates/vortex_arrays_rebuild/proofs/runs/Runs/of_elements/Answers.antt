use Rattle.std.proofs.Common.{◌≡◌, ◌*◌, ◌∙◌, length, sym, ap, rules, arith}
use Rattle.std.proofs.lemmas.List.{length-set}
use Rattle.vortex_arrays_rebuild.proofs.ScaledLemmas.{length_elements, scaled_set, scaled_whole, fit_set, fit_whole}
use Rattle.vortex_arrays_rebuild.specs.Runs.{positions_in}
use Rattle.vortex_arrays_rebuild.proofs.runs.Runs.of_elements.Goals as goal

pub loop-i-preserved : goal.loop-i-preserved
loop-i-preserved c = record {
  positions = scaled_set c.args.size c.args.self.now.list.items c.loop-i.list.items c.loop-i.i c.index-run.result.now c.of_elements.result c.loop-i.invariant.positions c.loop-i.invariant.as_many (omega arith) c.index-run.ensures c.of_elements.ensures.start c.of_elements.ensures.len;
  within = fit_set c.args.count c.loop-i.list.items c.loop-i.i _ c.of_elements.result c.loop-i.invariant.within c.of_elements.ensures.within c.loop-i.invariant.as_many (omega arith);
  as_many = length-set c.loop-i.list.items c.loop-i.i c.of_elements.result ∙ c.loop-i.invariant.as_many;
}

pub invariant_of-result-clause-within : goal.invariant_of-result-clause-within
invariant_of-result-clause-within c = fit_whole c.args.count c.loop-i.i (length c.args.self.now.list.items) c.loop-i.list.items c.loop-i.invariant.as_many (omega arith) c.loop-i.invariant.within

pub invariant_of-result-clause-counted : goal.invariant_of-result-clause-counted
invariant_of-result-clause-counted c =
    let many : length (positions_in c.loop-i.list.items) ≡ length (positions_in c.args.self.now.list.items) * c.args.size = ap length (scaled_whole c.args.size c.loop-i.i c.args.self.now.list.items c.loop-i.list.items c.loop-i.invariant.as_many (omega arith) c.loop-i.invariant.positions) ∙ length_elements c.args.size (positions_in c.args.self.now.list.items) in
    let product : c.args.self.now.len * c.args.size ≡ length (positions_in c.args.self.now.list.items) * c.args.size = ap (λ n. n * c.args.size) c.args.self.now.counted in
    let taken : c.in-Some.len ≡ c.args.self.now.len * c.args.size = search rules in
    taken ∙ product ∙ sym many
