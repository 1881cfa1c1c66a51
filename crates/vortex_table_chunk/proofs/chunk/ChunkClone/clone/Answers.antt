use Rattle.std.proofs.Common.{◌≡◌, sym, ap, subst, ◌∙◌}
use Rattle.std.specs.List.{AllZip}
use Rattle.vortex_arrays_model.specs.Layout.{array_type_of, rows_of}
use Rattle.vortex_table_chunk.specs.Bounds.{AreBoundsOf}
use Rattle.vortex_table_chunk.specs.Kept.{AreKeptOf}
use Rattle.vortex_stats_array.specs.Alike.{SaysTheSame}
use Rattle.vortex_table_chunk.proofs.ClonedLemmas.{all_own_bounds}
use Rattle.vortex_table_chunk.proofs.chunk.ChunkClone.clone.Goals as goal

pub with_bounds-requires-clause-bounds : goal.with_bounds-requires-clause-bounds
with_bounds-requires-clause-bounds c =
    let old = c.args.self.now in let bounds = c.in_ok-bounds.bounds.items in
    subst (λ a. AreBoundsOf (array_type_of a) old.lengths.value.items old.leaves.value.items bounds (rows_of a)) (sym c.in_ok-array.ensures.cases)
    (all_own_bounds (array_type_of old.array) old.lengths.value.items old.leaves.value.items old.bounds.items bounds (rows_of old.array) c.in_ok-bounds.ensures.cases.0 old.honest)

pub with_bounds-requires-clause-columns : goal.with_bounds-requires-clause-columns
with_bounds-requires-clause-columns c =
    let same : c.deref-2.result.now ≡ c.args.self.now.leaves.value.items = c.deref-2.ensures.value ∙ ap (λ v. v.items) c.deref.ensures in
    subst (λ leaves. AreKeptOf leaves c.in_ok-columns.columns.items (rows_of c.in_ok-array.array)) same c.in_ok-columns.ensures

pub returns : goal.returns
returns c = record {
  cases = record {
    array = c.in_ok-chunk.ensures.array ∙ c.in_ok-array.ensures.cases;
    leaves = c.in_ok-chunk.ensures.leaves;
    lengths = c.in_ok-chunk.ensures.lengths;
    bounds = subst (AllZip SaysTheSame c.args.self.now.bounds.items) (sym c.in_ok-chunk.ensures.bounds) c.in_ok-bounds.ensures.cases.0;
  };
}
