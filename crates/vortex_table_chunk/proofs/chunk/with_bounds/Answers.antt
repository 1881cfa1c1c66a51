use Rattle.std.proofs.Common.{◌≡◌, sym, ap, subst}
use Rattle.vortex_arrays_model.specs.Layout.{array_type_of, rows_of}
use Rattle.vortex_table_chunk.specs.Bounds.{AreBoundsOf}
use Rattle.vortex_table_chunk.specs.Kept.{AreKeptOf}
use Rattle.vortex_table_chunk.proofs.TypedRows.{rows_pass}
use Rattle.vortex_table_chunk.proofs.chunk.with_bounds.Goals as goal

pub invariant_of-result : goal.invariant_of-result
invariant_of-result c =
    let bounds = c.args.bounds.items in let rows = rows_of c.args.array in let k = array_type_of c.args.array in let leaves = c.in_ok-leaves.leaves.value.items in
    let same_leaves : c.args.leaves.now.value.items ≡ leaves = ap (λ v. v.items) (sym c.in_ok-leaves.ensures.cases) in
    let same_lengths : c.args.lengths.now.value.items ≡ c.in_ok-lengths.lengths.value.items = ap (λ v. v.items) (sym c.in_ok-lengths.ensures.cases) in record {
      sound = ∣ c.len-rows.ensures.sound ∣₁;
      typed = rows_pass c.args.array c.tests_of_validity_are_right.ensures c.len-rows.ensures.sound;
      honest = subst (λ ns. AreBoundsOf k ns leaves bounds rows) same_lengths (subst (λ ls. AreBoundsOf k c.args.lengths.now.value.items ls bounds rows) same_leaves c.requires.bounds);
      kept = subst (λ ls. AreKeptOf ls c.args.columns.items rows) same_leaves c.requires.columns;
      counted = c.len-rows.ensures.count;
    }
