use Rattle.std.proofs.Common.{ap, ◌∙◌}
use Rattle.vortex_model_table.specs.Scan.{kind_at}
use Rattle.vortex_dtype_core.specs.View.{type_of}
use Rattle.vortex_arrays_model.specs.Layout.{array_type_of}
use Rattle.vortex_table_chunk.proofs.LeafTypes.{type_aside, bounds_stay, carried_where}
use Rattle.vortex_table_chunk.proofs.zones.TypeLemmas.{same_sums}
use Rattle.vortex_table_chunk.proofs.retyped.carried_integers.Goals as goal

pub returns-clause-statistics : goal.returns-clause-statistics
returns-clause-statistics c =
    let is = c.args.leaf.now in let part = kind_at (array_type_of c.args.array.now) is in let new = c.in_kind_of.ensures in
    bounds_stay part c.args.old.now c.in_kind_of.result
    (c.has_sum_of.ensures c.if-not-has_sum_of.false ∙ same_sums (type_of c.in_ok-dtype.dtype.now) part (c.in_ok-dtype.ensures ∙ ap (λ t. type_aside t is) c.dtype.ensures))
    new.zone new.sum

pub returns-clause-types : goal.returns-clause-types
returns-clause-types c =
    let is = c.args.leaf.now in
    carried_where c.args.array.now is (type_of c.in_ok-dtype.dtype.now) c.args.old.now c.in_kind_of.result
    (c.in_ok-dtype.ensures ∙ ap (λ t. type_aside t is) c.dtype.ensures) (returns-clause-statistics c) c.in_kind_of.ensures.kinds
