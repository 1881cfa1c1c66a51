use Rattle.std.proofs.Common.{ap, ◌∙◌}
use Rattle.vortex_model_table.specs.Statistics.{sum_of}
use Rattle.vortex_model_table.specs.Typing.{sum_kind}
use Rattle.vortex_arrays_model.specs.Layout.{array_type_of, rows_of}
use Rattle.vortex_table_chunk.proofs.zones.TypeLemmas.{own_sum, sum_in_type, sum_stays}
use Rattle.vortex_table_chunk.proofs.retyped.carried_sum.Goals as goal

pub returns-then-has_sum_of-clause-number : goal.returns-then-has_sum_of-clause-number
returns-then-has_sum_of-clause-number c =
    let old = c.requires.old.1 in
    sum_stays c.args.old.now.sum (sum_kind c.requires.old.0) (sum_kind (array_type_of c.args.column.now)) (sum_of (rows_of c.args.column.now)) (ap (λ z. z.total) old.zone) old.kind
    (c.has_sum_of.ensures c.if-has_sum_of.true ∙ ap sum_kind c.dtype.ensures)

pub returns-then-has_sum_of-clause-kind : goal.returns-then-has_sum_of-clause-kind
returns-then-has_sum_of-clause-kind c = own_sum c.args.old.now.sum (sum_kind (array_type_of c.args.column.now)) (c.has_sum_of.ensures c.if-has_sum_of.true ∙ ap sum_kind c.dtype.ensures)

pub returns-clause-number : goal.returns-clause-number
returns-clause-number c = ap (λ z. z.total) c.in_ok-stats.ensures.zone

pub returns-clause-kind : goal.returns-clause-kind
returns-clause-kind c = sum_in_type (array_type_of c.args.column.now) c.in_ok-stats.stats.sum c.in_ok-stats.ensures.types.sum
