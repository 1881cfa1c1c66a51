use Rattle.std.proofs.Common.{◌≡◌, ap, ◌∙◌}
use Rattle.vortex_model_table.specs.Scan.{kind_at}
use Rattle.vortex_model_table.specs.Statistics.{sum_of}
use Rattle.vortex_model_table.specs.Typing.{sum_kind}
use Rattle.vortex_model_table.specs.ZoneMap.{values_at}
use Rattle.vortex_dtype_core.specs.View.{type_of}
use Rattle.vortex_arrays_model.specs.Layout.{array_type_of, rows_of}
use Rattle.vortex_table_chunk.specs.zones.Sums.{kind_of_sum, is_sum_of}
use Rattle.vortex_table_chunk.proofs.LeafTypes.{type_aside, carried_typed}
use Rattle.vortex_table_chunk.proofs.zones.TypeLemmas.{own_sum, same_sums, sum_stays}
use Rattle.vortex_table_chunk.proofs.retyped.carried_bounds.Goals as goal

pub returns-then-has_sum_of-clause-statistics : goal.returns-then-has_sum_of-clause-statistics
returns-then-has_sum_of-clause-statistics c =
    let k = array_type_of c.args.array.now in let is = c.args.leaf.now in let part = kind_at k is in
    let values = values_at is (rows_of c.args.array.now) in let before = c.requires.old.0 in let old = c.requires.old.1 in let sum = c.args.old.now.sum in
    let sums : kind_of_sum sum ≡ sum_kind part =
    c.has_sum_of.ensures c.if-has_sum_of.true ∙ same_sums (type_of c.in-Some.dtype.now) part (c.in-Some.ensures ∙ ap (λ t. type_aside t is) c.dtype.ensures) in
    record {
      zone = c.in_ok-bounds.ensures.zone before part c.args.max_length values old.zone (sum_stays sum (sum_kind before) (sum_kind part) (sum_of values) (ap (λ z. z.total) old.zone) old.kind sums);
      kind = ap (is_sum_of (sum_kind part)) c.in_ok-bounds.ensures.sum ∙ own_sum sum (sum_kind part) sums;
    }

pub returns-then-has_sum_of-clause-types : goal.returns-then-has_sum_of-clause-types
returns-then-has_sum_of-clause-types c = λ typed.
    let is = c.args.leaf.now in
    carried_typed c.args.array.now is (type_of c.in-Some.dtype.now) c.args.max_length c.in_ok-bounds.bounds c.requires.leaf typed
    (c.in-Some.ensures ∙ ap (λ t. type_aside t is) c.dtype.ensures) (returns-then-has_sum_of-clause-statistics c) c.in_ok-bounds.ensures.kinds
