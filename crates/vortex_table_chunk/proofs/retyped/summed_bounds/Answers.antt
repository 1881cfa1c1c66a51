use Rattle.std.proofs.Common.{◌≡◌, true, sym, ap, subst, ◌∙◌}
use Rattle.vortex_model.specs.LogicalType.{nullable, with_nullability}
use Rattle.vortex_model_table.specs.Scan.{kind_at}
use Rattle.vortex_model_table.specs.Statistics.{sum_of}
use Rattle.vortex_model_table.specs.Typing.{sum_kind}
use Rattle.vortex_model_table.specs.ZoneMap.{sum_in, values_at}
use Rattle.vortex_dtype_core.specs.View.{type_of}
use Rattle.vortex_arrays_model.specs.Layout.{array_type_of, rows_of}
use Rattle.vortex_table_chunk.specs.zones.Bounds.{WereBoundsOf}
use Rattle.vortex_table_chunk.specs.zones.Sums.{is_sum_of}
use Rattle.vortex_arrays_struct.proofs.Parts.{part_rows}
use Rattle.vortex_table_chunk.proofs.JoinedLemmas.{kind_there}
use Rattle.vortex_table_chunk.proofs.LeafTypes.{carried_typed}
use Rattle.vortex_table_chunk.proofs.retyped.summed_bounds.Goals as goal

pub carried_sum-requires-clause-old : goal.carried_sum-requires-clause-old
carried_sum-requires-clause-old c =
    subst (WereBoundsOf c.args.max_length c.args.old.now) (sym (part_rows c.args.array.now c.in_ok-column.column c.args.leaf.now c.in_ok-column.ensures.part)) c.requires.old

pub returns-clause-statistics : goal.returns-clause-statistics
returns-clause-statistics c =
    let a = c.args.array.now in let is = c.args.leaf.now in let column = c.in_ok-column.column in let part = kind_at (array_type_of a) is in
    let there : part ≡ array_type_of column = kind_there (array_type_of a) is (array_type_of column) c.in_ok-column.ensures.part.kind in
    record {
      zone = c.in_ok-bounds.ensures.zone c.requires.old.0 part c.args.max_length (values_at is (rows_of a)) c.requires.old.1.zone
          (c.in_ok-sum.ensures.number ∙ (λ j. sum_in (sum_kind (sym there j)) (sum_of (part_rows a column is c.in_ok-column.ensures.part j))));
      kind = ap (is_sum_of (sum_kind part)) c.in_ok-bounds.ensures.sum ∙ subst (λ k. is_sum_of (sum_kind k) c.in_ok-sum.sum ≡ true) (sym there) c.in_ok-sum.ensures.kind;
    }

pub returns-clause-types : goal.returns-clause-types
returns-clause-types c = λ typed.
    let a = c.args.array.now in let is = c.args.leaf.now in let column = c.in_ok-column.column in
    carried_typed a is (type_of c.dtype.result.now) c.args.max_length c.in_ok-bounds.bounds c.requires.leaf typed
    (ap (with_nullability nullable) (c.dtype.ensures ∙ sym (kind_there (array_type_of a) is (array_type_of column) c.in_ok-column.ensures.part.kind)))
    (returns-clause-statistics c) c.in_ok-bounds.ensures.kinds
