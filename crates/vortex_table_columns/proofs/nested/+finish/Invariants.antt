use Rattle.std.specs.Vec.Iter.{into_iter_items}
use Rattle.vortex_table_columns.proofs.InsideLemmas.{ArraysLeft}
use Rattle.vortex_table_columns.proofs.nested.+finish.Given as goal

abbrev pub invariant-finish_all-loop-column : goal.invariant-finish_all-loop-column
invariant-finish_all-loop-column l = ArraysLeft l.fn.columns.items l.fields (into_iter_items l.column-iterator) l.arrays.items

abbrev pub decreases-NestedBuilder::finish_deep : goal.decreases-NestedBuilder::finish_deep
decreases-NestedBuilder::finish_deep l = l.depth

abbrev pub decreases-finish_all : goal.decreases-finish_all
decreases-finish_all l = l.depth
