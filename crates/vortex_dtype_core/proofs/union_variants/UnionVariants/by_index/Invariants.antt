use Rattle.std.proofs.Common.{◌≡◌, ◌+◌, ◌++◌, drop, length, map}
use Rattle.std.specs.List.{zip}
use Rattle.std.specs.Vec.Iter.{into_iter_items}
use Rattle.vortex_dtype_core.specs.View.{type_of, variant_of}
use Rattle.vortex_dtype_core.proofs.union_variants.UnionVariants.by_index.Given as goal

abbrev pub invariant-loop-dtype : goal.invariant-loop-dtype
invariant-loop-dtype l = record {
  many : length l.variants.items + length (into_iter_items l.dtype-iterator) ≡ length l.fn.dtypes.items;
  all : map variant_of l.variants.items ++ zip (drop (length l.variants.items) l.fn.names) (zip (drop (length l.variants.items) l.tags) (map type_of (into_iter_items l.dtype-iterator))) ≡ zip l.fn.names (zip l.tags (map type_of l.fn.dtypes.items));
}
