use Rattle.std.proofs.Common.{◌≡◌, ◌++◌, All, IsTrue, map}
use Rattle.std.specs.Vec.Iter.{into_iter_items}
use Rattle.vortex_model.specs.Valid.{valid}
use Rattle.vortex_dtype_core.specs.View.{type_of}
use Rattle.vortex_scalar_value.specs.View.{raw_in, content_in}
use Rattle.vortex_scalar_core.specs.Scalar.{scalar_type, scalar_content}
use Rattle.vortex_table_select.proofs.read.push_scalars.Given as goal

-- the rows so far, and those of the values that are left, are all
abbrev pub invariant-loop-value : goal.invariant-loop-value
invariant-loop-value l = record {
  content : map scalar_content l.found.items ++ map content_in (into_iter_items l.value-iterator) ≡ map scalar_content l.fn.found.items ++ map content_in l.fn.values.items;
  left : All (λ v. IsTrue (valid (type_of l.dtype) (raw_in v))) (into_iter_items l.value-iterator);
  kind : All (λ row. scalar_type row ≡ type_of l.dtype) l.found.items;
}
