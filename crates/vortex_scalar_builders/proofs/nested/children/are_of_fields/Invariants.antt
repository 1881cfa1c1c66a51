use Rattle.std.proofs.Common.{◌≡◌, drop, length, map}
use Rattle.vortex_dtype_core.specs.View.{fields_of}
use Rattle.vortex_scalar_core.specs.Scalar.{scalar_type}
use Rattle.vortex_scalar_builders.specs.nested.Children.{are_of_fields}
use Rattle.vortex_scalar_builders.proofs.nested.children.are_of_fields.Given as goal

abbrev pub invariant-loop-i : goal.invariant-loop-i
invariant-loop-i l = record {
  eq_length : length l.fields ≡ length l.children;
  left : are_of_fields (fields_of (drop l.i l.fields)) (map scalar_type (drop l.i l.children)) ≡ are_of_fields (fields_of l.fields) (map scalar_type l.children);
}
