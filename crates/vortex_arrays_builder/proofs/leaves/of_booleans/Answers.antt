use Rattle.std.proofs.Common.{map, sym, subst}
use Rattle.vortex_model.specs.LogicalType.{boolean_type}
use Rattle.vortex_dtype_ptype.specs.View.{nullability_of_flag}
use Rattle.vortex_scalar_value.specs.View.{raw_at}
use Rattle.vortex_arrays_core.specs.LayoutOf.{valid_of}
use Rattle.vortex_arrays_builder.specs.Plain.{IsPlain}
use Rattle.vortex_arrays_builder.proofs.LeafLemmas.{plain_booleans}
use Rattle.vortex_arrays_builder.proofs.leaves.of_booleans.Goals as goal

pub returns : goal.returns
returns c =
    subst (IsPlain (boolean_type (nullability_of_flag c.args.nullability)) (map raw_at c.args.values.now)) (sym c.in_ok-array.ensures)
    (plain_booleans (nullability_of_flag c.args.nullability) (map raw_at c.args.values.now) (valid_of c.in_ok-validity.validity) c.in_ok-bits.bits c.in_ok-bits.ensures c.in_ok-validity.ensures)
