-- Each child has a smaller layout.
use Rattle.std.specs.Prelude.{◌≤◌, ◌+◌, ℕ, List, [], ◌∷◌}
use Rattle.std.proofs.Common.{arith}
use denote.Param.Weighed.{most}
use Rattle.vortex_arrays_core.specs.declared.array.ArrayLayout.{ArrayLayout}
use Rattle.vortex_arrays_core.specs.declared.array.ArrayLayout.TheVariants.{Bool, Primitive, VarBinView, Constant, Dict, FixedSizeList, ListView, Struct}
use Rattle.vortex_arrays_core.specs.declared.array.Validity.TheVariants.{NonNullable, AllValid, AllInvalid, Array}
use Rattle.vortex_arrays_core.specs.declared.array.ArrayRef.TheDeep.{deep-ArrayLayout}
use Rattle.vortex_arrays_model.specs.Layout.{Layout, size_of, columns_size}
use Rattle.vortex_arrays_core.specs.LayoutOf.{layout_of}
use Rattle.vortex_arrays_model.specs.Parts.{columns_of}

-- no field is larger than all columns together
most_le-columns_size : (ns : List (List ℕ)) (rest : List Layout) →
    most (λ y. size_of y + 1) rest ≤ columns_size (columns_of ns rest) + 1
most_le-columns_size ns [] = omega arith
most_le-columns_size [] (a ∷ rest) = omega (arith, most_le-columns_size [] rest)
most_le-columns_size (n ∷ ns) (a ∷ rest) = omega (arith, most_le-columns_size ns rest)

pub depth_le-size : (n : ArrayLayout) → deep-ArrayLayout n ≤ size_of (layout_of n)
depth_le-size (Bool bits NonNullable) = omega arith
depth_le-size (Bool bits AllValid) = omega arith
depth_le-size (Bool bits AllInvalid) = omega arith
depth_le-size (Bool bits (Array a)) = omega arith
depth_le-size (Primitive ns NonNullable) = omega arith
depth_le-size (Primitive ns AllValid) = omega arith
depth_le-size (Primitive ns AllInvalid) = omega arith
depth_le-size (Primitive ns (Array a)) = omega arith
depth_le-size (VarBinView s views buffers NonNullable) = omega arith
depth_le-size (VarBinView s views buffers AllValid) = omega arith
depth_le-size (VarBinView s views buffers AllInvalid) = omega arith
depth_le-size (VarBinView s views buffers (Array a)) = omega arith
depth_le-size (Constant s n) = omega arith
depth_le-size (Dict c v f) = omega arith
depth_le-size (FixedSizeList e s n NonNullable) = omega arith
depth_le-size (FixedSizeList e s n AllValid) = omega arith
depth_le-size (FixedSizeList e s n AllInvalid) = omega arith
depth_le-size (FixedSizeList e s n (Array a)) = omega arith
depth_le-size (ListView e o s f NonNullable) = omega arith
depth_le-size (ListView e o s f AllValid) = omega arith
depth_le-size (ListView e o s f AllInvalid) = omega arith
depth_le-size (ListView e o s f (Array a)) = omega arith
depth_le-size (Struct names fields n NonNullable) =
    omega (arith, most_le-columns_size names.value fields.items)
depth_le-size (Struct names fields n AllValid) =
    omega (arith, most_le-columns_size names.value fields.items)
depth_le-size (Struct names fields n AllInvalid) =
    omega (arith, most_le-columns_size names.value fields.items)
depth_le-size (Struct names fields n (Array a)) =
    omega (arith, most_le-columns_size names.value fields.items)
