-- Classes of types: whether their values have a least and a greatest one.
use Rattle.std.specs.Prelude.{◌≡◌, ℕ, List, [], ◌∷◌, Option, Some, None, false}
use Rattle.std.specs.Borrow.{Bor}
use Rattle.vortex_model.specs.LogicalType.{LogicalType, boolean_type, integer_type, float, decimal, utf8, binary}
use Rattle.vortex_model.specs.Path.{Names}
use Rattle.vortex_model_table.specs.Command.{part_named}
use Rattle.vortex_model_table.specs.Typing.{has_bounds}
use Rattle.vortex_dtype_ptype.specs.Numbers.{integral}
use Rattle.vortex_dtype_ptype.specs.View.{number_kind_of}
use Rattle.vortex_dtype_core.specs.View.{type_of}
use Rattle.vortex_dtype_core.specs.declared.dtype.DType.{DType}
use Rattle.vortex_stats_expr.specs.declared.types.Leaf.{Leaf}
use Rattle.vortex_stats_expr.specs.declared.types.Leaf.TheVariants as leaf
use Rattle.vortex_stats_expr.specs.declared.types.TypeClass.{TypeClass}
use Rattle.vortex_stats_expr.specs.declared.types.TypeClass.TheVariants as class

abbrev pub IsOfLeaf : Leaf → LogicalType → Type 0
IsOfLeaf leaf.Bool (boolean_type n) = Unit {0}
IsOfLeaf (leaf.Primitive p) (integer_type i n) = integral i ≡ number_kind_of p
IsOfLeaf leaf.Utf8 (utf8 n) = Unit {0}
IsOfLeaf leaf.Binary (binary n) = Unit {0}
IsOfLeaf l k = ⊥

-- the type is of the class: of the last where its values have no least and no greatest
abbrev pub IsOfClass : TypeClass → LogicalType → Type 0
IsOfClass (class.Leaf l) k = IsOfLeaf l k
IsOfClass class.Float (float f n) = Unit {0}
IsOfClass class.Decimal (decimal p s n) = Unit {0}
IsOfClass class.Other k = has_bounds k ≡ false
IsOfClass c k = ⊥

-- a type, where there is one, is of the class
abbrev pub IsClass : Option TypeClass → Option LogicalType → Type 0
IsClass None None = Unit {0}
IsClass (Some c) (Some k) = IsOfClass c k
IsClass c k = ⊥

abbrev pub IsLeaf : Leaf → Option LogicalType → Type 0
IsLeaf l None = ⊥
IsLeaf l (Some k) = IsOfLeaf l k

-- the type that a `&` leads to
abbrev pub kind_at : Option (Bor DType) → Option LogicalType
kind_at None = None
kind_at (Some r) = Some (type_of r.now)

-- the part of that name
abbrev pub step_along : Option LogicalType → List ℕ → Option LogicalType
step_along None x = None
step_along (Some k) x = part_named k x

-- the part at a path of names, with the nullability that it has by itself
abbrev pub along : Option LogicalType → Names → Option LogicalType
along o [] = o
along o (x ∷ xs) = along (step_along o x) xs
