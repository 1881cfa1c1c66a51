-- Definitions of paths, evaluated on examples.
use Rattle.std.proofs.Common.{◌≡◌, refl, ℕ, List, [], ◌∷◌, Some}
use Rattle.std.specs.Prelude.{codes}
use Rattle.vortex_model.specs.LogicalType.{LogicalType, integer_type, struct, no_fields, field, i32, nullable, non_nullable}
use Rattle.vortex_model.specs.Path.{type_at}

abbrev pub a : List ℕ
a = codes "a"

-- {a: {a: i32}?}
abbrev pub below : LogicalType
below = struct (field a (struct (field a (integer_type i32 non_nullable) no_fields) nullable) no_fields) non_nullable

-- a column below a nullable struct is nullable
below_nulls : type_at below (0 ∷ 0 ∷ []) ≡ Some (integer_type i32 nullable)
below_nulls = refl
