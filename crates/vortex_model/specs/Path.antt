-- Paths into types and rows, by names and by positions.
use Rattle.std.specs.Prelude.{ℕ, zero, suc, List, [], ◌∷◌, Option, Some, None, if◌then◌else◌, Bool, true, false, option_map, option_and_then, ◌&&◌, ◌==◌}
use Rattle.std.specs.Str.{bytes_eq}
use Rattle.vortex_model.specs.LogicalType.{LogicalType, struct, Fields, no_fields, field, nullable_inside, nullability_of}
use Rattle.vortex_model.specs.Content.{Content, null, tuple, nth}

-- a path of field names; the empty one is the root
abbrev pub Names : Type 0
Names = List (List ℕ)

-- a step goes to a field of a struct, or to the elements of a list
pub data Step : Type 0 where
  name : List ℕ → Step
  element : Step

-- a path of field positions
abbrev pub Positions : Type 0
Positions = List ℕ

-- the position of the first field with this name
abbrev pub position_named : Fields → List ℕ → Option ℕ
position_named no_fields x = None
position_named (field y k fs) x =
    if bytes_eq y x then Some 0 else option_map suc (position_named fs x)

-- the type of the field at a position
abbrev pub field_at : Fields → ℕ → Option LogicalType
field_at no_fields i = None
field_at (field y k fs) zero = Some k
field_at (field y k fs) (suc i) = field_at fs i

abbrev pub part_at : LogicalType → ℕ → Option LogicalType
part_at (struct fs n) i = field_at fs i
part_at k i = None

abbrev pub position_in : LogicalType → List ℕ → Option ℕ
position_in (struct fs n) x = position_named fs x
position_in k x = None

-- the type at a path, nullable also where a struct on the way is
abbrev pub type_at : LogicalType → Positions → Option LogicalType
type_at k [] = Some k
type_at k (i ∷ is) = option_map (nullable_inside (nullability_of k))
    (option_and_then (λ part. type_at part is) (part_at k i))

-- the field of a struct at a position, and null of any other content
abbrev pub part_of : Content → ℕ → Content
part_of (tuple cs) i = nth cs i
part_of c i = null

-- the content at a path, null where a struct on the way is
abbrev pub at : Content → Positions → Content
at c [] = c
at c (i ∷ is) = at (part_of c i) is

-- the positions of a path of names, where the type has it
abbrev pub positions : LogicalType → Names → Option Positions
positions k [] = Some []
positions k (x ∷ xs) =
    option_and_then (λ i. option_and_then (λ part. option_map (λ is. i ∷ is) (positions part xs))
    (part_at k i)) (position_in k x)

-- the type at a path of names
abbrev pub type_of_column : LogicalType → Names → Option LogicalType
type_of_column k xs = option_and_then (type_at k) (positions k xs)

-- a row's value in the column of a path, and null where the type has no such column
abbrev pub column : LogicalType → Names → Content → Content
column k xs row = elim (positions k xs) [ None ↦ null | Some is ↦ at row is ]

-- the first path is a prefix of the second
abbrev pub begins : Names → Names → Bool
begins [] ys = true
begins (x ∷ xs) [] = false
begins (x ∷ xs) (y ∷ ys) = bytes_eq x y && begins xs ys

-- the paths are equal
abbrev pub eq_positions : Positions → Positions → Bool
eq_positions [] [] = true
eq_positions (i ∷ is) (j ∷ js) = (i == j) && eq_positions is js
eq_positions is js = false
