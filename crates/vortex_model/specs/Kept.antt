-- The types that a table can hold, and their leaves.
use Rattle.std.specs.Prelude.{◌≡◌, ℕ, List, Option, Some, None, Bool, true, false, not, ◌&&◌, ◌||◌, if◌then◌else◌}
use Rattle.std.specs.Str.{bytes_eq}
use Rattle.vortex_model.specs.LogicalType.{LogicalType, boolean_type, integer_type, utf8, binary, list, fixed_list, struct, Fields, no_fields, field, non_nullable}
use Rattle.vortex_model.specs.Path.{Positions, type_at}
use Rattle.vortex_model.specs.Refusal.{Refusal, not_a_record, unkept_type, repeated_name, or_else}

-- a field has this name
abbrev pub has_name : List ℕ → Fields → Bool
has_name x no_fields = false
has_name x (field y k fs) = bytes_eq x y || has_name x fs

-- no two fields have one name
abbrev pub names_distinct : Fields → Bool
names_distinct no_fields = true
names_distinct (field x k fs) = not (has_name x fs) && names_distinct fs

-- The first fault below the root: a struct's names are judged before its fields, and fields from
-- left to right.
abbrev mutual
  pub part_fault : LogicalType → Option Refusal
  part_fault (boolean_type n) = None
  part_fault (integer_type i n) = None
  part_fault (utf8 n) = None
  part_fault (binary n) = None
  part_fault (list k n) = part_fault k
  part_fault (fixed_list k m n) = part_fault k
  part_fault (struct fs n) = if names_distinct fs then fields_fault fs else Some repeated_name
  part_fault k = Some unkept_type

  pub fields_fault : Fields → Option Refusal
  fields_fault no_fields = None
  fields_fault (field x k fs) = or_else (part_fault k) (fields_fault fs)

-- why a table can't hold the type: its root has to be a non-nullable struct
abbrev pub type_fault : LogicalType → Option Refusal
type_fault (struct fs non_nullable) = part_fault (struct fs non_nullable)
type_fault k = Some not_a_record

-- a table can hold the type
abbrev pub CanHold : LogicalType → Type 0
CanHold k = type_fault k ≡ None

-- a leaf type: boolean, integer, UTF-8 or binary
abbrev pub is_leaf : LogicalType → Bool
is_leaf (boolean_type n) = true
is_leaf (integer_type i n) = true
is_leaf (utf8 n) = true
is_leaf (binary n) = true
is_leaf k = false

-- this path of positions leads through structs alone to a leaf
abbrev pub is_leaf_at : LogicalType → Positions → Bool
is_leaf_at k is = elim (type_at k is) [ None ↦ false | Some leaf ↦ is_leaf leaf ]
