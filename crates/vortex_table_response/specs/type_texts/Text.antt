-- Types as compact JSON, with the keys of an object in byte order.
use Rattle.std.specs.Prelude.{ℕ, List, [], ◌∷◌, ◌++◌, Bool, true, false, not, ◌&&◌, ◌==◌, nat_le, if◌then◌else◌, codes, decimal}
use Rattle.json.specs.Print.{quoted}
use Rattle.vortex_model.specs.LogicalType.{Nullability, is_nullable, IntKind, u8, u16, u32, u64, i8, i16, i32, i64, LogicalType, boolean_type, integer_type, utf8, binary, list, fixed_list, struct, Fields, no_fields, field}

abbrev pub flag_text : Bool → List ℕ
flag_text b = if b then codes "true" else codes "false"

-- a byte that needs no escape in a JSON string: no control character, quote or backslash
abbrev pub is_unescaped : ℕ → Bool
is_unescaped x = nat_le 32 x && (not (x == 34) && not (x == 92))

-- a comma, unless the item is the first
abbrev pub comma : Bool → List ℕ
comma later = if later then 44 ∷ [] else []

abbrev pub int_kind_text : IntKind → List ℕ
int_kind_text u8 = codes "u8"
int_kind_text u16 = codes "u16"
int_kind_text u32 = codes "u32"
int_kind_text u64 = codes "u64"
int_kind_text i8 = codes "i8"
int_kind_text i16 = codes "i16"
int_kind_text i32 = codes "i32"
int_kind_text i64 = codes "i64"

abbrev pub plain_text : List ℕ → Nullability → List ℕ
plain_text name n = codes "{\"kind\":\"" ++ name ++ codes "\",\"nullable\":" ++
    flag_text (is_nullable n) ++ codes "}"

abbrev pub names_text : Bool → Fields → List ℕ
names_text later no_fields = []
names_text later (field x k fs) = comma later ++ quoted x ++ names_text true fs

-- what comes after the children of a struct type
abbrev pub struct_end_text : Fields → Nullability → List ℕ
struct_end_text fs n =
    codes "],\"kind\":\"struct\",\"names\":[" ++ names_text false fs ++ codes "],\"nullable\":" ++
    flag_text (is_nullable n) ++ codes "}"

-- what comes after the child of a list type
abbrev pub list_end_text : Nullability → List ℕ
list_end_text n =
    codes "],\"kind\":\"list\",\"nullable\":" ++ flag_text (is_nullable n) ++ codes "}"

-- what comes after the child of a type of fixed-size lists
abbrev pub fixed_list_end_text : ℕ → Nullability → List ℕ
fixed_list_end_text m n =
    codes "],\"kind\":\"fixed_size_list\",\"nullable\":" ++ flag_text (is_nullable n) ++
    codes ",\"size\":" ++ decimal m ++ codes "}"

-- A type that a table can have.
abbrev mutual
  pub type_text : LogicalType → List ℕ
  type_text (boolean_type n) = plain_text (codes "bool") n
  type_text (integer_type i n) = plain_text (int_kind_text i) n
  type_text (utf8 n) = plain_text (codes "utf8") n
  type_text (binary n) = plain_text (codes "binary") n
  type_text (list k n) =
      codes "{\"children\":[" ++ type_text k ++ codes "],\"kind\":\"list\",\"nullable\":" ++
      flag_text (is_nullable n) ++ codes "}"
  type_text (fixed_list k m n) =
      codes "{\"children\":[" ++ type_text k ++
      codes "],\"kind\":\"fixed_size_list\",\"nullable\":" ++ flag_text (is_nullable n)
      ++ codes ",\"size\":" ++ decimal m ++ codes "}"
  type_text (struct fs n) =
      codes "{\"children\":[" ++ children_text false fs ++ struct_end_text fs n
  type_text k = []

  pub children_text : Bool → Fields → List ℕ
  children_text later no_fields = []
  children_text later (field x k fs) = comma later ++ type_text k ++ children_text true fs
