-- The type of a value, by its message tree.
use Rattle.std.specs.Prelude.{ℕ, ◌+◌, ◌^◌, ℤ, List, [], ◌∷◌, Bool, false, ◌==◌, nat_lt, is_some, Option, Some, None, Result, Ok, Err, if◌then◌else◌, option_map, option_and_then, codes}
use Rattle.std.specs.Cmp.Lexicographic.{slice_cmp}
use Rattle.std.specs.Ordering.{nat_cmp, match_ordering}
use Rattle.std.specs.Str.{bytes_eq}
use Rattle.hex.specs.Hex.{decode_of}
use Rattle.serde_json.specs.Data.{Data, null, boolean as truth, number, string, array, object, Items, no_items, item, Members, no_members, member}
use Rattle.serde_json.specs.Find.{get, as_array, as_bool, as_i64, as_number, as_str}
use Rattle.vortex_model.specs.LogicalType.{u8, u16, u32, u64, i8, i16, i32, i64, f16, f32, f64, LogicalType}
use Rattle.vortex_dtype_ptype.specs.Numbers.{NumberKind, integral, floating}
use Rattle.vortex_dtype_proto.specs.Messages.{Form, nulls, booleans, texts, byte_strings, variants, numbers, decimals, lists, fixed_lists, maps, records, unions, extended, Tree, node, Reading, read, malformed, refused_by_plugin, reading}
use Rattle.vortex_dtype_proto.specs.Sessions.{no_plugins}
use Rattle.vortex_dtype_proto.specs.View.{trees_from}
use Rattle.vortex_table_request.specs.Parsed.{size_of, natural_of}

-- ---- the values of keys

-- each item as a string
abbrev pub strings_of : Items → Option (List (List ℕ))
strings_of no_items = Some []
strings_of (item d ds) = option_and_then (λ s. option_map (λ ss. s ∷ ss) (strings_of ds)) (as_str d)

-- an integer of 64 bits with sign
abbrev pub integer_of : Data → Option ℤ
integer_of d = option_and_then as_i64 (as_number d)

-- each item as such an integer
abbrev pub integers_of : Items → Option (List ℤ)
integers_of no_items = Some []
integers_of (item d ds) =
    option_and_then (λ z. option_map (λ zs. z ∷ zs) (integers_of ds)) (integer_of d)

-- a missing flag is false
abbrev pub flag_in : Option Data → Option Bool
flag_in None = Some false
flag_in (Some d) = as_bool d

-- the bytes of a string of hexadecimal digits
abbrev pub decoded : {E : Type 0} → Result (List ℕ) E → Option (List ℕ)
decoded (Ok bytes) = Some bytes
decoded (Err e) = None

abbrev pub bytes_of_digits : List ℕ → Option (List ℕ)
bytes_of_digits text = decoded (decode_of text)

-- missing metadata is none
abbrev pub metadata_in : Option Data → Option (Option (List ℕ))
metadata_in None = Some None
metadata_in (Some d) = option_map (λ bytes. Some bytes) (option_and_then bytes_of_digits (as_str d))

-- ---- the kind of a node

-- the primitive type with this name
abbrev pub number_kind_named : List ℕ → Option NumberKind
number_kind_named name =
    if bytes_eq name (codes "u8") then Some (integral u8)
    else (if bytes_eq name (codes "u16") then Some (integral u16)
    else (if bytes_eq name (codes "u32") then Some (integral u32)
    else (if bytes_eq name (codes "u64") then Some (integral u64)
    else (if bytes_eq name (codes "i8") then Some (integral i8)
    else (if bytes_eq name (codes "i16") then Some (integral i16)
    else (if bytes_eq name (codes "i32") then Some (integral i32)
    else (if bytes_eq name (codes "i64") then Some (integral i64)
    else (if bytes_eq name (codes "f16") then Some (floating f16)
    else (if bytes_eq name (codes "f32") then Some (floating f32)
    else (if bytes_eq name (codes "f64") then Some (floating f64) else None))))))))))

-- the kinds without keys of their own
abbrev pub plain_named : List ℕ → Option Form
plain_named name =
    if bytes_eq name (codes "null") then Some nulls
    else (if bytes_eq name (codes "bool") then Some booleans
    else (if bytes_eq name (codes "utf8") then Some texts
    else (if bytes_eq name (codes "binary") then Some byte_strings
    else (if bytes_eq name (codes "variant") then Some variants
    else (if bytes_eq name (codes "list") then Some lists
    else option_map numbers (number_kind_named name))))))

abbrev pub one_if : Bool → ℕ
one_if b = if b then 1 else 0

-- the number of keys in the object that each kind may have
abbrev pub common_keys : Data → ℕ
common_keys d =
    1 + one_if (is_some (get (codes "nullable") d)) + one_if (is_some (get (codes "children") d))

abbrev pub plain_of : ℕ → Data → List ℕ → Option Form
plain_of size d name = if size == common_keys d then plain_named name else None

abbrev pub decimal_of : ℕ → Data → Option Form
decimal_of size d =
    if size == common_keys d + 2
    then option_and_then (λ precision. option_map (λ scale. decimals precision scale)
    (option_and_then integer_of (get (codes "scale") d)))
    (option_and_then integer_of (get (codes "precision") d))
    else None

-- the size fits in 32 bits
abbrev pub fixed_list_of : ℕ → Data → Option Form
fixed_list_of size d =
    if size == common_keys d + 1
    then option_and_then (λ n. if nat_lt n (2 ^ 32) then Some (fixed_lists n)
    else None) (option_and_then natural_of (get (codes "size") d))
    else None

abbrev pub map_of : ℕ → Data → Option Form
map_of size d =
    if size == common_keys d + 1
    then option_map (λ sorted. maps sorted) (option_and_then as_bool (get (codes "sorted") d))
    else None

-- the strings at `names`
abbrev pub names_of : Data → Option (List (List ℕ))
names_of d = option_and_then strings_of (option_and_then as_array (get (codes "names") d))

abbrev pub struct_of : ℕ → Data → Option Form
struct_of size d =
    if size == common_keys d + 1 then option_map (λ names. records names) (names_of d) else None

-- the integers at `tags`
abbrev pub tags_of : Data → Option (List ℤ)
tags_of d = option_and_then integers_of (option_and_then as_array (get (codes "tags") d))

abbrev pub union_of : ℕ → Data → Option Form
union_of size d =
    if size == common_keys d + 2
    then option_and_then (λ names. option_map (λ tags. unions names tags) (tags_of d))
    (names_of d) else None

abbrev pub extension_of : ℕ → Data → Option Form
extension_of size d =
    if size == common_keys d + 1 + one_if (is_some (get (codes "metadata") d))
    then option_and_then (λ id. option_map (λ metadata. extended id metadata)
    (metadata_in (get (codes "metadata") d)))
    (option_and_then as_str (get (codes "id") d))
    else None

-- the kind of an object with this many members
abbrev pub form_named : ℕ → Data → List ℕ → Option Form
form_named size d name =
    if bytes_eq name (codes "decimal") then decimal_of size d
    else (if bytes_eq name (codes "fixed_size_list") then fixed_list_of size d
    else (if bytes_eq name (codes "map") then map_of size d
    else (if bytes_eq name (codes "struct") then struct_of size d
    else (if bytes_eq name (codes "union") then union_of size d
    else (if bytes_eq name (codes "extension") then extension_of size d
    else plain_of size d name)))))

-- ---- trees and types

-- the tree of an object with this many members and these children
abbrev pub tree_with : ℕ → Data → List Tree → Option Tree
tree_with size d children =
    option_and_then (λ flag. option_map (λ form. node form flag (trees_from children))
    (option_and_then (form_named size d) (option_and_then as_str (get (codes "kind") d))))
    (flag_in (get (codes "nullable") d))

-- The message tree of a value: an object with `kind` and the keys of that kind. Missing children
-- are none.
abbrev mutual
  pub tree_in : Data → Option Tree
  tree_in null = None
  tree_in (truth b) = None
  tree_in (number n) = None
  tree_in (string s) = None
  tree_in (array ds) = None
  tree_in (object ms) =
      option_and_then (λ size. option_and_then (λ children. tree_with size (object ms) children)
      (children_in ms)) (size_of (object ms))

  -- the member `children`, read item by item
  pub children_in : Members → Option (List Tree)
  children_in no_members = Some []
  children_in (member k d ms) =
      match_ordering (slice_cmp nat_cmp (codes "children") k) (children_in ms) (trees_in d)
      (children_in ms)

  pub trees_in : Data → Option (List Tree)
  trees_in null = None
  trees_in (truth b) = None
  trees_in (number n) = None
  trees_in (string s) = None
  trees_in (array ds) = trees_of_items ds
  trees_in (object ms) = None

  pub trees_of_items : Items → Option (List Tree)
  trees_of_items no_items = Some []
  trees_of_items (item d ds) =
      option_and_then (λ t. option_map (λ ts. t ∷ ts) (trees_of_items ds)) (tree_in d)

-- the type that was read, if any
abbrev pub type_read : Reading LogicalType → Option LogicalType
type_read (read k) = Some k
type_read malformed = None
type_read refused_by_plugin = None

-- the type of a tree, without plugins
abbrev pub type_meant : Tree → Option LogicalType
type_meant t = type_read (reading no_plugins t)

-- the type of a value
abbrev pub type_in : Data → Option LogicalType
type_in d = option_and_then type_meant (tree_in d)
