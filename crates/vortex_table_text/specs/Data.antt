-- The JSON values that lines have for types, contents and predicates, with the keys of an object in
-- byte order.
use Rattle.std.specs.Prelude.{ℕ, List, ◌∷◌, codes, []}
use Rattle.hex.specs.Hex.{encode_lower}
use Rattle.serde_json.specs.Data.{unsigned, Data, null as nothing_there, boolean as flag, number, string, array, object, Items, no_items, item, Members, no_members, member}
use Rattle.serde_json.specs.Find.{of_integer}
use Rattle.vortex_model.specs.LogicalType.{Nullability, is_nullable, LogicalType, boolean_type, integer_type, utf8, binary, list, fixed_list, struct, Fields, no_fields, field}
use Rattle.vortex_model.specs.Content.{Content, null, boolean, integer, text, byte_string, tuple, Contents, nothing, first}
use Rattle.vortex_model.specs.Path.{Names}
use Rattle.vortex_model_table.specs.Expression.{Expression, literal, column, compare, both, either, negation, is_null, is_not_null, is_nan, between, like, row_count, statistic}
use Rattle.vortex_table_response.specs.type_texts.Text.{int_kind_text}
use Rattle.vortex_table_text.specs.Predicates.{comparison_name, aggregate_name}

-- ---- types

abbrev pub nullable_member : Nullability → Members → Members
nullable_member n ms = member (codes "nullable") (flag (is_nullable n)) ms

abbrev pub plain_data : List ℕ → Nullability → Data
plain_data name n = object (member (codes "kind") (string name) (nullable_member n no_members))

abbrev pub names_data : Fields → Items
names_data no_fields = no_items
names_data (field x k fs) = item (string x) (names_data fs)

-- A type that a table can have.
abbrev mutual
  pub type_data : LogicalType → Data
  type_data (boolean_type n) = plain_data (codes "bool") n
  type_data (integer_type i n) = plain_data (int_kind_text i) n
  type_data (utf8 n) = plain_data (codes "utf8") n
  type_data (binary n) = plain_data (codes "binary") n
  type_data (list k n) =
      object (member (codes "children") (array (item (type_data k) no_items))
      (member (codes "kind") (string (codes "list")) (nullable_member n no_members)))
  type_data (fixed_list k m n) =
      object (member (codes "children") (array (item (type_data k) no_items))
      (member (codes "kind") (string (codes "fixed_size_list"))
      (nullable_member n (member (codes "size") (number (unsigned m)) no_members))))
  type_data (struct fs n) =
      object (member (codes "children") (array (children_data fs))
      (member (codes "kind") (string (codes "struct"))
      (member (codes "names") (array (names_data fs)) (nullable_member n no_members))))
  type_data k = nothing_there

  pub children_data : Fields → Items
  children_data no_fields = no_items
  children_data (field x k fs) = item (type_data k) (children_data fs)

-- ---- contents

-- a content that a table can have
abbrev mutual
  pub content_data : Content → Data
  content_data null = nothing_there
  content_data (boolean b) = flag b
  content_data (integer z) = number (of_integer z)
  content_data (text bs) = string bs
  content_data (byte_string bs) = string (encode_lower bs)
  content_data (tuple cs) = array (contents_data cs)
  content_data c = nothing_there

  pub contents_data : Contents → Items
  contents_data nothing = no_items
  contents_data (first c cs) = item (content_data c) (contents_data cs)

-- ---- predicates

abbrev pub path_data : Names → Items
path_data [] = no_items
path_data (x ∷ xs) = item (string x) (path_data xs)

-- an array whose first item is the name of a form
abbrev pub form_data : List ℕ → Items → Data
form_data name ds = array (item (string name) ds)

abbrev pub binary_data : List ℕ → Data → Data → Items → Data
binary_data name x y ds = form_data name (item x (item y ds))

abbrev pub predicate_data : Expression → Data
predicate_data (literal k c) =
    binary_data (codes "lit") (type_data k) (content_data c) no_items
predicate_data (column xs) = form_data (codes "col") (path_data xs)
predicate_data (compare o x y) =
    binary_data (comparison_name o) (predicate_data x) (predicate_data y) no_items
predicate_data (both x y) =
    binary_data (codes "and") (predicate_data x) (predicate_data y) no_items
predicate_data (either x y) =
    binary_data (codes "or") (predicate_data x) (predicate_data y) no_items
predicate_data (negation x) = form_data (codes "not") (item (predicate_data x) no_items)
predicate_data (is_null x) = form_data (codes "is_null") (item (predicate_data x) no_items)
predicate_data (is_not_null x) = form_data (codes "is_not_null") (item (predicate_data x) no_items)
predicate_data (is_nan x) = form_data (codes "is_nan") (item (predicate_data x) no_items)
predicate_data (between x lo hi lower_strict upper_strict) =
    binary_data (codes "between") (predicate_data x) (predicate_data lo)
    (item (predicate_data hi) (item (flag lower_strict) (item (flag upper_strict) no_items)))
predicate_data (like x form negated ignores_case) =
    binary_data (codes "like") (predicate_data x) (predicate_data form)
    (item (flag negated) (item (flag ignores_case) no_items))
predicate_data row_count = form_data (codes "row_count") no_items
predicate_data (statistic x a) =
    binary_data (codes "stat") (predicate_data x) (string (aggregate_name a)) no_items
