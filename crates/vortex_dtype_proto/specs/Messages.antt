-- Messages as trees, and the types that they describe.
use Rattle.std.specs.Prelude.{ℕ, ℤ, pos, negsuc, int_le, List, [], ◌∷◌, length, Bool, true, not, ◌&&◌, ◌==◌, Option, Some, None, if◌then◌else◌}
use Rattle.std.specs.List.{zip}
use Rattle.vortex_model.specs.LogicalType.{Nullability, non_nullable, nullable, nullability_of, is_nullable, eq_flag, LogicalType, null_only, boolean_type, integer_type, float, decimal, utf8, binary, list, fixed_list, mapping, struct, Fields, no_fields, field, union, Variants, no_variants, choice, variant, extension}
use Rattle.vortex_dtype_ptype.specs.Numbers.{NumberKind, integral, floating, type_of_numbers, is_decimal_shape}
use Rattle.vortex_dtype_core.specs.View.{fields_from, variants_from}
use Rattle.vortex_dtype_core.specs.Parts.{is_union_shape}
use Rattle.vortex_dtype_proto.specs.Sessions.{Session, admit}

-- The kind of a node with its own fields: a precision and a scale, the length of fixed-size lists,
-- whether map keys are sorted, the names of fields, the names and tags of variants, or the id and
-- the optional metadata of an extension.
pub data Form : Type 0 where
  nulls : Form
  booleans : Form
  texts : Form
  byte_strings : Form
  variants : Form
  numbers : NumberKind → Form
  decimals : ℤ → ℤ → Form
  lists : Form
  fixed_lists : ℕ → Form
  maps : Bool → Form
  records : List (List ℕ) → Form
  unions : List (List ℕ) → List ℤ → Form
  extended : List ℕ → Option (List ℕ) → Form

-- A node has a form, a flag that is true where null is a value, and children.
mutual
  pub data Tree : Type 0 where
    node : Form → Bool → Trees → Tree

  pub data Trees : Type 0 where
    no_trees : Trees
    tree : Tree → Trees → Trees

-- the result of reading a message
pub data Reading (A : Type 0) : Type 0 where
  read : A → Reading A
  malformed : Reading A
  refused_by_plugin : Reading A

-- malformed, unless the test passes
abbrev pub read_if : {A : Type 0} → Bool → A → Reading A
read_if holds a = if holds then read a else malformed

abbrev pub nullability_flagged : Bool → Nullability
nullability_flagged flag = if flag then nullable else non_nullable

abbrev pub is_flag_of : Bool → LogicalType → Bool
is_flag_of flag k = eq_flag flag (is_nullable (nullability_of k))

-- the tag is an i8
abbrev pub is_tag : ℤ → Bool
is_tag t = int_le (negsuc 127) t && int_le t (pos 127)

abbrev pub are_tags : List ℤ → Bool
are_tags [] = true
are_tags (t ∷ ts) = is_tag t && are_tags ts

abbrev pub decimal_shaped : ℤ → ℤ → Nullability → Reading LogicalType
decimal_shaped (pos p) s n = read_if (is_decimal_shape p s) (decimal p s n)
decimal_shaped (negsuc p) s n = malformed

-- an extension, as its plugin answers
abbrev pub admitted_as : List ℕ → LogicalType → Option (List ℕ) → Reading LogicalType
admitted_as id k None = refused_by_plugin
admitted_as id k (Some metadata) = read (extension id metadata k)

-- a number of children, or else malformed
abbrev pub childless : List LogicalType → Reading LogicalType → Reading LogicalType
childless [] r = r
childless (k ∷ ks) r = malformed

abbrev pub one_child : List LogicalType → (LogicalType → Reading LogicalType) → Reading LogicalType
one_child (k ∷ []) f = f k
one_child ks f = malformed

abbrev pub two_children : List LogicalType → (LogicalType → LogicalType → Reading LogicalType) →
    Reading LogicalType
two_children (k ∷ v ∷ []) f = f k v
two_children ks f = malformed

-- The type of a node with this flag whose children have these types, for each kind of node.
abbrev pub row : Session → Form → Bool → List LogicalType → Reading LogicalType
row s nulls flag ks = childless ks (read_if flag null_only)
row s booleans flag ks = childless ks (read (boolean_type (nullability_flagged flag)))
row s texts flag ks = childless ks (read (utf8 (nullability_flagged flag)))
row s byte_strings flag ks = childless ks (read (binary (nullability_flagged flag)))
row s variants flag ks = childless ks (read (variant (nullability_flagged flag)))
row s (numbers p) flag ks = childless ks (read (type_of_numbers p (nullability_flagged flag)))
row s (decimals p q) flag ks = childless ks (decimal_shaped p q (nullability_flagged flag))
row s lists flag ks = one_child ks (λ k. read (list k (nullability_flagged flag)))
row s (fixed_lists m) flag ks = one_child ks (λ k. read (fixed_list k m (nullability_flagged flag)))
row s (maps sorted) flag ks =
    two_children ks (λ k v. read_if (not (is_nullable (nullability_of k)))
    (mapping k v sorted (nullability_flagged flag)))
row s (records names) flag ks =
    read_if (length names ==
    length ks) (struct (fields_from (zip names ks)) (nullability_flagged flag))
row s (unions names tags) flag ks =
    read_if (are_tags tags &&
    is_union_shape (length names) (length ks) tags)
    (union (variants_from (zip names (zip tags ks))) (nullability_flagged flag))
row s (extended id metadata) flag ks =
    one_child ks (λ k. if is_flag_of flag k then admitted_as id k (admit s id metadata k)
    else malformed)

-- the children are judged before their node
abbrev pub with_children : Session → Form → Bool → Reading (List LogicalType) → Reading LogicalType
with_children s form flag (read ks) = row s form flag ks
with_children s form flag malformed = malformed
with_children s form flag refused_by_plugin = refused_by_plugin

abbrev pub with_rest : LogicalType → Reading (List LogicalType) → Reading (List LogicalType)
with_rest k (read ks) = read (k ∷ ks)
with_rest k malformed = malformed
with_rest k refused_by_plugin = refused_by_plugin

-- the first fault is the result
abbrev pub then_rest : Reading LogicalType → Reading (List LogicalType) → Reading (List LogicalType)
then_rest (read k) rest = with_rest k rest
then_rest malformed rest = malformed
then_rest refused_by_plugin rest = refused_by_plugin

-- the type that a message describes
abbrev mutual
  pub reading : Session → Tree → Reading LogicalType
  reading s (node form flag ts) = with_children s form flag (readings s ts)

  pub readings : Session → Trees → Reading (List LogicalType)
  readings s no_trees = read []
  readings s (tree t ts) = then_rest (reading s t) (readings s ts)

abbrev pub leaf : Form → Nullability → Tree
leaf form n = node form (is_nullable n) no_trees

abbrev pub field_names : Fields → List (List ℕ)
field_names no_fields = []
field_names (field x k fs) = x ∷ field_names fs

abbrev pub variant_names : Variants → List (List ℕ)
variant_names no_variants = []
variant_names (choice x t k vs) = x ∷ variant_names vs

abbrev pub variant_tags : Variants → List ℤ
variant_tags no_variants = []
variant_tags (choice x t k vs) = t ∷ variant_tags vs

-- the message written for a type
abbrev mutual
  pub written : LogicalType → Tree
  written null_only = node nulls true no_trees
  written (boolean_type n) = leaf booleans n
  written (integer_type i n) = leaf (numbers (integral i)) n
  written (float f n) = leaf (numbers (floating f)) n
  written (decimal p s n) = leaf (decimals (pos p) s) n
  written (utf8 n) = leaf texts n
  written (binary n) = leaf byte_strings n
  written (list k n) = node lists (is_nullable n) (tree (written k) no_trees)
  written (fixed_list k m n) = node (fixed_lists m) (is_nullable n) (tree (written k) no_trees)
  written (mapping k v sorted n) =
      node (maps sorted) (is_nullable n) (tree (written k) (tree (written v) no_trees))
  written (struct fs n) = node (records (field_names fs)) (is_nullable n) (written_fields fs)
  written (union vs n) =
      node (unions (variant_names vs) (variant_tags vs)) (is_nullable n) (written_variants vs)
  written (variant n) = leaf variants n
  written (extension id metadata k) =
      node (extended id (Some metadata)) (is_nullable (nullability_of k))
      (tree (written k) no_trees)

  pub written_fields : Fields → Trees
  written_fields no_fields = no_trees
  written_fields (field x k fs) = tree (written k) (written_fields fs)

  pub written_variants : Variants → Trees
  written_variants no_variants = no_trees
  written_variants (choice x t k vs) = tree (written k) (written_variants vs)
