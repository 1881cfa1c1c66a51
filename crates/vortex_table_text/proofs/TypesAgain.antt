-- The JSON value of a type is read as that type.
use Rattle.std.proofs.Common.{◌≡◌, refl, ap, ◌∙◌, ℕ, ◌^◌, nat_lt, List, ◌∷◌, Bool, true, if◌then◌else◌, Option, Some, None, option_map, option_and_then, []}
use Rattle.std.proofs.lemmas.Bool.{and_from, and_parts}
use Rattle.vortex_model.specs.LogicalType.{is_nullable, LogicalType, boolean_type, integer_type, utf8, binary, list, fixed_list, struct, Fields, no_fields, field, u8, u16, u32, u64, i8, i16, i32, i64}
use Rattle.vortex_dtype_proto.specs.Messages.{Form, fixed_lists, records, Tree, node, Trees, read_if, written, written_fields, field_names}
use Rattle.vortex_dtype_proto.specs.Sessions.{no_plugins}
use Rattle.vortex_dtype_proto.specs.Shapes.{is_shaped, are_fields_shaped}
use Rattle.vortex_dtype_proto.specs.View.{trees_from}
use Rattle.vortex_dtype_proto.proofs.Again as message
use Rattle.vortex_table_request.specs.Kinds.{strings_of, tree_in, trees_of_items, type_meant, type_read, type_in}
use Rattle.vortex_table_text.specs.Data.{type_data, children_data, names_data}
use Rattle.vortex_table_text.specs.Types.{has_text, have_texts}

names_again : (fs : Fields) → strings_of (names_data fs) ≡ Some (field_names fs)
names_again no_fields = refl
names_again (field x k fs) = ap (λ o. option_map (λ ss. x ∷ ss) o) (names_again fs)

-- the trees of fields, as a list
abbrev trees_of : Fields → List Tree
trees_of no_fields = []
trees_of (field x k fs) = written k ∷ trees_of fs

same_trees : (fs : Fields) → trees_from (trees_of fs) ≡ written_fields fs
same_trees no_fields = refl
same_trees (field x k fs) = ap (λ ts. Trees.tree (written k) ts) (same_trees fs)

-- one child's tree in a list
abbrev alone : Option Tree → Option (List Tree)
alone o = option_and_then (λ t. option_map (λ ts. t ∷ ts) (Some [])) o

-- a node with these children, if they have trees
abbrev node_over : Form → Bool → Option (List Tree) → Option Tree
node_over form flag o = option_and_then (λ ts. Some (node form flag (trees_from ts))) o

abbrev sized_node : Bool → ℕ → Bool → List Tree → Option Tree
sized_node b m flag ts = option_map (λ form. node form flag (trees_from ts)) (if b then Some (fixed_lists m) else None)

abbrev named_node : Option (List (List ℕ)) → Bool → List Tree → Option Tree
named_node o flag ts = option_map (λ form. node form flag (trees_from ts)) (option_map (λ names. records names) o)

mutual
  pub tree_again : (k : LogicalType) → has_text k ≡ true → tree_in (type_data k) ≡ Some (written k)
  tree_again (boolean_type n) t = refl
  tree_again (integer_type u8 n) t = refl
  tree_again (integer_type u16 n) t = refl
  tree_again (integer_type u32 n) t = refl
  tree_again (integer_type u64 n) t = refl
  tree_again (integer_type i8 n) t = refl
  tree_again (integer_type i16 n) t = refl
  tree_again (integer_type i32 n) t = refl
  tree_again (integer_type i64 n) t = refl
  tree_again (utf8 n) t = refl
  tree_again (binary n) t = refl
  tree_again (list k n) t = ap (λ o. node_over Form.lists (is_nullable n) (alone o)) (tree_again k t)
  tree_again (fixed_list k m n) t =
      let both = and_parts (nat_lt m (2 ^ 32)) (has_text k) t in
      ap (λ o. option_and_then (λ ts. sized_node (nat_lt m (2 ^ 32)) m (is_nullable n) ts) (alone o)) (tree_again k both.1)
      ∙ ap (λ b. sized_node b m (is_nullable n) (written k ∷ [])) both.0
  tree_again (struct fs n) t =
      ap (λ o. option_and_then (λ ts. named_node (strings_of (names_data fs)) (is_nullable n) ts) o) (trees_again fs t)
      ∙ ap (λ o. named_node o (is_nullable n) (trees_of fs)) (names_again fs)
      ∙ ap (λ ts. Some (node (records (field_names fs)) (is_nullable n) ts)) (same_trees fs)
  tree_again k t = absurd (cc t)

  trees_again : (fs : Fields) → have_texts fs ≡ true → trees_of_items (children_data fs) ≡ Some (trees_of fs)
  trees_again no_fields t = refl
  trees_again (field x k fs) t =
      let both = and_parts (has_text k) (have_texts fs) t in
      ap (λ o. option_and_then (λ t. option_map (λ ts. t ∷ ts) (trees_of_items (children_data fs))) o) (tree_again k both.0)
      ∙ ap (λ o. option_map (λ ts. written k ∷ ts) o) (trees_again fs both.1)

mutual
  shaped : (k : LogicalType) → has_text k ≡ true → is_shaped k ≡ true
  shaped (boolean_type n) t = refl
  shaped (integer_type i n) t = refl
  shaped (utf8 n) t = refl
  shaped (binary n) t = refl
  shaped (list k n) t = shaped k t
  shaped (fixed_list k m n) t = shaped k (and_parts (nat_lt m (2 ^ 32)) (has_text k) t).1
  shaped (struct fs n) t = fields_shaped fs t
  shaped k t = absurd (cc t)

  fields_shaped : (fs : Fields) → have_texts fs ≡ true → are_fields_shaped fs ≡ true
  fields_shaped no_fields t = refl
  fields_shaped (field x k fs) t =
      let both = and_parts (has_text k) (have_texts fs) t in
      and_from (is_shaped k) (are_fields_shaped fs) (shaped k both.0) (fields_shaped fs both.1)

-- a type is read again
pub type_again : (k : LogicalType) → has_text k ≡ true → type_in (type_data k) ≡ Some k
type_again k t =
    ap (λ o. option_and_then type_meant o) (tree_again k t)
    ∙ ap type_read (message.read_again no_plugins (λ id. refl) k)
    ∙ ap (λ b. type_read (read_if b k)) (shaped k t)
