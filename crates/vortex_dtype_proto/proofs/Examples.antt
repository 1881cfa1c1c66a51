-- Messages and the types that they describe, on examples.
use Rattle.std.proofs.Common.{◌≡◌, refl, pos, negsuc, List, [], ◌∷◌, Some, None, Bool, true, false}
use Rattle.std.specs.Prelude.{ℕ, codes, if◌then◌else◌}
use Rattle.std.specs.Str.{bytes_eq}
use Rattle.vortex_model.specs.LogicalType.{null_only, integer_type, utf8, mapping, struct, union, no_fields, field, no_variants, choice, extension, non_nullable, nullable, u8}
use Rattle.vortex_dtype_ptype.specs.Numbers.{integral}
use Rattle.vortex_dtype_proto.specs.Sessions.{Plugin, Session, no_plugins}
use Rattle.vortex_dtype_proto.specs.Messages.{nulls, texts, numbers, decimals, maps, records, unions, extended, Tree, node, Trees, no_trees, tree, read, malformed, refused_by_plugin, reading, written}

abbrev one : Tree → Trees
one t = tree t no_trees

abbrev two : Tree → Tree → Trees
two t u = tree t (one u)

abbrev text : Tree
text = node texts false no_trees

abbrev byte : Bool → Tree
byte flag = node (numbers (integral u8)) flag no_trees

-- a plugin of the id `w` that refuses every extension
abbrev w : List ℕ
w = codes "w"

abbrev nothing_admitted : Plugin
nothing_admitted metadata k = None

abbrev stubborn : Session
stubborn id = if bytes_eq id w then Some nothing_admitted else None

abbrev unadmitted : Tree
unadmitted = node (extended w None) false (one text)

-- two names and one child
names_without_child : reading no_plugins (node (records (codes "a" ∷ codes "b" ∷ [])) false (one text)) ≡ malformed
names_without_child = refl

-- one name and one child, and a child of another name
named_child : reading no_plugins (node (records (codes "a" ∷ [])) true (one (byte true))) ≡ read (struct (field (codes "a") (integer_type u8 nullable) no_fields) nullable)
named_child = refl

children_without_name : reading no_plugins (node (records (codes "a" ∷ [])) false (two text text)) ≡ malformed
children_without_name = refl

null_is_nullable : reading no_plugins (node nulls false no_trees) ≡ malformed
null_is_nullable = refl

null_alone : reading no_plugins (node nulls true no_trees) ≡ read null_only
null_alone = refl

no_digits : reading no_plugins (node (decimals (pos 0) (pos 0)) false no_trees) ≡ malformed
no_digits = refl

many_digits : reading no_plugins (node (decimals (pos 77) (pos 0)) false no_trees) ≡ malformed
many_digits = refl

negative_digits : reading no_plugins (node (decimals (negsuc 0) (pos 0)) false no_trees) ≡ malformed
negative_digits = refl

large_scale : reading no_plugins (node (decimals (pos 76) (pos 77)) false no_trees) ≡ malformed
large_scale = refl

nullable_key : reading no_plugins (node (maps false) false (two (byte true) text)) ≡ malformed
nullable_key = refl

map_of_bytes : reading no_plugins (node (maps true) true (two (byte false) (byte true))) ≡ read (mapping (integer_type u8 non_nullable) (integer_type u8 nullable) true nullable)
map_of_bytes = refl

tag_twice : reading no_plugins (node (unions (codes "a" ∷ codes "b" ∷ []) (pos 1 ∷ pos 1 ∷ [])) false (two text text)) ≡ malformed
tag_twice = refl

large_tag : reading no_plugins (node (unions (codes "a" ∷ []) (pos 128 ∷ [])) false (one text)) ≡ malformed
large_tag = refl

tags_in_any_order : reading no_plugins (node (unions (codes "a" ∷ codes "a" ∷ []) (pos 127 ∷ negsuc 127 ∷ [])) false (two text (byte true)))
    ≡ read (union (choice (codes "a") (pos 127) (utf8 non_nullable) (choice (codes "a") (negsuc 127) (integer_type u8 nullable) no_variants)) non_nullable)
tags_in_any_order = refl

flag_of_storage : reading no_plugins (node (extended (codes "x") None) true (one text)) ≡ malformed
flag_of_storage = refl

-- children are judged before their node
child_is_refused : reading stubborn (node (records (codes "a" ∷ [])) false (two text unadmitted)) ≡ refused_by_plugin
child_is_refused = refl

-- the first fault is the result
first_of_two_faults : reading stubborn (node (records []) false (two (node nulls false no_trees) unadmitted)) ≡ malformed
first_of_two_faults = refl

-- at one node the kind is judged before the plugin
shape_before_plugin : reading stubborn (node (extended w None) true (one text)) ≡ malformed
shape_before_plugin = refl

missing_metadata : reading stubborn (node (extended (codes "x") None) false (one text)) ≡ read (extension (codes "x") [] (utf8 non_nullable))
missing_metadata = refl

metadata_is_written : written (extension (codes "x") [] (utf8 nullable)) ≡ node (extended (codes "x") (Some [])) true (one (node texts true no_trees))
metadata_is_written = refl
