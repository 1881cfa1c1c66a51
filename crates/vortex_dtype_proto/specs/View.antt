-- The Rust types of this crate in the model.
use Rattle.std.specs.Prelude.{◌≡◌, List, [], ◌∷◌, map, Result, Ok, Err}
use Rattle.vortex_dtype_ptype.specs.declared.error.DTypeError.{DTypeError}
use Rattle.vortex_dtype_ptype.specs.declared.error.DTypeError.TheVariants.{Memory, Malformed, Plugin}
use Rattle.vortex_dtype_ptype.specs.View.{number_kind_of}
use Rattle.vortex_dtype_proto.specs.Messages.{Form, nulls, booleans, texts, byte_strings, variants, numbers, decimals, lists, fixed_lists, maps, records, unions, extended, Tree, node, Trees, no_trees, tree, Reading, read, malformed, refused_by_plugin}
use Rattle.vortex_dtype_proto.specs.declared.message.MessageKind.{MessageKind}
use Rattle.vortex_dtype_proto.specs.declared.message.MessageKind.TheVariants as kind
use Rattle.vortex_dtype_proto.specs.declared.message.Message.{Message, fold-Message}
use Rattle.vortex_dtype_proto.specs.declared.message.Message.TheOpen.{Message-F}

abbrev pub form_of : MessageKind → Form
form_of kind.Null = nulls
form_of kind.Bool = booleans
form_of kind.Utf8 = texts
form_of kind.Binary = byte_strings
form_of kind.Variant = variants
form_of (kind.Primitive p) = numbers (number_kind_of p)
form_of (kind.Decimal p s) = decimals p s
form_of kind.List = lists
form_of (kind.FixedSizeList m) = fixed_lists m
form_of (kind.Map sorted) = maps sorted
form_of (kind.Struct names) = records names
form_of (kind.Union names tags) = unions names tags.items
form_of (kind.Extension id metadata) = extended id metadata

abbrev pub trees_from : List Tree → Trees
trees_from [] = no_trees
trees_from (t ∷ ts) = tree t (trees_from ts)

-- one level of a message, where its children are in the model
abbrev pub tree_step : Message-F Tree → Tree
tree_step m = node (form_of m.kind) m.nullable (trees_from m.children.items)

-- a `Message` in the model
abbrev pub tree_of : Message → Tree
tree_of = fold-Message Tree tree_step

abbrev pub trees_of : List Message → Trees
trees_of ms = trees_from (map tree_of ms)

-- A call's result, seen by `view`, is the result of reading, unless memory ran out.
abbrev pub Gives : {X Y : Type 0} → (X → Y) → Result X DTypeError → Reading Y → Type 0
Gives view (Ok x) reading = reading ≡ read (view x)
Gives view (Err Memory) reading = Unit {0}
Gives view (Err Malformed) reading = reading ≡ malformed
Gives view (Err Plugin) reading = reading ≡ refused_by_plugin
Gives view (Err e) reading = ⊥
