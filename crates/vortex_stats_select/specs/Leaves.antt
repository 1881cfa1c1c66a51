-- The rows of leaf columns.
use Rattle.std.specs.Prelude.{List, map}
use Rattle.vortex_model.specs.Content.{Content, boolean, integer, text, byte_string}
use Rattle.vortex_arrays_view.specs.Views.{value_of}
use Rattle.vortex_arrays_buffer.specs.PrimitiveBuffers.{integers_of}
use Rattle.vortex_stats_mask.specs.Columns.{shown}
use Rattle.vortex_stats_select.specs.declared.leaf.Leaf.{Leaf}
use Rattle.vortex_stats_select.specs.declared.leaf.LeafItems.{LeafItems}
use Rattle.vortex_stats_select.specs.declared.leaf.LeafItems.TheVariants.{Bools, Numbers, Texts, Binaries}

-- what the items say, where none is null
abbrev pub leaf_values : LeafItems → List Content
leaf_values (Bools bs) = map boolean bs.items
leaf_values (Numbers ns) = map integer (integers_of ns)
leaf_values (Texts views buffers) = map text (map (λ v. value_of v buffers.value.items) views)
leaf_values (Binaries views buffers) =
    map byte_string (map (λ v. value_of v buffers.value.items) views)

abbrev pub leaf_rows : Leaf → List Content
leaf_rows leaf = shown leaf.validity (leaf_values leaf.items)
