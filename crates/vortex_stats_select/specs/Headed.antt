-- Leaf columns of which the views of valid rows have the first bytes of their values.
use Rattle.std.specs.Prelude.{List, Option, Bool}
use Rattle.vortex_stats_mask.specs.Headed.{ViewsHaveHeads}
use Rattle.vortex_stats_select.specs.declared.leaf.LeafItems.{LeafItems}
use Rattle.vortex_stats_select.specs.declared.leaf.LeafItems.TheVariants.{Texts, Binaries}

-- numbers and booleans have no views
abbrev pub IsHeaded : LeafItems → Option (List Bool) → Type 0
IsHeaded (Texts views buffers) valid = ViewsHaveHeads valid views buffers.value.items
IsHeaded (Binaries views buffers) valid = ViewsHaveHeads valid views buffers.value.items
IsHeaded items valid = Unit {0}
