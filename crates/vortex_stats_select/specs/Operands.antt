-- The rows of operands.
use Rattle.std.specs.Prelude.{ℕ, List, map, replicate}
use Rattle.vortex_model.specs.Content.{Content}
use Rattle.vortex_scalar_value.specs.View.{content_in}
use Rattle.vortex_stats_select.specs.Coded.{value_of_code}
use Rattle.vortex_stats_select.specs.Leaves.{leaf_rows}
use Rattle.vortex_stats_select.specs.declared.operand.Operand.{Operand}
use Rattle.vortex_stats_select.specs.declared.operand.Operand.TheVariants.{Value, Column, Dictionary}

-- what each of n rows has
abbrev pub operand_rows : Operand → ℕ → List Content
operand_rows (Value v) n = replicate n (content_in v)
operand_rows (Column leaf) n = leaf_rows leaf
operand_rows (Dictionary codes values) n = map (value_of_code (leaf_rows values)) (leaf_rows codes)
