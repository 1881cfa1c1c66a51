-- Conversions of chunks to another type.
use Rattle.std.specs.Prelude.{◌≡◌, ℕ, map, None}
use Rattle.vortex_model.specs.LogicalType.{LogicalType}
use Rattle.vortex_model.specs.Path.{Positions}
use Rattle.vortex_model.specs.Kept.{type_fault}
use Rattle.vortex_dtype_core.specs.View.{type_of}
use Rattle.vortex_table_schema.specs.Leaves.{leaf_positions}
use Rattle.vortex_table_schema.specs.Lengths.{length_in}
use Rattle.vortex_table_layout.specs.declared.retyping.Retyping.{Retyping}

-- the types and the bound lengths
abbrev pub source_of : Retyping → LogicalType
source_of r = type_of r.source.now

abbrev pub target_of : Retyping → LogicalType
target_of r = type_of r.target.now

abbrev pub lengths_of : Retyping → Positions → ℕ
lengths_of r = length_in r.bound_lengths.now

-- a table can hold the target, and the leaves and their bound lengths are the target's
pub record IsRetyping (r : Retyping) : Type 0 where
  pub kept : type_fault (target_of r) ≡ None
  pub leaves : r.leaves.now.value.items ≡ leaf_positions (target_of r)
  pub lengths : r.lengths.now.value.items ≡ map (lengths_of r) (leaf_positions (target_of r))
