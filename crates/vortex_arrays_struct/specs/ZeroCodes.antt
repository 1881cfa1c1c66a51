-- The codes of a dictionary of one value.
use Rattle.std.specs.Prelude.{ℕ, pos, map, replicate}
use Rattle.vortex_model.specs.LogicalType.{u8}
use Rattle.vortex_arrays_model.specs.Layout.{Layout, numbers, Valid}

-- the code 0 in each row, or null
abbrev pub zero_codes : ℕ → Valid → Layout
zero_codes n v = numbers u8 (map pos (replicate n 0)) v
