-- Integers of one kind.
use Rattle.std.specs.Prelude.{ℤ, pos, List, map}
use Rattle.vortex_stats_mask.specs.declared.column.Numbers.{Numbers}
use Rattle.vortex_stats_mask.specs.declared.column.Numbers.TheVariants.{U8, U16, U32, U64, I8, I16, I32, I64}

abbrev pub integers_in : Numbers → List ℤ
integers_in (U8 xs) = map pos xs.now
integers_in (U16 xs) = map pos xs.now
integers_in (U32 xs) = map pos xs.now
integers_in (U64 xs) = map pos xs.now
integers_in (I8 xs) = xs.now
integers_in (I16 xs) = xs.now
integers_in (I32 xs) = xs.now
integers_in (I64 xs) = xs.now
