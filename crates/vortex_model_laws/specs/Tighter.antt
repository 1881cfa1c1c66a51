-- Statements of the laws of tighter zone maps, and of judging groups before chunks.
use Rattle.std.specs.Prelude.{◌≡◌, ℕ, ◌<◌, Option, Some, None, true, false, ◌⊎◌, map}
use Rattle.vortex_model.specs.LogicalType.{LogicalType}
use Rattle.vortex_model.specs.Content.{Content, is_null}
use Rattle.vortex_model.specs.Path.{Names}
use Rattle.vortex_model_table.specs.Expression.{Expression}
use Rattle.vortex_model_table.specs.Statistics.{IsNotAbove}
use Rattle.vortex_model_table.specs.ZoneMap.{ZoneMap, value_in}
use Rattle.vortex_model_table.specs.Rewrite.{falsifier, satisfier}
use Rattle.vortex_model_table.specs.Table.{Table, IsTable}
use Rattle.vortex_model_table.specs.Scan.{proves, chunk_outcome, is_skipped, is_whole, numbers, skipped_chunks, whole_chunks, tested_lengths, rows_tested, saturated}

-- A low that is known in the first is known in the second, and is not below it there.
abbrev pub IsRaised : Option Content → Option Content → Type 0
IsRaised None q = Unit {0}
IsRaised (Some v) None = ⊥
IsRaised (Some v) (Some w) = IsNotAbove v w

-- A high that is known in the first is known in the second, and is neither above it nor null there.
abbrev pub IsLowered : Option Content → Option Content → Type 0
IsLowered None q = Unit {0}
IsLowered (Some v) None = ⊥
IsLowered (Some v) (Some w) = (is_null w ≡ false) × IsNotAbove w v

-- The second zone map, of m rows, shows at least what the first, of n rows, does. Its bounds are
-- within those of the first, or were absent there, and its low is not above its high. Where the
-- first shows that no row is null, or that all are, so does the second.
pub record IsTighter (n m : ℕ) (wide narrow : ZoneMap) : Type 0 where
  pub low : IsRaised (value_in wide.low) (value_in narrow.low)
  pub high : IsLowered (value_in wide.high) (value_in narrow.high)
  pub ordered : (v w : Content) → value_in narrow.low ≡ Some v → value_in narrow.high ≡ Some w →
      IsNotAbove v w
  pub none_null : wide.nulls ≡ 0 → narrow.nulls ≡ 0
  pub only_null : wide.nulls ≡ n → narrow.nulls ≡ m

-- a zone map in the first is in the second, and is at least as tight there
abbrev pub TellsMore : ℕ → ℕ → Option ZoneMap → Option ZoneMap → Type 0
TellsMore n m None q = Unit {0}
TellsMore n m (Some wide) None = ⊥
TellsMore n m (Some wide) (Some narrow) = IsTighter n m wide narrow

-- A built-in proof that is true by zone maps is true by tighter ones, of as many rows, or in place
-- of those of two rows or more. (Over one row the literal null counts as all nulls, so another
-- number of rows would not do.)
abbrev pub ProofsStayTrue : Type 0
ProofsStayTrue = (k : LogicalType) (e : Expression) (n m : ℕ) (wide narrow : Names →
    Option ZoneMap) → ((xs : Names) → TellsMore n m (wide xs) (narrow xs)) → (n ≡ m) ⊎ (1 < n) →
    (proves wide n (falsifier k e) ≡ true → proves narrow m (falsifier k e) ≡ true) ×
    (proves wide n (satisfier k e) ≡ true → proves narrow m (satisfier k e) ≡ true)

-- Each chunk is skipped, taken whole or tested as if it were judged alone, also where bounds are
-- absent.
pub record IsAsEachAlone (t : Table) (e : Expression) : Type 0 where
  pub skipped : skipped_chunks t e ≡ numbers is_skipped 0 (map (chunk_outcome t e) t.chunks)
  pub whole : whole_chunks t e ≡ numbers is_whole 0 (map (chunk_outcome t e) t.chunks)
  pub tested : rows_tested t e ≡
      saturated (tested_lengths (map (chunk_outcome t e) t.chunks) t.chunks)

abbrev pub GroupsChangeNothing : Type 0
GroupsChangeNothing = (t : Table) (e : Expression) → IsTable t → IsAsEachAlone t e
