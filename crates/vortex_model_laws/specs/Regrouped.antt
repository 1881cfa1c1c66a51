-- Statements of the laws of tables with the same chunks in other groups.
use Rattle.std.specs.Prelude.{◌≡◌, ℕ, List, None}
use Rattle.vortex_model.specs.Path.{Names}
use Rattle.vortex_model_table.specs.Expression.{Expression}
use Rattle.vortex_model_table.specs.Table.{Table, IsTable, answer}
use Rattle.vortex_model_table.specs.Scan.{skipped_chunks, whole_chunks, rows_tested}
use Rattle.vortex_model_table.specs.Command.{join, refusal, after}

-- A scan of either table answers the same rows, and skips, takes whole and tests the same chunks.
-- The number of proofs may differ.
pub record AreScannedAlike (t u : Table) (paths : List Names) (e : Expression) : Type 0 where
  pub answers : answer t paths e ≡ answer u paths e
  pub skipped : skipped_chunks t e ≡ skipped_chunks u e
  pub whole : whole_chunks t e ≡ whole_chunks u e
  pub tested : rows_tested t e ≡ rows_tested u e

-- no scan depends on the groups
abbrev pub GroupsDoNotShow : Type 0
GroupsDoNotShow = (t : Table) (sizes : List ℕ) (paths : List Names) (e : Expression) → IsTable t →
    IsTable (record t { groups = sizes }) → AreScannedAlike t (record t { groups = sizes }) paths e

-- an accepted join changes no scan
abbrev pub JoinsChangeNoScan : Type 0
JoinsChangeNoScan = (t : Table) (i : ℕ) (paths : List Names) (e : Expression) → IsTable t →
    refusal t (join i) ≡ None → AreScannedAlike t (after t (join i)) paths e
