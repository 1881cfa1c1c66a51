-- Statements of the laws of retyping and of the counts of a scan.
use Rattle.std.specs.Prelude.{◌≡◌, ℕ, ◌+◌, ◌*◌, ◌-◌, ◌^◌, ◌≤◌, List, length, count_by, nat_lt, Some, None}
use Rattle.vortex_model.specs.LogicalType.{LogicalType}
use Rattle.vortex_model.specs.Content.{Content}
use Rattle.vortex_model.specs.Path.{Names, positions}
use Rattle.vortex_model_table.specs.Expression.{Expression}
use Rattle.vortex_model_table.specs.ZoneMap.{ZoneMap}
use Rattle.vortex_model_table.specs.Table.{Table, rows_of}
use Rattle.vortex_model_table.specs.Scan.{chunk_zone, proofs, rows_tested}
use Rattle.vortex_model_table.specs.Command.{retype, refusal, after}

-- Where retyping to one type and then to another is accepted, so is retyping to the second at once,
-- and it leads to the same table.
abbrev pub RetypingTwiceIsRetypingAtOnce : Type 0
RetypingTwiceIsRetypingAtOnce = (t : Table) (k l : LogicalType) → refusal t (retype k) ≡ None →
    refusal (after t (retype k)) (retype l) ≡ None →
    (refusal t (retype l) ≡ None) × (after t (retype l) ≡ after (after t (retype k)) (retype l))

-- the number of groups of two or more chunks
abbrev pub groups_of_many : Table → ℕ
groups_of_many t = count_by (nat_lt 1) t.groups

-- A scan evaluates at most one proof for each group of two or more chunks and two for each chunk,
-- tests no row twice, and its counts are below 2^64.
pub record IsCountedWithin (t : Table) (e : Expression) : Type 0 where
  pub proofs_bounded : proofs t e ≤ groups_of_many t + 2 * length t.chunks
  pub rows_bounded : rows_tested t e ≤ length (rows_of t)
  pub proofs_fit : proofs t e ≤ 2 ^ 64 - 1
  pub rows_fit : rows_tested t e ≤ 2 ^ 64 - 1

abbrev pub ScansAreCountedWithin : Type 0
ScansAreCountedWithin = (t : Table) (e : Expression) → IsCountedWithin t e

-- the zone maps have the same bounds and counts
pub record TellTheSame (y z : ZoneMap) : Type 0 where
  pub low : y.low ≡ z.low
  pub high : y.high ≡ z.high
  pub nulls : y.nulls ≡ z.nulls
  pub rows : y.rows ≡ z.rows

-- A leaf at the same positions before and after a retype, under whatever names, has the bounds and
-- counts of before in each chunk.
abbrev pub RetypingCarriesBounds : Type 0
RetypingCarriesBounds = (t : Table) (k : LogicalType) (chunk : List Content) (xs ys : Names)
    (y z : ZoneMap) → positions t.kind xs ≡ positions k ys →
    chunk_zone t chunk xs ≡ Some y → chunk_zone (after t (retype k)) chunk ys ≡ Some z →
    TellTheSame y z
