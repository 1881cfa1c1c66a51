-- A table that is other tables put end to end, and the answers of scans of them.
use Rattle.std.specs.Prelude.{◌≡◌, ℕ, ◌+◌, List, [], ◌∷◌, ◌++◌, length, map, sum, flat_map}
use Rattle.std.specs.List.{AllByRecursion}
use Rattle.vortex_model.specs.Path.{Names, Positions}
use Rattle.vortex_model_table.specs.Expression.{Expression}
use Rattle.vortex_model_table.specs.Table.{Table, IsTable, bound_length}
use Rattle.vortex_model_table.specs.Scan.{ScanAnswer, scanned, saturated}

-- The whole is these parts put end to end: each part has its type and its bound lengths, and its
-- chunks are the chunks of the parts in order. Its groups may be any. A whole without parts has no
-- chunk, and then its type and its bound lengths may be any too.
pub record ArePartsOf (parts : List Table) (whole : Table) : Type 0 where
  pub kind : AllByRecursion (λ part. part.kind ≡ whole.kind) parts
  pub lengths : AllByRecursion (λ part. (is : Positions) →
      bound_length part is ≡ bound_length whole is) parts
  pub chunks : whole.chunks ≡ flat_map (λ part. part.chunks) parts

-- The groups of the whole are those of the parts in order, so no group spans two parts.
abbrev pub HasGroupsOf : List Table → Table → Type 0
HasGroupsOf parts whole = whole.groups ≡ flat_map (λ part. part.groups) parts

-- The chunk numbers in the answers of the parts, each moved by the number of chunks before its
-- part.
abbrev pub moved : (ScanAnswer → List ℕ) → ℕ → List Table → List ScanAnswer → List ℕ
moved numbers before (part ∷ parts) (a ∷ answers) =
    map (λ i. before + i) (numbers a) ++ moved numbers (before + length part.chunks) parts answers
moved numbers before parts answers = []

-- The answer is the answers of the parts put end to end: their rows one after another, of their
-- type, the numbers of their chunks moved, and the sum of their counts, or the greatest u64 where
-- the sum is above. The count of proofs is such a sum where the whole has the groups of the parts.
pub record IsAnswerOfParts (parts : List Table) (whole : Table) (answers : List ScanAnswer)
    (answer : ScanAnswer) : Type 0 where
  pub one_each : length answers ≡ length parts
  pub rows : answer.rows ≡ flat_map (λ a. a.rows) answers
  pub kind : AllByRecursion (λ a. a.kind ≡ answer.kind) answers
  pub skipped : answer.skipped ≡ moved (λ a. a.skipped) 0 parts answers
  pub taken_whole : answer.whole ≡ moved (λ a. a.whole) 0 parts answers
  pub rows_tested : answer.rows_tested ≡ saturated (sum (map (λ a. a.rows_tested) answers))
  pub proofs : HasGroupsOf parts whole →
      answer.proofs ≡ saturated (sum (map (λ a. a.proofs) answers))

-- Scans of the parts answer what a scan of the whole does.
abbrev pub PartsAnswerAsTheWhole : Type 0
PartsAnswerAsTheWhole = (parts : List Table) (whole : Table) (paths : List Names)
    (e : Expression) → AllByRecursion IsTable parts → IsTable whole → ArePartsOf parts whole →
    IsAnswerOfParts parts whole (map (λ part. scanned part paths e) parts) (scanned whole paths e)
