-- What an answer gains as a scan goes from chunk to chunk.
use Rattle.std.specs.Prelude.{◌≡◌, ℕ, zero, suc, ◌+◌, ◌*◌, List, [], ◌∷◌, ◌++◌, length, map, sum, Option, is_some, Bool, true, false, not, ◌&&◌, if◌then◌else◌}
use Rattle.vortex_model.specs.Content.{Content}
use Rattle.vortex_model.specs.Path.{Names}
use Rattle.vortex_model_table.specs.Expression.{Expression}
use Rattle.vortex_model_table.specs.Truth.{selects}
use Rattle.vortex_model_table.specs.Cut.{cut_row, cut_type}
use Rattle.vortex_model_table.specs.Table.{Table}
use Rattle.vortex_model_table.specs.Scan.{Outcome, skipped_in_group, tested, group_zone, proves, is_many, is_skipped, is_whole, is_in_group, saturated, one_if, ScanAnswer}
use Rattle.vortex_model_table.specs.Pruning.{found_in}
use Rattle.vortex_model_rules.specs.Scanned.{chunk_outcome_by, scanned_by}

-- What a scan is asked: of which table, along which paths, and by which predicate. A proof that no
-- row satisfies the predicate, and one that every row does, are there or not.
pub record Question : Type 0 where
  pub table : Table
  pub paths : List Names
  pub predicate : Expression
  pub falsifier : Option Expression
  pub satisfier : Option Expression

-- the whole answer
abbrev pub answer_to : Question → ScanAnswer
answer_to q = scanned_by q.table q.paths q.predicate q.falsifier q.satisfier

-- ---- chunks

abbrev pub outcome_to : Question → List Content → Outcome
outcome_to q chunk = chunk_outcome_by q.table q.falsifier q.satisfier chunk

-- the rows of a chunk with this outcome that the scan answers
abbrev pub found_rows : Question → Outcome → List Content → List Content
found_rows q o chunk =
    map (cut_row q.paths q.table.kind) (found_in (selects q.table.kind q.predicate) o chunk)

-- with the number at the end, where the test passes
abbrev pub push_if : Bool → ℕ → List ℕ → List ℕ
push_if b i xs = if b then xs ++ i ∷ [] else xs

abbrev pub tested_rows : Outcome → List Content → ℕ
tested_rows tested chunk = length chunk
tested_rows o chunk = 0

-- a falsifier and a satisfier, as far as they are there; none is asked for what is skipped with its
-- group, and no satisfier for what is skipped
abbrev pub proofs_at : Bool → Bool → Outcome → ℕ
proofs_at falsifies satisfies o =
    one_if falsifies * one_if (not (is_in_group o))
    + one_if satisfies * one_if (not (is_skipped o))

-- the answer with one more chunk
abbrev pub with_chunk : Question → ℕ → List Content → Outcome → ScanAnswer → ScanAnswer
with_chunk q i chunk o a = record {
  rows = a.rows ++ found_rows q o chunk;
  kind = a.kind;
  skipped = push_if (is_skipped o) i a.skipped;
  whole = push_if (is_whole o) i a.whole;
  rows_tested = saturated (a.rows_tested + tested_rows o chunk);
  proofs = saturated (a.proofs + proofs_at (is_some q.falsifier) (is_some q.satisfier) o);
}

-- the answer with these chunks, of which the first has this number
abbrev pub with_chunks : Question → (List Content → Outcome) → ℕ → List (List Content) →
    ScanAnswer → ScanAnswer
with_chunks q outcome i [] a = a
with_chunks q outcome i (chunk ∷ chunks) a =
    with_chunks q outcome (suc i) chunks (with_chunk q i chunk (outcome chunk) a)

-- n numbers from this one on
abbrev pub numbers_from : ℕ → ℕ → List ℕ
numbers_from i zero = []
numbers_from i (suc n) = i ∷ numbers_from (suc i) n

-- the answer with n chunks that are skipped, of which the first has this number
abbrev pub with_skipped : Question → ℕ → ℕ → ScanAnswer → ScanAnswer
with_skipped q i n a = record {
  rows = a.rows;
  kind = a.kind;
  skipped = a.skipped ++ numbers_from i n;
  whole = a.whole;
  rows_tested = a.rows_tested;
  proofs = saturated (a.proofs + n * one_if (is_some q.falsifier));
}

-- the counts are of 64 bits
pub record IsCounted (a : ScanAnswer) : Type 0 where
  pub tested : saturated a.rows_tested ≡ a.rows_tested
  pub proofs : saturated a.proofs ≡ a.proofs

-- ---- groups

-- a group of two or more chunks is skipped where it is proved that no row of it satisfies
abbrev pub is_group_skipped : Question → List (List Content) → Bool
is_group_skipped q chunks =
    is_many chunks && proves (group_zone q.table chunks) (sum (map length chunks)) q.falsifier

-- what becomes of the chunks of a group
abbrev pub outcome_in : Bool → Question → List Content → Outcome
outcome_in true q chunk = skipped_in_group
outcome_in false q chunk = outcome_to q chunk

-- a falsifier, if there is one, is asked for two or more chunks
abbrev pub group_proofs : Question → Bool → ℕ
group_proofs q many = one_if (is_some q.falsifier) * one_if many

-- the answer once a group is looked at, and before its chunks are
abbrev pub looked_at : Question → Bool → ScanAnswer → ScanAnswer
looked_at q many a = record {
  rows = a.rows;
  kind = a.kind;
  skipped = a.skipped;
  whole = a.whole;
  rows_tested = a.rows_tested;
  proofs = saturated (a.proofs + group_proofs q many);
}

-- the answer with one more group, whose first chunk has this number
abbrev pub with_group : Question → ℕ → List (List Content) → ScanAnswer → ScanAnswer
with_group q i chunks a =
    with_chunks q (outcome_in (is_group_skipped q chunks) q) i chunks
    (looked_at q (is_many chunks) a)

-- the answer with these groups
abbrev pub with_groups : Question → ℕ → List (List (List Content)) → ScanAnswer → ScanAnswer
with_groups q i [] a = a
with_groups q i (chunks ∷ groups) a =
    with_groups q (i + length chunks) groups (with_group q i chunks a)

-- the answer before any chunk
abbrev pub no_answer : Question → ScanAnswer
no_answer q = record {
  rows = [];
  kind = cut_type q.paths q.table.kind;
  skipped = [];
  whole = [];
  rows_tested = 0;
  proofs = 0;
}
