-- Scans with callers' rules.
use Rattle.std.specs.Prelude.{ℕ, ◌+◌, ◌*◌, List, length, map, zip, sum, count_by, flat_map, Option, Some, None, is_some, not, ◌&&◌, ◌||◌, if◌then◌else◌, nat_lt}
use Rattle.vortex_model.specs.Content.{Content}
use Rattle.vortex_model.specs.Path.{Names}
use Rattle.vortex_model_table.specs.Expression.{Expression}
use Rattle.vortex_model_table.specs.Truth.{selects}
use Rattle.vortex_model_table.specs.Cut.{cut_row, cut_type}
use Rattle.vortex_model_table.specs.Table.{Table}
use Rattle.vortex_model_table.specs.Scan.{chunk_zone, group_zone, proves, Outcome, skipped_in_group, skipped, whole, tested, is_many, grouped, is_skipped, is_whole, is_in_group, numbers, saturated, tested_lengths, one_if, ScanAnswer}
use Rattle.vortex_model_table.specs.Pruning.{found_in}
use Rattle.vortex_model_rules.specs.Rules.{Answer, no_proof, proof, fault, is_fault, Rule, fals, sat}

-- What a scan does with a chunk, by the falsifier `none` and the satisfier `all`.
abbrev pub chunk_outcome_by : Table → Option Expression → Option Expression → List Content → Outcome
chunk_outcome_by t none all chunk =
    if proves (chunk_zone t chunk) (length chunk) none then skipped
    else (if proves (chunk_zone t chunk) (length chunk) all then whole else tested)

-- a group of two or more chunks is judged as a whole first
abbrev pub group_outcomes_by : Table → Option Expression → Option Expression →
    List (List Content) → List Outcome
group_outcomes_by t none all chunks =
    if is_many chunks && proves (group_zone t chunks) (sum (map length chunks)) none
    then map (λ chunk. skipped_in_group) chunks else map (chunk_outcome_by t none all) chunks

-- the outcomes of all chunks in order
abbrev pub outcomes_by : Table → Option Expression → Option Expression → List Outcome
outcomes_by t none all = flat_map (group_outcomes_by t none all) (grouped t.groups t.chunks)

-- the rows that the scan takes, by the outcomes
abbrev pub taken : Table → Expression → List Outcome → List Content
taken t e outcomes =
    flat_map (λ pair. found_in (selects t.kind e) pair.0 pair.1) (zip outcomes t.chunks)

-- One falsifier at each group of two or more chunks and at each chunk that wasn't skipped with its
-- group, and one satisfier at each chunk that isn't skipped.
abbrev pub proofs_by : Table → Option Expression → Option Expression → List Outcome → ℕ
proofs_by t none all outcomes = saturated (
    one_if (is_some none)
    * (count_by (nat_lt 1) t.groups + count_by (λ o. not (is_in_group o)) outcomes)
    + one_if (is_some all) * count_by (λ o. not (is_skipped o)) outcomes)

-- the answer to a scan with this falsifier and this satisfier
abbrev pub scanned_by : Table → List Names → Expression → Option Expression → Option Expression →
    ScanAnswer
scanned_by t paths e none all = record {
  rows = map (cut_row paths t.kind) (taken t e (outcomes_by t none all));
  kind = cut_type paths t.kind;
  skipped = numbers is_skipped 0 (outcomes_by t none all);
  whole = numbers is_whole 0 (outcomes_by t none all);
  rows_tested = saturated (tested_lengths (outcomes_by t none all) t.chunks);
  proofs = proofs_by t none all (outcomes_by t none all);
}

-- the proof of an answer, where it is one
abbrev pub proof_of : Answer → Option Expression
proof_of no_proof = None
proof_of (proof p) = Some p
proof_of fault = None

abbrev pub by_answers : Table → List Names → Expression → Answer → Answer → Option ScanAnswer
by_answers t paths e none all =
    if is_fault none || is_fault all then None
    else Some (scanned_by t paths e (proof_of none) (proof_of all))

-- The answer to a scan with rules. There is none where a rule makes the falsifier or the satisfier
-- a fault.
abbrev pub scanned_with : Table → List Rule → List Names → Expression → Option ScanAnswer
scanned_with t rules paths e = by_answers t paths e (fals t.kind rules e) (sat t.kind rules e)
