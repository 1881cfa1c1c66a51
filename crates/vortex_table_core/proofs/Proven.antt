-- What becomes of a chunk and of a group, by what their bounds prove.
use Rattle.std.proofs.Common.{◌≡◌, refl, sym, ◌∙◌, ap, subst, ℕ, ◌<◌, nat_lt, List, length, map, Bool, true, false, ◌&&◌, Option, Some, None, IsTrue, if◌then◌else◌, arith}
use Rattle.std.specs.Prelude.{is_some}
use Rattle.std.specs.List.{list_all}
use Rattle.std.proofs.lemmas.Bool.Decides.{nat_tests}
use Rattle.std.proofs.lemmas.List.{length-map}
use Rattle.vortex_model.specs.Content.{Content}
use Rattle.vortex_model_table.specs.Table.{Table, bound_length}
use Rattle.vortex_model_table.specs.Scan.{proves, is_many, chunk_zone, group_zone, skipped, whole, tested}
use Rattle.vortex_arrays_model.specs.Layout.{len_of}
use Rattle.vortex_table_schema.specs.Leaves.{leaf_positions}
use Rattle.vortex_table_chunk.specs.Chunk.{chunk_rows}
use Rattle.vortex_stats_bind.specs.Bound.{Bound}
use Rattle.vortex_table_chunk.specs.BoundStat.{zone_provided}
use Rattle.vortex_table_chunk.specs.Proved.{proved_in}
use Rattle.vortex_table_chunk.specs.Joined.{rows_in}
use Rattle.vortex_table_chunk.specs.declared.chunk.Chunk.{Chunk}
use Rattle.vortex_stats_array.specs.declared.array_stats.ArrayStats.{ArrayStats}
use Rattle.vortex_table_core.specs.Plan.{IsPlan, table_in, question_in}
use Rattle.vortex_table_core.specs.Group.{IsGroup, HasStatistics}
use Rattle.vortex_table_core.specs.Progress.{Question, outcome_to, is_group_skipped}
use Rattle.vortex_table_chunk.specs.Formed.{is_formed}
use Rattle.vortex_table_core.specs.declared.group.Group.{Group}
use Rattle.vortex_table_core.specs.declared.plan.Scan.{Scan}
use Rattle.vortex_table_chunk.proofs.TypedRows.{all_said}
use Rattle.vortex_table_core.proofs.ZoneValues.{chunk_proves, group_proves}

pub is_more : (n : ℕ) → 1 < n → nat_lt 1 n ≡ true
is_more n h = grind (arith, nat_tests, h)

module _ (plan : Scan) (is : IsPlan plan) (chunk : Chunk) (formed : IsTrue (is_formed (bound_length (table_in plan)) (table_in plan).kind chunk)) where
  abbrev t : Table
  t = table_in plan

  abbrev q : Question
  q = question_in plan

  -- what is proved by the chunk's bounds
  abbrev pub proved : Option Bound → Bool
  proved proof = proved_in (zone_provided (leaf_positions t.kind) chunk.bounds.items (len_of chunk.array)) proof

  falsified_alike : proved plan.prepared.now.falsifier ≡ proves (chunk_zone t (chunk_rows chunk)) (length (chunk_rows chunk)) q.falsifier
  falsified_alike = chunk_proves t chunk formed q.falsifier plan.prepared.now.falsifier is.prepared.falsifier

  satisfied_alike : proved plan.prepared.now.satisfier ≡ proves (chunk_zone t (chunk_rows chunk)) (length (chunk_rows chunk)) q.satisfier
  satisfied_alike = chunk_proves t chunk formed q.satisfier plan.prepared.now.satisfier is.prepared.satisfier

  pub outcome_by : (b c : Bool) → b ≡ proved plan.prepared.now.falsifier → c ≡ proved plan.prepared.now.satisfier →
      (if b then skipped else (if c then whole else tested)) ≡ outcome_to q (chunk_rows chunk)
  outcome_by b c p q = λ i. if (p ∙ falsified_alike) i then skipped else (if (q ∙ satisfied_alike) i then whole else tested)

  pub outcome_skipped : (b : Bool) → b ≡ proved plan.prepared.now.falsifier → b ≡ true → skipped ≡ outcome_to q (chunk_rows chunk)
  outcome_skipped b p h =
      ap (λ x. if x then skipped else (if proved plan.prepared.now.satisfier then whole else tested)) (sym h) ∙ outcome_by b (proved plan.prepared.now.satisfier) p refl

  pub outcome_whole : (b c : Bool) → b ≡ proved plan.prepared.now.falsifier → c ≡ proved plan.prepared.now.satisfier → b ≡ false → c ≡ true → whole ≡ outcome_to q (chunk_rows chunk)
  outcome_whole b c p q h g = (λ i. if sym h i then skipped else (if sym g i then whole else tested)) ∙ outcome_by b c p q

  pub outcome_tested : (b c : Bool) → b ≡ proved plan.prepared.now.falsifier → c ≡ proved plan.prepared.now.satisfier → b ≡ false → c ≡ false → tested ≡ outcome_to q (chunk_rows chunk)
  outcome_tested b c p q h g = (λ i. if sym h i then skipped else (if sym g i then whole else tested)) ∙ outcome_by b c p q

-- ---- a group

module _ (plan : Scan) (is : IsPlan plan) (group : Group) (chunks : List Chunk) (formed : list_all (is_formed (bound_length (table_in plan)) (table_in plan).kind) chunks ≡ true)
    (grouped : IsGroup (table_in plan).kind (bound_length (table_in plan)) group chunks) where
  abbrev table : Table
  table = table_in plan

  abbrev asked : Question
  asked = question_in plan

  abbrev rows : List (List Content)
  rows = map chunk_rows chunks

  as_many : length rows ≡ length chunks
  as_many = length-map chunks chunk_rows

  pub one_is_none : (o : Option (List ArrayStats)) → o ≡ None → HasStatistics table.kind (bound_length table) o chunks → false ≡ is_group_skipped asked rows
  one_is_none o e h =
      let one : length rows ≡ 1 = as_many ∙ subst (λ p. HasStatistics table.kind (bound_length table) p chunks) e h in
      ap (λ n. nat_lt 1 n && proves (group_zone table rows) (rows_in rows) asked.falsifier) (sym one)

  pub many_proved : (o : Option (List ArrayStats)) (bounds : List ArrayStats) (found : Bool) → o ≡ Some bounds → HasStatistics table.kind (bound_length table) o chunks →
      found ≡ proved_in (zone_provided (leaf_positions table.kind) bounds group.rows) plan.prepared.now.falsifier → found ≡ is_group_skipped asked rows
  many_proved o bounds found e h p =
      let own = subst (λ p. HasStatistics table.kind (bound_length table) p chunks) e h in
      let many : nat_lt 1 (length rows) ≡ true = is_more (length rows) (let here = own.0 in let same = as_many in omega (arith, here, same)) in
      p ∙ ap (λ n. proved_in (zone_provided (leaf_positions table.kind) bounds n) plan.prepared.now.falsifier) (sym grouped.rows)
      ∙ group_proves table bounds rows (all_said (bound_length table) table.kind chunks formed) own.1 asked.falsifier plan.prepared.now.falsifier is.prepared.falsifier
      ∙ ap (λ b. b && proves (group_zone table rows) (rows_in rows) asked.falsifier) (sym many)

  pub many_if : (o : Option (List ArrayStats)) → HasStatistics table.kind (bound_length table) o chunks → is_some o ≡ is_many rows
  many_if None h = let one : length rows ≡ 1 = as_many ∙ h in ap (nat_lt 1) (sym one)
  many_if (Some bounds) h = sym (is_more (length rows) (let here = h.0 in let same = as_many in omega (arith, here, same)))
