-- A run of chunks that are skipped, whose numbers and proofs are added at once.
use Rattle.std.proofs.Common.{◌≡◌, refl, sym, ◌∙◌, ap, subst, ℕ, zero, suc, ◌+◌, ◌-◌, ◌*◌, ◌<◌, ◌≤◌, List, [], ◌∷◌, ◌++◌, length, map, drop, get_or, Bool, true, false, IsTrue, add-zero, append-nil, append_assoc, arith}
use Rattle.std.specs.Prelude.{is_some}
use Rattle.std.specs.List.{list_all}
use Rattle.std.proofs.lemmas.List.{length-drop, length-map, get_or-drop, drop-map}
use Rattle.std.specs.Cmp.{first_so, second_so}
use Rattle.vortex_model.specs.Content.{Content}
use Rattle.vortex_model_table.specs.Table.{Table, bound_length}
use Rattle.vortex_model_table.specs.Scan.{Outcome, ScanAnswer, skipped, one_if, saturated}
use Rattle.vortex_arrays_model.specs.Layout.{len_of}
use Rattle.vortex_table_chunk.specs.Chunk.{chunk_rows}
use Rattle.vortex_table_chunk.specs.Formed.{is_formed}
use Rattle.vortex_table_chunk.specs.declared.chunk.Chunk.{Chunk}
use Rattle.vortex_table_core.specs.Plan.{IsPlan, table_in, question_in, falsified_by, falsified_in}
use Rattle.vortex_table_core.specs.Progress.{Question, outcome_to, with_chunk, with_skipped, tested_rows, proofs_at, numbers_from, IsCounted}
use Rattle.vortex_table_core.specs.Truths.{AreTrue}
use Rattle.vortex_table_core.specs.declared.plan.Scan.{Scan}
use Rattle.vortex_table_core.proofs.Groups.{ahead, all_behind, drop_on}
use Rattle.vortex_table_core.proofs.Progress.{saturated_once, saturated_twice}
use Rattle.vortex_table_core.proofs.Proven.{outcome_skipped}

no_proofs : (a f : ℕ) → a + 0 * f ≡ a
no_proofs a f = grind arith

one_more : (a f s n : ℕ) → a + (f * 1 + s * 0) + n * f ≡ a + suc n * f
one_more a f s n = grind arith

module _ (q : Question) where
  pub one_counted : (i : ℕ) (chunk : List Content) (o : Outcome) (a : ScanAnswer) → IsCounted (with_chunk q i chunk o a)
  one_counted i chunk o a = record {
    tested = saturated_once (a.rows_tested + tested_rows o chunk);
    proofs = saturated_once (a.proofs + proofs_at (is_some q.falsifier) (is_some q.satisfier) o);
  }

  pub run_counted : (i n : ℕ) (a : ScanAnswer) → IsCounted a → IsCounted (with_skipped q i n a)
  run_counted i n a counted = record { tested = counted.tested; proofs = saturated_once (a.proofs + n * one_if (is_some q.falsifier)) }

  none_skipped : (i : ℕ) (a : ScanAnswer) → IsCounted a → with_skipped q i 0 a ≡ a
  none_skipped i a counted = λ j. record {
    rows = a.rows;
    kind = a.kind;
    skipped = append-nil a.skipped j;
    whole = a.whole;
    rows_tested = a.rows_tested;
    proofs = (ap saturated (no_proofs a.proofs (one_if (is_some q.falsifier))) ∙ counted.proofs) j;
  }

  -- a skipped chunk, and then more
  skipped_more : (i n : ℕ) (chunk : List Content) (a : ScanAnswer) → IsCounted a → with_skipped q (suc i) n (with_chunk q i chunk skipped a) ≡ with_skipped q i (suc n) a
  skipped_more i n chunk a counted =
      let f : ℕ = one_if (is_some q.falsifier) in let s : ℕ = one_if (is_some q.satisfier) in λ j. record {
        rows = append-nil a.rows j;
        kind = a.kind;
        skipped = append_assoc a.skipped (i ∷ []) (numbers_from (suc i) n) j;
        whole = a.whole;
        rows_tested = (ap saturated (add-zero a.rows_tested) ∙ counted.tested) j;
        proofs = (saturated_twice (a.proofs + (f * 1 + s * 0)) (n * f) ∙ ap saturated (one_more a.proofs f s n)) j;
      }

module _ (plan : Scan) (is : IsPlan plan) where
  abbrev t : Table
  t = table_in plan

  abbrev q : Question
  q = question_in plan

  abbrev formed_so : Chunk → Bool
  formed_so = is_formed (bound_length t) t.kind

  pub ahead_counted : (i : ℕ) (chunks : List Chunk) (a : ScanAnswer) → IsCounted a → IsCounted (ahead plan i chunks a)
  ahead_counted i [] a counted = counted
  ahead_counted i (c ∷ chunks) a counted =
      let o = outcome_to q (chunk_rows c) in ahead_counted (suc i) chunks (with_chunk q i (chunk_rows c) o a) (one_counted q i (chunk_rows c) o a)

  is_skipped : (chunk : Chunk) → IsTrue (formed_so chunk) → falsified_by plan chunk ≡ true → outcome_to q (chunk_rows chunk) ≡ skipped
  is_skipped chunk formed h = sym (outcome_skipped plan is chunk formed (falsified_by plan chunk) (is.falsifier chunk.bounds.items (len_of chunk.array)) h)

  run_ahead : (i n : ℕ) (chunks : List Chunk) (a : ScanAnswer) → list_all formed_so chunks ≡ true → n ≤ length chunks → AreTrue (falsified_in plan chunks) 0 n → IsCounted a →
      ahead plan (i + n) (drop n chunks) (with_skipped q i n a) ≡ ahead plan i chunks a
  run_ahead i zero chunks a formed fits trues counted = λ j. ahead plan (add-zero i j) chunks (none_skipped q i a counted j)
  run_ahead i (suc n) [] a formed fits trues counted = absurd (omega (arith, fits))
  run_ahead i (suc n) (c ∷ chunks) a formed fits trues counted =
      let rows = chunk_rows c in let rest = list_all formed_so chunks in
      let so : outcome_to q rows ≡ skipped = is_skipped c (first_so (formed_so c) rest formed) (trues 0 (omega arith) (omega arith)) in
      let b = with_chunk q i rows (outcome_to q rows) a in
      let made : with_skipped q (suc i) n b ≡ with_skipped q i (suc n) a = ap (λ o. with_skipped q (suc i) n (with_chunk q i rows o a)) so ∙ skipped_more q i n rows a counted in
      let on : i + suc n ≡ suc i + n = omega arith in
      (λ j. ahead plan (on j) (drop n chunks) (sym made j))
      ∙ run_ahead (suc i) n chunks b (second_so (formed_so c) rest formed) (omega (arith, fits)) (λ k order inside. trues (suc k) (omega arith) (omega (arith, inside))) (one_counted q i rows (outcome_to q rows) a)

  -- among other chunks, of which a mask shows which are falsified
  module _ (first : ℕ) (chunks : List Chunk) (mask : List Bool) (i end : ℕ) (formed : list_all formed_so chunks ≡ true) (made : mask ≡ falsified_in plan chunks) (order : i ≤ end) (within : end ≤ length mask) (trues : AreTrue mask i end) where
    abbrev n : ℕ
    n = end - i

    whole : i + n ≡ end
    whole = omega (arith, order)

    counts : length mask ≡ length chunks
    counts = ap length made ∙ length-map chunks (falsified_by plan)

    own : AreTrue (falsified_in plan (drop i chunks)) 0 n
    own k low inside =
        let all = whole in
        ap (λ bits. get_or bits k false) (sym (drop-map (falsified_by plan) i chunks))
        ∙ get_or-drop i (falsified_in plan chunks) k false
        ∙ ap (λ bits. get_or bits (i + k) false) (sym made) ∙ trues (i + k) (omega arith) (omega (arith, inside, all))

    pub run_seen : (a b : ScanAnswer) → IsCounted a → b ≡ with_skipped q (first + i) n a → ahead plan (first + end) (drop end chunks) b ≡ ahead plan (first + i) (drop i chunks) a
    run_seen a b counted skips =
        let left = length-drop i chunks in let same = counts in
        let at : first + end ≡ first + i + n = let all = whole in omega (arith, all) in
        (λ j. ahead plan (at j) (drop (sym whole j) chunks) (skips j))
        ∙ ap (λ cs. ahead plan (first + i + n) cs (with_skipped q (first + i) n a)) (sym (drop_on i n chunks))
        ∙ run_ahead (first + i) n (drop i chunks) a (all_behind formed_so i chunks formed) (omega (arith, left, same, within)) own counted
