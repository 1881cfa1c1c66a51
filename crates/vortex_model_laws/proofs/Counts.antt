-- The number of proofs that a scan evaluates, and of rows that it tests.
use Rattle.std.proofs.Common.{◌≡◌, refl, sym, ◌∙◌, ap, ℕ, ◌+◌, ◌*◌, ◌-◌, ◌^◌, ◌≤◌, arith, List, [], ◌∷◌, length, map, flat_map, take, drop, Bool, true, false, not, ◌&&◌, if◌then◌else◌, nat_lt, is_some}
use Rattle.std.specs.Prelude.{count_by, sum}
use Rattle.std.proofs.lemmas.List.{length-append, length-map, take-append-drop}
use Rattle.std.proofs.lemmas.List.Sums.{count_by-le-length}
use Rattle.std.proofs.lemmas.Bool.Decides.{nat_tests}
use Rattle.vortex_model.specs.Content.{Content}
use Rattle.vortex_model_table.specs.Expression.{Expression}
use Rattle.vortex_model_table.specs.Rewrite.{falsifier, satisfier}
use Rattle.vortex_model_table.specs.Table.{Table}
use Rattle.vortex_model_table.specs.Scan.{Outcome, skipped_in_group, is_skipped, is_tested, is_in_group, one_if, chunk_outcome, is_many, group_outcomes, grouped, outcomes, group_zone, proves, saturated, tested_lengths, proofs_for, proofs, rows_tested}
use Rattle.vortex_model_laws.proofs.Outcomes.{tested_first, none_lengths}
use Rattle.vortex_model_laws.specs.Laws.{groups_of_many, IsCountedWithin}

-- a saturated count is at most the count, and at most u64::MAX
by_saturation : (n : ℕ) (b : Bool) → nat_lt n (2 ^ 64) ≡ b → ((if b then n else (2 ^ 64 - 1)) ≤ n) × ((if b then n else (2 ^ 64 - 1)) ≤ 2 ^ 64 - 1)
by_saturation n true e = (omega arith, grind (arith, nat_tests, e))
by_saturation n false e = (grind (arith, nat_tests, e), omega arith)

saturated_within : (n : ℕ) → (saturated n ≤ n) × (saturated n ≤ 2 ^ 64 - 1)
saturated_within n = by_saturation n (nat_lt n (2 ^ 64)) refl

module _ (t : Table) (e : Expression) where
  one_each : (chunks : List (List Content)) → length (group_outcomes t e chunks) ≡ length chunks
  one_each chunks = by_test (is_many chunks && proves (group_zone t chunks) (sum (map length chunks)) (falsifier t.kind e))
    where
      by_test : (b : Bool) → length (if b then map (λ chunk. skipped_in_group) chunks else map (chunk_outcome t e) chunks) ≡ length chunks
      by_test true = length-map chunks (λ chunk. skipped_in_group)
      by_test false = length-map chunks (chunk_outcome t e)

  -- at most one outcome for each chunk
  no_more_outcomes : (sizes : List ℕ) (chunks : List (List Content)) → length (flat_map (group_outcomes t e) (grouped sizes chunks)) ≤ length chunks
  no_more_outcomes [] chunks = omega arith
  no_more_outcomes (n ∷ sizes) chunks =
      let front = take n chunks in let back = drop n chunks in
      let here = one_each front in
      let there = no_more_outcomes sizes back in
      let parts : length front + length back ≡ length chunks = sym (length-append front back) ∙ ap length (take-append-drop n chunks) in
      let both = length-append (group_outcomes t e front) (flat_map (group_outcomes t e) (grouped sizes back)) in
      omega (arith, here, there, parts, both)

  counted : (b c : Bool) (g l m n : ℕ) → m ≤ l → n ≤ l → one_if b * (g + m) + one_if c * n ≤ g + 2 * l
  counted true true g l m n h k = omega (arith, h, k)
  counted true false g l m n h k = omega (arith, h, k)
  counted false true g l m n h k = omega (arith, h, k)
  counted false false g l m n h k = omega (arith, h, k)

  few_proofs : proofs_for t e (outcomes t e) ≤ groups_of_many t + 2 * length t.chunks
  few_proofs =
      let all = no_more_outcomes t.groups t.chunks in
      let first : count_by (λ o. not (is_in_group o)) (outcomes t e) ≤ length (outcomes t e) = count_by-le-length (λ o. not (is_in_group o)) (outcomes t e) in
      let second : count_by (λ o. not (is_skipped o)) (outcomes t e) ≤ length (outcomes t e) = count_by-le-length (λ o. not (is_skipped o)) (outcomes t e) in
      counted (is_some (falsifier t.kind e)) (is_some (satisfier t.kind e)) (groups_of_many t) (length t.chunks)
      (count_by (λ o. not (is_in_group o)) (outcomes t e)) (count_by (λ o. not (is_skipped o)) (outcomes t e)) (omega (arith, all, first)) (omega (arith, all, second))

at_most_once : (b : Bool) (n : ℕ) → (if b then n else 0) ≤ n
at_most_once true n = omega arith
at_most_once false n = omega arith

-- the tested chunks have no more rows than the table
few_rows : (os : List Outcome) (chunks : List (List Content)) → tested_lengths os chunks ≤ length (flat_map (λ chunk. chunk) chunks)
few_rows [] chunks = omega arith
few_rows (o ∷ os) [] = let none = none_lengths (o ∷ os) in omega (arith, none)
few_rows (o ∷ os) (chunk ∷ chunks) =
    let first = tested_first o os chunk chunks in
    let here = at_most_once (is_tested o) (length chunk) in
    let more = few_rows os chunks in
    let both = length-append chunk (flat_map (λ c. c) chunks) in
    omega (arith, first, here, more, both)

pub counted_within : (t : Table) (e : Expression) → IsCountedWithin t e
counted_within t e =
    let p = saturated_within (proofs_for t e (outcomes t e)) in
    let r = saturated_within (tested_lengths (outcomes t e) t.chunks) in
    let few = few_proofs t e in
    let rows = few_rows (outcomes t e) t.chunks in
    let least_proofs : proofs t e ≤ proofs_for t e (outcomes t e) = p.0 in
    let least_rows : rows_tested t e ≤ tested_lengths (outcomes t e) t.chunks = r.0 in
    record { proofs_bounded = omega (arith, least_proofs, few); rows_bounded = omega (arith, least_rows, rows); proofs_fit = p.1; rows_fit = r.1 }
