-- WHERE false skips every chunk.
use Rattle.std.proofs.Common.{◌≡◌, refl, sym, ◌∙◌, ap, ℕ, suc, ◌+◌, ◌-◌, List, [], ◌∷◌, ◌++◌, length, take, drop, map, flat_map, sum, Bool, true, false, ◌&&◌, if◌then◌else◌, arith}
use Rattle.std.specs.List.{AllByRecursion, range_with_len}
use Rattle.std.proofs.lemmas.List.{length-append, length-map, length-take-le, length-drop}
use Rattle.std.proofs.lemmas.List.Sums.{sum_by-cons}
use Rattle.vortex_model.specs.Content.{Content}
use Rattle.vortex_model_table.specs.Table.{Table, IsTable}
use Rattle.vortex_model_table.specs.Scan.{Outcome, skipped_in_group, chunk_outcome, is_many, group_outcomes, grouped, outcomes, is_skipped, numbers, skipped_chunks}
use Rattle.vortex_model_table.specs.Laws.{truth_value}

abbrev AllSkipped : List Outcome → Type 0
AllSkipped os = AllByRecursion (λ o. is_skipped o ≡ true) os

all_skipped_more : (os ps : List Outcome) → AllSkipped os → AllSkipped ps → AllSkipped (os ++ ps)
all_skipped_more [] ps h g = g
all_skipped_more (o ∷ os) ps h g = (h.0, all_skipped_more os ps h.1 g)

numbered : (j : ℕ) (os : List Outcome) → AllSkipped os → numbers is_skipped j os ≡ range_with_len j (length os)
numbered j [] h = refl
numbered j (o ∷ os) h =
    ap (λ b. if b then j ∷ numbers is_skipped (suc j) os else numbers is_skipped (suc j) os) h.0
    ∙ ap (λ ns. j ∷ ns) (numbered (suc j) os h.1 ∙ ap (λ i. range_with_len i (length os)) (let e : suc j ≡ j + 1 = omega arith in e))

module _ (t : Table) where
  together : (chunks : List (List Content)) → AllSkipped (map (λ chunk. skipped_in_group) chunks)
  together [] = tt
  together (c ∷ cs) = (refl, together cs)

  one_by_one : (chunks : List (List Content)) → AllSkipped (map (chunk_outcome t (truth_value false)) chunks)
  one_by_one [] = tt
  one_by_one (c ∷ cs) = (refl, one_by_one cs)

  abbrev made : List (List Content) → Bool → List Outcome
  made chunks b = if b && true then map (λ chunk. skipped_in_group) chunks else map (chunk_outcome t (truth_value false)) chunks

  of_group : (chunks : List (List Content)) → AllSkipped (group_outcomes t (truth_value false) chunks) × (length (group_outcomes t (truth_value false) chunks) ≡ length chunks)
  of_group chunks = by_many (is_many chunks)
    where
      by_many : (b : Bool) → AllSkipped (made chunks b) × (length (made chunks b) ≡ length chunks)
      by_many true = (together chunks, length-map chunks (λ chunk. skipped_in_group))
      by_many false = (one_by_one chunks, length-map chunks (chunk_outcome t (truth_value false)))

  of_groups : (sizes : List ℕ) (chunks : List (List Content)) → sum sizes ≡ length chunks →
      AllSkipped (flat_map (group_outcomes t (truth_value false)) (grouped sizes chunks))
      × (length (flat_map (group_outcomes t (truth_value false)) (grouped sizes chunks)) ≡ length chunks)
  of_groups [] chunks e = (tt, e)
  of_groups (n ∷ ns) chunks e =
      let rest = drop n chunks in
      let all : n + sum ns ≡ length chunks = sym (sum_by-cons (λ x. x) n ns) ∙ e in
      let left : length rest ≡ length chunks - n = length-drop n chunks in
      let behind = of_groups ns rest (let g : sum ns ≡ length rest = omega (arith, all, left) in g) in
      let here = of_group (take n chunks) in
      let taken : length (take n chunks) ≡ n = length-take-le n chunks (omega (arith, all)) in (
        all_skipped_more (group_outcomes t (truth_value false) (take n chunks)) (flat_map (group_outcomes t (truth_value false)) (grouped ns rest)) here.0 behind.0,
        length-append (group_outcomes t (truth_value false) (take n chunks)) (flat_map (group_outcomes t (truth_value false)) (grouped ns rest))
            ∙ (λ i. (here.1 ∙ taken) i + behind.1 i) ∙ (let g : n + length rest ≡ length chunks = omega (arith, all, left) in g),
      )

pub false_skips : (t : Table) → IsTable t → skipped_chunks t (truth_value false) ≡ range_with_len 0 (length t.chunks)
false_skips t h =
    let all = of_groups t t.groups t.chunks h.grouped in
    numbered 0 (outcomes t (truth_value false)) all.0 ∙ ap (λ n. range_with_len 0 n) all.1
