-- The rows that a predicate selects, and those of tested chunks, chunk by chunk.
use Rattle.std.proofs.Common.{◌≡◌, refl, sym, ◌∙◌, ap, ℕ, ◌+◌, ◌<◌, arith, List, [], ◌∷◌, ◌++◌, length, take, get_or, map, filter, flat_map, Bool, if◌then◌else◌}
use Rattle.std.specs.Prelude.{sum, zip}
use Rattle.std.proofs.lemmas.List.Sums.{sum_by-append}
use Rattle.std.proofs.lemmas.List.{take_more, flat_map_more}
use Rattle.std.proofs.lemmas.List.Elements.{filter-append}
use Rattle.vortex_model.specs.Content.{Content}
use Rattle.vortex_model_table.specs.Scan.{Outcome, skipped_in_group, skipped, whole, tested, is_tested, tested_lengths}

pub selected_more : {X : Type 0} (p : X → Bool) (chunks : List (List X)) (chunk : List X) →
    filter p (flat_map (λ c. c) (chunks ++ chunk ∷ [])) ≡ filter p (flat_map (λ c. c) chunks) ++ filter p chunk
selected_more p chunks chunk =
    ap (filter p) (sym (flat_map_more (λ c. c) [] chunks chunk)) ∙ filter-append p (flat_map (λ c. c) chunks) chunk

pub selected_next : {X : Type 0} (p : X → Bool) (chunks : List (List X)) (i : ℕ) (d : List X) → i < length chunks →
    filter p (flat_map (λ c. c) (take (i + 1) chunks)) ≡ filter p (flat_map (λ c. c) (take i chunks)) ++ filter p (get_or chunks i d)
selected_next p chunks i d h = ap (λ cs. filter p (flat_map (λ c. c) cs)) (take_more chunks i d h) ∙ selected_more p (take i chunks) (get_or chunks i d)

pub sum_first : (n : ℕ) (ns : List ℕ) → sum (n ∷ ns) ≡ n + sum ns
sum_first n ns = sum_by-append (λ m. m) (n ∷ []) ns ∙ (let m : ℕ = sum ns in let e : 0 + n + m ≡ n + m = omega arith in e)

none_first : (n : ℕ) → n ≡ 0 + n
none_first n = omega arith

-- the rows of tested chunks, with one more chunk in front
pub tested_first : (o : Outcome) (os : List Outcome) (chunk : List Content) (chunks : List (List Content)) →
    tested_lengths (o ∷ os) (chunk ∷ chunks) ≡ (if is_tested o then length chunk else 0) + tested_lengths os chunks
tested_first tested os chunk chunks = sum_first (length chunk) (map (λ pair. length pair.1) (filter (λ pair. is_tested pair.0) (zip os chunks)))
tested_first skipped_in_group os chunk chunks = none_first (tested_lengths os chunks)
tested_first skipped os chunk chunks = none_first (tested_lengths os chunks)
tested_first whole os chunk chunks = none_first (tested_lengths os chunks)

pub none_lengths : (os : List Outcome) → tested_lengths os [] ≡ 0
none_lengths [] = refl
none_lengths (o ∷ os) = refl
