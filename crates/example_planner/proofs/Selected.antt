-- What is left out holds no row that is selected, and what the parts answer is all.
use Rattle.std.proofs.Common.{◌≡◌, refl, sym, ◌∙◌, ap, subst, ℕ, suc, ◌<◌, ◌≤◌, List, [], ◌∷◌, ◌++◌, length, map, arith, Bool, true, false, Some, None, Option}
use Rattle.std.specs.Prelude.{flat_map, filter, if◌then◌else◌, ◌==◌, ◌||◌}
use Rattle.std.specs.List.{AllByRecursion}
use Rattle.std.proofs.lemmas.Bool.{ne_eqb}
use Rattle.std.proofs.lemmas.Grind.{flat_map-append}
use Rattle.std.proofs.lemmas.List.{map-append}
use Rattle.std.proofs.lemmas.List.Elements.{filter-append}
use Rattle.vortex_model.specs.Valid.{IsContent}
use Rattle.vortex_model.specs.Refusal.{Refusal, or_else}
use Rattle.vortex_model.specs.Path.{Names, Step}
use Rattle.vortex_model_table.specs.Pruning.{IsAsked, SkippedChunksHoldNone}
use Rattle.vortex_model_laws.specs.Tighter.{GroupsChangeNothing}
use Rattle.vortex_table.specs.Content.{Content}
use Rattle.vortex_table.specs.LogicalType.{LogicalType}
use Rattle.vortex_table.specs.Command.{refusal, scan}
use Rattle.vortex_table.specs.Cut.{cut_row}
use Rattle.vortex_table.specs.Expression.{Expression, HasFormedLiterals}
use Rattle.vortex_table.specs.Truth.{selects}
use Rattle.vortex_table.specs.Scan.{Outcome, numbers, is_skipped, chunk_outcome, chunk_zone, proves, skipped, whole, tested}
use Rattle.vortex_model_table.specs.Rewrite.{falsifier, satisfier}
use Rattle.vortex_table.specs.Table.{Table, IsTable, answer}
use Rattle.example_planner.specs.Split.{is_among, kept, AreSkipped, IsSplit}
use Rattle.example_planner.proofs.Shares.{chunks_in}

abbrev rows_in : List (List Content) → List Content
rows_in chunks = flat_map (λ chunk. chunk) chunks

-- ---- chunks that are left out

-- of chunks numbered from i, those that are left out have no row that passes
abbrev AreHollow : (Content → Bool) → List ℕ → ℕ → List (List Content) → Type 0
AreHollow p out i [] = Unit {0}
AreHollow p out i (c ∷ chunks) = (is_among i out ≡ true → filter p c ≡ []) × AreHollow p out (suc i) chunks

kept_so : (p : Content → Bool) (c : List Content) (kept_rest rest : List (List Content)) (b : Bool) → filter p (rows_in kept_rest) ≡ filter p (rows_in rest) → (b ≡ true → filter p c ≡ []) →
    filter p (rows_in (if b then kept_rest else c ∷ kept_rest)) ≡ filter p (c ++ rows_in rest)
kept_so p c kept_rest rest true same none = same ∙ sym (filter-append p c (rows_in rest) ∙ ap (λ rows. rows ++ filter p (rows_in rest)) (none refl))
kept_so p c kept_rest rest false same none = filter-append p c (rows_in kept_rest) ∙ ap (λ rows. filter p c ++ rows) same ∙ sym (filter-append p c (rows_in rest))

none_lost : (p : Content → Bool) (out : List ℕ) (i : ℕ) (chunks : List (List Content)) → AreHollow p out i chunks → filter p (rows_in (kept out i chunks)) ≡ filter p (rows_in chunks)
none_lost p out i [] h = refl
none_lost p out i (c ∷ chunks) h = kept_so p c (kept out (suc i) chunks) chunks (is_among i out) (none_lost p out (suc i) chunks h.1) h.0

-- ---- numbers

unequal : (i j : ℕ) → i < j → (j == i) ≡ false
unequal i j l = ne_eqb j i (λ e. omega (arith, l, e))

unequal_other : (i j : ℕ) → i < j → (i == j) ≡ false
unequal_other i j l = ne_eqb i j (λ e. omega (arith, l, e))

later_so : (i j : ℕ) (rest : List ℕ) (b : Bool) → i < j → is_among i rest ≡ false → is_among i (if b then j ∷ rest else rest) ≡ false
later_so i j rest true l h = ap (λ b. b || is_among i rest) (unequal i j l) ∙ h
later_so i j rest false l h = h

later : (p : Outcome → Bool) (i j : ℕ) (os : List Outcome) → i < j → is_among i (numbers p j os) ≡ false
later p i j [] l = refl
later p i j (o ∷ os) l = later_so i j (numbers p (suc j) os) (p o) l (later p i (suc j) os (omega (arith, l)))

-- the first number is there where the first outcome passes
first_so : (p : Outcome → Bool) (i : ℕ) (o : Outcome) (os : List Outcome) → is_among i (numbers p i (o ∷ os)) ≡ true → p o ≡ true
first_so p i o os h = by_test (p o) h
  where
    by_test : (b : Bool) → is_among i (if b then i ∷ numbers p (suc i) os else numbers p (suc i) os) ≡ true → b ≡ true
    by_test true h = refl
    by_test false h = sym (later p i (suc i) os (omega arith)) ∙ h

-- a later number is there among the later ones
rest_so : (p : Outcome → Bool) (i j : ℕ) (o : Outcome) (os : List Outcome) → i < j → is_among j (numbers p i (o ∷ os)) ≡ true → is_among j (numbers p (suc i) os) ≡ true
rest_so p i j o os l h = by_test (p o) h
  where
    by_test : (b : Bool) → is_among j (if b then i ∷ numbers p (suc i) os else numbers p (suc i) os) ≡ true → is_among j (numbers p (suc i) os) ≡ true
    by_test true h = sym (ap (λ b. b || is_among j (numbers p (suc i) os)) (unequal_other i j l)) ∙ h
    by_test false h = h

-- ---- skipped chunks

skipped_so : (a b : Bool) → is_skipped (if a then skipped else (if b then whole else tested)) ≡ true → a ≡ true
skipped_so true b h = refl
skipped_so false true h = h
skipped_so false false h = h

module _ (t : Table) (e : Expression) (hold_none : SkippedChunksHoldNone) (asked : IsAsked t e) where
  hollow : (out : List ℕ) (i : ℕ) (chunks : List (List Content)) → AllByRecursion (λ chunk. AllByRecursion (IsContent t.kind) chunk) chunks →
      ((j : ℕ) → i ≤ j → is_among j out ≡ true → is_among j (numbers is_skipped i (map (chunk_outcome t e) chunks)) ≡ true) → AreHollow (selects t.kind e) out i chunks
  hollow out i [] typed h = tt
  hollow out i (c ∷ chunks) typed h = (
    λ among. hold_none t e c asked typed.0
        (skipped_so (proves (chunk_zone t c) (length c) (falsifier t.kind e)) (proves (chunk_zone t c) (length c) (satisfier t.kind e))
        (first_so is_skipped i (chunk_outcome t e c) (map (chunk_outcome t e) chunks) (h i (omega arith) among))),
    hollow out (suc i) chunks typed.1
        (λ j l among. rest_so is_skipped i j (chunk_outcome t e c) (map (chunk_outcome t e) chunks) (omega (arith, l)) (h j (omega (arith, l)) among)),
  )

-- ---- the parts' answers

parts_answer : (k : LogicalType) (paths : List Names) (e : Expression) (parts : List Table) → AllByRecursion (λ part. part.kind ≡ k) parts →
    flat_map (λ part. answer part paths e) parts ≡ map (cut_row paths k) (filter (selects k e) (rows_in (chunks_in parts)))
parts_answer k paths e [] h = refl
parts_answer k paths e (part ∷ parts) h =
    let own = rows_in part.chunks in let others = rows_in (chunks_in parts) in
    ap (λ kind. map (cut_row paths kind) (filter (selects kind e) own) ++ flat_map (λ p. answer p paths e) parts) h.0
    ∙ ap (λ rows. map (cut_row paths k) (filter (selects k e) own) ++ rows) (parts_answer k paths e parts h.1)
    ∙ sym (map-append (cut_row paths k) (filter (selects k e) own) (filter (selects k e) others))
    ∙ ap (map (cut_row paths k)) (sym (filter-append (selects k e) own others))
    ∙ ap (λ rows. map (cut_row paths k) (filter (selects k e) rows)) (sym (flat_map-append (λ chunk. chunk) part.chunks (chunks_in parts)))

-- where both parts have no refusal the second has none
second_none : (p q : Option Refusal) → or_else p q ≡ None → q ≡ None
second_none None q h = h
second_none (Some r) q h = absurd (cc (h))

-- The parts of a split answer, end to end, what the whole does, where a scan skips what is left out.
pub parts_are_whole : (t : Table) (out : List ℕ) (workers : ℕ) (parts : List Table) (steps : List (List Step)) (paths : List Names) (e : Expression) → GroupsChangeNothing → SkippedChunksHoldNone →
    IsTable t → refusal t (scan steps e) ≡ None → HasFormedLiterals e → AreSkipped out t e → IsSplit t out workers parts → flat_map (λ part. answer part paths e) parts ≡ answer t paths e
parts_are_whole t out workers parts steps paths e alone hold_none is accepted formed are split =
    parts_answer t.kind paths e parts split.kinds
    ∙ ap (λ chunks. map (cut_row paths t.kind) (filter (selects t.kind e) (rows_in chunks))) split.chunks
    ∙ ap (map (cut_row paths t.kind)) (none_lost (selects t.kind e) out 0 t.chunks
    (hollow t e hold_none (record { faultless = second_none _ _ accepted; formed = formed }) out 0 t.chunks is.rows
    (λ j l among. subst (λ ns. is_among j ns ≡ true) (alone t e is).skipped (are j among))))
