-- A table that is parts put end to end is scanned as the parts are: each chunk alone.
use Rattle.std.proofs.Common.{◌≡◌, refl, sym, ◌∙◌, ap, ℕ, suc, ◌+◌, ◌*◌, ◌-◌, ◌^◌, ◌≤◌, min, arith, List, [], ◌∷◌, ◌++◌, length, take, drop, map, filter, flat_map, Bool, true, false, not, ◌&&◌, if◌then◌else◌, nat_lt, Option, option_map, is_some}
use Rattle.std.specs.Prelude.{sum, count_by}
use Rattle.std.specs.List.{AllByRecursion}
use Rattle.std.proofs.lemmas.List.{length-map, length-append, length-take-le, map-append, take-append-drop, take-append-le, drop-append-le}
use Rattle.std.proofs.lemmas.List.Elements.{filter-append}
use Rattle.std.proofs.lemmas.List.Sums.{sum_by-append}
use Rattle.std.proofs.lemmas.Bool.Decides.{nat_tests}
use Rattle.std.proofs.lemmas.Grind.{flat_map-append}
use Rattle.vortex_model.specs.LogicalType.{LogicalType}
use Rattle.vortex_model.specs.Content.{Content}
use Rattle.vortex_model.specs.Path.{Names, Positions}
use Rattle.vortex_model_table.specs.Expression.{Expression}
use Rattle.vortex_model_table.specs.Truth.{selects}
use Rattle.vortex_model_table.specs.Cut.{cut_row, cut_type}
use Rattle.vortex_model_table.specs.ZoneMap.{ZoneMap, zone_of, group_bounds, values_at}
use Rattle.vortex_model_table.specs.Rewrite.{falsifier, satisfier}
use Rattle.vortex_model_table.specs.Table.{Table, IsTable, bound_length, rows_of}
use Rattle.vortex_model_table.specs.Scan.{leaf_at, proves, Outcome, skipped_in_group, skipped, whole as taken_whole, tested, chunk_outcome, is_many, group_outcomes, grouped, is_skipped, is_whole, is_tested, is_in_group, numbers, saturated, tested_lengths, one_if, ScanAnswer, scanned}
use Rattle.vortex_model_laws.proofs.Alone.{as_each_alone}
use Rattle.vortex_model_laws.proofs.Outcomes.{sum_first, tested_first}
use Rattle.vortex_table_laws.specs.Parts.{ArePartsOf, moved, IsAnswerOfParts}

-- ---- a chunk's outcome depends on the type and the bound lengths alone

abbrev zones_by : LogicalType → (Positions → ℕ) → List Content → Names → Option ZoneMap
zones_by k lengths chunk xs = option_map (λ leaf. zone_of leaf.1 (lengths leaf.0) (values_at leaf.0 chunk)) (leaf_at k xs)

abbrev outcome_by : Expression → LogicalType → (Positions → ℕ) → List Content → Outcome
outcome_by e k lengths chunk =
    if proves (zones_by k lengths chunk) (length chunk) (falsifier k e) then skipped
    else (if proves (zones_by k lengths chunk) (length chunk) (satisfier k e) then taken_whole else tested)

same_outcomes : (t u : Table) (e : Expression) → t.kind ≡ u.kind → ((is : Positions) → bound_length t is ≡ bound_length u is) → chunk_outcome t e ≡ chunk_outcome u e
same_outcomes t u e k l = λ i. outcome_by e (k i) (λ is. l is i)

abbrev group_by : Expression → LogicalType → (Positions → ℕ) → List (List Content) → List Outcome
group_by e k lengths chunks =
    if is_many chunks && proves (λ xs. option_map (λ leaf. group_bounds (map (λ chunk. zone_of leaf.1 (lengths leaf.0) (values_at leaf.0 chunk)) chunks)) (leaf_at k xs))
    (sum (map length chunks)) (falsifier k e)
    then map (λ chunk. skipped_in_group) chunks else map (outcome_by e k lengths) chunks

same_groups : (t u : Table) (e : Expression) → t.kind ≡ u.kind → ((is : Positions) → bound_length t is ≡ bound_length u is) → group_outcomes t e ≡ group_outcomes u e
same_groups t u e k l = λ i. group_by e (k i) (λ is. l is i)

-- ---- numbers of chunks

numbers_moved : (p : Outcome → Bool) (n i j : ℕ) (os : List Outcome) → j ≡ n + i → numbers p j os ≡ map (λ x. n + x) (numbers p i os)
numbers_moved p n i j [] e = refl
numbers_moved p n i j (o ∷ os) e = by_test (p o) (numbers_moved p n (suc i) (suc j) os (omega (arith, e)))
  where
    by_test : (b : Bool) → numbers p (suc j) os ≡ map (λ x. n + x) (numbers p (suc i) os) →
        (if b then j ∷ numbers p (suc j) os else numbers p (suc j) os) ≡ map (λ x. n + x) (if b then i ∷ numbers p (suc i) os else numbers p (suc i) os)
    by_test true more = λ t. e t ∷ more t
    by_test false more = more

numbers_both : (p : Outcome → Bool) (i j : ℕ) (os more : List Outcome) → j ≡ i + length os → numbers p i (os ++ more) ≡ numbers p i os ++ numbers p j more
numbers_both p i j [] more e = ap (λ n. numbers p n more) (let h : i ≡ j = omega (arith, e) in h)
numbers_both p i j (o ∷ os) more e = by_test (p o) (numbers_both p (suc i) j os more (omega (arith, e)))
  where
    by_test : (b : Bool) → numbers p (suc i) (os ++ more) ≡ numbers p (suc i) os ++ numbers p j more →
        (if b then i ∷ numbers p (suc i) (os ++ more) else numbers p (suc i) (os ++ more)) ≡ (if b then i ∷ numbers p (suc i) os else numbers p (suc i) os) ++ numbers p j more
    by_test true rest = ap (λ ns. i ∷ ns) rest
    by_test false rest = rest

-- ---- sums that stay at the greatest u64

as_least : (n : ℕ) → saturated n ≡ min n (2 ^ 64 - 1)
as_least n = by_test (nat_lt n (2 ^ 64)) refl
  where
    by_test : (b : Bool) → nat_lt n (2 ^ 64) ≡ b → (if b then n else (2 ^ 64 - 1)) ≡ min n (2 ^ 64 - 1)
    by_test true e = grind (arith, nat_tests, e)
    by_test false e = grind (arith, nat_tests, e)

-- what is added may be saturated before
added : (a b c : ℕ) → saturated b ≡ saturated c → saturated (a + b) ≡ saturated (saturated a + c)
added a b c e =
    let m : ℕ = 2 ^ 64 - 1 in
    let h : min b m ≡ min c m = sym (as_least b) ∙ e ∙ as_least c in
    let sum : min (a + b) m ≡ min (min a m + c) m = least_added a b c m h in
    as_least (a + b) ∙ sum ∙ sym (as_least (min a m + c)) ∙ ap (λ n. saturated (n + c)) (sym (as_least a))
  where
    least_added : (a b c m : ℕ) → min b m ≡ min c m → min (a + b) m ≡ min (min a m + c) m
    least_added a b c m h = omega (arith, h)

-- ---- groups, where none spans two lists of chunks

less_first : (n : ℕ) (sizes : List ℕ) (chunks : List (List Content)) → sum (n ∷ sizes) ≡ length chunks → (n ≤ length chunks) × (sum sizes ≡ length (drop n chunks))
less_first n sizes chunks h =
    let m : ℕ = sum sizes in let l : ℕ = length chunks in let f : ℕ = length (take n chunks) in let b : ℕ = length (drop n chunks) in
    let split : n + m ≡ l = sym (sum_first n sizes) ∙ h in
    let few : n ≤ l = omega (arith, split) in
    let small : f ≡ n = length-take-le n chunks few in
    let parts : f + b ≡ l = sym (length-append (take n chunks) (drop n chunks)) ∙ ap length (take-append-drop n chunks) in
    (few, omega (arith, split, small, parts))

grouped_both : (sizes more : List ℕ) (cs ds : List (List Content)) → sum sizes ≡ length cs → grouped (sizes ++ more) (cs ++ ds) ≡ grouped sizes cs ++ grouped more ds
grouped_both [] more [] ds e = refl
grouped_both [] more (c ∷ cs) ds e = absurd (omega (arith, e))
grouped_both (n ∷ sizes) more cs ds e =
    let less = less_first n sizes cs e in
    (λ i. take-append-le n cs ds less.0 i ∷ grouped (sizes ++ more) (drop-append-le n cs ds less.0 i))
    ∙ ap (λ groups. take n cs ∷ groups) (grouped_both sizes more (drop n cs) ds less.1)

-- ---- counts of proofs

abbrev cost : Bool → Bool → List ℕ → List Outcome → ℕ
cost b c sizes os =
    one_if b * (count_by (nat_lt 1) sizes + count_by (λ o. not (is_in_group o)) os) + one_if c * count_by (λ o. not (is_skipped o)) os

count_both : {X : Type 0} (p : X → Bool) (xs ys : List X) → count_by p (xs ++ ys) ≡ count_by p xs + count_by p ys
count_both p xs ys = sum_by-append (λ x. if p x then 1 else 0) xs ys

cost_both : (b c : Bool) (sizes more : List ℕ) (os next : List Outcome) → cost b c (sizes ++ more) (os ++ next) ≡ cost b c sizes os + cost b c more next
cost_both b c sizes more os next =
    (λ i. one_if b * (count_both (nat_lt 1) sizes more i + count_both (λ o. not (is_in_group o)) os next i) + one_if c * count_both (λ o. not (is_skipped o)) os next i)
    ∙ by_tests b c (count_by (nat_lt 1) sizes) (count_by (nat_lt 1) more) (count_by (λ o. not (is_in_group o)) os) (count_by (λ o. not (is_in_group o)) next)
    (count_by (λ o. not (is_skipped o)) os) (count_by (λ o. not (is_skipped o)) next)
  where
    by_tests : (b c : Bool) (g h l m n o : ℕ) → one_if b * (g + h + (l + m)) + one_if c * (n + o) ≡ one_if b * (g + l) + one_if c * n + (one_if b * (h + m) + one_if c * o)
    by_tests true true g h l m n o = omega arith
    by_tests true false g h l m n o = omega arith
    by_tests false true g h l m n o = omega arith
    by_tests false false g h l m n o = omega arith

-- ---- the parts, chunk by chunk

-- the part is of the type, with the bound lengths
record Fits (whole : Table) (part : Table) : Type 0 where
  kind : part.kind ≡ whole.kind
  lengths : (is : Positions) → bound_length part is ≡ bound_length whole is
  table : IsTable part

all_fit : (whole : Table) (parts : List Table) → AllByRecursion IsTable parts → AllByRecursion (λ part. part.kind ≡ whole.kind) parts →
    AllByRecursion (λ part. (is : Positions) → bound_length part is ≡ bound_length whole is) parts → AllByRecursion (Fits whole) parts
all_fit whole [] h k l = tt
all_fit whole (part ∷ parts) h k l = (record { kind = k.0; lengths = l.0; table = h.0 }, all_fit whole parts h.1 k.1 l.1)

module _ (whole : Table) (paths : List Names) (e : Expression) where
  abbrev chunks_of : List Table → List (List Content)
  chunks_of parts = flat_map (λ part. part.chunks) parts

  abbrev answers_of : List Table → List ScanAnswer
  answers_of parts = map (λ part. scanned part paths e) parts

  outcomes_alike : (part : Table) → Fits whole part → chunk_outcome part e ≡ chunk_outcome whole e
  outcomes_alike part h = same_outcomes part whole e h.kind h.lengths

  as_many : (parts : List Table) → length (answers_of parts) ≡ length parts
  as_many parts = length-map parts (λ part. scanned part paths e)

  -- rows
  abbrev found : List (List Content) → List Content
  found chunks = map (cut_row paths whole.kind) (filter (selects whole.kind e) (flat_map (λ chunk. chunk) chunks))

  found_both : (cs ds : List (List Content)) → found (cs ++ ds) ≡ found cs ++ found ds
  found_both cs ds =
      ap (λ rows. map (cut_row paths whole.kind) (filter (selects whole.kind e) rows)) (flat_map-append (λ chunk. chunk) cs ds)
      ∙ ap (map (cut_row paths whole.kind)) (filter-append (selects whole.kind e) (flat_map (λ chunk. chunk) cs) (flat_map (λ chunk. chunk) ds))
      ∙ map-append (cut_row paths whole.kind) (filter (selects whole.kind e) (flat_map (λ chunk. chunk) cs)) (filter (selects whole.kind e) (flat_map (λ chunk. chunk) ds))

  rows_alike : (parts : List Table) → AllByRecursion (Fits whole) parts → found (chunks_of parts) ≡ flat_map (λ a. a.rows) (answers_of parts)
  rows_alike [] h = refl
  rows_alike (part ∷ parts) h =
      found_both part.chunks (chunks_of parts)
      ∙ (λ i. map (cut_row paths (sym h.0.kind i)) (filter (selects (sym h.0.kind i) e) (rows_of part)) ++ rows_alike parts h.1 i)

  kinds_alike : (parts : List Table) → AllByRecursion (Fits whole) parts → AllByRecursion (λ a. a.kind ≡ cut_type paths whole.kind) (answers_of parts)
  kinds_alike [] h = tt
  kinds_alike (part ∷ parts) h = (ap (cut_type paths) h.0.kind, kinds_alike parts h.1)

  -- chunks that are skipped or taken whole
  module _ (p : Outcome → Bool) (named : ScanAnswer → List ℕ)
      (tells : (t : Table) → IsTable t → named (scanned t paths e) ≡ numbers p 0 (map (chunk_outcome t e) t.chunks)) where
    part_moved : (before : ℕ) (part : Table) → Fits whole part → numbers p before (map (chunk_outcome whole e) part.chunks) ≡ map (λ i. before + i) (named (scanned part paths e))
    part_moved before part h =
        numbers_moved p before 0 before (map (chunk_outcome whole e) part.chunks) (omega arith)
        ∙ ap (λ ns. map (λ i. before + i) ns) (ap (λ f. numbers p 0 (map f part.chunks)) (sym (outcomes_alike part h)) ∙ sym (tells part h.table))

    numbers_alike : (before : ℕ) (parts : List Table) → AllByRecursion (Fits whole) parts →
        numbers p before (map (chunk_outcome whole e) (chunks_of parts)) ≡ moved named before parts (answers_of parts)
    numbers_alike before [] h = refl
    numbers_alike before (part ∷ parts) h =
        let first = map (chunk_outcome whole e) part.chunks in
        ap (numbers p before) (map-append (chunk_outcome whole e) part.chunks (chunks_of parts))
        ∙ numbers_both p before (before + length part.chunks) first (map (chunk_outcome whole e) (chunks_of parts))
        (ap (λ n. before + n) (sym (length-map part.chunks (chunk_outcome whole e))))
        ∙ (λ i. part_moved before part h.0 i ++ numbers_alike (before + length part.chunks) parts h.1 i)

  -- rows that are tested
  abbrev tested_in : (List Content → Outcome) → List (List Content) → ℕ
  tested_in f chunks = tested_lengths (map f chunks) chunks

  tested_both : (f : List Content → Outcome) (cs ds : List (List Content)) → tested_in f (cs ++ ds) ≡ tested_in f cs + tested_in f ds
  tested_both f [] ds = let n : ℕ = tested_in f ds in let h : n ≡ 0 + n = omega arith in h
  tested_both f (c ∷ cs) ds =
      let here : ℕ = if is_tested (f c) then length c else 0 in
      let a : ℕ = tested_in f cs in let b : ℕ = tested_in f ds in
      tested_first (f c) (map f (cs ++ ds)) c (cs ++ ds)
      ∙ ap (λ n. here + n) (tested_both f cs ds)
      ∙ (let h : here + (a + b) ≡ here + a + b = omega arith in h)
      ∙ ap (λ n. n + tested_in f ds) (sym (tested_first (f c) (map f cs) c cs))

  tested_alike : (parts : List Table) → AllByRecursion (Fits whole) parts →
      saturated (tested_in (chunk_outcome whole e) (chunks_of parts)) ≡ saturated (sum (map (λ a. a.rows_tested) (answers_of parts)))
  tested_alike [] h = refl
  tested_alike (part ∷ parts) h =
      let here : ℕ = tested_in (chunk_outcome whole e) part.chunks in
      let more : ℕ = sum (map (λ a. a.rows_tested) (answers_of parts)) in
      ap saturated (tested_both (chunk_outcome whole e) part.chunks (chunks_of parts))
      ∙ added here (tested_in (chunk_outcome whole e) (chunks_of parts)) more (tested_alike parts h.1)
      ∙ ap (λ n. saturated (n + more)) (ap (λ f. saturated (tested_in f part.chunks)) (sym (outcomes_alike part h.0)) ∙ sym (as_each_alone part e h.0.table).tested)
      ∙ ap saturated (sym (sum_first (scanned part paths e).rows_tested (map (λ a. a.rows_tested) (answers_of parts))))

  -- proofs
  abbrev cost_of : LogicalType → List ℕ → List Outcome → ℕ
  cost_of k sizes os = cost (is_some (falsifier k e)) (is_some (satisfier k e)) sizes os

  abbrev in_groups : List ℕ → List (List Content) → List Outcome
  in_groups sizes chunks = flat_map (group_outcomes whole e) (grouped sizes chunks)

  part_cost : (part : Table) → Fits whole part → saturated (cost_of whole.kind part.groups (in_groups part.groups part.chunks)) ≡ (scanned part paths e).proofs
  part_cost part h = λ i. saturated (cost_of (sym h.kind i) part.groups (flat_map (sym (same_groups part whole e h.kind h.lengths) i) (grouped part.groups part.chunks)))

  proofs_alike : (parts : List Table) → AllByRecursion (Fits whole) parts →
      saturated (cost_of whole.kind (flat_map (λ part. part.groups) parts) (in_groups (flat_map (λ part. part.groups) parts) (chunks_of parts)))
      ≡ saturated (sum (map (λ a. a.proofs) (answers_of parts)))
  proofs_alike [] h = by_tests (is_some (falsifier whole.kind e)) (is_some (satisfier whole.kind e))
    where
      by_tests : (b c : Bool) → saturated (cost b c [] []) ≡ saturated 0
      by_tests true true = refl
      by_tests true false = refl
      by_tests false true = refl
      by_tests false false = refl
  proofs_alike (part ∷ parts) h =
      let sizes = part.groups in let more = flat_map (λ part. part.groups) parts in
      let here = in_groups sizes part.chunks in let there = in_groups more (chunks_of parts) in
      let rest : ℕ = sum (map (λ a. a.proofs) (answers_of parts)) in
      ap (λ os. saturated (cost_of whole.kind (sizes ++ more) os)) (ap (flat_map (group_outcomes whole e)) (grouped_both sizes more part.chunks (chunks_of parts) h.0.table.grouped)
      ∙ flat_map-append (group_outcomes whole e) (grouped sizes part.chunks) (grouped more (chunks_of parts)))
      ∙ ap saturated (cost_both (is_some (falsifier whole.kind e)) (is_some (satisfier whole.kind e)) sizes more here there)
      ∙ added (cost_of whole.kind sizes here) (cost_of whole.kind more there) rest (proofs_alike parts h.1)
      ∙ ap (λ n. saturated (n + rest)) (part_cost part h.0)
      ∙ ap saturated (sym (sum_first (scanned part paths e).proofs (map (λ a. a.proofs) (answers_of parts))))

pub answer_of_parts : (parts : List Table) (whole : Table) (paths : List Names) (e : Expression) → AllByRecursion IsTable parts → IsTable whole → ArePartsOf parts whole →
    IsAnswerOfParts parts whole (map (λ part. scanned part paths e) parts) (scanned whole paths e)
answer_of_parts parts whole paths e tables is are =
    let fit = all_fit whole parts tables are.kind are.lengths in
    let alone = as_each_alone whole e is in record {
      one_each = as_many whole paths e parts;
      rows = ap (found whole paths e) are.chunks ∙ rows_alike whole paths e parts fit;
      kind = kinds_alike whole paths e parts fit;
      skipped = alone.skipped ∙ ap (λ chunks. numbers is_skipped 0 (map (chunk_outcome whole e) chunks)) are.chunks
          ∙ numbers_alike whole paths e is_skipped (λ a. a.skipped) (λ t h. (as_each_alone t e h).skipped) 0 parts fit;
      taken_whole = alone.whole ∙ ap (λ chunks. numbers is_whole 0 (map (chunk_outcome whole e) chunks)) are.chunks
          ∙ numbers_alike whole paths e is_whole (λ a. a.whole) (λ t h. (as_each_alone t e h).whole) 0 parts fit;
      rows_tested = alone.tested ∙ ap (λ chunks. saturated (tested_in whole paths e (chunk_outcome whole e) chunks)) are.chunks ∙ tested_alike whole paths e parts fit;
      proofs = λ groups. (λ i. saturated (cost_of whole paths e whole.kind (groups i) (in_groups whole paths e (groups i) (are.chunks i)))) ∙ proofs_alike whole paths e parts fit;
    }
