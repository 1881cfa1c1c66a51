-- A scan that goes from group to group, and in these from chunk to chunk, makes the whole answer.
use Rattle.std.proofs.Common.{◌≡◌, refl, sym, ◌∙◌, ap, ℕ, suc, ◌+◌, ◌*◌, List, [], ◌∷◌, ◌++◌, length, map, filter, count_by, Bool, true, false, not, if◌then◌else◌, arith, append-nil, append_assoc, cond, add-zero, zero-add, add_assoc}
use Rattle.std.specs.Prelude.{flat_map, sum, take, drop, zip, is_some, nat_lt}
use Rattle.std.proofs.lemmas.List.Sums.{length-filter, sum_by-append}
use Rattle.std.proofs.lemmas.List.{map-append, length-map, length-take-le, length-drop, take-append-drop}
use Rattle.std.proofs.lemmas.Bool.Decides.{nat_tests}
use Rattle.vortex_model.specs.Content.{Content}
use Rattle.vortex_model_table.specs.Truth.{selects}
use Rattle.vortex_model_table.specs.Cut.{cut_row}
use Rattle.vortex_model_table.specs.Scan.{Outcome, skipped_in_group, skipped, whole, tested, is_skipped, is_whole, is_tested, is_in_group, saturated, one_if, ScanAnswer, grouped, is_many, numbers, tested_lengths}
use Rattle.vortex_model_table.specs.Pruning.{found_in}
use Rattle.vortex_model_table.specs.Table.{Table}
use Rattle.vortex_model_laws.proofs.Outcomes.{tested_first as length_first, sum_first}
use Rattle.vortex_model_rules.specs.Scanned.{group_outcomes_by}
use Rattle.vortex_table_core.specs.Progress.{Question, answer_to, outcome_to, found_rows, push_if, tested_rows, proofs_at, with_chunk, with_chunks, is_group_skipped, outcome_in, group_proofs, looked_at, with_group, with_groups, no_answer}

-- ---- counts that stay at the greatest

pub saturated_twice : (a b : ℕ) → saturated (saturated a + b) ≡ saturated (a + b)
saturated_twice a b = grind (arith, nat_tests)

pub saturated_once : (a : ℕ) → saturated (saturated a) ≡ saturated a
saturated_once a = grind (arith, nat_tests)

spread : (f s a m b n : ℕ) → f * (a + m) + s * (b + n) ≡ f * a + s * b + (f * m + s * n)
spread f s a m b n = grind arith

none_counted : (a f s : ℕ) → a ≡ a + (f * 0 + s * 0)
none_counted a f s = grind arith

-- ---- what is counted

pub count_first : {X : Type 0} (p : X → Bool) (x : X) (xs : List X) → count_by p (x ∷ xs) ≡ one_if (p x) + count_by p xs
count_first p x xs = sym (length-filter p (x ∷ xs)) ∙ first_length (p x) ∙ ap (λ n. one_if (p x) + n) (length-filter p xs)
  where
    first_length : (b : Bool) → length (cond b (x ∷ filter p xs) (filter p xs)) ≡ one_if b + length (filter p xs)
    first_length true = omega arith
    first_length false = omega arith

-- the proofs at these chunks
abbrev proofs_of : Question → List Outcome → ℕ
proofs_of q os = one_if (is_some q.falsifier) * count_by (λ o. not (is_in_group o)) os + one_if (is_some q.satisfier) * count_by (λ o. not (is_skipped o)) os

no_proofs : (a f s : ℕ) → a ≡ a + (f * (0 + 0) + s * 0)
no_proofs a f s = grind arith

gathered : (f s m p q n r u : ℕ) → f * m + (f * p + s * q) + (f * (n + r) + s * u) ≡ f * ((m + n) + (p + r)) + s * (q + u)
gathered f s m p q n r u = grind arith

count_append : (p : Outcome → Bool) (os qs : List Outcome) → count_by p (os ++ qs) ≡ count_by p os + count_by p qs
count_append p os qs = sum_by-append (λ o. if p o then 1 else 0) os qs

-- what a group of this size leaves
first_size : (n : ℕ) (sizes : List ℕ) (chunks : List (List Content)) → sum (n ∷ sizes) ≡ length chunks → length (take n chunks) ≡ n
first_size n sizes chunks h =
    let m : ℕ = sum sizes in let l : ℕ = length chunks in
    let split : n + m ≡ l = sym (sum_first n sizes) ∙ h in
    length-take-le n chunks (omega (arith, split))

left_over : (n : ℕ) (sizes : List ℕ) (chunks : List (List Content)) → sum (n ∷ sizes) ≡ length chunks → sum sizes ≡ length (drop n chunks)
left_over n sizes chunks h =
    let m : ℕ = sum sizes in let l : ℕ = length chunks in let d = length-drop n chunks in
    let split : n + m ≡ l = sym (sum_first n sizes) ∙ h in
    omega (arith, split, d)

-- ---- each part of the answer

module _ (q : Question) where
  -- what is taken of these chunks, by their outcomes
  abbrev pub taken_of : List Outcome → List (List Content) → List Content
  taken_of os chunks = flat_map (λ pair. found_in (selects q.table.kind q.predicate) pair.0 pair.1) (zip os chunks)

  abbrev cut : List Content → List Content
  cut rows = map (cut_row q.paths q.table.kind) rows

  cut_both : (o : Outcome) (chunk rows : List Content) → cut (found_in (selects q.table.kind q.predicate) o chunk ++ rows) ≡ found_rows q o chunk ++ cut rows
  cut_both o chunk rows = map-append (cut_row q.paths q.table.kind) (found_in (selects q.table.kind q.predicate) o chunk) rows

  taken_append : (os us : List Outcome) (xs ys : List (List Content)) → length os ≡ length xs → taken_of (os ++ us) (xs ++ ys) ≡ taken_of os xs ++ taken_of us ys
  taken_append [] us [] ys h = refl
  taken_append [] us (x ∷ xs) ys h = absurd (omega (arith, h))
  taken_append (o ∷ os) us [] ys h = absurd (omega (arith, h))
  taken_append (o ∷ os) us (x ∷ xs) ys h =
      let here = found_in (selects q.table.kind q.predicate) o x in
      ap (λ rows. here ++ rows) (taken_append os us xs ys (omega (arith, h))) ∙ sym (append_assoc here (taken_of os xs) (taken_of us ys))

module _ (q : Question) (outcome : List Content → Outcome) where
  abbrev seen : ℕ → List (List Content) → ScanAnswer → ScanAnswer
  seen = with_chunks q outcome

  pub rows_after : (i : ℕ) (chunks : List (List Content)) (a : ScanAnswer) → (seen i chunks a).rows ≡ a.rows ++ cut q (taken_of q (map outcome chunks) chunks)
  rows_after i [] a = sym (append-nil a.rows)
  rows_after i (chunk ∷ chunks) a =
      rows_after (suc i) chunks (with_chunk q i chunk (outcome chunk) a)
      ∙ append_assoc a.rows (found_rows q (outcome chunk) chunk) (cut q (taken_of q (map outcome chunks) chunks))
      ∙ ap (λ rows. a.rows ++ rows) (sym (cut_both q (outcome chunk) chunk (taken_of q (map outcome chunks) chunks)))

  pub kind_after : (i : ℕ) (chunks : List (List Content)) (a : ScanAnswer) → (seen i chunks a).kind ≡ a.kind
  kind_after i [] a = refl
  kind_after i (chunk ∷ chunks) a = kind_after (suc i) chunks (with_chunk q i chunk (outcome chunk) a)

  pushed : (b : Bool) (i : ℕ) (xs ys : List ℕ) → push_if b i xs ++ ys ≡ xs ++ (if b then i ∷ ys else ys)
  pushed true i xs ys = append_assoc xs (i ∷ []) ys
  pushed false i xs ys = refl

  pub skipped_after : (i : ℕ) (chunks : List (List Content)) (a : ScanAnswer) → (seen i chunks a).skipped ≡ a.skipped ++ numbers is_skipped i (map outcome chunks)
  skipped_after i [] a = sym (append-nil a.skipped)
  skipped_after i (chunk ∷ chunks) a =
      skipped_after (suc i) chunks (with_chunk q i chunk (outcome chunk) a)
      ∙ pushed (is_skipped (outcome chunk)) i a.skipped (numbers is_skipped (suc i) (map outcome chunks))

  pub whole_after : (i : ℕ) (chunks : List (List Content)) (a : ScanAnswer) → (seen i chunks a).whole ≡ a.whole ++ numbers is_whole i (map outcome chunks)
  whole_after i [] a = sym (append-nil a.whole)
  whole_after i (chunk ∷ chunks) a =
      whole_after (suc i) chunks (with_chunk q i chunk (outcome chunk) a)
      ∙ pushed (is_whole (outcome chunk)) i a.whole (numbers is_whole (suc i) (map outcome chunks))

  tested_first : (o : Outcome) (chunk : List Content) (os : List Outcome) (chunks : List (List Content)) →
      tested_lengths (o ∷ os) (chunk ∷ chunks) ≡ tested_rows o chunk + tested_lengths os chunks
  tested_first o chunk os chunks = length_first o os chunk chunks ∙ ap (λ n. n + tested_lengths os chunks) (as_tested o)
    where
      as_tested : (p : Outcome) → (if is_tested p then length chunk else 0) ≡ tested_rows p chunk
      as_tested tested = refl
      as_tested skipped = refl
      as_tested whole = refl
      as_tested skipped_in_group = refl

  regrouped : (a b c d : ℕ) → d ≡ b + c → saturated (saturated (a + b) + c) ≡ saturated (a + d)
  regrouped a b c d h = saturated_twice (a + b) c ∙ ap saturated (let g : a + b + c ≡ a + d = omega arith in g)

  pub tested_after : (i : ℕ) (chunks : List (List Content)) (a : ScanAnswer) → saturated a.rows_tested ≡ a.rows_tested →
      (seen i chunks a).rows_tested ≡ saturated (a.rows_tested + tested_lengths (map outcome chunks) chunks)
  tested_after i [] a h = sym h ∙ ap saturated (sym (add-zero a.rows_tested))
  tested_after i (chunk ∷ chunks) a h =
      tested_after (suc i) chunks (with_chunk q i chunk (outcome chunk) a) (saturated_once (a.rows_tested + tested_rows (outcome chunk) chunk))
      ∙ regrouped a.rows_tested (tested_rows (outcome chunk) chunk) (tested_lengths (map outcome chunks) chunks) _ (tested_first (outcome chunk) chunk (map outcome chunks) chunks)

  proofs_first : (o : Outcome) (os : List Outcome) → proofs_of q (o ∷ os) ≡ proofs_at (is_some q.falsifier) (is_some q.satisfier) o + proofs_of q os
  proofs_first o os =
      let f : ℕ = one_if (is_some q.falsifier) in
      let s : ℕ = one_if (is_some q.satisfier) in
      let p : Outcome → Bool = λ o. not (is_in_group o) in
      let r : Outcome → Bool = λ o. not (is_skipped o) in
      (λ i. f * count_first p o os i + s * count_first r o os i) ∙ spread f s (one_if (p o)) (count_by p os) (one_if (r o)) (count_by r os)

  pub proofs_after : (i : ℕ) (chunks : List (List Content)) (a : ScanAnswer) → saturated a.proofs ≡ a.proofs →
      (seen i chunks a).proofs ≡ saturated (a.proofs + proofs_of q (map outcome chunks))
  proofs_after i [] a h = sym h ∙ ap saturated (none_counted a.proofs (one_if (is_some q.falsifier)) (one_if (is_some q.satisfier)))
  proofs_after i (chunk ∷ chunks) a h =
      proofs_after (suc i) chunks (with_chunk q i chunk (outcome chunk) a) (saturated_once (a.proofs + proofs_at (is_some q.falsifier) (is_some q.satisfier) (outcome chunk)))
      ∙ regrouped a.proofs (proofs_at (is_some q.falsifier) (is_some q.satisfier) (outcome chunk)) (proofs_of q (map outcome chunks)) _ (proofs_first (outcome chunk) (map outcome chunks))

-- ---- lists after lists

numbers_append : (p : Outcome → Bool) (i : ℕ) (os qs : List Outcome) → numbers p i (os ++ qs) ≡ numbers p i os ++ numbers p (i + length os) qs
numbers_append p i [] qs = ap (λ n. numbers p n qs) (sym (add-zero i))
numbers_append p i (o ∷ os) qs =
    by_test (p o) (numbers_append p (suc i) os qs ∙ ap (λ n. numbers p (suc i) os ++ numbers p n qs) (let n : ℕ = length os in let h : suc i + n ≡ i + suc n = omega arith in h))
  where
    by_test : (b : Bool) → numbers p (suc i) (os ++ qs) ≡ numbers p (suc i) os ++ numbers p (i + suc (length os)) qs →
        (if b then i ∷ numbers p (suc i) (os ++ qs) else numbers p (suc i) (os ++ qs)) ≡ (if b then i ∷ numbers p (suc i) os else numbers p (suc i) os) ++ numbers p (i + suc (length os)) qs
    by_test true later = ap (λ ns. i ∷ ns) later
    by_test false later = later

tested_append : (os qs : List Outcome) (xs ys : List (List Content)) → length os ≡ length xs → tested_lengths (os ++ qs) (xs ++ ys) ≡ tested_lengths os xs + tested_lengths qs ys
tested_append [] qs [] ys h = sym (zero-add (tested_lengths qs ys))
tested_append [] qs (x ∷ xs) ys h = absurd (omega (arith, h))
tested_append (o ∷ os) qs [] ys h = absurd (omega (arith, h))
tested_append (o ∷ os) qs (x ∷ xs) ys h =
    let n : ℕ = if is_tested o then length x else 0 in
    let a : ℕ = tested_lengths os xs in let b : ℕ = tested_lengths qs ys in
    let regroup : n + (a + b) ≡ n + a + b = omega arith in
    length_first o (os ++ qs) x (xs ++ ys) ∙ ap (λ m. n + m) (tested_append os qs xs ys (omega (arith, h))) ∙ regroup ∙ ap (λ m. m + b) (sym (length_first o os x xs))

-- ---- the chunks of groups

abbrev concat : List (List (List Content)) → List (List Content)
concat groups = flat_map (λ chunks. chunks) groups

all_grouped : (sizes : List ℕ) (chunks : List (List Content)) → sum sizes ≡ length chunks → concat (grouped sizes chunks) ≡ chunks
all_grouped [] [] h = refl
all_grouped [] (chunk ∷ chunks) h = absurd (omega (arith, h))
all_grouped (n ∷ sizes) chunks h = ap (λ cs. take n chunks ++ cs) (all_grouped sizes (drop n chunks) (left_over n sizes chunks h)) ∙ take-append-drop n chunks

-- a group counts as many where its size does
many_so : (sizes : List ℕ) (chunks : List (List Content)) → sum sizes ≡ length chunks → count_by is_many (grouped sizes chunks) ≡ count_by (nat_lt 1) sizes
many_so [] chunks h = refl
many_so (n ∷ sizes) chunks h =
    count_first is_many (take n chunks) (grouped sizes (drop n chunks))
    ∙ (λ i. one_if (nat_lt 1 (first_size n sizes chunks h i)) + many_so sizes (drop n chunks) (left_over n sizes chunks h) i)
    ∙ sym (count_first (nat_lt 1) n sizes)

-- ---- what becomes of a group

module _ (q : Question) where
  abbrev of_group : List (List Content) → List Content → Outcome
  of_group chunks = outcome_in (is_group_skipped q chunks) q

  abbrev group_outcomes : List (List Content) → List Outcome
  group_outcomes = group_outcomes_by q.table q.falsifier q.satisfier

  each_outcome : (chunks : List (List Content)) → map (of_group chunks) chunks ≡ group_outcomes chunks
  each_outcome chunks = by_test (is_group_skipped q chunks)
    where
      by_test : (b : Bool) → map (outcome_in b q) chunks ≡ (if b then map (λ chunk. skipped_in_group) chunks else map (outcome_to q) chunks)
      by_test true = refl
      by_test false = refl

  as_many : (chunks : List (List Content)) → length (group_outcomes chunks) ≡ length chunks
  as_many chunks = ap length (sym (each_outcome chunks)) ∙ length-map chunks (of_group chunks)

  abbrev all_outcomes : List (List (List Content)) → List Outcome
  all_outcomes groups = flat_map (group_outcomes) groups

  abbrev through : ℕ → List (List (List Content)) → ScanAnswer → ScanAnswer
  through = with_groups q

  abbrev with_one : ℕ → List (List Content) → ScanAnswer → ScanAnswer
  with_one = with_group q

  rows_through : (i : ℕ) (groups : List (List (List Content))) (a : ScanAnswer) → (through i groups a).rows ≡ a.rows ++ cut q (taken_of q (all_outcomes groups) (concat groups))
  rows_through i [] a = sym (append-nil a.rows)
  rows_through i (chunks ∷ groups) a =
      let os = group_outcomes chunks in let here = taken_of q os chunks in let rest = taken_of q (all_outcomes groups) (concat groups) in
      rows_through (i + length chunks) groups (with_one i chunks a)
      ∙ ap (λ rows. rows ++ cut q rest) (rows_after q (of_group chunks) i chunks (looked_at q (is_many chunks) a) ∙ ap (λ outcomes. a.rows ++ cut q (taken_of q outcomes chunks)) (each_outcome chunks))
      ∙ append_assoc a.rows (cut q here) (cut q rest)
      ∙ ap (λ rows. a.rows ++ rows)
      (sym (map-append (cut_row q.paths q.table.kind) here rest) ∙ ap (cut q) (sym (taken_append q os (all_outcomes groups) chunks (concat groups) (as_many chunks))))

  kind_through : (i : ℕ) (groups : List (List (List Content))) (a : ScanAnswer) → (through i groups a).kind ≡ a.kind
  kind_through i [] a = refl
  kind_through i (chunks ∷ groups) a =
      kind_through (i + length chunks) groups (with_one i chunks a) ∙ kind_after q (of_group chunks) i chunks (looked_at q (is_many chunks) a)

  numbers_more : (p : Outcome → Bool) (i : ℕ) (chunks : List (List Content)) (groups : List (List (List Content))) →
      numbers p i (map (of_group chunks) chunks) ++ numbers p (i + length chunks) (all_outcomes groups) ≡ numbers p i (all_outcomes (chunks ∷ groups))
  numbers_more p i chunks groups =
      (λ j. numbers p i (each_outcome chunks j) ++ numbers p (i + sym (as_many chunks) j) (all_outcomes groups))
      ∙ sym (numbers_append p i (group_outcomes chunks) (all_outcomes groups))

  skipped_through : (i : ℕ) (groups : List (List (List Content))) (a : ScanAnswer) → (through i groups a).skipped ≡ a.skipped ++ numbers is_skipped i (all_outcomes groups)
  skipped_through i [] a = sym (append-nil a.skipped)
  skipped_through i (chunks ∷ groups) a =
      skipped_through (i + length chunks) groups (with_one i chunks a)
      ∙ ap (λ xs. xs ++ numbers is_skipped (i + length chunks) (all_outcomes groups)) (skipped_after q (of_group chunks) i chunks (looked_at q (is_many chunks) a))
      ∙ append_assoc a.skipped (numbers is_skipped i (map (of_group chunks) chunks)) (numbers is_skipped (i + length chunks) (all_outcomes groups))
      ∙ ap (λ xs. a.skipped ++ xs) (numbers_more is_skipped i chunks groups)

  whole_through : (i : ℕ) (groups : List (List (List Content))) (a : ScanAnswer) → (through i groups a).whole ≡ a.whole ++ numbers is_whole i (all_outcomes groups)
  whole_through i [] a = sym (append-nil a.whole)
  whole_through i (chunks ∷ groups) a =
      whole_through (i + length chunks) groups (with_one i chunks a)
      ∙ ap (λ xs. xs ++ numbers is_whole (i + length chunks) (all_outcomes groups)) (whole_after q (of_group chunks) i chunks (looked_at q (is_many chunks) a))
      ∙ append_assoc a.whole (numbers is_whole i (map (of_group chunks) chunks)) (numbers is_whole (i + length chunks) (all_outcomes groups))
      ∙ ap (λ xs. a.whole ++ xs) (numbers_more is_whole i chunks groups)

  tested_through : (i : ℕ) (groups : List (List (List Content))) (a : ScanAnswer) → saturated a.rows_tested ≡ a.rows_tested →
      (through i groups a).rows_tested ≡ saturated (a.rows_tested + tested_lengths (all_outcomes groups) (concat groups))
  tested_through i [] a h = sym h ∙ ap saturated (sym (add-zero a.rows_tested))
  tested_through i (chunks ∷ groups) a h =
      let here : ℕ = tested_lengths (map (of_group chunks) chunks) chunks in
      let now = tested_after q (of_group chunks) i chunks (looked_at q (is_many chunks) a) h in
      let rest : ℕ = tested_lengths (all_outcomes groups) (concat groups) in
      tested_through (i + length chunks) groups (with_one i chunks a) (ap saturated now ∙ saturated_once (a.rows_tested + here) ∙ sym now)
      ∙ ap (λ n. saturated (n + rest)) now
      ∙ saturated_twice (a.rows_tested + here) rest
      ∙ ap saturated (add_assoc a.rows_tested here rest)
      ∙ ap (λ n. saturated (a.rows_tested + n))
      (ap (λ os. tested_lengths os chunks + rest) (each_outcome chunks) ∙ sym (tested_append (group_outcomes chunks) (all_outcomes groups) chunks (concat groups) (as_many chunks)))

  abbrev proofs_in : List (List (List Content)) → ℕ
  proofs_in groups =
      one_if (is_some q.falsifier) * (count_by is_many groups + count_by (λ o. not (is_in_group o)) (all_outcomes groups))
      + one_if (is_some q.satisfier) * count_by (λ o. not (is_skipped o)) (all_outcomes groups)

  proofs_more : (chunks : List (List Content)) (groups : List (List (List Content))) →
      group_proofs q (is_many chunks) + proofs_of q (map (of_group chunks) chunks) + proofs_in groups ≡ proofs_in (chunks ∷ groups)
  proofs_more chunks groups =
      let f : ℕ = one_if (is_some q.falsifier) in
      let s : ℕ = one_if (is_some q.satisfier) in
      let p : Outcome → Bool = λ o. not (is_in_group o) in
      let r : Outcome → Bool = λ o. not (is_skipped o) in
      ap (λ os. f * one_if (is_many chunks) + (f * count_by p os + s * count_by r os) + proofs_in groups) (each_outcome chunks)
      ∙ gathered f s (one_if (is_many chunks)) (count_by p (group_outcomes chunks)) (count_by r (group_outcomes chunks))
      (count_by is_many groups) (count_by p (all_outcomes groups)) (count_by r (all_outcomes groups))
      ∙ sym (λ i. f * (count_first is_many chunks groups i + count_append p (group_outcomes chunks) (all_outcomes groups) i) + s * count_append r (group_outcomes chunks) (all_outcomes groups) i)

  proofs_through : (i : ℕ) (groups : List (List (List Content))) (a : ScanAnswer) → saturated a.proofs ≡ a.proofs →
      (through i groups a).proofs ≡ saturated (a.proofs + proofs_in groups)
  proofs_through i [] a h = sym h ∙ ap saturated (no_proofs a.proofs (one_if (is_some q.falsifier)) (one_if (is_some q.satisfier)))
  proofs_through i (chunks ∷ groups) a h =
      let g : ℕ = group_proofs q (is_many chunks) in
      let c : ℕ = proofs_of q (map (of_group chunks) chunks) in
      let now : (with_one i chunks a).proofs ≡ saturated (a.proofs + (g + c)) =
      proofs_after q (of_group chunks) i chunks (looked_at q (is_many chunks) a) (saturated_once (a.proofs + g)) ∙ saturated_twice (a.proofs + g) c ∙ ap saturated (add_assoc a.proofs g c) in
      proofs_through (i + length chunks) groups (with_one i chunks a) (ap saturated now ∙ saturated_once (a.proofs + (g + c)) ∙ sym now)
      ∙ ap (λ n. saturated (n + proofs_in groups)) now
      ∙ saturated_twice (a.proofs + (g + c)) (proofs_in groups)
      ∙ ap saturated (add_assoc a.proofs (g + c) (proofs_in groups))
      ∙ ap (λ n. saturated (a.proofs + n)) (proofs_more chunks groups)

  -- ---- the whole answer

  abbrev t : Table
  t = q.table

  abbrev answered : ScanAnswer
  answered = through 0 (grouped t.groups t.chunks) (no_answer q)

  pub whole_answer : sum t.groups ≡ length t.chunks → answered ≡ answer_to q
  whole_answer fits =
      let groups = grouped t.groups t.chunks in let none = no_answer q in let all = all_grouped t.groups t.chunks fits in λ i. record {
        rows = (rows_through 0 groups none ∙ ap (λ cs. cut q (taken_of q (all_outcomes groups) cs)) all) i;
        kind = kind_through 0 groups none i;
        skipped = skipped_through 0 groups none i;
        whole = whole_through 0 groups none i;
        rows_tested = (tested_through 0 groups none refl ∙ ap saturated (zero-add _) ∙ ap (λ cs. saturated (tested_lengths (all_outcomes groups) cs)) all) i;
        proofs = (proofs_through 0 groups none refl ∙ ap saturated (zero-add _)
            ∙ ap (λ n. saturated (one_if (is_some q.falsifier) * (n + count_by (λ o. not (is_in_group o)) (all_outcomes groups))
            + one_if (is_some q.satisfier) * count_by (λ o. not (is_skipped o)) (all_outcomes groups))) (many_so t.groups t.chunks fits)) i;
      }
