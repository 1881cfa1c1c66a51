-- A scan with sound rules finds the rows of one without rules.
use Rattle.std.proofs.Common.{◌≡◌, refl, sym, ◌∙◌, ap, subst, ℕ, ◌+◌, arith, List, [], ◌∷◌, ◌++◌, length, take, drop, map, flat_map, filter, Bool, true, false, ◌&&◌, ◌||◌, if◌then◌else◌, Option, Some, None}
use Rattle.std.specs.Prelude.{sum, zip}
use Rattle.std.specs.List.{AllByRecursion}
use Rattle.std.proofs.lemmas.List.{length-append, length-map, length-take-le, take-append-drop}
use Rattle.std.proofs.lemmas.List.Elements.{filter-append}
use Rattle.std.proofs.lemmas.Grind.{flat_map-append}
use Rattle.std.specs.Cmp.{second_so}
use Rattle.vortex_model.specs.Content.{Content}
use Rattle.vortex_model.specs.Valid.{IsContent}
use Rattle.vortex_model.specs.Path.{Names}
use Rattle.vortex_model.proofs.Lists.{zip_append, all_append, front_of_all, back_of_all}
use Rattle.vortex_model_table.specs.Expression.{Expression, reads_columns}
use Rattle.vortex_model_table.specs.Truth.{evaluate, value_at, is_true, selects, Satisfies}
use Rattle.vortex_model_table.specs.ZoneMap.{ZoneMap}
use Rattle.vortex_model_table.specs.Rewrite.{falsifier, satisfier}
use Rattle.vortex_model_table.specs.Sound.{AreHonest, IsSoundFalsifier, IsSoundSatisfier, of_proof}
use Rattle.vortex_model_table.specs.Table.{Table, IsTable, rows_of, answer}
use Rattle.vortex_model_table.specs.Cut.{cut_row, cut_type}
use Rattle.vortex_model_table.specs.Scan.{chunk_zone, group_zone, known, proves, Outcome, skipped_in_group, skipped, whole as taken_whole, tested, is_many, grouped, ScanAnswer, skipped_chunks, whole_chunks, rows_tested, proofs, scanned}
use Rattle.vortex_model_table.specs.Pruning.{found_in, IsAsked}
use Rattle.vortex_model_table.specs.Laws.{BuiltInProofsReadNoColumns}
use Rattle.vortex_model_laws.proofs.Outcomes.{sum_first}
use Rattle.vortex_model_laws.proofs.Honesty.{all_among}
use Rattle.vortex_model_laws.proofs.Accepted.{accepted_truth}
use Rattle.vortex_model_laws.proofs.Skipping.{truly, never_true, kept_none, kept_all, chunk_honest}
use Rattle.vortex_model_laws.proofs.GroupSkipping.{group_honest}
use Rattle.vortex_model_rules.specs.Rules.{Answer, no_proof, proof, fault, is_fault, answer_of, Rule, fals, sat}
use Rattle.vortex_model_rules.specs.Laws.{KeepsItsLaw}
use Rattle.vortex_model_rules.specs.Scanned.{chunk_outcome_by, group_outcomes_by, outcomes_by, taken, scanned_by, proof_of, by_answers, scanned_with}
use Rattle.vortex_model_rules.proofs.NoRules.{both_without}
use Rattle.vortex_model_rules.proofs.WithRules.{falsifiers_sound, satisfiers_sound}
use Rattle.vortex_model_rules.proofs.ReadsNone.{reads_of, fals_none, sat_none}

-- ---- the rows of a group

abbrev rows_in : List (List Content) → List Content
rows_in chunks = flat_map (λ chunk. chunk) chunks

as_many_rows : (chunks : List (List Content)) → sum (map length chunks) ≡ length (rows_in chunks)
as_many_rows [] = refl
as_many_rows (chunk ∷ chunks) = sum_first (length chunk) (map length chunks) ∙ ap (λ n. length chunk + n) (as_many_rows chunks) ∙ sym (length-append chunk (rows_in chunks))

all_rows : (P : Content → Type 0) (chunks : List (List Content)) → AllByRecursion (λ chunk. AllByRecursion P chunk) chunks → AllByRecursion P (rows_in chunks)
all_rows P [] h = tt
all_rows P (chunk ∷ chunks) h = all_append P chunk (rows_in chunks) h.0 (all_rows P chunks h.1)

-- ---- by a sound falsifier and a sound satisfier

-- a proof that exists is sound, and reads no column
abbrev pub IsRight : (Expression → Type 0) → Option Expression → Type 0
IsRight P o = (p : Expression) → o ≡ Some p → P p × (reads_columns p ≡ false)

module _ (t : Table) (e : Expression) (none all : Option Expression) (falsifies : IsRight (IsSoundFalsifier t.kind e) none) (satisfies : IsRight (IsSoundSatisfier t.kind e) all) where
  abbrev AreOfType : List (List Content) → Type 0
  AreOfType chunks = AllByRecursion (λ chunk. AllByRecursion (IsContent t.kind) chunk) chunks

  module _ (rows : List Content) (typed : AllByRecursion (IsContent t.kind) rows) (zones : Names → Option ZoneMap) (honest : AreHonest t.kind rows (known zones (length rows))) where
    none_selected : (o : Option Expression) → none ≡ o → proves zones (length rows) o ≡ true → filter (selects t.kind e) rows ≡ []
    none_selected None is h = absurd (cc (h))
    none_selected (Some p) is h =
        let right = falsifies p is in
        let nothing = right.0 rows (known zones (length rows)) typed honest (right.1, truly (evaluate (of_proof (known zones (length rows)) rows) p) h) in
        kept_none (selects t.kind e) rows (λ row here. never_true (value_at t.kind e row) (all_among (λ x. ¬ (Satisfies t.kind e x)) row rows nothing here))

    all_selected : (o : Option Expression) → all ≡ o → proves zones (length rows) o ≡ true → filter (selects t.kind e) rows ≡ rows
    all_selected None is h = absurd (cc (h))
    all_selected (Some p) is h =
        let right = satisfies p is in
        let each = right.0 rows (known zones (length rows)) typed honest (right.1, truly (evaluate (of_proof (known zones (length rows)) rows) p) h) in
        kept_all (selects t.kind e) rows (λ row here. ap is_true (all_among (λ x. Satisfies t.kind e x) row rows each here))

  found_by : (chunk : List Content) → AllByRecursion (IsContent t.kind) chunk → (b c : Bool) →
      proves (chunk_zone t chunk) (length chunk) none ≡ b → proves (chunk_zone t chunk) (length chunk) all ≡ c →
      filter (selects t.kind e) chunk ≡ found_in (selects t.kind e) (if b then skipped else (if c then taken_whole else tested)) chunk
  found_by chunk rows true c f g = none_selected chunk rows (chunk_zone t chunk) (chunk_honest t chunk rows) none refl f
  found_by chunk rows false true f g = all_selected chunk rows (chunk_zone t chunk) (chunk_honest t chunk rows) all refl g
  found_by chunk rows false false f g = refl

  found_rightly : (chunk : List Content) → AllByRecursion (IsContent t.kind) chunk →
      filter (selects t.kind e) chunk ≡ found_in (selects t.kind e) (chunk_outcome_by t none all chunk) chunk
  found_rightly chunk rows = found_by chunk rows (proves (chunk_zone t chunk) (length chunk) none) (proves (chunk_zone t chunk) (length chunk) all) refl refl

  abbrev taken_of : List Outcome → List (List Content) → List Content
  taken_of os chunks = flat_map (λ pair. found_in (selects t.kind e) pair.0 pair.1) (zip os chunks)

  all_found : (chunks : List (List Content)) → AreOfType chunks → filter (selects t.kind e) (rows_in chunks) ≡ taken_of (map (chunk_outcome_by t none all) chunks) chunks
  all_found [] h = refl
  all_found (chunk ∷ chunks) h = filter-append (selects t.kind e) chunk (rows_in chunks) ∙ (λ i. found_rightly chunk h.0 i ++ all_found chunks h.1 i)

  none_taken : (chunks : List (List Content)) → taken_of (map (λ chunk. skipped_in_group) chunks) chunks ≡ []
  none_taken [] = refl
  none_taken (chunk ∷ chunks) = none_taken chunks

  group_falsified : (chunks : List (List Content)) → AreOfType chunks → proves (group_zone t chunks) (sum (map length chunks)) none ≡ true → filter (selects t.kind e) (rows_in chunks) ≡ []
  group_falsified chunks rows h =
      none_selected (rows_in chunks) (all_rows (IsContent t.kind) chunks rows) (group_zone t chunks)
      (subst (λ n. AreHonest t.kind (rows_in chunks) (known (group_zone t chunks) n)) (as_many_rows chunks) (group_honest t chunks rows)) none refl
      (subst (λ n. proves (group_zone t chunks) n none ≡ true) (as_many_rows chunks) h)

  group_taken : (chunks : List (List Content)) → AreOfType chunks → filter (selects t.kind e) (rows_in chunks) ≡ taken_of (group_outcomes_by t none all chunks) chunks
  group_taken chunks rows = by_test (is_many chunks && proves (group_zone t chunks) (sum (map length chunks)) none) refl
    where
      by_test : (b : Bool) → is_many chunks && proves (group_zone t chunks) (sum (map length chunks)) none ≡ b →
          filter (selects t.kind e) (rows_in chunks) ≡ taken_of (if b then map (λ chunk. skipped_in_group) chunks else map (chunk_outcome_by t none all) chunks) chunks
      by_test true h = group_falsified chunks rows (second_so (is_many chunks) _ h) ∙ sym (none_taken chunks)
      by_test false h = all_found chunks rows

  one_each : (chunks : List (List Content)) → length (group_outcomes_by t none all chunks) ≡ length chunks
  one_each chunks = by_test (is_many chunks && proves (group_zone t chunks) (sum (map length chunks)) none)
    where
      by_test : (b : Bool) → length (if b then map (λ chunk. skipped_in_group) chunks else map (chunk_outcome_by t none all) chunks) ≡ length chunks
      by_test true = length-map chunks (λ chunk. skipped_in_group)
      by_test false = length-map chunks (chunk_outcome_by t none all)

  abbrev outcomes_of : List ℕ → List (List Content) → List Outcome
  outcomes_of sizes chunks = flat_map (group_outcomes_by t none all) (grouped sizes chunks)

  two_parts : (sizes : List ℕ) (front back : List (List Content)) →
      filter (selects t.kind e) (rows_in front) ≡ taken_of (group_outcomes_by t none all front) front → filter (selects t.kind e) (rows_in back) ≡ taken_of (outcomes_of sizes back) back →
      filter (selects t.kind e) (rows_in (front ++ back)) ≡ taken_of (group_outcomes_by t none all front ++ outcomes_of sizes back) (front ++ back)
  two_parts sizes front back f g =
      ap (filter (selects t.kind e)) (flat_map-append (λ chunk. chunk) front back)
      ∙ filter-append (selects t.kind e) (rows_in front) (rows_in back)
      ∙ (λ i. f i ++ g i)
      ∙ sym (flat_map-append (λ pair. found_in (selects t.kind e) pair.0 pair.1) (zip (group_outcomes_by t none all front) front) (zip (outcomes_of sizes back) back))
      ∙ ap (flat_map (λ pair. found_in (selects t.kind e) pair.0 pair.1)) (sym (zip_append (group_outcomes_by t none all front) (outcomes_of sizes back) front back (one_each front)))

  less_first : (n : ℕ) (sizes : List ℕ) (chunks : List (List Content)) → sum (n ∷ sizes) ≡ length chunks → sum sizes ≡ length (drop n chunks)
  less_first n sizes chunks h =
      let m : ℕ = sum sizes in let l : ℕ = length chunks in let f : ℕ = length (take n chunks) in let b : ℕ = length (drop n chunks) in
      let split : n + m ≡ l = sym (sum_first n sizes) ∙ h in
      let small : f ≡ n = length-take-le n chunks (omega (arith, split)) in
      let parts : f + b ≡ l = sym (length-append (take n chunks) (drop n chunks)) ∙ ap length (take-append-drop n chunks) in
      omega (arith, split, small, parts)

  all_taken : (sizes : List ℕ) (chunks : List (List Content)) → sum sizes ≡ length chunks → AreOfType chunks → filter (selects t.kind e) (rows_in chunks) ≡ taken_of (outcomes_of sizes chunks) chunks
  all_taken [] [] h rows = refl
  all_taken [] (chunk ∷ chunks) h rows = absurd (omega (arith, h))
  all_taken (n ∷ sizes) chunks h rows =
      let whole = take-append-drop n chunks in
      let split = subst AreOfType (sym whole) rows in
      let front = front_of_all (λ chunk. AllByRecursion (IsContent t.kind) chunk) (take n chunks) (drop n chunks) split in
      let back = back_of_all (λ chunk. AllByRecursion (IsContent t.kind) chunk) (take n chunks) (drop n chunks) split in
      ap (λ cs. filter (selects t.kind e) (rows_in cs)) (sym whole)
      ∙ two_parts sizes (take n chunks) (drop n chunks) (group_taken (take n chunks) front) (all_taken sizes (drop n chunks) (less_first n sizes chunks h) back)
      ∙ ap (λ cs. taken_of (group_outcomes_by t none all (take n chunks) ++ outcomes_of sizes (drop n chunks)) cs) whole

  -- the rows that the scan takes are the selected ones
  pub taken_rightly : IsTable t → filter (selects t.kind e) (rows_of t) ≡ taken t e (outcomes_by t none all)
  taken_rightly is = all_taken t.groups t.chunks is.grouped is.rows

-- ---- with rules

is_proof : (a : Answer) (p : Expression) → proof_of a ≡ Some p → a ≡ proof p
is_proof no_proof p e = absurd (cc (e))
is_proof (proof q) p e = let f : q ≡ p = cc (e) in ap (λ x. proof x) f
is_proof fault p e = absurd (cc (e))

module _ (built_in : BuiltInProofsReadNoColumns) (t : Table) (rules : List Rule) (e : Expression) (laws : AllByRecursion (KeepsItsLaw t.kind) rules) (question : IsAsked t e) where
  none_right : IsRight (IsSoundFalsifier t.kind e) (proof_of (fals t.kind rules e))
  none_right p it =
      let is = is_proof (fals t.kind rules e) p it in
      (falsifiers_sound t.kind rules e p laws (accepted_truth t.kind e question.faultless) question.formed is, sym (ap reads_of is) ∙ fals_none built_in t.kind rules e)

  all_right : IsRight (IsSoundSatisfier t.kind e) (proof_of (sat t.kind rules e))
  all_right p it =
      let is = is_proof (sat t.kind rules e) p it in
      (satisfiers_sound t.kind rules e p laws (accepted_truth t.kind e question.faultless) question.formed is, sym (ap reads_of is) ∙ sat_none built_in t.kind rules e)

  pub same_rows : (paths : List Names) (a : ScanAnswer) → IsTable t → scanned_with t rules paths e ≡ Some a → a.rows ≡ answer t paths e
  same_rows paths a table is = by_test (is_fault (fals t.kind rules e) || is_fault (sat t.kind rules e)) is
    where
      made : ScanAnswer
      made = scanned_by t paths e (proof_of (fals t.kind rules e)) (proof_of (sat t.kind rules e))

      by_test : (b : Bool) → (if b then None else Some made) ≡ Some a → a.rows ≡ answer t paths e
      by_test true is = absurd (cc (is))
      by_test false is =
          let same : made ≡ a = cc (is) in
          ap (λ x. x.rows) (sym same)
          ∙ ap (map (cut_row paths t.kind)) (sym (taken_rightly t e (proof_of (fals t.kind rules e)) (proof_of (sat t.kind rules e)) none_right all_right table))

-- ---- without rules

pub as_proofs : (t : Table) (paths : List Names) (e : Expression) (o q : Option Expression) → by_answers t paths e (answer_of o) (answer_of q) ≡ Some (scanned_by t paths e o q)
as_proofs t paths e None None = refl
as_proofs t paths e None (Some q) = refl
as_proofs t paths e (Some p) None = refl
as_proofs t paths e (Some p) (Some q) = refl

-- the answer of a scan without rules, with these rows
abbrev with_rows : Table → List Names → Expression → List Content → ScanAnswer
with_rows t paths e rows =
    record { rows = rows; kind = cut_type paths t.kind; skipped = skipped_chunks t e; whole = whole_chunks t e; rows_tested = rows_tested t e; proofs = proofs t e }

without : BuiltInProofsReadNoColumns → (t : Table) (paths : List Names) (e : Expression) → IsAsked t e → IsTable t → scanned_with t [] paths e ≡ Some (scanned t paths e)
without built_in t paths e question table =
    let two = both_without t.kind e in
    let found : scanned_with t [] paths e ≡ Some (with_rows t paths e (map (cut_row paths t.kind) (taken t e (outcomes_by t (falsifier t.kind e) (satisfier t.kind e))))) =
    (λ i. by_answers t paths e (two.0 i) (two.1 i)) ∙ as_proofs t paths e (falsifier t.kind e) (satisfier t.kind e) in
    let right : map (cut_row paths t.kind) (taken t e (outcomes_by t (falsifier t.kind e) (satisfier t.kind e))) ≡ answer t paths e =
    same_rows built_in t [] e tt question paths (with_rows t paths e (map (cut_row paths t.kind) (taken t e (outcomes_by t (falsifier t.kind e) (satisfier t.kind e))))) table found in
    found ∙ ap (λ rows. Some (with_rows t paths e rows)) right

pub same_answers : BuiltInProofsReadNoColumns → (t : Table) (rules : List Rule) (paths : List Names) (e : Expression) (a : ScanAnswer) → AllByRecursion (KeepsItsLaw t.kind) rules → IsAsked t e → IsTable t →
    scanned_with t rules paths e ≡ Some a → a.rows ≡ (scanned t paths e).rows
same_answers built_in t rules paths e a laws question table is = same_rows built_in t rules e laws question paths a table is

pub no_rules_scan : BuiltInProofsReadNoColumns → (t : Table) (paths : List Names) (e : Expression) → IsAsked t e → IsTable t → scanned_with t [] paths e ≡ Some (scanned t paths e)
no_rules_scan built_in t paths e question table = without built_in t paths e question table
