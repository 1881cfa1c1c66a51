-- The rule that pushes NOTs inward: its law, the proofs with it, and its scans.
use Rattle.std.proofs.Common.{◌≡◌, refl, sym, ◌∙◌, ap, subst, List, [], ◌∷◌, ◌++◌, length, map, flat_map, Bool, true, false, if◌then◌else◌, Option, Some, None, IfSome, Contains}
use Rattle.std.specs.Prelude.{◌↔◌, zip}
use Rattle.std.specs.List.{AllByRecursion, list_any}
use Rattle.vortex_model.specs.LogicalType.{LogicalType}
use Rattle.vortex_model.specs.Content.{Content, boolean}
use Rattle.vortex_model.specs.Path.{Names}
use Rattle.vortex_model.specs.Refusal.{or_else, not_boolean as no_truth}
use Rattle.vortex_model.proofs.Refusals.{first_none, second_none}
use Rattle.vortex_model_table.specs.Expression.{Expression, literal, column, compare, both, either, negation, is_null, is_not_null, is_nan, between, like, row_count, statistic}
use Rattle.vortex_model_table.specs.Truth.{of_row, end_of, Satisfies}
use Rattle.vortex_model_table.specs.Rewrite.{falsifiers, satisfiers, joined_proofs, falsifier, satisfier, either_there, both_there}
use Rattle.vortex_model_table.specs.Sound.{IsSoundFalsifier, IsSoundSatisfier}
use Rattle.vortex_model_table.specs.Command.{expression_fault, predicate_fault, unless as refused_unless}
use Rattle.vortex_model_table.specs.Table.{Table, IsTable}
use Rattle.vortex_model_table.specs.Cut.{cut_row}
use Rattle.vortex_model_table.specs.Scan.{Outcome, ScanAnswer, scanned}
use Rattle.vortex_model_table.specs.Pruning.{IsAsked, found_in}
use Rattle.vortex_model_table.specs.Laws.{BuiltInProofsReadNoColumns}
use Rattle.vortex_model_table.specs.Class.{Box, IsIn, of_choice, Hopeless, is_wide, is_bounded}
use Rattle.vortex_model_laws.specs.Exact.{ExactlyTheHopelessAreSkipped, box_of_chunk}
use Rattle.vortex_model_laws.proofs.Honesty.{sound_falsifier, sound_satisfier}
use Rattle.vortex_model_laws.proofs.Accepted.{unless_none}
use Rattle.vortex_model_rules.specs.Faults.{ProofFault, is_truth, proof_fault}
use Rattle.vortex_model_rules.specs.Rules.{Answer, no_proof, proof, fault, is_fault, proofs_in, answer_of, judged, Rule, joined_answers, either_answer, both_answers, fals, sat}
use Rattle.vortex_model_rules.specs.PushNot.{pushed_in, negated, push_not}
use Rattle.vortex_model_rules.specs.Laws.{KeepsItsLaw}
use Rattle.vortex_model_rules.specs.Scanned.{outcomes_by, taken, scanned_by, by_answers, scanned_with}
use Rattle.vortex_model_rules.proofs.NoRules.{either_so, both_so, both_without}
use Rattle.vortex_model_rules.proofs.PushedIn.{true_before, true_behind, same_selection, truth_kept, formed_kept}
use Rattle.vortex_model_rules.proofs.Scans.{as_proofs, no_rules_scan}
use Rattle.vortex_model_rules.proofs.Usable.{IsUsable, usable_faultless, falsifier_usable, satisfier_usable, IsAccepted, sides, accepted_kept}

-- ---- the law of the rule

module _ (P Q : Content → Type 0) (so : (row : Content) → P row → Q row) where
  pub each_so : (rows : List Content) → AllByRecursion P rows → AllByRecursion Q rows
  each_so [] h = tt
  each_so (row ∷ rows) h = (so row h.0, each_so rows h.1)

sound_before : (k : LogicalType) (e p : Expression) → IsSoundFalsifier k (pushed_in e) p → IsSoundFalsifier k e p
sound_before k e p sound rows given typed honest t =
    each_so (λ row. ¬ (Satisfies k (pushed_in e) row)) (λ row. ¬ (Satisfies k e row)) (λ row n s. n (true_behind (of_row k row) e s)) rows (sound rows given typed honest t)

sound_for_all : (k : LogicalType) (e p : Expression) → IsSoundSatisfier k (pushed_in e) p → IsSoundSatisfier k e p
sound_for_all k e p sound rows given typed honest t =
    each_so (λ row. Satisfies k (pushed_in e) row) (λ row. Satisfies k e row) (λ row s. true_before (of_row k row) e s) rows (sound rows given typed honest t)

of_judged : (k : LogicalType) (o : Option Expression) (p : Expression) → judged k (answer_of o) ≡ proof p → o ≡ Some p
of_judged k None p e = absurd (cc (e))
of_judged k (Some q) p e = by_fault (proof_fault k q) e
  where
    by_fault : (f : Option ProofFault) → (elim f [ None ↦ proof q | Some r ↦ fault ]) ≡ proof p → Some q ≡ Some p
    by_fault None e = let same : q ≡ p = cc (e) in ap (λ x. Some x) same
    by_fault (Some r) e = absurd (cc (e))

pub of_asked : (b : Bool) (k : LogicalType) (o : Option Expression) (p : Expression) → (if b then judged k (answer_of o) else no_proof) ≡ proof p → o ≡ Some p
of_asked true k o p e = of_judged k o p e
of_asked false k o p e = absurd (cc (e))

pub keeps_its_law : (k : LogicalType) → KeepsItsLaw k push_not
keeps_its_law k = record {
  falsifies = λ e p truth formed is. sound_before k e p
      (sound_falsifier k (pushed_in e) p (truth_kept k e truth) (formed_kept e formed) (of_asked _ k (falsifier k (pushed_in e)) p is));
  satisfies = λ e p truth formed is. sound_for_all k e p (sound_satisfier k (pushed_in e) p (truth_kept k e truth) (of_asked _ k (satisfier k (pushed_in e)) p is));
}

-- ---- the proofs with it

abbrev pub alone : List Rule
alone = push_not ∷ []

joined_behind : (ps : List Expression) → joined_answers (map proof ps ++ no_proof ∷ []) ≡ answer_of (joined_proofs ps)
joined_behind ps =
    ap (λ b. if b then fault else answer_of (joined_proofs (proofs_in (map proof ps ++ no_proof ∷ [])))) (no_fault ps) ∙ ap (λ qs. answer_of (joined_proofs qs)) (as_they_are ps)
  where
    no_fault : (ps : List Expression) → list_any is_fault (map proof ps ++ no_proof ∷ []) ≡ false
    no_fault [] = refl
    no_fault (p ∷ ps) = no_fault ps

    as_they_are : (ps : List Expression) → proofs_in (map proof ps ++ no_proof ∷ []) ≡ ps
    as_they_are [] = refl
    as_they_are (p ∷ ps) = ap (λ qs. p ∷ qs) (as_they_are ps)

one_before : (o : Option Expression) → joined_answers (answer_of o ∷ no_proof ∷ []) ≡ answer_of o
one_before None = refl
one_before (Some p) = refl

of_and : (a b : Answer) (o p : Option Expression) → a ≡ answer_of o → b ≡ answer_of p → joined_answers (either_answer a b ∷ no_proof ∷ []) ≡ answer_of (either_there o p)
of_and a b o p e f = (λ i. joined_answers (either_answer (e i) (f i) ∷ no_proof ∷ [])) ∙ ap (λ c. joined_answers (c ∷ no_proof ∷ [])) (either_so o p) ∙ one_before (either_there o p)

of_or : (a b : Answer) (o p : Option Expression) → a ≡ answer_of o → b ≡ answer_of p → joined_answers (both_answers a b ∷ no_proof ∷ []) ≡ answer_of (both_there o p)
of_or a b o p e f = (λ i. joined_answers (both_answers (e i) (f i) ∷ no_proof ∷ [])) ∙ ap (λ c. joined_answers (c ∷ no_proof ∷ [])) (both_so o p) ∙ one_before (both_there o p)

module _ (k : LogicalType) where
  not_judged : (o : Option Expression) → IfSome o (IsUsable k) → joined_answers (judged k (answer_of o) ∷ []) ≡ answer_of o
  not_judged None h = refl
  not_judged (Some p) h = ap (λ (f : Option ProofFault). joined_answers ((elim f [ None ↦ proof p | Some r ↦ fault ]) ∷ [])) (usable_faultless k p h)

  pub fals_pushed : (e : Expression) → IsAccepted k e → fals k alone e ≡ answer_of (falsifier k (pushed_in e))
  fals_pushed (both x y) a =
      let s = sides k x y a.0 in of_and (fals k alone x) (fals k alone y) (falsifier k (pushed_in x)) (falsifier k (pushed_in y)) (fals_pushed x s.0) (fals_pushed y s.1)
  fals_pushed (either x y) a =
      let s = sides k x y a.0 in of_or (fals k alone x) (fals k alone y) (falsifier k (pushed_in x)) (falsifier k (pushed_in y)) (fals_pushed x s.0) (fals_pushed y s.1)
  fals_pushed (between x lo hi s t) a =
      let p : List Expression = falsifiers k (compare (end_of s) lo x) in let q : List Expression = falsifiers k (compare (end_of t) x hi) in
      ap (λ c. joined_answers (c ∷ no_proof ∷ []))
      (of_and (joined_answers (map proof p ++ no_proof ∷ [])) (joined_answers (map proof q ++ no_proof ∷ [])) (joined_proofs p) (joined_proofs q) (joined_behind p) (joined_behind q))
      ∙ one_before (either_there (joined_proofs p) (joined_proofs q))
  fals_pushed (negation x) a = not_judged (falsifier k (negated x)) (falsifier_usable k (negated x) (accepted_kept k (negation x) a).0)
  fals_pushed (literal l c) a = joined_behind (falsifiers k (literal l c))
  fals_pushed (column xs) a = joined_behind (falsifiers k (column xs))
  fals_pushed (compare op x y) a = joined_behind (falsifiers k (compare op x y))
  fals_pushed (is_null x) a = joined_behind (falsifiers k (is_null x))
  fals_pushed (is_not_null x) a = joined_behind (falsifiers k (is_not_null x))
  fals_pushed (is_nan x) a = joined_behind (falsifiers k (is_nan x))
  fals_pushed (like x form n i) a = joined_behind (falsifiers k (like x form n i))
  fals_pushed row_count a = joined_behind (falsifiers k row_count)
  fals_pushed (statistic x b) a = joined_behind (falsifiers k (statistic x b))

  pub sat_pushed : (e : Expression) → IsAccepted k e → sat k alone e ≡ answer_of (satisfier k (pushed_in e))
  sat_pushed (negation x) a = not_judged (satisfier k (negated x)) (satisfier_usable k (negated x) (accepted_kept k (negation x) a).0)
  sat_pushed (both x y) a = refl
  sat_pushed (either x y) a = refl
  sat_pushed e a = joined_behind (satisfiers k e)

-- ---- predicates that a scan accepts

pub accepted_so : (k : LogicalType) (e : Expression) → predicate_fault k e ≡ None → IsAccepted k e
accepted_so k e n = (
  first_none (expression_fault k e) (refused_unless (is_truth k e) no_truth) n,
  unless_none (is_truth k e) no_truth (second_none (expression_fault k e) (refused_unless (is_truth k e) no_truth) n),
)

no_fault : (k : LogicalType) (o : Option Expression) → IfSome o (IsUsable k) → IfSome o (λ p. proof_fault k p ≡ None)
no_fault k None h = tt
no_fault k (Some p) h = usable_faultless k p h

pub faultless : (k : LogicalType) (e : Expression) → predicate_fault k e ≡ None →
    IfSome (falsifier k e) (λ p. proof_fault k p ≡ None) × IfSome (satisfier k e) (λ p. proof_fault k p ≡ None)
faultless k e n = (
  no_fault k (falsifier k e) (falsifier_usable k e (accepted_so k e n).0),
  no_fault k (satisfier k e) (satisfier_usable k e (accepted_so k e n).0),
)

pub as_pushed_in : (k : LogicalType) (e : Expression) → predicate_fault k e ≡ None →
    (fals k alone e ≡ answer_of (falsifier k (pushed_in e))) × (sat k alone e ≡ answer_of (satisfier k (pushed_in e)))
as_pushed_in k e n = (fals_pushed k e (accepted_so k e n), sat_pushed k e (accepted_so k e n))

-- ---- its scans

module _ (t : Table) (e : Expression) (question : IsAsked t e) where
  accepted : IsAccepted t.kind e
  accepted = accepted_so t.kind e question.faultless

  pub asked_pushed : IsAsked t (pushed_in e)
  asked_pushed =
      let a = accepted_kept t.kind e accepted in
      record { faultless = (λ i. or_else (a.0 i) (refused_unless (a.1 i) no_truth)); formed = formed_kept e question.formed }

  same_taken : (os : List Outcome) → taken t e os ≡ taken t (pushed_in e) os
  same_taken os = (λ i. flat_map (λ pair. found_in (λ row. same_selection (of_row t.kind row) e i) pair.0 pair.1) (zip os t.chunks))

  same_scan : (paths : List Names) (o q : Option Expression) → scanned_by t paths e o q ≡ scanned_by t paths (pushed_in e) o q
  same_scan paths o q = ap (λ rows. record (scanned_by t paths e o q) { rows = map (cut_row paths t.kind) rows }) (same_taken (outcomes_by t o q))

  pub scans : BuiltInProofsReadNoColumns → (paths : List Names) → IsTable t → scanned_with t alone paths e ≡ Some (scanned t paths (pushed_in e))
  scans built_in paths table =
      let o : Option Expression = falsifier t.kind (pushed_in e) in let q : Option Expression = satisfier t.kind (pushed_in e) in
      let two = both_without t.kind (pushed_in e) in
      (λ i. by_answers t paths e (fals_pushed t.kind e accepted i) (sat_pushed t.kind e accepted i))
      ∙ as_proofs t paths e o q
      ∙ ap (λ a. Some a) (same_scan paths o q)
      ∙ sym (as_proofs t paths (pushed_in e) o q)
      ∙ sym (λ i. by_answers t paths (pushed_in e) (two.0 i) (two.1 i))
      ∙ no_rules_scan built_in t paths (pushed_in e) asked_pushed table

-- ---- hopeless boxes

module _ (k : LogicalType) (box : Box) (choice : Names → Content) where
  mutual
    in_pushed : (e : Expression) → IsIn k box choice e → IsIn k box choice (pushed_in e)
    in_pushed (negation x) h = in_negated x h
    in_pushed (both x y) h = (in_pushed x h.0, in_pushed y h.1)
    in_pushed (either x y) h = (in_pushed x h.0, in_pushed y h.1)
    in_pushed e h = h

    in_negated : (e : Expression) → IsIn k box choice e → IsIn k box choice (negated e)
    in_negated (literal l (boolean b)) h = tt
    in_negated (literal l c) h = tt
    in_negated (compare op x y) h = h
    in_negated (both x y) h = (in_negated x h.0, in_negated y h.1)
    in_negated (either x y) h = (in_negated x h.0, in_negated y h.1)
    in_negated (negation x) h = in_pushed x h
    in_negated (is_null x) h = h
    in_negated (is_not_null x) h = h
    in_negated (between x lo hi s t) h = ((h.1, h.0), (h.0, h.2))
    in_negated (like x form n i) h = h
    in_negated (column xs) h = h
    in_negated (is_nan x) h = h
    in_negated row_count h = h
    in_negated (statistic x a) h = h

  mutual
    before_pushed : (e : Expression) → IsIn k box choice (pushed_in e) → IsIn k box choice e
    before_pushed (negation x) h = before_negated x h
    before_pushed (both x y) h = (before_pushed x h.0, before_pushed y h.1)
    before_pushed (either x y) h = (before_pushed x h.0, before_pushed y h.1)
    before_pushed e h = h

    before_negated : (e : Expression) → IsIn k box choice (negated e) → IsIn k box choice e
    before_negated (literal l (boolean b)) h = tt
    before_negated (literal l c) h = tt
    before_negated (compare op x y) h = h
    before_negated (both x y) h = (before_negated x h.0, before_negated y h.1)
    before_negated (either x y) h = (before_negated x h.0, before_negated y h.1)
    before_negated (negation x) h = before_pushed x h
    before_negated (is_null x) h = h
    before_negated (is_not_null x) h = h
    before_negated (between x lo hi s t) h = (h.0.1, h.0.0, h.1.1)
    before_negated (like x form n i) h = h
    before_negated (column xs) h = h
    before_negated (is_nan x) h = h
    before_negated row_count h = h
    before_negated (statistic x a) h = h

pub hopeless_before : (k : LogicalType) (e : Expression) (box : Box) → Hopeless k (pushed_in e) box → Hopeless k e box
hopeless_before k e box h choice inside s = h choice (in_pushed k box choice e inside) (true_behind (of_choice choice) e s)

pub hopeless_behind : (k : LogicalType) (e : Expression) (box : Box) → Hopeless k e box → Hopeless k (pushed_in e) box
hopeless_behind k e box h choice inside s = h choice (before_pushed k box choice e inside) (true_before (of_choice choice) e s)

pub exactly : ExactlyTheHopelessAreSkipped → BuiltInProofsReadNoColumns → (t : Table) (paths : List Names) (e : Expression) (a : ScanAnswer) (before : List (List Content)) (chunk : List Content)
    (after : List (List Content)) → IsTable t → IsAsked t e → is_wide (pushed_in e) ≡ true → t.chunks ≡ before ++ chunk ∷ after → is_bounded (box_of_chunk t chunk) (pushed_in e) ≡ true →
    scanned_with t alone paths e ≡ Some a → Contains a.skipped (length before) ↔ Hopeless t.kind e (box_of_chunk t chunk)
exactly exact built_in t paths e a before chunk after table question wide chunks bounded is =
    let given : Some (scanned t paths (pushed_in e)) ≡ Some a = sym (scans t e question built_in paths table) ∙ is in
    let same : scanned t paths (pushed_in e) ≡ a = cc (given) in
    let both_ways = exact t (pushed_in e) before chunk after table (asked_pushed t e question) wide chunks bounded in (
      (λ here. hopeless_before t.kind e (box_of_chunk t chunk) (both_ways.0 (subst (λ b. Contains b.skipped (length before)) (sym same) here))),
      (λ none. subst (λ b. Contains b.skipped (length before)) same (both_ways.1 (hopeless_behind t.kind e (box_of_chunk t chunk) none))),
    )
