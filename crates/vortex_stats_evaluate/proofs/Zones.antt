-- A proof that is bound by an honest binder has the value of the proof over a zone's rows.
use Rattle.std.proofs.Common.{◌≡◌, refl, sym, ap, ◌∙◌, subst, List, [], ◌∷◌, length, map, true, false, not, ◌||◌, Option, Some, None, ◌⊎◌, inl, inr}
use Rattle.std.specs.List.{AllByRecursion}
use Rattle.std.proofs.lemmas.List.{length-map}
use Rattle.vortex_model.specs.LogicalType.{LogicalType}
use Rattle.vortex_model.specs.Content.{Content, null, boolean, is_null as is_null_content}
use Rattle.vortex_model.specs.Path.{Names, Positions, positions, at}
use Rattle.vortex_model.proofs.Booleans.{or_false_left, or_false_right}
use Rattle.vortex_model_table.specs.Expression.{Expression, literal, column, compare, both, either, negation, is_null, is_not_null, is_nan, between, like, row_count, statistic, Aggregate, HasFormedLiterals, reads_columns as reads_names}
use Rattle.vortex_model_table.specs.Sound.{Placeholders, AreHonest, of_proof, IsSoundFalsifier, IsSoundSatisfier}
use Rattle.vortex_model_table.specs.Statistics.{Statistics, IsHonest, placeholder_value}
use Rattle.vortex_model_table.specs.Truth.{evaluate, value_at, is_true, selects, compared, kleene_and, kleene_or, kleene_not, liked, end_of, HasTruth, Satisfies}
use Rattle.vortex_model_rules.specs.Faults.{ProofFault, binding_fault}
use Rattle.vortex_model_rules.specs.Rules.{Rule, Answer, proof, fals, sat}
use Rattle.vortex_model_table.specs.Laws.{BuiltInProofsReadNoColumns}
use Rattle.vortex_model_rules.proofs.ReadsNone.{reads_of, fals_none, sat_none}
use Rattle.vortex_stats_bind.specs.Bound.{Bound, Provided, placeholder_type, expression_of, bound_of, column_at, evaluate_bound, bound_value, in_row}
use Rattle.vortex_stats_bind.specs.Bindings.{IsBoundTo}
use Rattle.vortex_stats_bind.specs.Replaced.{Answers, replaced}
use Rattle.vortex_stats_bind.proofs.Alike.{two_none, three_none, four_none, bound_to}
use Rattle.vortex_stats_bind.proofs.BoundValues.{proof_says}
use Rattle.vortex_stats_evaluate.specs.Readers.{IsHonestValue, IsZone, IsMade, FalsifiedZonesHoldNone, SatisfiedZonesHoldAll}

-- ---- values at rows

column_of_row : (k : LogicalType) (row : Content) (xs : Names) (o : Option Positions) →
    evaluate_bound (in_row row) (column_at k xs o) ≡ elim o [ None ↦ null | Some is ↦ at row is ]
column_of_row k row xs None = refl
column_of_row k row xs (Some is) = refl

row_value : (k : LogicalType) (e : Expression) (b : Bound) (row : Content) → b ≡ bound_of k e → bound_value b row ≡ value_at k e row
row_value k e b row is = proof_says k e b (in_row row) is ∙ (λ i. evaluate (record {
  columns = λ xs. column_of_row k row xs (positions k xs) i;
  placeholders = λ x a. null;
  rows = 1;
}) e)

row_values : (k : LogicalType) (e : Expression) (b : Bound) (rows : List Content) → b ≡ bound_of k e → map (bound_value b) rows ≡ map (value_at k e) rows
row_values k e b rows is = λ i. map (λ row. row_value k e b row is i) rows

-- ---- truths

true_by : (c : Content) → is_true c ≡ true → c ≡ boolean true
true_by (boolean true) h = refl
true_by c h = absurd (cc (h))

not_true : (c : Content) → ¬ (c ≡ boolean true) → is_true c ≡ false
not_true (boolean true) n = absurd (n refl)
not_true (boolean false) n = refl
not_true c n = refl

each_row : (P Q : Content → Type 0) → ((row : Content) → P row → Q row) → (rows : List Content) → AllByRecursion P rows → AllByRecursion Q rows
each_row P Q f [] h = tt
each_row P Q f (row ∷ rows) h = (f row h.0, each_row P Q f rows h.1)

-- ---- a zone

module _ (k : LogicalType) (answers : Answers) (p : Provided) (rows : List Content) (zone : IsZone k answers p rows) where
  abbrev answer_to : Expression → Aggregate → Bound
  answer_to x a = answers.statistic (bound_of k x) a (placeholder_type a (bound_of k x))

  -- the values of placeholders: those of their answers, where they have no fault
  abbrev worth : Option ProofFault → Content → Content
  worth None c = c
  worth (Some f) c = null

  abbrev given : Placeholders
  given x a = worth (binding_fault k (statistic x a)) (evaluate_bound p (answer_to x a))

  of_answer : (x : Expression) (a : Aggregate) → IsHonestValue a (map (bound_value (bound_of k x)) rows) (evaluate_bound p (answer_to x a)) →
      (evaluate_bound p (answer_to x a) ≡ null) ⊎ ((s : Statistics) × IsHonest s (map (value_at k x) rows) × (evaluate_bound p (answer_to x a) ≡ placeholder_value a s (length rows)))
  of_answer x a (inl h) = inl h
  of_answer x a (inr h) = inr (
    h.0,
    subst (IsHonest h.0) (row_values k x (bound_of k x) rows refl) h.1,
    h.2 ∙ ap (placeholder_value a h.0) (length-map rows (bound_value (bound_of k x))),
  )

  honest_by : (x : Expression) (a : Aggregate) (o : Option ProofFault) → binding_fault k (statistic x a) ≡ o →
      (worth o (evaluate_bound p (answer_to x a)) ≡ null) ⊎ ((s : Statistics) × IsHonest s (map (value_at k x) rows) × (worth o (evaluate_bound p (answer_to x a)) ≡ placeholder_value a s (length rows)))
  honest_by x a None e = of_answer x a (zone.honest (bound_of k x) a (placeholder_type a (bound_of k x)) (bound_to k (statistic x a) (bound_of k (statistic x a)) record { tree = refl; faultless = e }))
  honest_by x a (Some f) e = inl refl

  are_honest : AreHonest k rows given
  are_honest x a = honest_by x a (binding_fault k (statistic x a)) refl

  -- the bound proof is worth what the proof is by them
  agrees : (e : Expression) → binding_fault k e ≡ None → reads_names e ≡ false → evaluate_bound p (replaced answers (bound_of k e)) ≡ evaluate (of_proof given rows) e
  agrees (literal l c) h r = refl
  agrees (column xs) h r = absurd (cc (r))
  agrees (compare op x y) h r =
      let f = three_none (binding_fault k x) (binding_fault k y) _ h in
      λ i. compared op (agrees x f.0 (or_false_left (reads_names x) (reads_names y) r) i) (agrees y f.1 (or_false_right (reads_names x) (reads_names y) r) i)
  agrees (both x y) h r =
      let f = three_none (binding_fault k x) (binding_fault k y) _ h in
      λ i. kleene_and (agrees x f.0 (or_false_left (reads_names x) (reads_names y) r) i) (agrees y f.1 (or_false_right (reads_names x) (reads_names y) r) i)
  agrees (either x y) h r =
      let f = three_none (binding_fault k x) (binding_fault k y) _ h in
      λ i. kleene_or (agrees x f.0 (or_false_left (reads_names x) (reads_names y) r) i) (agrees y f.1 (or_false_right (reads_names x) (reads_names y) r) i)
  agrees (negation x) h r = ap kleene_not (agrees x (two_none (binding_fault k x) _ h).0 r)
  agrees (is_null x) h r = ap (λ c. boolean (is_null_content c)) (agrees x h r)
  agrees (is_not_null x) h r = ap (λ c. boolean (not (is_null_content c))) (agrees x h r)
  agrees (is_nan x) h r = refl
  agrees (between x lo hi s t) h r =
      let f = four_none (binding_fault k x) (binding_fault k lo) (binding_fault k hi) _ h in
      let ends = or_false_left (reads_names x || reads_names lo) (reads_names hi) r in
      let top = or_false_right (reads_names x || reads_names lo) (reads_names hi) r in
      let value : evaluate_bound p (replaced answers (bound_of k x)) ≡ evaluate (of_proof given rows) x = agrees x f.0 (or_false_left (reads_names x) (reads_names lo) ends) in
      λ i. kleene_and (compared (end_of s) (agrees lo f.1 (or_false_right (reads_names x) (reads_names lo) ends) i) (value i)) (compared (end_of t) (value i) (agrees hi f.2 top i))
  agrees (like x form n true) h r = refl
  agrees (like x form n false) h r =
      let f = three_none (binding_fault k x) (binding_fault k form) _ h in
      λ i. liked (agrees x f.0 (or_false_left (reads_names x) (reads_names form) r) i) (agrees form f.1 (or_false_right (reads_names x) (reads_names form) r) i) n
  agrees row_count h r = zone.counted
  agrees (statistic x a) h r = sym (ap (λ o. worth o (evaluate_bound p (answer_to x a))) h)

  -- so where it is true, the proof is
  proves : (b : Bound) → IsBoundTo k b → reads_names (expression_of b) ≡ false → is_true (evaluate_bound p (replaced answers b)) ≡ true →
      evaluate (of_proof given rows) (expression_of b) ≡ boolean true
  proves b bound reads holds =
      sym (agrees (expression_of b) bound.faultless reads) ∙ ap (λ c. evaluate_bound p (replaced answers c)) (sym bound.tree)
      ∙ true_by (evaluate_bound p (replaced answers b)) holds

made_reads_none : (k : LogicalType) (a : Answer) (b : Bound) → IsMade k a b → reads_of a ≡ false → reads_names (expression_of b) ≡ false
made_reads_none k a b made none = ap reads_of (sym made.made) ∙ none

module _ (rules : List Rule) (built_in : BuiltInProofsReadNoColumns) where
  pub none_selected : ((k : LogicalType) (e q : Expression) → HasTruth k e → HasFormedLiterals e → fals k rules e ≡ proof q → IsSoundFalsifier k e q) → FalsifiedZonesHoldNone rules
  none_selected sound k e f answers truth formed made p rows zone holds =
      let reads : reads_names (expression_of f) ≡ false = made_reads_none k (fals k rules e) f made (fals_none built_in k rules e) in
      each_row (λ row. ¬ (Satisfies k e row)) (λ row. selects k e row ≡ false) (λ row n. not_true (value_at k e row) n) rows
      (sound k e (expression_of f) truth formed made.made rows (given k answers p rows zone) zone.typed (are_honest k answers p rows zone) (reads, proves k answers p rows zone f made.bound reads holds))

  pub all_selected : ((k : LogicalType) (e q : Expression) → HasTruth k e → HasFormedLiterals e → sat k rules e ≡ proof q → IsSoundSatisfier k e q) → SatisfiedZonesHoldAll rules
  all_selected sound k e f answers truth formed made p rows zone holds =
      let reads : reads_names (expression_of f) ≡ false = made_reads_none k (sat k rules e) f made (sat_none built_in k rules e) in
      each_row (λ row. Satisfies k e row) (λ row. selects k e row ≡ true) (λ row s. ap is_true s) rows
      (sound k e (expression_of f) truth formed made.made rows (given k answers p rows zone) zone.typed (are_honest k answers p rows zone) (reads, proves k answers p rows zone f made.bound reads holds))
