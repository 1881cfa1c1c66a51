-- Nodes with sides.
use Rattle.std.proofs.Common.{◌≡◌, ℕ, ◌+◌, List, ◌∷◌, ◌++◌, map, Option, Some, None, Result, Ok, Bool, true, false, IfSome, option_map, refl, sym, ap, ◌∙◌, subst}
use Rattle.std.specs.List.{AllByRecursion}
use Rattle.vortex_model.specs.LogicalType.{LogicalType}
use Rattle.vortex_model_table.specs.Expression.{Expression}
use Rattle.vortex_model_table.specs.Command.{is_boolean}
use Rattle.vortex_model_table.specs.Typing.{expression_type}
use Rattle.vortex_model_table.specs.Truth.{end_of}
use Rattle.vortex_model_table.specs.Rewrite.{either_there, both_there}
use Rattle.vortex_model_rules.specs.Rules.{Rule, Answer, proof, fault, answer_of, joined_answers, either_answer, both_answers, falsifier_alone, fals, sat}
use Rattle.vortex_dtype_core.specs.Parts.{is_boolean_type}
use Rattle.vortex_stats_bind.specs.Bound.{Bound, each, some, range_test, value_type, expression_of}
use Rattle.vortex_stats_bind.specs.Bindings.{IsBoundTo}
use Rattle.vortex_stats_bind.proofs.Made.{truth_by, compare_judged, both_judged}
use Rattle.vortex_stats_expr.specs.declared.error.StatsError.{StatsError}
use Rattle.vortex_stats_expr.specs.declared.error.StatsError.TheVariants as error
use Rattle.vortex_stats_rules.specs.declared.answers.Claim.TheVariants as claim
use Rattle.vortex_stats_rules.specs.Meanings.{IsFault, IsBoundTruth, AreProofs, expressions_in, IsProofIn, expression_in, IsJudged, answers_to}
use Rattle.vortex_stats_rules.specs.Refusals.{IsPredicate, IsRefusal}
use Rattle.vortex_stats_rules.specs.Table as table
use Rattle.vortex_stats_rules.specs.Table.{Boxed, unboxed, all_unboxed, range_of}
use Rattle.vortex_stats_rules.proofs.Joining.{itself, listed_proofs, listed, in_front}
use Rattle.vortex_stats_rules.proofs.Parts.{of_each, of_some, of_range}
use Rattle.vortex_stats_rules.proofs.Same.{anded, ored, same_falsifiers, same_satisfiers}

-- ---- two answers

either_so : (a b : Answer) (o p : Option Expression) → a ≡ answer_of o → b ≡ answer_of p → either_answer a b ≡ answer_of (either_there o p)
either_so a b o p h g = (λ i. either_answer (h i) (g i)) ∙ by_cases o p
  where
    by_cases : (o p : Option Expression) → either_answer (answer_of o) (answer_of p) ≡ answer_of (either_there o p)
    by_cases None None = refl
    by_cases None (Some q) = refl
    by_cases (Some q) None = refl
    by_cases (Some q) (Some r) = refl

both_so : (a b : Answer) (o p : Option Expression) → a ≡ answer_of o → b ≡ answer_of p → both_answers a b ≡ answer_of (both_there o p)
both_so a b o p h g = (λ i. both_answers (h i) (g i)) ∙ by_cases o p
  where
    by_cases : (o p : Option Expression) → both_answers (answer_of o) (answer_of p) ≡ answer_of (both_there o p)
    by_cases None None = refl
    by_cases None (Some q) = refl
    by_cases (Some q) None = refl
    by_cases (Some q) (Some r) = refl

-- a fault of a side is one of the whole
in_whole : (f : Answer → Answer) (e : StatsError) (a : Answer) → f fault ≡ fault → IsFault e a → IsFault e (f a)
in_whole f error.Memory a is h = tt
in_whole f error.RuleFault a is h = ap f h ∙ is
in_whole f e a is h = absurd h

-- ---- the proofs of two sides

module _ (k : LogicalType) where
  pub either_proofs : (o p : Option Boxed) (q : Option Boxed) → unboxed q ≡ table.either_there (unboxed o) (unboxed p) → IsProofIn k o → IsProofIn k p →
      (answer_of (either_there (expression_in o) (expression_in p)) ≡ answer_of (expression_in q)) × IsProofIn k q
  either_proofs o p q is h g = (
    by_expression (unboxed o) (unboxed p) ∙ ap (λ b. answer_of (option_map expression_of b)) (sym is),
    subst (λ b. IfSome b (IsBoundTruth k)) (sym is) (by_cases (unboxed o) (unboxed p) h g),
  )
    where
      by_expression : (o p : Option Bound) → answer_of (either_there (option_map expression_of o) (option_map expression_of p)) ≡ answer_of (option_map expression_of (table.either_there o p))
      by_expression None p = refl
      by_expression (Some b) None = refl
      by_expression (Some b) (Some c) = refl

      by_cases : (o p : Option Bound) → IfSome o (IsBoundTruth k) → IfSome p (IsBoundTruth k) → IfSome (table.either_there o p) (IsBoundTruth k)
      by_cases None p h g = g
      by_cases (Some b) None h g = h
      by_cases (Some b) (Some c) h g = (itself k _ _ (ored k _ _ b c record { bound = h.bound; boolean = h.boolean } record { bound = g.bound; boolean = g.boolean })).1

  pub both_proofs : (o p : Option Boxed) (q : Option Boxed) → unboxed q ≡ table.both_there (unboxed o) (unboxed p) → IsProofIn k o → IsProofIn k p →
      (answer_of (both_there (expression_in o) (expression_in p)) ≡ answer_of (expression_in q)) × IsProofIn k q
  both_proofs o p q is h g = (
    by_expression (unboxed o) (unboxed p) ∙ ap (λ b. answer_of (option_map expression_of b)) (sym is),
    subst (λ b. IfSome b (IsBoundTruth k)) (sym is) (by_cases (unboxed o) (unboxed p) h g),
  )
    where
      by_expression : (o p : Option Bound) → answer_of (both_there (option_map expression_of o) (option_map expression_of p)) ≡ answer_of (option_map expression_of (table.both_there o p))
      by_expression None p = refl
      by_expression (Some b) None = refl
      by_expression (Some b) (Some c) = refl

      by_cases : (o p : Option Bound) → IfSome o (IsBoundTruth k) → IfSome p (IsBoundTruth k) → IfSome (table.both_there o p) (IsBoundTruth k)
      by_cases None p h g = tt
      by_cases (Some b) None h g = tt
      by_cases (Some b) (Some c) h g = (itself k _ _ (anded k _ _ b c record { bound = h.bound; boolean = h.boolean } record { bound = g.bound; boolean = g.boolean })).1

-- ---- nodes

-- what a node weighs in the walk over it: a BETWEEN more than the AND of its comparisons
abbrev pub weight : Bound → ℕ
weight (each x y) = weight x + weight y + 1
weight (some x y) = weight x + weight y + 1
weight (range_test x lo hi s t) = 4
weight b = 1

-- no AND, OR or BETWEEN
abbrev pub is_alone : Bound → Bool
is_alone (each x y) = false
is_alone (some x y) = false
is_alone (range_test x lo hi s t) = false
is_alone e = true

module _ (k : LogicalType) (rules : List Rule) where
  abbrev pub behind : Bound → Answer → Answer
  behind e a = joined_answers (a ∷ answers_to claim.NoRow k (expression_of e) rules)

  abbrev pub proved : Bound → Answer
  proved e = fals k rules (expression_of e)

  abbrev pub joined_at : Bound → List Boxed → Answer
  joined_at e bs = joined_answers (map proof (expressions_in bs) ++ answers_to claim.NoRow k (expression_of e) rules)

  -- at a node, where its built-in proof is this one
  of_built_in : (r : Result (Option Boxed) StatsError) (e : Bound) (a : Answer) (o : Option Boxed) (bs : List Boxed) → proved e ≡ behind e a →
      (a ≡ answer_of (expression_in o)) × IsProofIn k o → all_unboxed bs ≡ table.as_list (unboxed o) → (AreProofs k bs → IsJudged k r (joined_at e bs)) →
      IsJudged k r (proved e)
  of_built_in r e a o bs is p one j =
      subst (IsJudged k r) (in_front o bs (answers_to claim.NoRow k (expression_of e) rules) one ∙ sym (is ∙ ap (behind e) p.0)) (j (listed k o bs one p.1))

  pub at_and : (r : Result (Option Boxed) StatsError) (e x y : Bound) (o p q : Option Boxed) (bs : List Boxed) → e ≡ each x y → IsBoundTo k e →
      (IsBoundTo k x → IsJudged k (Ok o) (proved x)) → (IsBoundTo k y → IsJudged k (Ok p) (proved y)) → unboxed q ≡ table.either_there (unboxed o) (unboxed p) →
      all_unboxed bs ≡ table.as_list (unboxed q) → (AreProofs k bs → IsJudged k r (joined_at e bs)) → IsJudged k r (proved e)
  at_and r e x y o p q bs is h left right joined one j =
      let s = of_each k x y (subst (IsBoundTo k) is h) in
      let l = left s.0.bound in
      let g = right s.1.bound in
      let u = either_proofs k o p q joined l.1 g.1 in
      of_built_in r e (either_answer (proved x) (proved y)) q bs (ap proved is ∙ ap (λ c. behind c (either_answer (proved x) (proved y))) (sym is))
      (either_so (proved x) (proved y) (expression_in o) (expression_in p) l.0 g.0 ∙ u.0, u.1) one j

  pub at_or : (r : Result (Option Boxed) StatsError) (e x y : Bound) (o p q : Option Boxed) (bs : List Boxed) → e ≡ some x y → IsBoundTo k e →
      (IsBoundTo k x → IsJudged k (Ok o) (proved x)) → (IsBoundTo k y → IsJudged k (Ok p) (proved y)) → unboxed q ≡ table.both_there (unboxed o) (unboxed p) →
      all_unboxed bs ≡ table.as_list (unboxed q) → (AreProofs k bs → IsJudged k r (joined_at e bs)) → IsJudged k r (proved e)
  at_or r e x y o p q bs is h left right joined one j =
      let s = of_some k x y (subst (IsBoundTo k) is h) in
      let l = left s.0.bound in
      let g = right s.1.bound in
      let u = both_proofs k o p q joined l.1 g.1 in
      of_built_in r e (both_answers (proved x) (proved y)) q bs (ap proved is ∙ ap (λ c. behind c (both_answers (proved x) (proved y))) (sym is))
      (both_so (proved x) (proved y) (expression_in o) (expression_in p) l.0 g.0 ∙ u.0, u.1) one j

  -- the AND of a BETWEEN is bound
  pub range_bound : (e x lo hi r : Bound) (s t : Bool) → e ≡ range_test x lo hi s t → r ≡ range_of x lo hi s t → IsBoundTo k e → IsBoundTo k r
  range_bound e x lo hi r s t is made h =
      let ends = of_range k x lo hi s t (subst (IsBoundTo k) is h) in
      subst (IsBoundTo k) (sym made)
      ((both_judged k _ _ _ _ ((compare_judged k _ _ lo x ends.0.left ends.0.right (end_of s)).passed ends.0.same)
      ((compare_judged k _ _ x hi ends.1.left ends.1.right (end_of t)).passed ends.1.same)).passed refl)

  pub at_between : (r : Result (Option Boxed) StatsError) (e x lo hi range : Bound) (s t : Bool) (o : Option Boxed) (bs : List Boxed) → e ≡ range_test x lo hi s t →
      range ≡ range_of x lo hi s t → IsBoundTo k e → (IsBoundTo k range → IsJudged k (Ok o) (proved range)) →
      all_unboxed bs ≡ table.as_list (unboxed o) → (AreProofs k bs → IsJudged k r (joined_at e bs)) → IsJudged k r (proved e)
  at_between r e x lo hi range s t o bs is made h ends one j =
      of_built_in r e (proved range) o bs (ap proved is ∙ (λ i. behind (sym is i) (proved (sym made i)))) (ends (range_bound e x lo hi range s t is made h)) one j

  alone_so : (e : Bound) → is_alone e ≡ true → falsifier_alone k rules (expression_of e) ≡ proved e
  alone_so (each x y) h = cc (h)
  alone_so (some x y) h = cc (h)
  alone_so (range_test x lo hi s t) h = cc (h)
  alone_so e h = refl

  -- at one that is none of these
  pub at_alone : (r : Result (Option Boxed) StatsError) (e : Bound) (bs : List Boxed) → is_alone e ≡ true → IsBoundTo k e → all_unboxed bs ≡ table.falsifiers e →
      (AreProofs k bs → IsJudged k r (joined_answers (map proof (expressions_in bs) ++ answers_to claim.NoRow k (expression_of e) rules))) → IsJudged k r (proved e)
  at_alone r e bs alone h is j =
      let u = listed_proofs k _ _ (same_falsifiers k e h) in
      subst (IsJudged k r) (ap (λ ps. joined_answers (map proof ps ++ answers_to claim.NoRow k (expression_of e) rules)) (ap (map expression_of) is ∙ u.0) ∙ alone_so e alone)
      (j (subst (AllByRecursion (IsBoundTruth k)) (sym is) u.1))

  pub satisfied : (r : Result (Option Boxed) StatsError) (e : Bound) (bs : List Boxed) → IsBoundTo k e → all_unboxed bs ≡ table.satisfiers e →
      (AreProofs k bs → IsJudged k r (joined_answers (map proof (expressions_in bs) ++ answers_to claim.EveryRow k (expression_of e) rules))) → IsJudged k r (sat k rules (expression_of e))
  satisfied r e bs h is j =
      let u = listed_proofs k _ _ (same_satisfiers k e h) in
      subst (IsJudged k r) (ap (λ ps. joined_answers (map proof ps ++ answers_to claim.EveryRow k (expression_of e) rules)) (ap (map expression_of) is ∙ u.0))
      (j (subst (AllByRecursion (IsBoundTruth k)) (sym is) u.1))

  -- ---- faults of sides

  fault_in_front : (e : Bound) (a : Answer) (f : Answer → Answer) (err : StatsError) → f fault ≡ fault → IsFault err a → IsFault err (behind e (f a))
  fault_in_front e a f err is h = in_whole (λ c. behind e (f c)) err a (ap (behind e) is) h

  pub between_fault : (e x lo hi range : Bound) (s t : Bool) (err : StatsError) → e ≡ range_test x lo hi s t → range ≡ range_of x lo hi s t → IsBoundTo k e →
      (IsBoundTo k range → IsFault err (proved range)) → IsFault err (proved e)
  between_fault e x lo hi range s t err is made h j =
      subst (IsFault err) (sym (ap proved is ∙ (λ i. behind (sym is i) (proved (sym made i)))))
      (fault_in_front e (proved range) (λ c. c) err refl (j (range_bound e x lo hi range s t is made h)))

-- ---- the whole

pub is_predicate : (k : LogicalType) (e : Bound) → IsBoundTo k e → is_boolean_type (value_type e) ≡ true → IsPredicate k (expression_of e)
is_predicate k e h t = truth_by k (expression_of e) e h ∙ t

pub no_predicate : (k : LogicalType) (e : Bound) → IsBoundTo k e → is_boolean_type (value_type e) ≡ false → is_boolean (expression_type k (expression_of e)) ≡ false
no_predicate k e h t = truth_by k (expression_of e) e h ∙ t

-- a fault of a predicate
pub refused : (k : LogicalType) (e : Bound) (a : Answer) (err : StatsError) → IsBoundTo k e → is_boolean_type (value_type e) ≡ true → IsFault err a → IsRefusal k (expression_of e) a err
refused k e a error.Memory h t f = tt
refused k e a error.RuleFault h t f = (is_predicate k e h t, f)
refused k e a r h t f = absurd f

pub all_bound : (k : LogicalType) (o : Option Bound) → IfSome o (IsBoundTruth k) → IfSome o (λ b. IsBoundTo k b)
all_bound k None h = tt
all_bound k (Some b) h = h.bound
