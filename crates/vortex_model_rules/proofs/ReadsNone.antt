-- The proofs with rules read no column outside of placeholders.
use Rattle.std.proofs.Common.{◌≡◌, refl, sym, ◌∙◌, ap, List, [], ◌∷◌, ◌++◌, map, Bool, true, false, not, ◌||◌, if◌then◌else◌, Option, Some, None, IfSome}
use Rattle.std.specs.List.{list_any}
use Rattle.std.specs.Option.{option_map_or}
use Rattle.std.proofs.lemmas.Bool.{or_from}
use Rattle.vortex_model.specs.LogicalType.{LogicalType}
use Rattle.vortex_model_table.specs.Expression.{Expression, literal, column, compare, both, either, negation, is_null, is_not_null, is_nan, between, like, row_count, statistic, reads_columns}
use Rattle.vortex_model_table.specs.Truth.{end_of, has_truth}
use Rattle.vortex_model_table.specs.Rewrite.{falsifiers, satisfiers, joined_proofs}
use Rattle.vortex_model_table.specs.Laws.{BuiltInProofsReadNoColumns}
use Rattle.vortex_model_rules.specs.Faults.{ProofFault, not_evaluable, not_boolean, reads_a_column, or_fault, unless, is_truth, binding_fault, proof_fault}
use Rattle.vortex_model_rules.specs.Rules.{Answer, no_proof, proof, fault, Root, Meaning, Rule, is_fault, proofs_in, answer_of, eq_root, root_of, judged, asked, joined_answers, either_answer, both_answers, falsify_answers, satisfy_answers, falsifier_alone, falsifier_of_and, fals, sat}
use Rattle.vortex_model_rules.proofs.Believed.{any_append, joined_any}

-- the answer is a proof that reads a column
abbrev pub reads_of : Answer → Bool
reads_of (proof p) = reads_columns p
reads_of no_proof = false
reads_of fault = false

second_none : (f g : Option ProofFault) → or_fault f g ≡ None → g ≡ None
second_none None g e = e
second_none (Some f) g e = absurd (cc (e))

not_read : (b : Bool) → unless (not b) reads_a_column ≡ None → b ≡ false
not_read true e = absurd (cc (e))
not_read false e = refl

faultless_reads_none : (k : LogicalType) (p : Expression) → proof_fault k p ≡ None → reads_columns p ≡ false
faultless_reads_none k p e =
    let last : Option ProofFault = unless (not (reads_columns p)) reads_a_column in
    let third : Option ProofFault = or_fault (unless (is_truth k p) not_boolean) last in
    let second : Option ProofFault = or_fault (unless (has_truth k p) not_evaluable) third in
    not_read (reads_columns p) (second_none (unless (is_truth k p) not_boolean) last (second_none (unless (has_truth k p) not_evaluable) third (second_none (binding_fault k p) second e)))

judged_none : (k : LogicalType) (a : Answer) → reads_of (judged k a) ≡ false
judged_none k no_proof = refl
judged_none k (proof p) = by_fault (proof_fault k p) refl
  where
    by_fault : (o : Option ProofFault) → proof_fault k p ≡ o → reads_of (elim o [ None ↦ proof p | Some f ↦ fault ]) ≡ false
    by_fault None e = faultless_reads_none k p e
    by_fault (Some f) e = refl
judged_none k fault = refl

asked_none : (root : Root) (call : Meaning) (k : LogicalType) (e : Expression) → reads_of (asked root call k e) ≡ false
asked_none root call k e = by_test (eq_root root (root_of e))
  where
    by_test : (b : Bool) → reads_of (if b then judged k (call k e) else no_proof) ≡ false
    by_test true = judged_none k (call k e)
    by_test false = refl

falsify_none : (k : LogicalType) (rules : List Rule) (e : Expression) → list_any reads_of (falsify_answers k rules e) ≡ false
falsify_none k [] e = refl
falsify_none k (rule ∷ rules) e = or_from (reads_of (asked rule.root rule.falsify k e)) (list_any reads_of (falsify_answers k rules e)) (asked_none rule.root rule.falsify k e) (falsify_none k rules e)

satisfy_none : (k : LogicalType) (rules : List Rule) (e : Expression) → list_any reads_of (satisfy_answers k rules e) ≡ false
satisfy_none k [] e = refl
satisfy_none k (rule ∷ rules) e = or_from (reads_of (asked rule.root rule.satisfy k e)) (list_any reads_of (satisfy_answers k rules e)) (asked_none rule.root rule.satisfy k e) (satisfy_none k rules e)

-- ---- joined

reads_in : (xs : List Answer) → list_any reads_columns (proofs_in xs) ≡ list_any reads_of xs
reads_in [] = refl
reads_in (no_proof ∷ xs) = reads_in xs
reads_in (proof p ∷ xs) = ap (λ b. reads_columns p || b) (reads_in xs)
reads_in (fault ∷ xs) = reads_in xs

reads_option : (o : Option Expression) → reads_of (answer_of o) ≡ option_map_or reads_columns o false
reads_option None = refl
reads_option (Some p) = refl

joined_none : (xs : List Answer) → list_any reads_of xs ≡ false → reads_of (joined_answers xs) ≡ false
joined_none xs h = by_test (list_any is_fault xs)
  where
    by_test : (b : Bool) → reads_of (if b then fault else answer_of (joined_proofs (proofs_in xs))) ≡ false
    by_test true = refl
    by_test false = reads_option (joined_proofs (proofs_in xs)) ∙ joined_any reads_columns (λ x y. refl) (proofs_in xs) ∙ reads_in xs ∙ h

at_node_none : (built others : List Answer) → list_any reads_of built ≡ false → list_any reads_of others ≡ false → reads_of (joined_answers (built ++ others)) ≡ false
at_node_none built others h g = joined_none (built ++ others) (any_append reads_of built others ∙ or_from (list_any reads_of built) (list_any reads_of others) h g)

one_none : (a : Answer) → reads_of a ≡ false → list_any reads_of (a ∷ []) ≡ false
one_none a h = or_from (reads_of a) false h refl

reads_given : (ps : List Expression) → list_any reads_of (map proof ps) ≡ list_any reads_columns ps
reads_given [] = refl
reads_given (p ∷ ps) = ap (λ b. reads_columns p || b) (reads_given ps)

option_none : (o : Option Expression) → IfSome o (λ p. reads_columns p ≡ false) → option_map_or reads_columns o false ≡ false
option_none None h = refl
option_none (Some p) h = h

built_none : (ps : List Expression) → IfSome (joined_proofs ps) (λ p. reads_columns p ≡ false) → list_any reads_of (map proof ps) ≡ false
built_none ps h = reads_given ps ∙ sym (joined_any reads_columns (λ x y. refl) ps) ∙ option_none (joined_proofs ps) h

either_none : (a b : Answer) → reads_of a ≡ false → reads_of b ≡ false → reads_of (either_answer a b) ≡ false
either_none fault b h g = refl
either_none no_proof fault h g = refl
either_none no_proof no_proof h g = refl
either_none no_proof (proof q) h g = g
either_none (proof p) fault h g = refl
either_none (proof p) no_proof h g = h
either_none (proof p) (proof q) h g = or_from (reads_columns p) (reads_columns q) h g

both_none : (a b : Answer) → reads_of a ≡ false → reads_of b ≡ false → reads_of (both_answers a b) ≡ false
both_none fault b h g = refl
both_none no_proof fault h g = refl
both_none no_proof no_proof h g = refl
both_none no_proof (proof q) h g = refl
both_none (proof p) fault h g = refl
both_none (proof p) no_proof h g = refl
both_none (proof p) (proof q) h g = or_from (reads_columns p) (reads_columns q) h g

module _ (built_in : BuiltInProofsReadNoColumns) (k : LogicalType) (rules : List Rule) where
  alone_none : (e : Expression) → IfSome (joined_proofs (falsifiers k e)) (λ p. reads_columns p ≡ false) → reads_of (falsifier_alone k rules e) ≡ false
  alone_none e h = at_node_none (map proof (falsifiers k e)) (falsify_answers k rules e) (built_none (falsifiers k e) h) (falsify_none k rules e)

  of_and_none : (x y : Expression) (a b : Answer) → reads_of a ≡ false → reads_of b ≡ false → reads_of (falsifier_of_and k rules x y a b) ≡ false
  of_and_none x y a b h g = at_node_none (either_answer a b ∷ []) (falsify_answers k rules (both x y)) (one_none (either_answer a b) (either_none a b h g)) (falsify_none k rules (both x y))

  pub fals_none : (e : Expression) → reads_of (fals k rules e) ≡ false
  fals_none (both x y) = of_and_none x y (fals k rules x) (fals k rules y) (fals_none x) (fals_none y)
  fals_none (either x y) = at_node_none (both_answers (fals k rules x) (fals k rules y) ∷ []) (falsify_answers k rules (either x y))
      (one_none (both_answers (fals k rules x) (fals k rules y)) (both_none (fals k rules x) (fals k rules y) (fals_none x) (fals_none y))) (falsify_none k rules (either x y))
  fals_none (between x lo hi s t) =
      let low : Expression = compare (end_of s) lo x in let high : Expression = compare (end_of t) x hi in
      let inner : Answer = falsifier_of_and k rules low high (falsifier_alone k rules low) (falsifier_alone k rules high) in
      at_node_none (inner ∷ []) (falsify_answers k rules (between x lo hi s t))
      (one_none inner (of_and_none low high (falsifier_alone k rules low) (falsifier_alone k rules high) (alone_none low (built_in k low).0) (alone_none high (built_in k high).0)))
      (falsify_none k rules (between x lo hi s t))
  fals_none (literal l c) = alone_none (literal l c) (built_in k (literal l c)).0
  fals_none (column xs) = alone_none (column xs) (built_in k (column xs)).0
  fals_none (compare op x y) = alone_none (compare op x y) (built_in k (compare op x y)).0
  fals_none (negation x) = alone_none (negation x) (built_in k (negation x)).0
  fals_none (is_null x) = alone_none (is_null x) (built_in k (is_null x)).0
  fals_none (is_not_null x) = alone_none (is_not_null x) (built_in k (is_not_null x)).0
  fals_none (is_nan x) = alone_none (is_nan x) (built_in k (is_nan x)).0
  fals_none (like x form n i) = alone_none (like x form n i) (built_in k (like x form n i)).0
  fals_none row_count = alone_none row_count (built_in k row_count).0
  fals_none (statistic x a) = alone_none (statistic x a) (built_in k (statistic x a)).0

  pub sat_none : (e : Expression) → reads_of (sat k rules e) ≡ false
  sat_none e = at_node_none (map proof (satisfiers k e)) (satisfy_answers k rules e) (built_none (satisfiers k e) (built_in k e).1) (satisfy_none k rules e)
