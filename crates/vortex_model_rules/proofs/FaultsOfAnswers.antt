-- The whole is a fault exactly where an answer is one.
use Rattle.std.proofs.Common.{◌≡◌, refl, sym, ◌∙◌, ap, List, [], ◌∷◌, ◌++◌, map, Bool, true, false, ◌||◌, if◌then◌else◌, Option, Some, None}
use Rattle.std.specs.List.{list_any}
use Rattle.std.proofs.Math.Bool.{or_comm}
use Rattle.vortex_model.specs.LogicalType.{LogicalType}
use Rattle.vortex_model_table.specs.Expression.{Expression, literal, column, compare, both, either, negation, is_null, is_not_null, is_nan, between, like, row_count, statistic}
use Rattle.vortex_model_table.specs.Truth.{end_of}
use Rattle.vortex_model_table.specs.Rewrite.{falsifiers, satisfiers, joined_proofs}
use Rattle.vortex_model_rules.specs.Rules.{Answer, no_proof, proof, fault, Rule, is_fault, proofs_in, answer_of, joined_answers, either_answer, both_answers, falsify_answers, satisfy_answers, falsifier_alone, falsifier_of_and, fals, sat, handed_over}
use Rattle.vortex_model_rules.proofs.Believed.{any_append}

pub no_fault : (o : Option Expression) → is_fault (answer_of o) ≡ false
no_fault None = refl
no_fault (Some p) = refl

joined_fault : (xs : List Answer) → is_fault (joined_answers xs) ≡ list_any is_fault xs
joined_fault xs = by_test (list_any is_fault xs)
  where
    by_test : (b : Bool) → is_fault (if b then fault else answer_of (joined_proofs (proofs_in xs))) ≡ b
    by_test true = refl
    by_test false = no_fault (joined_proofs (proofs_in xs))

no_faults : (ps : List Expression) → list_any is_fault (map proof ps) ≡ false
no_faults [] = refl
no_faults (p ∷ ps) = no_faults ps

at_proofs : (ps : List Expression) (others : List Answer) → is_fault (joined_answers (map proof ps ++ others)) ≡ list_any is_fault others
at_proofs ps others = joined_fault (map proof ps ++ others) ∙ any_append is_fault (map proof ps) others ∙ ap (λ b. b || list_any is_fault others) (no_faults ps)

either_fault : (a b : Answer) → is_fault (either_answer a b) ≡ is_fault a || is_fault b
either_fault fault b = refl
either_fault no_proof fault = refl
either_fault no_proof no_proof = refl
either_fault no_proof (proof q) = refl
either_fault (proof p) fault = refl
either_fault (proof p) no_proof = refl
either_fault (proof p) (proof q) = refl

both_fault : (a b : Answer) → is_fault (both_answers a b) ≡ is_fault a || is_fault b
both_fault fault b = refl
both_fault no_proof fault = refl
both_fault no_proof no_proof = refl
both_fault no_proof (proof q) = refl
both_fault (proof p) fault = refl
both_fault (proof p) no_proof = refl
both_fault (proof p) (proof q) = refl

or_last : (b c d e : Bool) → ((b || c) || d) || e ≡ e || (d || (b || (c || false)))
or_last true c d true = refl
or_last true c true false = refl
or_last true c false false = refl
or_last false true d true = refl
or_last false true true false = refl
or_last false true false false = refl
or_last false false true true = refl
or_last false false false true = refl
or_last false false true false = refl
or_last false false false false = refl

or_nothing : (b : Bool) → b ≡ b || false
or_nothing true = refl
or_nothing false = refl

module _ (k : LogicalType) (rules : List Rule) where
  abbrev faulty : Expression → Bool
  faulty node = list_any is_fault (falsify_answers k rules node)

  alone : (e : Expression) → is_fault (falsifier_alone k rules e) ≡ faulty e || false
  alone e = at_proofs (falsifiers k e) (falsify_answers k rules e) ∙ or_nothing (faulty e)

  of_sides : (e x y : Expression) (a : Answer) → is_fault a ≡ list_any faulty (handed_over x) || list_any faulty (handed_over y) →
      is_fault (joined_answers (a ∷ falsify_answers k rules e)) ≡ faulty e || list_any faulty (handed_over x ++ handed_over y)
  of_sides e x y a h =
      joined_fault (a ∷ falsify_answers k rules e) ∙ or_comm (is_fault a) (faulty e) ∙ ap (λ b. faulty e || b) (h ∙ sym (any_append faulty (handed_over x) (handed_over y)))

  pub fals_fault : (e : Expression) → is_fault (fals k rules e) ≡ list_any faulty (handed_over e)
  fals_fault (both x y) = of_sides (both x y) x y (either_answer (fals k rules x) (fals k rules y)) (either_fault (fals k rules x) (fals k rules y) ∙ (λ i. fals_fault x i || fals_fault y i))
  fals_fault (either x y) = of_sides (either x y) x y (both_answers (fals k rules x) (fals k rules y)) (both_fault (fals k rules x) (fals k rules y) ∙ (λ i. fals_fault x i || fals_fault y i))
  fals_fault (between x lo hi s t) =
      let low : Expression = compare (end_of s) lo x in let high : Expression = compare (end_of t) x hi in
      let a : Answer = falsifier_alone k rules low in let b : Answer = falsifier_alone k rules high in
      let inner : Answer = falsifier_of_and k rules low high a b in
      let of_low : is_fault a ≡ faulty low = at_proofs (falsifiers k low) (falsify_answers k rules low) in
      let of_high : is_fault b ≡ faulty high = at_proofs (falsifiers k high) (falsify_answers k rules high) in
      let of_inner : is_fault inner ≡ (faulty low || faulty high) || faulty (both low high) =
      joined_fault (either_answer a b ∷ falsify_answers k rules (both low high))
      ∙ ap (λ c. c || faulty (both low high)) (either_fault a b ∙ (λ i. of_low i || of_high i)) in
      joined_fault (inner ∷ falsify_answers k rules (between x lo hi s t))
      ∙ ap (λ c. c || faulty (between x lo hi s t)) of_inner
      ∙ or_last (faulty low) (faulty high) (faulty (both low high)) (faulty (between x lo hi s t))
  fals_fault (literal l c) = alone (literal l c)
  fals_fault (column xs) = alone (column xs)
  fals_fault (compare op x y) = alone (compare op x y)
  fals_fault (negation x) = alone (negation x)
  fals_fault (is_null x) = alone (is_null x)
  fals_fault (is_not_null x) = alone (is_not_null x)
  fals_fault (is_nan x) = alone (is_nan x)
  fals_fault (like x form n i) = alone (like x form n i)
  fals_fault row_count = alone row_count
  fals_fault (statistic x a) = alone (statistic x a)

pub both_faults : (k : LogicalType) (rules : List Rule) (e : Expression) →
    (is_fault (fals k rules e) ≡ list_any (λ node. list_any is_fault (falsify_answers k rules node)) (handed_over e))
    × (is_fault (sat k rules e) ≡ list_any is_fault (satisfy_answers k rules e))
both_faults k rules e = (fals_fault k rules e, at_proofs (satisfiers k e) (satisfy_answers k rules e))
