-- Without rules the proofs are the built-in ones.
use Rattle.std.proofs.Common.{◌≡◌, refl, ◌∙◌, ap, List, [], ◌∷◌, ◌++◌, map, false, if◌then◌else◌, Option, Some, None}
use Rattle.std.specs.List.{list_any}
use Rattle.vortex_model.specs.LogicalType.{LogicalType}
use Rattle.vortex_model_table.specs.Expression.{Expression, literal, column, compare, both, either, negation, is_null, is_not_null, is_nan, between, like, row_count, statistic}
use Rattle.vortex_model_table.specs.Truth.{end_of}
use Rattle.vortex_model_table.specs.Rewrite.{falsifiers, satisfiers, joined_proofs, falsifier, satisfier, either_there, both_there}
use Rattle.vortex_model_rules.specs.Rules.{Answer, proof, fault, is_fault, proofs_in, answer_of, joined_answers, either_answer, both_answers, fals, sat}

-- answers that are proofs are joined as the proofs are
pub joined_only : (ps : List Expression) → joined_answers (map proof ps ++ []) ≡ answer_of (joined_proofs ps)
joined_only ps = ap (λ b. if b then fault else answer_of (joined_proofs (proofs_in (map proof ps ++ [])))) (no_fault ps) ∙ ap (λ qs. answer_of (joined_proofs qs)) (as_they_are ps)
  where
    no_fault : (ps : List Expression) → list_any is_fault (map proof ps ++ []) ≡ false
    no_fault [] = refl
    no_fault (p ∷ ps) = no_fault ps

    as_they_are : (ps : List Expression) → proofs_in (map proof ps ++ []) ≡ ps
    as_they_are [] = refl
    as_they_are (p ∷ ps) = ap (λ qs. p ∷ qs) (as_they_are ps)

pub joined_one : (o : Option Expression) → joined_answers (answer_of o ∷ []) ≡ answer_of o
joined_one None = refl
joined_one (Some p) = refl

pub either_so : (o p : Option Expression) → either_answer (answer_of o) (answer_of p) ≡ answer_of (either_there o p)
either_so (Some x) (Some y) = refl
either_so (Some x) None = refl
either_so None (Some y) = refl
either_so None None = refl

pub both_so : (o p : Option Expression) → both_answers (answer_of o) (answer_of p) ≡ answer_of (both_there o p)
both_so (Some x) (Some y) = refl
both_so (Some x) None = refl
both_so None (Some y) = refl
both_so None None = refl

-- the falsifier of an AND
of_and : (a b : Answer) (o p : Option Expression) → a ≡ answer_of o → b ≡ answer_of p → joined_answers (either_answer a b ∷ []) ≡ answer_of (either_there o p)
of_and a b o p e f = (λ i. joined_answers (either_answer (e i) (f i) ∷ [])) ∙ ap (λ c. joined_answers (c ∷ [])) (either_so o p) ∙ joined_one (either_there o p)

of_or : (a b : Answer) (o p : Option Expression) → a ≡ answer_of o → b ≡ answer_of p → joined_answers (both_answers a b ∷ []) ≡ answer_of (both_there o p)
of_or a b o p e f = (λ i. joined_answers (both_answers (e i) (f i) ∷ [])) ∙ ap (λ c. joined_answers (c ∷ [])) (both_so o p) ∙ joined_one (both_there o p)

pub no_rules : (k : LogicalType) (e : Expression) → fals k [] e ≡ answer_of (falsifier k e)
no_rules k (both x y) = of_and (fals k [] x) (fals k [] y) (falsifier k x) (falsifier k y) (no_rules k x) (no_rules k y)
no_rules k (either x y) = of_or (fals k [] x) (fals k [] y) (falsifier k x) (falsifier k y) (no_rules k x) (no_rules k y)
no_rules k (between x lo hi s t) =
    let p : List Expression = falsifiers k (compare (end_of s) lo x) in let q : List Expression = falsifiers k (compare (end_of t) x hi) in
    ap (λ c. joined_answers (c ∷ [])) (of_and (joined_answers (map proof p ++ [])) (joined_answers (map proof q ++ [])) (joined_proofs p) (joined_proofs q) (joined_only p) (joined_only q))
    ∙ joined_one (either_there (joined_proofs p) (joined_proofs q))
no_rules k (literal l c) = joined_only (falsifiers k (literal l c))
no_rules k (column xs) = joined_only (falsifiers k (column xs))
no_rules k (compare op x y) = joined_only (falsifiers k (compare op x y))
no_rules k (negation x) = joined_only (falsifiers k (negation x))
no_rules k (is_null x) = joined_only (falsifiers k (is_null x))
no_rules k (is_not_null x) = joined_only (falsifiers k (is_not_null x))
no_rules k (is_nan x) = joined_only (falsifiers k (is_nan x))
no_rules k (like x form n i) = joined_only (falsifiers k (like x form n i))
no_rules k row_count = joined_only (falsifiers k row_count)
no_rules k (statistic x a) = joined_only (falsifiers k (statistic x a))

pub both_without : (k : LogicalType) (e : Expression) → (fals k [] e ≡ answer_of (falsifier k e)) × (sat k [] e ≡ answer_of (satisfier k e))
both_without k e = (no_rules k e, joined_only (satisfiers k e))
