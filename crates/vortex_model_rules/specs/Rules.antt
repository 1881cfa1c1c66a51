-- Callers' rewrite rules, and the falsifiers and satisfiers with them.
use Rattle.std.specs.Prelude.{List, [], ◌∷◌, ◌++◌, map, Option, Some, None, Bool, true, false, if◌then◌else◌}
use Rattle.std.specs.List.{list_any}
use Rattle.vortex_model.specs.LogicalType.{LogicalType}
use Rattle.vortex_model_table.specs.Expression.{Expression, literal, column, compare, both, either, negation, is_null, is_not_null, is_nan, between, like, row_count, statistic}
use Rattle.vortex_model_table.specs.Truth.{end_of}
use Rattle.vortex_model_table.specs.Rewrite.{falsifiers, satisfiers, joined_proofs}
use Rattle.vortex_model_rules.specs.Faults.{proof_fault}

-- the answer at a node: a proof, none, or a fault
pub data Answer : Type 0 where
  no_proof : Answer
  proof : Expression → Answer
  fault : Answer

-- The function at the root of an expression. `of_binary` is that of comparisons, AND and OR.
pub data Root : Type 0 where
  of_literal of_column of_binary of_between of_not of_is_null of_is_not_null of_is_nan : Root
  of_like of_row_count of_statistic : Root

abbrev pub root_of : Expression → Root
root_of (literal l c) = of_literal
root_of (column xs) = of_column
root_of (compare op x y) = of_binary
root_of (both x y) = of_binary
root_of (either x y) = of_binary
root_of (negation x) = of_not
root_of (is_null x) = of_is_null
root_of (is_not_null x) = of_is_not_null
root_of (is_nan x) = of_is_nan
root_of (between x lo hi lower_strict upper_strict) = of_between
root_of (like x form negated ignores_case) = of_like
root_of row_count = of_row_count
root_of (statistic x a) = of_statistic

abbrev pub eq_root : Root → Root → Bool
eq_root of_literal of_literal = true
eq_root of_column of_column = true
eq_root of_binary of_binary = true
eq_root of_between of_between = true
eq_root of_not of_not = true
eq_root of_is_null of_is_null = true
eq_root of_is_not_null of_is_not_null = true
eq_root of_is_nan of_is_nan = true
eq_root of_like of_like = true
eq_root of_row_count of_row_count = true
eq_root of_statistic of_statistic = true
eq_root r s = false

-- the answer at a node over rows of a type
abbrev pub Meaning : Type 0
Meaning = LogicalType → Expression → Answer

-- A caller's rule: the root of the nodes that it gets, and its answers for a falsifier and for a
-- satisfier.
pub record Rule : Type 0 where
  pub root : Root
  pub falsify : Meaning
  pub satisfy : Meaning

-- a proof that can't be used is a fault
abbrev pub judged : LogicalType → Answer → Answer
judged k (proof p) = elim (proof_fault k p) [ None ↦ proof p | Some f ↦ fault ]
judged k a = a

-- one answer of a rule at a node; a node with another root has no proof
abbrev pub asked : Root → Meaning → Meaning
asked root call k e = if eq_root root (root_of e) then judged k (call k e) else no_proof

-- the answers of the rules at a node, in the order of the rules
abbrev pub falsify_answers : LogicalType → List Rule → Expression → List Answer
falsify_answers k rules e = map (λ rule. asked rule.root rule.falsify k e) rules

abbrev pub satisfy_answers : LogicalType → List Rule → Expression → List Answer
satisfy_answers k rules e = map (λ rule. asked rule.root rule.satisfy k e) rules

-- ---- several answers in one

abbrev pub is_fault : Answer → Bool
is_fault fault = true
is_fault a = false

-- the proofs of the answers, in order
abbrev pub proofs_in : List Answer → List Expression
proofs_in [] = []
proofs_in (proof p ∷ answers) = p ∷ proofs_in answers
proofs_in (a ∷ answers) = proofs_in answers

-- an optional proof as an answer
abbrev pub answer_of : Option Expression → Answer
answer_of None = no_proof
answer_of (Some p) = proof p

-- The proofs joined by OR, as `joined_proofs` does. One fault makes the whole a fault.
abbrev pub joined_answers : List Answer → Answer
joined_answers answers = if list_any is_fault answers then fault
    else answer_of (joined_proofs (proofs_in answers))

-- of AND: the OR of the proofs that exist
abbrev pub either_answer : Answer → Answer → Answer
either_answer fault b = fault
either_answer a fault = fault
either_answer (proof p) (proof q) = proof (either p q)
either_answer (proof p) no_proof = proof p
either_answer no_proof b = b

-- of OR: the AND, where both exist
abbrev pub both_answers : Answer → Answer → Answer
both_answers fault b = fault
both_answers a fault = fault
both_answers (proof p) (proof q) = proof (both p q)
both_answers a b = no_proof

-- ---- falsifier and satisfier with rules

-- at a node with these built-in answers, the callers' answers after them
abbrev pub falsifier_at : LogicalType → List Rule → Expression → List Answer → Answer
falsifier_at k rules e built_in = joined_answers (built_in ++ falsify_answers k rules e)

-- at a node that is not AND, OR or BETWEEN
abbrev pub falsifier_alone : LogicalType → List Rule → Expression → Answer
falsifier_alone k rules e = falsifier_at k rules e (map proof (falsifiers k e))

-- at an AND whose sides have these answers
abbrev pub falsifier_of_and : LogicalType → List Rule → Expression → Expression → Answer → Answer →
    Answer
falsifier_of_and k rules x y a b = falsifier_at k rules (both x y) (either_answer a b ∷ [])

-- The falsifier of a predicate. The sides of AND and OR are rewritten with the same rules. The
-- built-in proof of BETWEEN is that of its AND, so the rules also get that AND and its two
-- comparisons.
abbrev pub fals : LogicalType → List Rule → Expression → Answer
fals k rules (both x y) = falsifier_of_and k rules x y (fals k rules x) (fals k rules y)
fals k rules (either x y) =
    falsifier_at k rules (either x y) (both_answers (fals k rules x) (fals k rules y) ∷ [])
fals k rules (between x lo hi lower_strict upper_strict) =
    falsifier_at k rules (between x lo hi lower_strict upper_strict)
    (falsifier_of_and k rules
    (compare (end_of lower_strict) lo x) (compare (end_of upper_strict) x hi)
    (falsifier_alone k rules (compare (end_of lower_strict) lo x))
    (falsifier_alone k rules (compare (end_of upper_strict) x hi)) ∷ [])
fals k rules e = falsifier_alone k rules e

-- the satisfier of a predicate, for which the rules get only the root
abbrev pub sat : LogicalType → List Rule → Expression → Answer
sat k rules e = joined_answers (map proof (satisfiers k e) ++ satisfy_answers k rules e)

-- The nodes that the rules get for `fals`: the root, both sides of each AND and OR among them, and
-- of each BETWEEN its AND with both comparisons.
abbrev pub handed_over : Expression → List Expression
handed_over (both x y) = both x y ∷ handed_over x ++ handed_over y
handed_over (either x y) = either x y ∷ handed_over x ++ handed_over y
handed_over (between x lo hi lower_strict upper_strict) =
    between x lo hi lower_strict upper_strict
    ∷ both (compare (end_of lower_strict) lo x) (compare (end_of upper_strict) x hi)
    ∷ compare (end_of lower_strict) lo x ∷ compare (end_of upper_strict) x hi ∷ []
handed_over e = e ∷ []
