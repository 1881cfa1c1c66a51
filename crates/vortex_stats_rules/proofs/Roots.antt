-- Which nodes are handed to a rule.
use Rattle.std.proofs.Common.{◌≡◌, ◌≢◌, Bool, true, false, if◌then◌else◌, refl, sym, ap, ◌∙◌}
use Rattle.vortex_model.specs.LogicalType.{LogicalType}
use Rattle.vortex_model_table.specs.Expression.{Expression, literal, column, compare, both, either, negation, is_null, is_not_null, is_nan, between, like, row_count, statistic}
use Rattle.vortex_model_rules.specs.Rules.{Rule, Root, Meaning, root_of, eq_root, no_proof, judged, asked}
use Rattle.vortex_stats_expr.specs.Tree.{scalar_fn_of}
use Rattle.vortex_stats_expr.specs.declared.scalar_fn.ScalarFnId.{ScalarFnId}
use Rattle.vortex_stats_expr.specs.declared.scalar_fn.ScalarFnId.TheVariants as function
use Rattle.vortex_stats_rules.specs.declared.answers.Claim.{Claim}
use Rattle.vortex_stats_rules.specs.declared.answers.Claim.TheVariants as claim
use Rattle.vortex_stats_rules.specs.Meanings.{root_in, asked_of}

root_of_tree : (e : Expression) → root_of e ≡ root_in (scalar_fn_of e)
root_of_tree (literal l c) = refl
root_of_tree (column xs) = refl
root_of_tree (compare op x y) = refl
root_of_tree (both x y) = refl
root_of_tree (either x y) = refl
root_of_tree (negation x) = refl
root_of_tree (is_null x) = refl
root_of_tree (is_not_null x) = refl
root_of_tree (is_nan x) = refl
root_of_tree (between x lo hi s t) = refl
root_of_tree (like x form n i) = refl
root_of_tree row_count = refl
root_of_tree (statistic x a) = refl

same_root : (f : ScalarFnId) → eq_root (root_in f) (root_in f) ≡ true
same_root function.Literal = refl
same_root function.Column = refl
same_root function.Binary = refl
same_root function.Between = refl
same_root function.Not = refl
same_root function.IsNull = refl
same_root function.IsNotNull = refl
same_root function.IsNan = refl
same_root function.Like = refl
same_root function.RowCount = refl
same_root function.Stat = refl

other_root : (f h : ScalarFnId) → f ≢ h → eq_root (root_in f) (root_in h) ≡ false
other_root function.Literal function.Literal u = absurd (u refl)
other_root function.Column function.Column u = absurd (u refl)
other_root function.Binary function.Binary u = absurd (u refl)
other_root function.Between function.Between u = absurd (u refl)
other_root function.Not function.Not u = absurd (u refl)
other_root function.IsNull function.IsNull u = absurd (u refl)
other_root function.IsNotNull function.IsNotNull u = absurd (u refl)
other_root function.IsNan function.IsNan u = absurd (u refl)
other_root function.Like function.Like u = absurd (u refl)
other_root function.RowCount function.RowCount u = absurd (u refl)
other_root function.Stat function.Stat u = absurd (u refl)
other_root f h u = refl

by_root : (r : Root) (call : Meaning) (k : LogicalType) (e : Expression) (f : ScalarFnId) (b : Bool) → root_in f ≡ r → eq_root (root_in f) (root_in (scalar_fn_of e)) ≡ b →
    asked r call k e ≡ (if b then judged k (call k e) else no_proof)
by_root r call k e f b is test =
    ap (λ s. if eq_root s (root_of e) then judged k (call k e) else no_proof) (sym is)
    ∙ ap (λ s. if eq_root (root_in f) s then judged k (call k e) else no_proof) (root_of_tree e)
    ∙ ap (λ t. if t then judged k (call k e) else no_proof) test

-- a node with another function at its root isn't handed to the rule
pub not_handed : (c : Claim) (k : LogicalType) (e : Expression) (rule : Rule) (f : ScalarFnId) → root_in f ≡ rule.root → f ≢ scalar_fn_of e → asked_of c k e rule ≡ no_proof
not_handed claim.NoRow k e rule f is u = by_root rule.root rule.falsify k e f false is (other_root f (scalar_fn_of e) u)
not_handed claim.EveryRow k e rule f is u = by_root rule.root rule.satisfy k e f false is (other_root f (scalar_fn_of e) u)

-- the root of a node that is handed to a rule is the rule's
pub has_its_root : (e : Expression) (r : Root) (f : ScalarFnId) → root_in f ≡ r → f ≡ scalar_fn_of e → root_of e ≡ r
has_its_root e r f is h = root_of_tree e ∙ ap root_in (sym h) ∙ is

pub ruleset handed = (not_handed, has_its_root)
