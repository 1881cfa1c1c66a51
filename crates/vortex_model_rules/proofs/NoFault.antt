-- The two rules make no fault of a predicate that a scan accepts.
use Rattle.std.proofs.Common.{◌≡◌, refl, ◌∙◌, ap, [], ◌∷◌, ◌++◌, Bool, true, false, ◌||◌, if◌then◌else◌, Option, Some, None, IfSome}
use Rattle.std.specs.List.{list_any}
use Rattle.std.proofs.lemmas.Bool.{or_from}
use Rattle.vortex_model.specs.LogicalType.{LogicalType}
use Rattle.vortex_model.specs.Content.{Content, null}
use Rattle.vortex_model_table.specs.Expression.{Expression, literal, column, compare, both, either, negation, is_null, is_not_null, is_nan, between, like, row_count, statistic}
use Rattle.vortex_model_table.specs.Truth.{end_of}
use Rattle.vortex_model_table.specs.Rewrite.{falsifier, satisfier, either_there}
use Rattle.vortex_model_table.specs.Command.{expression_fault, predicate_fault, unless as refused_unless}
use Rattle.vortex_model.specs.Refusal.{unequal_types as unequal}
use Rattle.vortex_model_rules.specs.Faults.{ProofFault, are_alike}
use Rattle.vortex_model_rules.specs.Rules.{no_proof, proof, fault, is_fault, answer_of, judged, asked, of_not, of_binary, eq_root, root_of, falsify_answers, satisfy_answers, fals, sat, handed_over}
use Rattle.vortex_model_rules.specs.PushNot.{pushed_in, push_not}
use Rattle.vortex_model_rules.specs.NullComparison.{only_nulls, null_side, null_comparison}
use Rattle.vortex_model_rules.proofs.Believed.{any_append}
use Rattle.vortex_model_rules.proofs.FaultsOfAnswers.{both_faults}
use Rattle.vortex_model_rules.proofs.PushNot.{accepted_so}
use Rattle.vortex_model_rules.proofs.Usable.{IsUsable, IsAccepted, usable_faultless, two_none, sides, ends_accepted, accepted_kept, falsifier_usable, satisfier_usable, truth_usable, either_there_usable}

module _ (k : LogicalType) where
  -- a proof that can be used is not a fault
  never_judged : (o : Option Expression) → IfSome o (IsUsable k) → is_fault (judged k (answer_of o)) ≡ false
  never_judged None h = refl
  never_judged (Some p) h = ap (λ (f : Option ProofFault). is_fault (elim f [ None ↦ proof p | Some r ↦ fault ])) (usable_faultless k p h)

  never_asked : (b : Bool) (o : Option Expression) → IfSome o (IsUsable k) → is_fault (if b then judged k (answer_of o) else no_proof) ≡ false
  never_asked true o h = never_judged o h
  never_asked false o h = refl

  none_asked : (b : Bool) → is_fault (if b then judged k no_proof else no_proof) ≡ false
  none_asked true = refl
  none_asked false = refl

  of_literal : (l : LogicalType) (c : Content) → IfSome (only_nulls k (literal l c)) (IsUsable k)
  of_literal l null = (truth_usable k true).0
  of_literal l c = tt

  pub side : (x : Expression) → expression_fault k x ≡ None → IfSome (only_nulls k x) (IsUsable k)
  side (literal l c) n = of_literal l c
  side x n = falsifier_usable k (is_not_null x) n

  null_side_never : (e : Expression) → IsAccepted k e → is_fault (asked of_binary null_side k e) ≡ false
  null_side_never (compare op x y) a =
      let f = two_none k x y (refused_unless (are_alike k x y) unequal) a.0 in
      never_judged (either_there (only_nulls k x) (only_nulls k y)) (either_there_usable k (only_nulls k x) (only_nulls k y) (side x f.0) (side y f.1))
  null_side_never e a = refl

  -- ---- at one node

  falsify_never : (e : Expression) → IsAccepted k e → list_any is_fault (falsify_answers k (push_not ∷ null_comparison ∷ []) e) ≡ false
  falsify_never e a =
      or_from (is_fault (asked of_not push_not.falsify k e)) (is_fault (asked of_binary null_side k e) || false)
      (never_asked (eq_root of_not (root_of e)) (falsifier k (pushed_in e)) (falsifier_usable k (pushed_in e) (accepted_kept k e a).0))
      (or_from (is_fault (asked of_binary null_side k e)) false (null_side_never e a) refl)

  satisfy_never : (e : Expression) → IsAccepted k e → list_any is_fault (satisfy_answers k (push_not ∷ null_comparison ∷ []) e) ≡ false
  satisfy_never e a =
      or_from (is_fault (asked of_not push_not.satisfy k e)) (is_fault (asked of_binary null_comparison.satisfy k e) || false)
      (never_asked (eq_root of_not (root_of e)) (satisfier k (pushed_in e)) (satisfier_usable k (pushed_in e) (accepted_kept k e a).0))
      (or_from (is_fault (asked of_binary null_comparison.satisfy k e)) false (none_asked (eq_root of_binary (root_of e))) refl)

  -- ---- at each node that the rules get

  module _ (f : Expression → Bool) (at : (e : Expression) → IsAccepted k e → f e ≡ false) where
    of_two : (e x y : Expression) → IsAccepted k e → list_any f (handed_over x) ≡ false → list_any f (handed_over y) ≡ false → list_any f (e ∷ handed_over x ++ handed_over y) ≡ false
    of_two e x y a h g =
        or_from (f e) (list_any f (handed_over x ++ handed_over y)) (at e a)
        (any_append f (handed_over x) (handed_over y) ∙ or_from (list_any f (handed_over x)) (list_any f (handed_over y)) h g)

    of_one : (e : Expression) → IsAccepted k e → list_any f (e ∷ []) ≡ false
    of_one e a = or_from (f e) false (at e a) refl

    everywhere : (e : Expression) → IsAccepted k e → list_any f (handed_over e) ≡ false
    everywhere (both x y) a = let s = sides k x y a.0 in of_two (both x y) x y a (everywhere x s.0) (everywhere y s.1)
    everywhere (either x y) a = let s = sides k x y a.0 in of_two (either x y) x y a (everywhere x s.0) (everywhere y s.1)
    everywhere (between x lo hi s t) a =
        let low : Expression = compare (end_of s) lo x in let high : Expression = compare (end_of t) x hi in
        let whole : expression_fault k (both low high) ≡ None = ends_accepted k (end_of s) (end_of t) x lo hi s t a.0 in
        let parts = sides k low high whole in
        or_from (f (between x lo hi s t)) (list_any f (both low high ∷ low ∷ high ∷ [])) (at (between x lo hi s t) a)
        (or_from (f (both low high)) (list_any f (low ∷ high ∷ [])) (at (both low high) (whole, refl)) (or_from (f low) (list_any f (high ∷ [])) (at low parts.0) (of_one high parts.1)))
    everywhere (literal l c) a = of_one (literal l c) a
    everywhere (column xs) a = of_one (column xs) a
    everywhere (compare op x y) a = of_one (compare op x y) a
    everywhere (negation x) a = of_one (negation x) a
    everywhere (is_null x) a = of_one (is_null x) a
    everywhere (is_not_null x) a = of_one (is_not_null x) a
    everywhere (is_nan x) a = of_one (is_nan x) a
    everywhere (like x form n i) a = of_one (like x form n i) a
    everywhere row_count a = of_one row_count a
    everywhere (statistic x b) a = of_one (statistic x b) a

pub no_faults : (k : LogicalType) (e : Expression) → predicate_fault k e ≡ None →
    (is_fault (fals k (push_not ∷ null_comparison ∷ []) e) ≡ false) × (is_fault (sat k (push_not ∷ null_comparison ∷ []) e) ≡ false)
no_faults k e n =
    let two = both_faults k (push_not ∷ null_comparison ∷ []) e in let a = accepted_so k e n in
    (two.0 ∙ everywhere k (λ node. list_any is_fault (falsify_answers k (push_not ∷ null_comparison ∷ []) node)) (falsify_never k) e a, two.1 ∙ satisfy_never k e a)
