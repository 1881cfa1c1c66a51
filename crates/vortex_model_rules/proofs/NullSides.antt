-- A side that is null at each row by its null count makes the comparison's falsifier true.
use Rattle.std.proofs.Common.{◌≡◌, refl, sym, ◌∙◌, ap, pos, List, [], ◌∷◌, ◌++◌, length, map, Bool, true, false, ◌||◌, if◌then◌else◌, Option, Some, None, IfSome, ◌⊎◌, inl, inr}
use Rattle.std.specs.Ordering.{is_eq}
use Rattle.std.specs.List.{list_any}
use Rattle.std.specs.Option.{option_map_or}
use Rattle.std.proofs.lemmas.Cmp.{tied_itself, int_cmp_total}
use Rattle.std.proofs.lemmas.Bool.{or_left, or_right}
use Rattle.vortex_model.specs.LogicalType.{LogicalType}
use Rattle.vortex_model.specs.Content.{Content, boolean, integer}
use Rattle.vortex_model_table.specs.Expression.{Expression, literal, compare, either, row_count, statistic, Comparison, equal, null_count, all_null}
use Rattle.vortex_model_table.specs.Truth.{evaluate, is_true, compared}
use Rattle.vortex_model_table.specs.Rewrite.{boolean_literal, comparison_falsifiers, joined_proofs, either_there}
use Rattle.vortex_model_table.specs.Sound.{Placeholders, of_proof}
use Rattle.vortex_model_table.specs.Command.{predicate_fault, unless as refused_unless}
use Rattle.vortex_model.specs.Refusal.{unequal_types as unequal}
use Rattle.vortex_model_laws.proofs.Skipping.{truly}
use Rattle.vortex_model_rules.specs.Faults.{ProofFault, are_alike}
use Rattle.vortex_model_rules.specs.Rules.{proof, fault, is_fault, proofs_in, answer_of, judged, joined_answers, fals}
use Rattle.vortex_model_rules.specs.NullComparison.{only_nulls, null_comparison, IsCountedNull}
use Rattle.vortex_model_rules.proofs.Believed.{any_append, joined_any, true_or}
use Rattle.vortex_model_rules.proofs.NoFault.{side}
use Rattle.vortex_model_rules.proofs.PushNot.{accepted_so}
use Rattle.vortex_model_rules.proofs.Usable.{IsUsable, usable_faultless, two_none, either_there_usable}

one_behind : (ps : List Expression) (q : Expression) → joined_answers (map proof ps ++ proof q ∷ []) ≡ answer_of (joined_proofs (ps ++ q ∷ []))
one_behind ps q = (λ i. if no_fault ps i then fault else answer_of (joined_proofs (as_they_are ps i)))
  where
    no_fault : (ps : List Expression) → list_any is_fault (map proof ps ++ proof q ∷ []) ≡ false
    no_fault [] = refl
    no_fault (p ∷ ps) = no_fault ps

    as_they_are : (ps : List Expression) → proofs_in (map proof ps ++ proof q ∷ []) ≡ ps ++ q ∷ []
    as_they_are [] = refl
    as_they_are (p ∷ ps) = ap (λ qs. p ∷ qs) (as_they_are ps)

judged_so : (k : LogicalType) (p : Expression) → IsUsable k p → judged k (proof p) ≡ proof p
judged_so k p u = ap (λ (f : Option ProofFault). elim f [ None ↦ proof p | Some r ↦ fault ]) (usable_faultless k p u)

module _ (k : LogicalType) (given : Placeholders) (rows : List Content) where
  abbrev holds : Expression → Bool
  holds p = is_true (evaluate (of_proof given rows) p)

  or_holds : (x y : Expression) → holds (either x y) ≡ holds x || holds y
  or_holds x y = true_or (evaluate (of_proof given rows) x) (evaluate (of_proof given rows) y)

  -- the OR of all proofs is true where one of them is
  made : (zs : List Expression) → list_any holds zs ≡ true → (p : Expression) × (answer_of (joined_proofs zs) ≡ proof p) × (evaluate (of_proof given rows) p ≡ boolean true)
  made zs h = by_option (joined_proofs zs) refl
    where
      by_option : (o : Option Expression) → joined_proofs zs ≡ o → (p : Expression) × (answer_of (joined_proofs zs) ≡ proof p) × (evaluate (of_proof given rows) p ≡ boolean true)
      by_option None e = absurd (let z = sym (ap (λ o. option_map_or holds o false) e) ∙ joined_any holds or_holds zs ∙ h in cc (z))
      by_option (Some p) e = (p, ap answer_of e, truly (evaluate (of_proof given rows) p) (sym (ap (λ o. option_map_or holds o false) e) ∙ joined_any holds or_holds zs ∙ h))

  at_comparison : (ps : List Expression) (q : Expression) → IsUsable k q → holds q ≡ true →
      (p : Expression) × (joined_answers (map proof ps ++ judged k (proof q) ∷ []) ≡ proof p) × (evaluate (of_proof given rows) p ≡ boolean true)
  at_comparison ps q u h =
      let m = made (ps ++ q ∷ []) (any_append holds ps (q ∷ []) ∙ or_right (list_any holds ps) (list_any holds (q ∷ [])) (or_left (holds q) false h)) in
      (m.0, ap (λ a. joined_answers (map proof ps ++ a ∷ [])) (judged_so k q u) ∙ one_behind ps q ∙ m.1, m.2)

  with_either : (ps : List Expression) (o p : Option Expression) → IfSome (either_there o p) (IsUsable k) → option_map_or holds o false || option_map_or holds p false ≡ true →
      (r : Expression) × (joined_answers (map proof ps ++ judged k (answer_of (either_there o p)) ∷ []) ≡ proof r) × (evaluate (of_proof given rows) r ≡ boolean true)
  with_either ps (Some u) (Some v) usable h = at_comparison ps (either u v) usable (or_holds u v ∙ h)
  with_either ps (Some u) None usable h = at_comparison ps u usable (none_behind (holds u) h)
    where
      none_behind : (b : Bool) → b || false ≡ true → b ≡ true
      none_behind true e = refl
      none_behind false e = e
  with_either ps None (Some v) usable h = at_comparison ps v usable h
  with_either ps None None usable h = absurd (cc (h))

  counted : (c d : Content) → c ≡ integer (pos (length rows)) → is_true (compared equal c (integer (pos (length rows)))) ≡ true
  counted c d h = ap (λ e. is_true (compared equal e (integer (pos (length rows))))) h ∙ ap (λ o. is_eq o) (tied_itself int_cmp_total (pos (length rows)))

  side_holds : (x : Expression) → IsCountedNull given rows x → option_map_or holds (only_nulls k x) false ≡ true
  side_holds (literal l c) h = ap (λ b. option_map_or holds (if b then Some (boolean_literal true) else None) false) h
  side_holds x h =
      or_holds (compare equal (statistic x null_count) row_count) (statistic x all_null)
      ∙ or_left (holds (compare equal (statistic x null_count) row_count)) (holds (statistic x all_null)) (counted (given x null_count) (integer (pos (length rows))) h)

pub proved_null : (k : LogicalType) (op : Comparison) (x y : Expression) (given : Placeholders) (rows : List Content) → predicate_fault k (compare op x y) ≡ None →
    IsCountedNull given rows x ⊎ IsCountedNull given rows y →
    (p : Expression) × (fals k (null_comparison ∷ []) (compare op x y) ≡ proof p) × (evaluate (of_proof given rows) p ≡ boolean true)
proved_null k op x y given rows n h =
    let f = two_none k x y (refused_unless (are_alike k x y) unequal) (accepted_so k (compare op x y) n).0 in
    let a : Option Expression = only_nulls k x in let b : Option Expression = only_nulls k y in
    with_either k given rows (comparison_falsifiers k op x y) a b (either_there_usable k a b (side k x f.0) (side k y f.1)) (elim h [
      | inl l ↦ or_left (option_map_or (holds k given rows) a false) (option_map_or (holds k given rows) b false) (side_holds k given rows x l)
      | inr r ↦ or_right (option_map_or (holds k given rows) a false) (option_map_or (holds k given rows) b false) (side_holds k given rows y r)
    ])
