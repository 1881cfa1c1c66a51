-- Proofs joined by OR are sound where each of them is.
use Rattle.std.proofs.Common.{◌≡◌, refl, sym, ◌∙◌, ap, subst, ℕ, zero, suc, ◌+◌, ◌*◌, ◌≤◌, arith, List, [], ◌∷◌, ◌++◌, length, map, Bool, true, false, ◌||◌, if◌then◌else◌, Option, Some, None}
use Rattle.std.specs.List.{AllByRecursion, list_any}
use Rattle.std.specs.Option.{option_map_or}
use Rattle.vortex_model.specs.LogicalType.{LogicalType}
use Rattle.vortex_model.specs.Content.{Content, boolean}
use Rattle.vortex_model.specs.Valid.{IsContent}
use Rattle.vortex_model.proofs.Booleans.{or_false_left, or_false_right}
use Rattle.vortex_model_table.specs.Expression.{Expression, either, reads_columns}
use Rattle.vortex_model_table.specs.Truth.{evaluate, is_true, kleene_or}
use Rattle.vortex_model_table.specs.Rewrite.{paired, rounds, first_of_list, joined_proofs}
use Rattle.vortex_model_table.specs.Sound.{Placeholders, AreHonest, of_proof, Proves}
use Rattle.vortex_model_laws.proofs.Skipping.{truly}
use Rattle.vortex_model_rules.specs.Rules.{Answer, no_proof, proof, fault, is_fault, proofs_in, answer_of, joined_answers}

-- ---- predicates that hold of an OR exactly where they hold of a side

paired_short : (es : List Expression) → 2 * length (paired es) ≤ length es + 1
paired_short [] = omega arith
paired_short (x ∷ []) = omega arith
paired_short (x ∷ y ∷ es) = let h = paired_short es in omega (arith, h)

one_left : (n : ℕ) (es : List Expression) → length es ≤ n + 1 → length (rounds n es) ≤ 1
one_left zero es h = omega (arith, h)
one_left (suc n) es h = one_left n (paired es) (let s = paired_short es in omega (arith, h, s))

or_assoc : (b c d : Bool) → (b || c) || d ≡ b || (c || d)
or_assoc true c d = refl
or_assoc false c d = refl

or_nothing : (b : Bool) → b ≡ b || false
or_nothing true = refl
or_nothing false = refl

pub any_append : {X : Type 0} (f : X → Bool) (xs ys : List X) → list_any f (xs ++ ys) ≡ list_any f xs || list_any f ys
any_append f [] ys = refl
any_append f (x ∷ xs) ys = ap (λ b. f x || b) (any_append f xs ys) ∙ sym (or_assoc (f x) (list_any f xs) (list_any f ys))

module _ (f : Expression → Bool) (splits : (x y : Expression) → f (either x y) ≡ f x || f y) where
  paired_any : (es : List Expression) → list_any f (paired es) ≡ list_any f es
  paired_any [] = refl
  paired_any (x ∷ []) = refl
  paired_any (x ∷ y ∷ es) = (λ i. splits x y i || paired_any es i) ∙ or_assoc (f x) (f y) (list_any f es)

  rounds_any : (n : ℕ) (es : List Expression) → list_any f (rounds n es) ≡ list_any f es
  rounds_any zero es = refl
  rounds_any (suc n) es = rounds_any n (paired es) ∙ paired_any es

  first_any : (es : List Expression) → length es ≤ 1 → option_map_or f (first_of_list es) false ≡ list_any f es
  first_any [] h = refl
  first_any (x ∷ []) h = or_nothing (f x)
  first_any (x ∷ y ∷ es) h = absurd (omega (arith, h))

  -- it holds of the proofs joined exactly where it holds of one of them
  pub joined_any : (es : List Expression) → option_map_or f (joined_proofs es) false ≡ list_any f es
  joined_any es = first_any (rounds (length es) es) (one_left (length es) es (omega arith)) ∙ rounds_any (length es) es

pub true_or : (c d : Content) → is_true (kleene_or c d) ≡ is_true c || is_true d
true_or (boolean true) d = refl
true_or (boolean false) (boolean true) = refl
true_or (boolean false) (boolean false) = refl
true_or (boolean false) d = refl
true_or c (boolean true) = refl
true_or c (boolean false) = refl
true_or c d = refl

-- ---- sound proofs

-- C holds of rows of the type where the proof is true of them
abbrev pub Believed : LogicalType → (List Content → Type 0) → Expression → Type 0
Believed k C p = (rows : List Content) (given : Placeholders) → AllByRecursion (IsContent k) rows → AreHonest k rows given → Proves given rows p → C rows

-- the answer is `Believed`, where it is a proof
abbrev pub IsBelieved : LogicalType → (List Content → Type 0) → Answer → Type 0
IsBelieved k C no_proof = Unit {0}
IsBelieved k C (proof p) = Believed k C p
IsBelieved k C fault = Unit {0}

module _ (k : LogicalType) (C : List Content → Type 0) where
  pub believed_so : (a : Answer) → ((p : Expression) → a ≡ proof p → Believed k C p) → IsBelieved k C a
  believed_so no_proof h = tt
  believed_so (proof p) h = h p refl
  believed_so fault h = tt

  pub so_believed : (a : Answer) (p : Expression) → IsBelieved k C a → a ≡ proof p → Believed k C p
  so_believed a p h e = subst (IsBelieved k C) e h

  module _ (rows : List Content) (given : Placeholders) (typed : AllByRecursion (IsContent k) rows) (honest : AreHonest k rows given) where
    abbrev holds : Expression → Bool
    holds p = is_true (evaluate (of_proof given rows) p)

    holds_or : (x y : Expression) → holds (either x y) ≡ holds x || holds y
    holds_or x y = true_or (evaluate (of_proof given rows) x) (evaluate (of_proof given rows) y)

    reads_or : (x y : Expression) → reads_columns (either x y) ≡ reads_columns x || reads_columns y
    reads_or x y = refl

    one_of : (ps : List Expression) → AllByRecursion (Believed k C) ps → list_any reads_columns ps ≡ false → list_any holds ps ≡ true → C rows
    one_of [] all r t = absurd (cc (t))
    one_of (p ∷ ps) all r t = by_test (holds p) refl (λ u. one_of ps all.1 (or_false_right (reads_columns p) (list_any reads_columns ps) r) u)
      where
        by_test : (b : Bool) → holds p ≡ b → (list_any holds ps ≡ true → C rows) → C rows
        by_test true e next = all.0 rows given typed honest (or_false_left (reads_columns p) (list_any reads_columns ps) r, truly (evaluate (of_proof given rows) p) e)
        by_test false e next = next (sym (ap (λ b. b || list_any holds ps) e) ∙ t)

    -- of proofs that are sound once they are joined
    of_joined : (ps : List Expression) → ((p : Expression) → joined_proofs ps ≡ Some p → Believed k C p) → list_any reads_columns ps ≡ false → list_any holds ps ≡ true → C rows
    of_joined ps h r t = by_option (joined_proofs ps) refl
      where
        by_option : (o : Option Expression) → joined_proofs ps ≡ o → C rows
        by_option None e = absurd (let z = sym (ap (λ o. option_map_or holds o false) e) ∙ joined_any holds holds_or ps ∙ t in cc (z))
        by_option (Some p) e = h p e rows given typed honest (
          sym (ap (λ o. option_map_or reads_columns o false) e) ∙ joined_any reads_columns reads_or ps ∙ r,
          truly (evaluate (of_proof given rows) p) (sym (ap (λ o. option_map_or holds o false) e) ∙ joined_any holds holds_or ps ∙ t),
        )

    both_kinds : (built others : List Expression) → ((p : Expression) → joined_proofs built ≡ Some p → Believed k C p) → AllByRecursion (Believed k C) others →
        list_any reads_columns (built ++ others) ≡ false → list_any holds (built ++ others) ≡ true → C rows
    both_kinds built others h all r t = by_test (list_any holds built) refl
      where
        none : list_any reads_columns built || list_any reads_columns others ≡ false
        none = sym (any_append reads_columns built others) ∙ r

        by_test : (b : Bool) → list_any holds built ≡ b → C rows
        by_test true e = of_joined built h (or_false_left (list_any reads_columns built) (list_any reads_columns others) none) e
        by_test false e = one_of others all (or_false_right (list_any reads_columns built) (list_any reads_columns others) none)
            (sym (ap (λ b. b || list_any holds others) e) ∙ sym (any_append holds built others) ∙ t)

  -- where built-in proofs are sound once joined, and each of the others is, so are all of them
  -- joined
  joined_believed : (built others : List Expression) → ((p : Expression) → joined_proofs built ≡ Some p → Believed k C p) → AllByRecursion (Believed k C) others →
      (p : Expression) → joined_proofs (built ++ others) ≡ Some p → Believed k C p
  joined_believed built others h all p e rows given typed honest t =
      both_kinds rows given typed honest built others h all
      (sym (joined_any reads_columns (λ x y. refl) (built ++ others)) ∙ ap (λ o. option_map_or reads_columns o false) e ∙ t.0)
      (sym (joined_any (holds rows given typed honest) (holds_or rows given typed honest) (built ++ others)) ∙ ap (λ o. option_map_or (holds rows given typed honest) o false) e ∙ ap is_true t.1)

  -- ---- answers

  proofs_append : (xs ys : List Answer) → proofs_in (xs ++ ys) ≡ proofs_in xs ++ proofs_in ys
  proofs_append [] ys = refl
  proofs_append (no_proof ∷ xs) ys = proofs_append xs ys
  proofs_append (proof p ∷ xs) ys = ap (λ ps. p ∷ ps) (proofs_append xs ys)
  proofs_append (fault ∷ xs) ys = proofs_append xs ys

  each_proof : (xs : List Answer) → AllByRecursion (IsBelieved k C) xs → AllByRecursion (Believed k C) (proofs_in xs)
  each_proof [] h = tt
  each_proof (no_proof ∷ xs) h = each_proof xs h.1
  each_proof (proof p ∷ xs) h = (h.0, each_proof xs h.1)
  each_proof (fault ∷ xs) h = each_proof xs h.1

  is_some_proof : (o : Option Expression) (p : Expression) → answer_of o ≡ proof p → o ≡ Some p
  is_some_proof None p e = absurd (cc (e))
  is_some_proof (Some q) p e = let f : q ≡ p = cc (e) in ap (λ x. Some x) f

  pub joined_as : (xs : List Answer) (p : Expression) → joined_answers xs ≡ proof p → joined_proofs (proofs_in xs) ≡ Some p
  joined_as xs p e = by_test (list_any is_fault xs) e
    where
      by_test : (b : Bool) → (if b then fault else answer_of (joined_proofs (proofs_in xs))) ≡ proof p → joined_proofs (proofs_in xs) ≡ Some p
      by_test true e = absurd (cc (e))
      by_test false e = is_some_proof (joined_proofs (proofs_in xs)) p e

  -- the answer at a node, where callers' answers follow the built-in ones
  pub at_node : (built others : List Answer) → ((p : Expression) → joined_proofs (proofs_in built) ≡ Some p → Believed k C p) → AllByRecursion (IsBelieved k C) others →
      IsBelieved k C (joined_answers (built ++ others))
  at_node built others h all = believed_so (joined_answers (built ++ others)) (λ p e.
      joined_believed (proofs_in built) (proofs_in others) h (each_proof others all) p
      (ap joined_proofs (sym (proofs_append built others)) ∙ joined_as (built ++ others) p e))

  proofs_of : (ps : List Expression) → proofs_in (map proof ps) ≡ ps
  proofs_of [] = refl
  proofs_of (p ∷ ps) = ap (λ qs. p ∷ qs) (proofs_of ps)

  -- where the built-in answers are proofs
  pub at_proofs : (ps : List Expression) (others : List Answer) → ((p : Expression) → joined_proofs ps ≡ Some p → Believed k C p) → AllByRecursion (IsBelieved k C) others →
      IsBelieved k C (joined_answers (map proof ps ++ others))
  at_proofs ps others h all = at_node (map proof ps) others (λ p e. h p (sym (ap joined_proofs (proofs_of ps)) ∙ e)) all

  -- where the built-in answer is one
  pub at_answer : (a : Answer) (others : List Answer) → IsBelieved k C a → AllByRecursion (IsBelieved k C) others → IsBelieved k C (joined_answers (a ∷ others))
  at_answer a others h all = at_node (a ∷ []) others (alone a h) all
    where
      alone : (a : Answer) → IsBelieved k C a → (p : Expression) → joined_proofs (proofs_in (a ∷ [])) ≡ Some p → Believed k C p
      alone no_proof h p e = absurd (cc (e))
      alone (proof q) h p e = let f : q ≡ p = cc (e) in subst (Believed k C) f h
      alone fault h p e = absurd (cc (e))
