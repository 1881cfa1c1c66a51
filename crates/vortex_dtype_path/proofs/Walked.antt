-- The nodes that steps lead to, before and after one more edge.
use Rattle.std.proofs.Common.{◌⊎◌, inl, inr, ◌≡◌, refl, sym, ap, subst, ◌∙◌, ◌<◌, ℕ, List, [], ◌∷◌, ◌++◌, Option, Some, None}
use Rattle.vortex_model.specs.Path.{Step}
use Rattle.vortex_dtype_path.specs.Tree.{walk}

pub walk-append : (next : ℕ → Step → Option ℕ) (o : Option ℕ) (p q : List Step) → walk next o (p ++ q) ≡ walk next (walk next o p) q
walk-append next None [] q = refl
walk-append next None (s ∷ p) q = refl
walk-append next (Some i) [] q = refl
walk-append next (Some i) (s ∷ p) q = walk-append next (next i s) p q

-- one more step
pub walked_on : (next : ℕ → Step → Option ℕ) (p : List Step) (s : Step) (i k : ℕ) (o : Option ℕ) → walk next (Some i) p ≡ Some k → next k s ≡ o → walk next (Some i) (p ++ s ∷ []) ≡ o
walked_on next p s i k None e h = walk-append next (Some i) p (s ∷ []) ∙ ap (λ o. walk next o (s ∷ [])) e ∙ ap (λ o. walk next o []) h
walked_on next p s i k (Some j) e h = walk-append next (Some i) p (s ∷ []) ∙ ap (λ o. walk next o (s ∷ [])) e ∙ ap (λ o. walk next o []) h

-- `g` has each edge of `f`
abbrev pub Widens : (ℕ → Step → Option ℕ) → (ℕ → Step → Option ℕ) → Type 0
Widens f g = (i : ℕ) (s : Step) (k : ℕ) → f i s ≡ Some k → g i s ≡ Some k

widened_on : (f g : ℕ → Step → Option ℕ) (i : ℕ) (s : Step) (p : List Step) (k : ℕ) (o : Option ℕ) → f i s ≡ o → Widens f g → walk f o p ≡ Some k →
    ((j : ℕ) → walk f (Some j) p ≡ Some k → walk g (Some j) p ≡ Some k) → walk g (g i s) p ≡ Some k
widened_on f g i s p k None q w e rest = absurd (cc (e))
widened_on f g i s p k (Some j) q w e rest = ap (λ o. walk g o p) (w i s j q) ∙ rest j e

pub widened : (f g : ℕ → Step → Option ℕ) → Widens f g → (p : List Step) (i k : ℕ) → walk f (Some i) p ≡ Some k → walk g (Some i) p ≡ Some k
widened f g w [] i k e = e
widened f g w (s ∷ p) i k e = widened_on f g i s p k (f i s) refl w e (λ j h. widened f g w p j k h)

-- `g` has each edge of `f`, and one more, to a node without edges
pub record Grows (f g : ℕ → Step → Option ℕ) (at : ℕ) (s : Step) (n : ℕ) : Type 0 where
  pub wider : Widens f g
  pub only : (i : ℕ) (t : Step) (k : ℕ) → g i t ≡ Some k → (f i t ≡ Some k) ⊎ ((i ≡ at) × (s ≡ t) × (k ≡ n))
  pub leads : g at s ≡ Some n
  pub last : (t : Step) → g n t ≡ None

abbrev pub NewEnd : (ℕ → Step → Option ℕ) → ℕ → Step → ℕ → ℕ → List Step → ℕ → Type 0
NewEnd f at s n i p k = (k ≡ n) × ((r : List Step) × (walk f (Some i) r ≡ Some at) × (p ≡ r ++ s ∷ []))

ends_there : (f g : ℕ → Step → Option ℕ) (at : ℕ) (s : Step) (n : ℕ) → Grows f g at s n → (p : List Step) (i k j : ℕ) (t : Step) → i ≡ at → s ≡ t → j ≡ n → walk g (Some j) p ≡ Some k → NewEnd f at s n i (t ∷ p) k
ends_there f g at s n w [] i k j t a b c e =
    let same : k ≡ n = cc (c, e) in
    (same, ([], ap Some a, λ x. sym b x ∷ []))
ends_there f g at s n w (u ∷ p) i k j t a b c e =
    let none : g j u ≡ None = ap (λ m. g m u) c ∙ w.last u in
    absurd (cc (sym (ap (λ o. walk g o p) none) ∙ e))

grown_on : (f g : ℕ → Step → Option ℕ) (at : ℕ) (s : Step) (n : ℕ) → Grows f g at s n → (p : List Step) (i k : ℕ) (t : Step) (o : Option ℕ) → g i t ≡ o → walk g o p ≡ Some k →
    ((j : ℕ) → walk g (Some j) p ≡ Some k → (walk f (Some j) p ≡ Some k) ⊎ NewEnd f at s n j p k) → (walk f (f i t) p ≡ Some k) ⊎ NewEnd f at s n i (t ∷ p) k
grown_on f g at s n w p i k t None q e rest = absurd (cc (e))
grown_on f g at s n w p i k t (Some j) q e rest =
    elim (w.only i t j q) [
      | inl old ↦ elim (rest j e) [
        | inl h ↦ inl (ap (λ o. walk f o p) old ∙ h)
        | inr new ↦ inr (new.0, (t ∷ new.1.0, ap (λ o. walk f o new.1.0) old ∙ new.1.1, ap (λ l. t ∷ l) new.1.2))
      ]
      | inr here ↦ inr (ends_there f g at s n w p i k j t here.0 here.1 here.2 e)
    ]

pub grown : (f g : ℕ → Step → Option ℕ) (at : ℕ) (s : Step) (n : ℕ) → Grows f g at s n → (p : List Step) (i k : ℕ) → walk g (Some i) p ≡ Some k → (walk f (Some i) p ≡ Some k) ⊎ NewEnd f at s n i p k
grown f g at s n w [] i k e = inl e
grown f g at s n w (t ∷ p) i k e = grown_on f g at s n w p i k t (g i t) refl e (λ j h. grown f g at s n w p j k h)

-- all nodes on a way are below n
inside_on : (f : ℕ → Step → Option ℕ) (n i : ℕ) (s : Step) (p : List Step) (k : ℕ) (o : Option ℕ) → f i s ≡ o → ((i : ℕ) (s : Step) (k : ℕ) → f i s ≡ Some k → k < n) → walk f o p ≡ Some k →
    ((j : ℕ) → j < n → walk f (Some j) p ≡ Some k → k < n) → k < n
inside_on f n i s p k None q l e rest = absurd (cc (e))
inside_on f n i s p k (Some j) q l e rest = rest j (l i s j q) e

some_same : (i k n : ℕ) → Some i ≡ Some k → i < n → k < n
some_same i k n e h = let same : i ≡ k = cc (e) in subst (λ m. m < n) same h

pub ends_inside : (f : ℕ → Step → Option ℕ) (n : ℕ) → ((i : ℕ) (s : Step) (k : ℕ) → f i s ≡ Some k → k < n) → (p : List Step) (i k : ℕ) → i < n → walk f (Some i) p ≡ Some k → k < n
ends_inside f n l [] i k h e = some_same i k n e h
ends_inside f n l (s ∷ p) i k h e = inside_on f n i s p k (f i s) refl l e (λ j hj ej. ends_inside f n l p j k hj ej)
