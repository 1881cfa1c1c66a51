-- The order of bounds, in which the first of several is that of the firsts of their parts.
use Rattle.std.proofs.Common.{◌≡◌, refl, sym, ◌∙◌, ap, subst, List, ◌++◌, true, false, ◌⊎◌, inl, inr, Option, Some, None, option_map, is_some, if◌then◌else◌}
use Rattle.std.specs.List.Sorted.{IsPermutation}
use Rattle.std.specs.declared.cmp.Ordering.{Ordering}
use Rattle.std.specs.declared.cmp.Ordering.TheVariants.{Less, Equal, Greater}
use Rattle.std.specs.Ordering.{ordering_reverse, is_le, is_lt, is_gt, flip_args}
use Rattle.std.proofs.lemmas.List.Elements.{All-append, All-contains, All-weaker, Contains-append_left, Contains-append_right}
use Rattle.std.proofs.lemmas.List.Sorted.{Contains-permutation, IsPermutation-sym}
use Rattle.vortex_model.specs.Content.{Content}
use Rattle.vortex_model.specs.Order.{content_cmp, is_known}
use Rattle.vortex_model_table.specs.Statistics.{Precision, exact, inexact, absent}
use Rattle.vortex_model_table.proofs.Chains.{tied, not_above_chain}
use Rattle.vortex_model_table.proofs.ContentOrder.{reversed}
use Rattle.vortex_stats_bound.specs.Order.{Comparison}
use Rattle.vortex_stats_bound.specs.Bounds.{union_lower, first_unless_greater}
use Rattle.example_catalogue.specs.Bounds.{stands, IsFirst}

abbrev pub or_absent : Option (Precision Content) → Precision Content
or_absent None = absent
or_absent (Some p) = p

-- the values of the two, if both have one, compare
abbrev pub Compares : Comparison Content → Precision Content → Precision Content → Type 0
Compares C (exact a) (exact b) = is_some (C a b) ≡ true
Compares C (exact a) (inexact b) = is_some (C a b) ≡ true
Compares C (inexact a) (exact b) = is_some (C a b) ≡ true
Compares C (inexact a) (inexact b) = is_some (C a b) ≡ true
Compares C p q = Unit {0}

never : false ≡ true → ⊥
never e = cc (e)

strictly : (o : Option Ordering) → is_known is_le o ≡ true → (o ≡ Some Equal → ⊥) →
    is_known is_lt o ≡ true
strictly None h g = absurd (never h)
strictly (Some Less) h g = refl
strictly (Some Equal) h g = absurd (g refl)
strictly (Some Greater) h g = absurd (never h)

weakly : (o : Option Ordering) → is_known is_lt o ≡ true → is_known is_le o ≡ true
weakly None h = h
weakly (Some Less) h = refl
weakly (Some Equal) h = absurd (never h)
weakly (Some Greater) h = absurd (never h)

no_turn : (o : Option Ordering) → is_known is_lt o ≡ true →
    is_known is_le (option_map ordering_reverse o) ≡ true → ⊥
no_turn None h g = never h
no_turn (Some Less) h g = never g
no_turn (Some Equal) h g = never h
no_turn (Some Greater) h g = never h

module _ (C : Comparison Content)
    (chain : (a b c : Content) → is_known is_le (C a b) ≡ true → is_known is_le (C b c) ≡ true →
    is_known is_le (C a c) ≡ true)
    (turned : (a b : Content) → C b a ≡ option_map ordering_reverse (C a b))
    (same : (a b : Content) → C a b ≡ Some Equal → a ≡ b) where
  abbrev Le : Content → Content → Type 0
  Le a b = is_known is_le (C a b) ≡ true

  abbrev Lt : Content → Content → Type 0
  Lt a b = is_known is_lt (C a b) ≡ true

  clash : (a b : Content) → Le a b → Lt b a → ⊥
  clash a b h g = no_turn (C b a) g (ap (is_known is_le) (sym (turned b a)) ∙ h)

  both : (a b : Content) → Le a b → Le b a → a ≡ b
  both a b h g = by_order (C a b) refl
    where
      by_order : (o : Option Ordering) → C a b ≡ o → a ≡ b
      by_order None e = absurd (never (ap (is_known is_le) (sym e) ∙ h))
      by_order (Some Less) e = absurd (clash b a g (ap (is_known is_lt) e))
      by_order (Some Equal) e = same a b e
      by_order (Some Greater) e = absurd (never (ap (is_known is_le) (sym e) ∙ h))

  le_lt : (a b c : Content) → Le a b → Lt b c → Lt a c
  le_lt a b c h g =
      strictly (C a c) (chain a b c h (weakly (C b c) g)) (λ e. clash c b (subst (λ x. Le x b)
      (same a c e) h) g)

  lt_le : (a b c : Content) → Lt a b → Le b c → Lt a c
  lt_le a b c h g =
      strictly (C a c) (chain a b c (weakly (C a b) h) g) (λ e. clash b a (subst (λ x. Le b x)
      (sym (same a c e)) g) h)

  abbrev Stands : Precision Content → Precision Content → Type 0
  Stands p q = stands C p q ≡ true

  through : (p q r : Precision Content) → Stands p q → Stands q r → Stands p r
  through absent q r h g = refl
  through (exact a) (exact b) (exact c) h g = chain a b c h g
  through (exact a) (exact b) (inexact c) h g = chain a b c h g
  through (exact a) (inexact b) (exact c) h g = weakly (C a c) (le_lt a b c h g)
  through (exact a) (inexact b) (inexact c) h g = chain a b c h g
  through (inexact a) (exact b) (exact c) h g = lt_le a b c h g
  through (inexact a) (exact b) (inexact c) h g = weakly (C a c) (lt_le a b c h g)
  through (inexact a) (inexact b) (exact c) h g = le_lt a b c h g
  through (inexact a) (inexact b) (inexact c) h g = chain a b c h g
  through (exact a) absent r h g = absurd (never h)
  through (inexact a) absent r h g = absurd (never h)
  through (exact a) (exact b) absent h g = absurd (never g)
  through (exact a) (inexact b) absent h g = absurd (never g)
  through (inexact a) (exact b) absent h g = absurd (never g)
  through (inexact a) (inexact b) absent h g = absurd (never g)

  alone : (p q : Precision Content) → Stands p q → Stands q p → p ≡ q
  alone absent absent h g = refl
  alone absent (exact b) h g = absurd (never g)
  alone absent (inexact b) h g = absurd (never g)
  alone (exact a) absent h g = absurd (never h)
  alone (inexact a) absent h g = absurd (never h)
  alone (exact a) (exact b) h g = ap (λ x. exact x) (both a b h g)
  alone (exact a) (inexact b) h g = absurd (clash a b h g)
  alone (inexact a) (exact b) h g = absurd (clash b a g h)
  alone (inexact a) (inexact b) h g = ap (λ x. inexact x) (both a b h g)

  again : (a : Content) → is_some (C a a) ≡ true → Le a a
  again a h = by_order (C a a) refl
    where
      by_order : (o : Option Ordering) → C a a ≡ o → Le a a
      by_order None e = absurd (never (ap is_some (sym e) ∙ h))
      by_order (Some Less) e = ap (is_known is_le) e
      by_order (Some Equal) e = ap (is_known is_le) e
      by_order (Some Greater) e =
          ap (is_known is_le) (turned a a ∙ ap (option_map ordering_reverse) e)

  pub itself : (p : Precision Content) → Compares C p p → Stands p p
  itself absent h = refl
  itself (exact a) h = again a h
  itself (inexact a) h = again a h

  -- the union is one of the two, and comes before the other
  abbrev Picks : Precision Content → Precision Content → Precision Content → Type 0
  Picks p q r = ((r ≡ p) × Stands p q) ⊎ ((r ≡ q) × Stands q p)

  back : (a b : Content) → C a b ≡ Some Greater → Lt b a
  back a b e = ap (is_known is_lt) (turned a b ∙ ap (option_map ordering_reverse) e)

  none_clash : (A : Type 0) (o : Option Ordering) → o ≡ None → is_some o ≡ true → A
  none_clash A o e h = absurd (never (ap is_some (sym e) ∙ h))

  abbrev united : Precision Content → Precision Content → Precision Content
  united p q = or_absent (union_lower C p q)

  abbrev all_exact : Content → Content → Option Ordering → Precision Content
  all_exact a b o = or_absent (option_map (λ v. exact v) (first_unless_greater o a b))

  abbrev all_inexact : Content → Content → Option Ordering → Precision Content
  all_inexact a b o = or_absent (option_map (λ v. inexact v) (first_unless_greater o a b))

  abbrev one_exact : Content → Content → Option Ordering → Precision Content
  one_exact e i o = or_absent (option_map (λ x. if is_gt x then inexact i else exact e) o)

  picked : (p q : Precision Content) → Compares C p q → Picks p q (united p q)
  picked absent absent h = inl (refl, refl)
  picked absent (exact b) h = inl (refl, refl)
  picked absent (inexact b) h = inl (refl, refl)
  picked (exact a) absent h = inr (refl, refl)
  picked (inexact a) absent h = inr (refl, refl)
  picked (exact a) (exact b) h = by_order (C a b) refl
    where
      by_order : (o : Option Ordering) → C a b ≡ o → Picks (exact a) (exact b) (united (exact a) (exact b))
      by_order None e = none_clash _ (C a b) e h
      by_order (Some Less) e = inl (ap (all_exact a b) e, ap (is_known is_le) e)
      by_order (Some Equal) e = inl (ap (all_exact a b) e, ap (is_known is_le) e)
      by_order (Some Greater) e = inr (ap (all_exact a b) e, weakly (C b a) (back a b e))
  picked (inexact a) (inexact b) h = by_order (C a b) refl
    where
      by_order : (o : Option Ordering) → C a b ≡ o → Picks (inexact a) (inexact b) (united (inexact a) (inexact b))
      by_order None e = none_clash _ (C a b) e h
      by_order (Some Less) e = inl (ap (all_inexact a b) e, ap (is_known is_le) e)
      by_order (Some Equal) e = inl (ap (all_inexact a b) e, ap (is_known is_le) e)
      by_order (Some Greater) e = inr (ap (all_inexact a b) e, weakly (C b a) (back a b e))
  picked (exact a) (inexact b) h = by_order (C a b) refl
    where
      by_order : (o : Option Ordering) → C a b ≡ o → Picks (exact a) (inexact b) (united (exact a) (inexact b))
      by_order None e = none_clash _ (C a b) e h
      by_order (Some Less) e = inl (ap (one_exact a b) e, ap (is_known is_le) e)
      by_order (Some Equal) e = inl (ap (one_exact a b) e, ap (is_known is_le) e)
      by_order (Some Greater) e = inr (ap (one_exact a b) e, back a b e)
  picked (inexact a) (exact b) h = by_order (C b a) refl
    where
      by_order : (o : Option Ordering) → C b a ≡ o → Picks (inexact a) (exact b) (united (inexact a) (exact b))
      by_order None e = none_clash _ (C a b) (turned b a ∙ ap (option_map ordering_reverse) e) h
      by_order (Some Less) e = inr (ap (one_exact b a) e, ap (is_known is_le) e)
      by_order (Some Equal) e = inr (ap (one_exact b a) e, ap (is_known is_le) e)
      by_order (Some Greater) e = inl (ap (one_exact b a) e, back b a e)

  pub first_of_both : (ps qs : List (Precision Content)) (p q : Precision Content) →
      IsFirst C ps p → IsFirst C qs q → Compares C p q → IsFirst C (ps ++ qs) (united p q)
  first_of_both ps qs p q h g k = by_choice (picked p q k)
    where
      by_choice : Picks p q (united p q) → IsFirst C (ps ++ qs) (united p q)
      by_choice (inl s) = subst (IsFirst C (ps ++ qs)) (sym s.0) (
        Contains-append_left ps qs p h.0,
        All-append (λ x. stands C p x ≡ true) ps qs h.1
            (All-weaker (λ x. stands C q x ≡ true) (λ x. stands C p x ≡ true) (λ x t. through p q x s.1 t) qs g.1),
      )
      by_choice (inr s) = subst (IsFirst C (ps ++ qs)) (sym s.0) (
        Contains-append_right ps qs q g.0,
        All-append (λ x. stands C q x ≡ true) ps qs
            (All-weaker (λ x. stands C p x ≡ true) (λ x. stands C q x ≡ true) (λ x t. through q p x s.1 t) ps h.1) g.1,
      )

  pub same_first : (ps qs : List (Precision Content)) (p q : Precision Content) →
      IsPermutation ps qs → IsFirst C ps p → IsFirst C qs q → p ≡ q
  same_first ps qs p q order h g =
      alone p q
      (All-contains (λ x. stands C p x ≡ true) ps q h.1 (Contains-permutation qs ps q
      (IsPermutation-sym ps qs order) g.0))
      (All-contains (λ x. stands C q x ≡ true) qs p g.1 (Contains-permutation ps qs p order h.0))

-- ---- both ways

abbrev pub turned_cmp : Comparison Content
turned_cmp = flip_args content_cmp

pub low_itself : (p : Precision Content) → Compares content_cmp p p → stands content_cmp p p ≡ true
low_itself p h = itself content_cmp not_above_chain reversed tied p h

pub high_itself : (p : Precision Content) → Compares turned_cmp p p → stands turned_cmp p p ≡ true
high_itself p h = itself turned_cmp (λ a b c h g. not_above_chain c b a g h) (λ a b. reversed b a) (λ a b e. sym (tied b a e)) p h

pub lowest_of_both : (ps qs : List (Precision Content)) (p q : Precision Content) →
    IsFirst content_cmp ps p → IsFirst content_cmp qs q → Compares content_cmp p q →
    IsFirst content_cmp (ps ++ qs) (or_absent (union_lower content_cmp p q))
lowest_of_both ps qs p q h g k = first_of_both content_cmp not_above_chain reversed tied ps qs p q h g k

pub highest_of_both : (ps qs : List (Precision Content)) (p q : Precision Content) →
    IsFirst turned_cmp ps p → IsFirst turned_cmp qs q → Compares turned_cmp p q →
    IsFirst turned_cmp (ps ++ qs) (or_absent (union_lower turned_cmp p q))
highest_of_both ps qs p q h g k = first_of_both turned_cmp (λ a b c h g. not_above_chain c b a g h) (λ a b. reversed b a) (λ a b e. sym (tied b a e)) ps qs p q h g k

pub same_lowest : (ps qs : List (Precision Content)) (p q : Precision Content) →
    IsPermutation ps qs → IsFirst content_cmp ps p → IsFirst content_cmp qs q → p ≡ q
same_lowest ps qs p q order h g = same_first content_cmp not_above_chain reversed tied ps qs p q order h g

pub same_highest : (ps qs : List (Precision Content)) (p q : Precision Content) →
    IsPermutation ps qs → IsFirst turned_cmp ps p → IsFirst turned_cmp qs q → p ≡ q
same_highest ps qs p q order h g = same_first turned_cmp (λ a b c h g. not_above_chain c b a g h) (λ a b. reversed b a) (λ a b e. sym (tied b a e)) ps qs p q order h g
