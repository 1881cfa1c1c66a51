-- A union is the first of two bounds by a finer comparison, in which an exact value comes before an
-- inexact one that equals it.
use Rattle.std.proofs.Common.{◌≡◌, refl, sym, ◌∙◌, ap, subst, Bool, true, true≢false, inl, inr, if◌then◌else◌, Option, Some, None, option_map, is_some}
use Rattle.std.specs.Option.{option_and_then}
use Rattle.std.specs.declared.cmp.Ordering.{Ordering}
use Rattle.std.specs.declared.cmp.Ordering.TheVariants.{Less, Equal, Greater}
use Rattle.std.specs.Ordering.{ordering_reverse, is_gt, is_eq, flip_args, is_some_and}
use Rattle.std.specs.Cmp.{po_right}
use Rattle.vortex_model_table.specs.Statistics.{Precision, exact, inexact, absent}
use Rattle.vortex_stats_bound.specs.Order.{Comparison, ties, IsLawful}
use Rattle.vortex_stats_bound.specs.Bounds.{first_unless_greater, lesser, lesser_of_both, union_lower, union_upper}
use Rattle.vortex_stats_bound.specs.Laws.{AreAlike, Agree, Commutes, ComparesInGroups, Passes, Associates}

-- ---- three consistent results of a comparison: of a to b, b to c and a to c

abbrev Chain : Option Ordering → Option Ordering → Option Ordering → Type 0
Chain None None o = Unit {0}
Chain None (Some y) o = o ≡ None
Chain (Some x) None o = o ≡ None
Chain (Some Equal) (Some y) o = o ≡ Some y
Chain (Some Less) (Some Less) o = o ≡ Some Less
Chain (Some Less) (Some Equal) o = o ≡ Some Less
Chain (Some Less) (Some Greater) o = is_some o ≡ true
Chain (Some Greater) (Some Less) o = is_some o ≡ true
Chain (Some Greater) (Some Equal) o = o ≡ Some Greater
Chain (Some Greater) (Some Greater) o = o ≡ Some Greater

-- ---- the first of three

module _ {X : Type 0} where
  left : Option Ordering → Option Ordering → Option Ordering → X → X → X → Option X
  left None o s p q r = None
  left (Some Greater) o s p q r = first_unless_greater o q r
  left (Some x) o s p q r = first_unless_greater s p r

  right : Option Ordering → Option Ordering → Option Ordering → X → X → X → Option X
  right o None s p q r = None
  right o (Some Greater) s p q r = first_unless_greater s p r
  right o (Some x) s p q r = first_unless_greater o p q

  meets : (o n s : Option Ordering) (p q r : X) → Chain o n s → left o n s p q r ≡ right o n s p q r
  unfolding left right
  meets None None s p q r h = refl
  meets None (Some Less) s p q r h = refl
  meets None (Some Equal) s p q r h = refl
  meets None (Some Greater) s p q r h = sym (ap (λ o. first_unless_greater o p r) h)
  meets (Some Less) None s p q r h = ap (λ o. first_unless_greater o p r) h
  meets (Some Equal) None s p q r h = ap (λ o. first_unless_greater o p r) h
  meets (Some Greater) None s p q r h = refl
  meets (Some Less) (Some Less) s p q r h = ap (λ o. first_unless_greater o p r) h
  meets (Some Less) (Some Equal) s p q r h = ap (λ o. first_unless_greater o p r) h
  meets (Some Less) (Some Greater) s p q r h = refl
  meets (Some Equal) (Some Less) s p q r h = ap (λ o. first_unless_greater o p r) h
  meets (Some Equal) (Some Equal) s p q r h = ap (λ o. first_unless_greater o p r) h
  meets (Some Equal) (Some Greater) s p q r h = refl
  meets (Some Greater) (Some Less) s p q r h = refl
  meets (Some Greater) (Some Equal) s p q r h = refl
  meets (Some Greater) (Some Greater) s p q r h = sym (ap (λ o. first_unless_greater o p r) h)

  module _ (K : Comparison X) where
    left_is : (o : Option Ordering) (p q r : X) →
        option_and_then (λ u. lesser K u r) (first_unless_greater o p q) ≡ left o (K q r) (K p r) p q r
    unfolding left
    left_is None p q r = refl
    left_is (Some Less) p q r = refl
    left_is (Some Equal) p q r = refl
    left_is (Some Greater) p q r = refl

    right_is : (o : Option Ordering) (p q r : X) →
        option_and_then (λ u. lesser K p u) (first_unless_greater o q r) ≡ right (K p q) o (K p r) p q r
    unfolding right
    right_is None p q r = refl
    right_is (Some Less) p q r = refl
    right_is (Some Equal) p q r = refl
    right_is (Some Greater) p q r = refl

    first_of_three : (p q r : X) → Chain (K p q) (K q r) (K p r) →
        option_and_then (λ u. lesser K u r) (lesser K p q) ≡ option_and_then (λ u. lesser K p u) (lesser K q r)
    first_of_three p q r h =
        left_is (K p q) p q r ∙ meets (K p q) (K q r) (K p r) p q r h ∙ sym (right_is (K q r) p q r)

-- ---- ties are broken by a second result

abbrev then_by : Option Ordering → Ordering → Option Ordering
then_by None f = None
then_by (Some Less) f = Some Less
then_by (Some Equal) f = Some f
then_by (Some Greater) f = Some Greater

still_some : (o : Option Ordering) (f : Ordering) → is_some o ≡ true → is_some (then_by o f) ≡ true
still_some None f h = h
still_some (Some Less) f h = refl
still_some (Some Equal) f h = refl
still_some (Some Greater) f h = refl

chained : (o n s : Option Ordering) (f g k : Ordering) → Chain o n s → Chain (Some f) (Some g) (Some k) →
    Chain (then_by o f) (then_by n g) (then_by s k)
chained None None s f g k h t = tt
chained None (Some Less) s f g k h t = ap (λ o. then_by o k) h
chained None (Some Equal) s f g k h t = ap (λ o. then_by o k) h
chained None (Some Greater) s f g k h t = ap (λ o. then_by o k) h
chained (Some Less) None s f g k h t = ap (λ o. then_by o k) h
chained (Some Equal) None s f g k h t = ap (λ o. then_by o k) h
chained (Some Greater) None s f g k h t = ap (λ o. then_by o k) h
chained (Some Less) (Some Less) s f g k h t = ap (λ o. then_by o k) h
chained (Some Less) (Some Equal) s f Less k h t = ap (λ o. then_by o k) h
chained (Some Less) (Some Equal) s f Equal k h t = ap (λ o. then_by o k) h
chained (Some Less) (Some Equal) s f Greater k h t = ap (λ o. is_some (then_by o k)) h
chained (Some Less) (Some Greater) s f g k h t = still_some s k h
chained (Some Equal) (Some Less) s Less g k h t = ap (λ o. then_by o k) h
chained (Some Equal) (Some Less) s Equal g k h t = ap (λ o. then_by o k) h
chained (Some Equal) (Some Less) s Greater g k h t = ap (λ o. is_some (then_by o k)) h
chained (Some Equal) (Some Equal) s f g k h t = subst (λ o. Chain (Some f) (Some g) (then_by o k)) (sym h) t
chained (Some Equal) (Some Greater) s Less g k h t = ap (λ o. is_some (then_by o k)) h
chained (Some Equal) (Some Greater) s Equal g k h t = ap (λ o. then_by o k) h
chained (Some Equal) (Some Greater) s Greater g k h t = ap (λ o. then_by o k) h
chained (Some Greater) (Some Less) s f g k h t = still_some s k h
chained (Some Greater) (Some Equal) s f Less k h t = ap (λ o. is_some (then_by o k)) h
chained (Some Greater) (Some Equal) s f Equal k h t = ap (λ o. then_by o k) h
chained (Some Greater) (Some Equal) s f Greater k h t = ap (λ o. then_by o k) h
chained (Some Greater) (Some Greater) s f g k h t = ap (λ o. then_by o k) h

none_of : (o : Option Ordering) → (is_some o ≡ true → ⊥) → o ≡ None
none_of None h = refl
none_of (Some o) h = absurd (h refl)

no_some : (o : Option Ordering) → o ≡ None → is_some o ≡ true → ⊥
no_some o e h = true≢false (sym h ∙ ap is_some e)

none_left : (o : Option Ordering) → Chain None o None
none_left None = tt
none_left (Some o) = refl

none_right : (o : Option Ordering) → Chain o None None
none_right None = tt
none_right (Some o) = refl

-- ---- the finer comparison

module _ {A : Type 0} where
  abbrev standing : Comparison A → Comparison (Precision A)
  standing C (exact a) (exact b) = then_by (C a b) Equal
  standing C (exact a) (inexact b) = then_by (C a b) Less
  standing C (inexact a) (exact b) = then_by (C a b) Greater
  standing C (inexact a) (inexact b) = then_by (C a b) Equal
  standing C p q = None

  all_first : (f : A → Precision A) (o : Option Ordering) (a b : A) →
      option_map f (first_unless_greater o a b) ≡ first_unless_greater (then_by o Equal) (f a) (f b)
  all_first f None a b = refl
  all_first f (Some Less) a b = refl
  all_first f (Some Equal) a b = refl
  all_first f (Some Greater) a b = refl

  -- as in `lesser_of_both`
  abbrev both_by : Option Ordering → A → A → Option (Precision A)
  both_by o e i = option_map (λ o. if is_gt o then inexact i else exact e) o

  exact_first : (o : Option Ordering) (e i : A) →
      both_by o e i ≡ first_unless_greater (then_by o Less) (exact e) (inexact i)
  exact_first None e i = refl
  exact_first (Some Less) e i = refl
  exact_first (Some Equal) e i = refl
  exact_first (Some Greater) e i = refl

  inexact_first : (o : Option Ordering) (e i : A) →
      both_by (option_map ordering_reverse o) e i ≡ first_unless_greater (then_by o Greater) (inexact i) (exact e)
  inexact_first None e i = refl
  inexact_first (Some Less) e i = refl
  inexact_first (Some Equal) e i = refl
  inexact_first (Some Greater) e i = refl

  module _ {C : Comparison A} (lawful : IsLawful C) where
    union_is : (p q : Precision A) → union_lower C p q ≡ lesser (standing C) p q
    union_is (exact a) (exact b) = all_first (λ v. exact v) (C a b) a b
    union_is (inexact a) (inexact b) = all_first (λ v. inexact v) (C a b) a b
    union_is (exact e) (inexact i) = exact_first (C e i) e i
    union_is (inexact i) (exact e) =
        ap (λ o. both_by o e i) (lawful.antisymm e i) ∙ inexact_first (C i e) e i
    union_is (exact a) absent = refl
    union_is (inexact a) absent = refl
    union_is absent (exact b) = refl
    union_is absent (inexact b) = refl
    union_is absent absent = refl

    -- ---- three values

    turned_some : (o : Option Ordering) → is_some (option_map ordering_reverse o) ≡ is_some o
    turned_some None = refl
    turned_some (Some o) = refl

    back : (a b : A) → is_some (C a b) ≡ true → is_some (C b a) ≡ true
    back a b h = ap is_some (lawful.antisymm b a) ∙ turned_some (C a b) ∙ h

    tied : (a b : A) → C a b ≡ Some Equal → ties C a b ≡ true
    tied a b e = ap (is_some_and is_eq) e

    module _ {passes : A → Bool} (grouped : ComparesInGroups C passes) where
      module _ (a b c : A) (x : passes a ≡ true) (y : passes b ≡ true) (z : passes c ≡ true) where
        chain_by : (o n : Option Ordering) → C a b ≡ o → C b c ≡ n → Chain o n (C a c)
        chain_by None None e f = tt
        chain_by None (Some n) e f =
            none_of (C a c) (λ h. no_some (C a b) e (grouped a c b x z y h (back b c (ap is_some f))))
        chain_by (Some o) None e f =
            none_of (C a c) (λ h. no_some (C b c) f (grouped b a c y x z (back a b (ap is_some e)) h))
        chain_by (Some Equal) (Some n) e f = lawful.congr a b c (tied a b e) ∙ f
        chain_by (Some Less) (Some Less) e f = lawful.trans a b c e f
        chain_by (Some Less) (Some Equal) e f = sym (po_right lawful b c a (tied b c f)) ∙ e
        chain_by (Some Less) (Some Greater) e f = grouped a b c x y z (ap is_some e) (ap is_some f)
        chain_by (Some Greater) (Some Less) e f = grouped a b c x y z (ap is_some e) (ap is_some f)
        chain_by (Some Greater) (Some Equal) e f = sym (po_right lawful b c a (tied b c f)) ∙ e
        chain_by (Some Greater) (Some Greater) e f =
            lawful.antisymm a c ∙ ap (option_map ordering_reverse) (lawful.trans c b a
            (lawful.antisymm c b ∙ ap (option_map ordering_reverse) f)
            (lawful.antisymm b a ∙ ap (option_map ordering_reverse) e))

        chain : (f g k : Ordering) → Chain (Some f) (Some g) (Some k) →
            Chain (then_by (C a b) f) (then_by (C b c) g) (then_by (C a c) k)
        chain f g k t = chained (C a b) (C b c) (C a c) f g k (chain_by (C a b) (C b c) refl refl) t

      standings : (p q r : Precision A) → Passes passes p → Passes passes q → Passes passes r →
          Chain (standing C p q) (standing C q r) (standing C p r)
      standings (exact a) (exact b) (exact c) x y z = chain a b c (x a refl) (y b refl) (z c refl) Equal Equal Equal refl
      standings (exact a) (exact b) (inexact c) x y z = chain a b c (x a refl) (y b refl) (z c refl) Equal Less Less refl
      standings (exact a) (inexact b) (exact c) x y z = chain a b c (x a refl) (y b refl) (z c refl) Less Greater Equal refl
      standings (exact a) (inexact b) (inexact c) x y z = chain a b c (x a refl) (y b refl) (z c refl) Less Equal Less refl
      standings (inexact a) (exact b) (exact c) x y z = chain a b c (x a refl) (y b refl) (z c refl) Greater Equal Greater refl
      standings (inexact a) (exact b) (inexact c) x y z = chain a b c (x a refl) (y b refl) (z c refl) Greater Less Equal refl
      standings (inexact a) (inexact b) (exact c) x y z = chain a b c (x a refl) (y b refl) (z c refl) Equal Greater Greater refl
      standings (inexact a) (inexact b) (inexact c) x y z = chain a b c (x a refl) (y b refl) (z c refl) Equal Equal Equal refl
      standings absent q r x y z = none_left (standing C q r)
      standings (exact a) absent r x y z = tt
      standings (inexact a) absent r x y z = tt
      standings (exact a) (exact b) absent x y z = none_right (standing C (exact a) (exact b))
      standings (exact a) (inexact b) absent x y z = none_right (standing C (exact a) (inexact b))
      standings (inexact a) (exact b) absent x y z = none_right (standing C (inexact a) (exact b))
      standings (inexact a) (inexact b) absent x y z = none_right (standing C (inexact a) (inexact b))

      associates : Associates passes (union_lower C)
      associates p q r x y z =
          (λ i. option_and_then (λ u. union_is u r i) (union_is p q i))
          ∙ first_of_three (standing C) p q r (standings p q r x y z)
          ∙ sym (λ i. option_and_then (λ u. union_is p u i) (union_is q r i))

    -- ---- commutativity

    exact_alike : (o : Option Ordering) (a b : A) → C a b ≡ o →
        AreAlike (Agree C) (option_map (λ v. exact v) (first_unless_greater o a b)) (option_map (λ v. exact v) (first_unless_greater (option_map ordering_reverse o) b a))
    exact_alike None a b e = tt
    exact_alike (Some Less) a b e = inl refl
    exact_alike (Some Equal) a b e = inr e
    exact_alike (Some Greater) a b e = inl refl

    inexact_alike : (o : Option Ordering) (a b : A) → C a b ≡ o →
        AreAlike (Agree C) (option_map (λ v. inexact v) (first_unless_greater o a b)) (option_map (λ v. inexact v) (first_unless_greater (option_map ordering_reverse o) b a))
    inexact_alike None a b e = tt
    inexact_alike (Some Less) a b e = inl refl
    inexact_alike (Some Equal) a b e = inr e
    inexact_alike (Some Greater) a b e = inl refl

    itself : (m : Option (Precision A)) → AreAlike (Agree C) m m
    itself None = tt
    itself (Some (exact a)) = inl refl
    itself (Some (inexact a)) = inl refl
    itself (Some absent) = tt

    commutes : Commutes (Agree C) (union_lower C)
    commutes (exact a) (exact b) =
        subst (λ o. AreAlike (Agree C) (union_lower C (exact a) (exact b)) (option_map (λ v. exact v) (first_unless_greater o b a)))
        (sym (lawful.antisymm b a)) (exact_alike (C a b) a b refl)
    commutes (inexact a) (inexact b) =
        subst (λ o. AreAlike (Agree C) (union_lower C (inexact a) (inexact b)) (option_map (λ v. inexact v) (first_unless_greater o b a)))
        (sym (lawful.antisymm b a)) (inexact_alike (C a b) a b refl)
    commutes (exact e) (inexact i) = itself (lesser_of_both C e i)
    commutes (inexact i) (exact e) = itself (lesser_of_both C e i)
    commutes (exact a) absent = tt
    commutes (inexact a) absent = tt
    commutes absent (exact b) = tt
    commutes absent (inexact b) = tt
    commutes absent absent = tt

  -- ---- upper bounds

  turned : {C : Comparison A} → IsLawful C → IsLawful (flip_args C)
  turned o = record {
    antisymm = λ x y. o.antisymm y x;
    trans = λ x y z h k. o.trans z y x k h;
    matches_eq = λ x y. o.matches_eq y x;
    congr = λ x y z e. sym (po_right o y x z e);
  }

  pub alike_by : {R S : A → A → Type 0} → ((a b : A) → R a b → S a b) →
      (m n : Option (Precision A)) → AreAlike R m n → AreAlike S m n
  alike_by f None None h = tt
  alike_by f (Some (exact a)) (Some (exact b)) h = f a b h
  alike_by f (Some (inexact a)) (Some (inexact b)) h = f a b h
  alike_by f (Some absent) (Some absent) h = tt
  alike_by f m n h = absurd h

  pub lower_commute : {C : Comparison A} → IsLawful C → Commutes (Agree C) (union_lower C)
  lower_commute lawful = commutes lawful

  pub lower_associate : {C : Comparison A} → IsLawful C → (passes : A → Bool) →
      ComparesInGroups C passes → Associates passes (union_lower C)
  lower_associate lawful passes grouped = associates lawful grouped

  pub upper_commute : {C : Comparison A} → IsLawful C → Commutes (Agree C) (union_upper C)
  upper_commute {C} lawful p q = alike_by agree _ _ (commutes (turned lawful) p q)
    where
      agree : (a b : A) → Agree (flip_args C) a b → Agree C a b
      agree a b (inl e) = inl e
      agree a b (inr e) = inr (lawful.antisymm a b ∙ ap (option_map ordering_reverse) e)

  pub upper_associate : {C : Comparison A} → IsLawful C → (passes : A → Bool) →
      ComparesInGroups C passes → Associates passes (union_upper C)
  upper_associate lawful passes grouped =
      associates (turned lawful) (λ a b c x y z h k. grouped c b a z y x k h)
