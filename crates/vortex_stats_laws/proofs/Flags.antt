-- Whether the rows of two sides are constant or sorted.
use Rattle.std.proofs.Common.{◌≡◌, refl, sym, ◌∙◌, ap, subst, List, [], ◌∷◌, ◌++◌, Bool, true, false, not, cond, ◌&&◌, Option, Some, None, option_map, ◌⊎◌, inl, inr, true≢false}
use Rattle.std.specs.List.{list_all}
use Rattle.std.specs.declared.cmp.Ordering.{Ordering}
use Rattle.std.specs.declared.cmp.Ordering.TheVariants.{Less, Equal, Greater}
use Rattle.std.specs.Ordering.{is_le, is_lt, ordering_reverse}
use Rattle.std.specs.Cmp.{first_so, second_so}
use Rattle.std.proofs.lemmas.Bool.{false_from_ne_true}
use Rattle.vortex_model.specs.Content.{Content, Raw, raw_boolean, content_of, is_null, equal_content}
use Rattle.vortex_model.specs.Order.{content_cmp, is_known}
use Rattle.vortex_model_table.specs.Statistics.{Precision, exact, inexact, absent, non_null, is_constant, is_at_most, is_below, in_turn, IsHonestValue}
use Rattle.vortex_model_table.proofs.Chains.{tied, not_above_chain}
use Rattle.vortex_model_table.proofs.ContentOrder.{reversed}
use Rattle.vortex_model_table.proofs.Equality.{content_so, content_passes}
use Rattle.vortex_model_laws.proofs.Groups.{among_left, among_right}
use Rattle.vortex_model_laws.proofs.Honesty.{Among, all_among}
use Rattle.vortex_model_laws.proofs.Leasts.{at_most_both}
use Rattle.vortex_scalar_ops.specs.Equality.{eq_content}
use Rattle.vortex_scalar_ops.proofs.EqualityLemmas.{eq_equiv}
use Rattle.vortex_scalar_ops.proofs.Ordered.{alike}
use Rattle.vortex_stats_bound.specs.Precision.{precision_map, exact_value, known_value}
use Rattle.vortex_stats_set.specs.Merge.{exact_flag, known_flag, are_equal, constant_flag, sorted_if, both_sorted}
use Rattle.vortex_stats_set.specs.Pairs.{or_nothing}
use Rattle.vortex_stats_set.specs.Said.{said_truth}
use Rattle.vortex_stats_laws.proofs.Bounded.{LowBounds, HighBounds, low_before, high_behind}

-- an exact boolean is honest of its value
truth_is : (p : Precision Raw) (v : Bool) → IsHonestValue (said_truth p) v → (b : Bool) →
    exact_flag p ≡ Some b → b ≡ v
truth_is (exact (raw_boolean c)) v h b e = let same : c ≡ b = cc (e) in sym same ∙ h
truth_is p v h b e = absurd (cc (e))

-- ---- lists of one value

abbrev pub AreOne : List Content → Type 0
AreOne cs = (c d : Content) → Among c cs → Among d cs → c ≡ d

like_first : (c : Content) (cs : List Content) → list_all (equal_content c) cs ≡ true →
    (d : Content) → Among d cs → c ≡ d
like_first c [] h d g = absurd g
like_first c (x ∷ xs) h d (inl e) = content_so c x (first_so (equal_content c x) (list_all
    (equal_content c) xs) h) ∙ e
like_first c (x ∷ xs) h d (inr g) = like_first c xs (second_so (equal_content c x) (list_all
    (equal_content c) xs) h) d g

pub are_one : (cs : List Content) → is_constant cs ≡ true → AreOne cs
are_one [] h c d f g = absurd f
are_one (x ∷ xs) h c d f g = sym (is c f) ∙ is d g
  where
    is : (e : Content) → Among e (x ∷ xs) → x ≡ e
    is e (inl k) = k
    is e (inr k) = like_first x xs h e k

all_pass : (c : Content) (cs : List Content) → ((d : Content) → Among d cs → c ≡ d) →
    list_all (equal_content c) cs ≡ true
all_pass c [] h = refl
all_pass c (x ∷ xs) h = (λ i. content_passes c x (h x (inl refl)) i && all_pass c xs (λ d g. h d
    (inr g)) i)

pub one_constant : (cs : List Content) → AreOne cs → is_constant cs ≡ true
one_constant [] h = refl
one_constant (x ∷ xs) h = all_pass x xs (λ d g. h x d (inl refl) (inr g))

-- ---- both sides

among_either : (c : Content) (cs ds : List Content) → Among c (cs ++ ds) → Among c cs ⊎ Among c ds
among_either c [] ds h = inr h
among_either c (x ∷ xs) ds (inl e) = inl (inl e)
among_either c (x ∷ xs) ds (inr h) = elim (among_either c xs ds h) [
  | inl f ↦ inl
      (inr f)
  | inr g ↦ inr g
]

pub kept_among : (c : Content) (cs : List Content) → Among c (non_null cs) → Among c cs
kept_among c [] h = absurd h
kept_among c (x ∷ xs) h = by_test (is_null x) h (kept_among c xs)
  where
    by_test : (b : Bool) → Among c (cond (not b) (x ∷ non_null xs) (non_null xs)) →
        (Among c (non_null xs) → Among c xs) → Among c (x ∷ xs)
    by_test true g k = inr (k g)
    by_test false (inl e) k = inl e
    by_test false (inr g) k = inr (k g)

left_false : (cs ds : List Content) → is_constant cs ≡ false → is_constant (cs ++ ds) ≡ false
left_false cs ds e = false_from_ne_true (is_constant (cs ++ ds)) (λ h.
    true≢false (sym (one_constant cs (λ c d f g. are_one (cs ++ ds) h c d (among_left c cs ds f)
    (among_left d cs ds g))) ∙ e))

right_false : (cs ds : List Content) → is_constant ds ≡ false → is_constant (cs ++ ds) ≡ false
right_false cs ds e = false_from_ne_true (is_constant (cs ++ ds)) (λ h.
    true≢false (sym (one_constant ds (λ c d f g. are_one (cs ++ ds) h c d (among_right c cs ds f)
    (among_right d cs ds g))) ∙ e))

-- values that are at most themselves are equal where they are the same
same_value : (v w : Content) → is_at_most v v ≡ true → is_at_most w w ≡ true →
    eq_content v w ≡ true → v ≡ w
same_value v w h g e = at_most_both v w (ap (is_known is_le) (alike v w w e)
    ∙ g) (ap (is_known is_le) (sym (alike v w v e)) ∙ h)

two_constant : (v w : Content) (cs ds : List Content) → is_constant cs ≡ true →
    is_constant ds ≡ true → Among v cs → Among w ds →
    is_at_most v v ≡ true → is_at_most w w ≡ true → eq_content v w ≡ is_constant (cs ++ ds)
two_constant v w cs ds h g a b m n = by_test (eq_content v w) refl
  where
    like : v ≡ w → (c : Content) → Among c (cs ++ ds) → v ≡ c
    like e c k = elim (among_either c cs ds k) [
      | inl f ↦ are_one cs h v c a f
      | inr f ↦ e ∙ are_one ds g w c b f
    ]

    by_test : (t : Bool) → eq_content v w ≡ t → eq_content v w ≡ is_constant (cs ++ ds)
    by_test true e =
        let one : v ≡ w = same_value v w m n e in
        e ∙ sym (one_constant (cs ++ ds) (λ c d j k. sym (like one c j) ∙ like one d k))
    by_test false e =
        e ∙ sym (false_from_ne_true (is_constant (cs ++ ds)) (λ k.
        let one : v ≡ w = are_one (cs ++ ds) k v w (among_left v cs ds a) (among_right w cs ds b) in
        true≢false (sym (eq_equiv.refl v) ∙ ap (eq_content v) one ∙ e)))

module _ (p q pm qm : Precision Raw) (cs ds : List Content) (h : IsHonestValue (said_truth p)
    (is_constant cs)) (g : IsHonestValue (said_truth q) (is_constant ds))
    (m : LowBounds (precision_map content_of pm) (non_null cs)) (n : LowBounds
    (precision_map content_of qm) (non_null ds)) where
  abbrev Constancy : Option Bool → Type 0
  Constancy f = IsHonestValue (said_truth (or_nothing (option_map known_flag f))) (is_constant
      (cs ++ ds))

  by_mins : is_constant cs ≡ true → is_constant ds ≡ true → (l k : Precision Raw) →
      LowBounds (precision_map content_of l) (non_null cs) →
      LowBounds (precision_map content_of k) (non_null ds) →
      Constancy (are_equal true (exact_value l) (exact_value k))
  by_mins e f (exact a) (exact b) s t =
      let v = content_of a in let w = content_of b in
      two_constant v w cs ds e f (kept_among v cs s.0) (kept_among w ds t.0)
      (all_among (λ c. is_at_most v c ≡ true) v (non_null cs) s.1 s.0) (all_among
      (λ c. is_at_most w c ≡ true) w (non_null ds) t.1 t.0)
  by_mins e f (exact a) (inexact b) s t = tt
  by_mins e f (exact a) absent s t = tt
  by_mins e f (inexact a) k s t = tt
  by_mins e f absent k s t = tt

  by_flags : (f k : Option Bool) → exact_flag p ≡ f → exact_flag q ≡ k →
      Constancy (constant_flag f k (are_equal true (exact_value pm) (exact_value qm)))
  by_flags (Some false) k e d = sym (left_false cs ds (sym (truth_is p (is_constant cs) h false e)))
  by_flags (Some true) (Some false) e d = sym (right_false cs ds (sym (truth_is q
      (is_constant ds) g false d)))
  by_flags None (Some false) e d = sym (right_false cs ds (sym (truth_is q
      (is_constant ds) g false d)))
  by_flags (Some true) (Some true) e d = by_mins (sym (truth_is p (is_constant cs) h true e)) (sym
      (truth_is q (is_constant ds) g true d)) pm qm m n
  by_flags (Some true) None e d = tt
  by_flags None (Some true) e d = tt
  by_flags None None e d = tt

  pub constant_told : Constancy (constant_flag (exact_flag p) (exact_flag q) (are_equal true
      (exact_value pm) (exact_value qm)))
  constant_told = by_flags (exact_flag p) (exact_flag q) refl refl

-- ---- sorted rows

-- below, if not above and not equal
pub between_below : (c v w d : Content) → is_at_most c v ≡ true → is_below v w ≡ true →
    is_at_most w d ≡ true → is_below c d ≡ true
between_below c v w d h g k = by_order (content_cmp c d) refl (not_above_chain c v d h
    (not_above_chain v w d (not_above (content_cmp v w) g) k))
  where
    not_above : (o : Option Ordering) → is_known is_lt o ≡ true → is_known is_le o ≡ true
    not_above None e = absurd (cc (e))
    not_above (Some Less) e = refl
    not_above (Some Equal) e = absurd (cc (e))
    not_above (Some Greater) e = absurd (cc (e))

    clash : (o : Option Ordering) → is_known is_lt o ≡ true →
        is_known is_le (option_map ordering_reverse o) ≡ true → ⊥
    clash None e f = cc (e)
    clash (Some Less) e f = cc (f)
    clash (Some Equal) e f = cc (e)
    clash (Some Greater) e f = cc (e)

    apart : c ≡ d → ⊥
    apart e =
        let up : is_at_most w v ≡ true = not_above_chain w d v k (subst
        (λ x. is_at_most x v ≡ true) e h) in
        clash (content_cmp v w) g (ap (is_known is_le) (sym (reversed v w)) ∙ up)

    by_order : (o : Option Ordering) → content_cmp c d ≡ o → is_at_most c d ≡ true →
        is_below c d ≡ true
    by_order None e f = absurd (true≢false (sym f ∙ ap (is_known is_le) e))
    by_order (Some Less) e f = ap (is_known is_lt) e
    by_order (Some Equal) e f = absurd (apart (tied c d e))
    by_order (Some Greater) e f = absurd (true≢false (sym f ∙ ap (is_known is_le) e))

pub between_at_most : (c v w d : Content) → is_at_most c v ≡ true → is_at_most v w ≡ true →
    is_at_most w d ≡ true → is_at_most c d ≡ true
between_at_most c v w d h g k = not_above_chain c v d h (not_above_chain v w d g k)

module _ (test : Content → Content → Bool)
    (between : (c v w d : Content) → is_at_most c v ≡ true → test v w ≡ true →
    is_at_most w d ≡ true → test c d ≡ true) where
  both_turns : (us vs : List Content) → in_turn test us ≡ true → in_turn test vs ≡ true →
      ((c d : Content) → Among c us → Among d vs → test c d ≡ true) → in_turn test (us ++ vs) ≡ true
  both_turns [] vs h g f = g
  both_turns (c ∷ []) [] h g f = refl
  both_turns (c ∷ []) (d ∷ vs) h g f = (λ i. f c d (inl refl) (inl refl) i && g i)
  both_turns (c ∷ d ∷ us) vs h g f =
      (λ i. first_so (test c d) (in_turn test (d ∷ us)) h i
      && both_turns (d ∷ us) vs (second_so (test c d) (in_turn test (d ∷ us)) h) g
      (λ x y j k. f x y (inr j) k) i)

  module _ (p q pm qm : Precision Raw) (us vs : List Content) (h : IsHonestValue (said_truth p)
      (in_turn test us)) (g : IsHonestValue (said_truth q) (in_turn test vs))
      (m : HighBounds (precision_map content_of pm) us) (n : LowBounds
      (precision_map content_of qm) vs) where
    abbrev Sorted : Option (Precision Raw) → Type 0
    Sorted o = IsHonestValue (said_truth (or_nothing o)) (in_turn test (us ++ vs))

    across_by : in_turn test us ≡ true → in_turn test vs ≡ true → (a b : Raw) →
        known_value pm ≡ Some a → known_value qm ≡ Some b →
        (t : Bool) → test (content_of a) (content_of b) ≡ t → Sorted (Some (sorted_if t))
    across_by e f a b s k true r =
        sym (both_turns us vs e f (λ c d j l.
        between c (content_of a) (content_of b) d
        (all_among (λ c. is_at_most c (content_of a) ≡ true) c us (high_behind pm us a m s) j) r
        (all_among (λ d. is_at_most (content_of b) d ≡ true) d vs (low_before qm vs b n k) l)))
    across_by e f a b s k false r = tt

    by_turns : (f k : Option Bool) → exact_flag p ≡ f → exact_flag q ≡ k →
        (across : Option (Precision Raw)) →
        (in_turn test us ≡ true → in_turn test vs ≡ true → Sorted across) →
        Sorted (both_sorted f k across)
    by_turns (Some true) (Some true) e d across r =
        r (sym (truth_is p (in_turn test us) h true e)) (sym (truth_is q
        (in_turn test vs) g true d))
    by_turns (Some true) (Some false) e d across r = tt
    by_turns (Some true) None e d across r = tt
    by_turns (Some false) k e d across r = tt
    by_turns None k e d across r = tt

    -- what is known across the two sides
    pub sorted_told : (across : Option Raw → Option Raw → Option (Precision Raw)) → ((a b : Raw) →
        across (Some a) (Some b) ≡ Some (sorted_if (test (content_of a) (content_of b)))) →
        ((o : Option Raw) → across None o ≡ None) → ((a : Raw) → across (Some a) None ≡ None) →
        Sorted (both_sorted (exact_flag p) (exact_flag q) (across (known_value pm)
        (known_value qm)))
    sorted_told across is first second = by_turns (exact_flag p) (exact_flag q) refl refl (across
        (known_value pm) (known_value qm)) (λ e f.
        by_values e f (known_value pm) (known_value qm) refl refl)
      where
        by_values : in_turn test us ≡ true → in_turn test vs ≡ true → (s t : Option Raw) →
            known_value pm ≡ s → known_value qm ≡ t → Sorted (across s t)
        by_values e f None t j k = subst Sorted (sym (first t)) tt
        by_values e f (Some a) None j k = subst Sorted (sym (second a)) tt
        by_values e f (Some a) (Some b) j k =
            subst Sorted (sym (is a b)) (across_by e f a b j k (test (content_of a)
            (content_of b)) refl)
