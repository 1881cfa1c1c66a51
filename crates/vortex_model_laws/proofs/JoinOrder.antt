-- Joins give the bounds and the counts of the group, in whatever order they are made.
use Rattle.std.proofs.Common.{◌≡◌, refl, sym, ◌∙◌, ap, subst, ℕ, ◌+◌, List, [], ◌∷◌, ◌++◌, map, filter_map, Bool, true, false, not, ◌||◌, if◌then◌else◌, Option, Some, None, is_some, ◌⊎◌, inl, inr, arith}
use Rattle.std.specs.Prelude.{sum}
use Rattle.std.specs.List.{AllByRecursion, list_any}
use Rattle.std.proofs.lemmas.List.{map-append}
use Rattle.std.proofs.lemmas.List.Elements.{filter_map-append}
use Rattle.std.proofs.lemmas.List.Folds.{list_any-append}
use Rattle.std.proofs.lemmas.List.Sums.{sum_by-append}
use Rattle.std.specs.declared.cmp.Ordering.{Ordering}
use Rattle.std.specs.declared.cmp.Ordering.TheVariants.{Less, Equal, Greater}
use Rattle.std.specs.Ordering.{ordering_reverse, is_le}
use Rattle.std.proofs.lemmas.Bool.{or_right}
use Rattle.std.proofs.Math.Bool.{or-false}
use Rattle.vortex_model.specs.LogicalType.{LogicalType}
use Rattle.vortex_model.specs.Content.{Content, equal_content}
use Rattle.vortex_model.specs.Order.{content_cmp, is_known}
use Rattle.vortex_model.proofs.Lists.{all_append, front_of_all, back_of_all}
use Rattle.vortex_model_table.specs.Statistics.{Precision, exact, inexact, absent, is_at_most}
use Rattle.vortex_model_table.specs.ZoneMap.{ZoneMap, bound_of, is_absent, value_in, is_exactly, bound_among, Joins, alone, together, all_joined, made_by, joined}
use Rattle.vortex_model_table.specs.ZoneLaws.{AllCompare, HasBoundsOf}
use Rattle.vortex_model_table.proofs.Chains.{not_above_chain}
use Rattle.vortex_model_table.proofs.ContentOrder.{reversed}
use Rattle.vortex_model_table.proofs.Equality.{content_so, content_passes}
use Rattle.vortex_model_laws.proofs.Groups.{among_left, among_right, at_least_chain}
use Rattle.vortex_model_laws.proofs.Honesty.{Among, all_among}
use Rattle.vortex_model_laws.proofs.Leasts.{is_at_least, IsEnd, picked, end_picked, all_mapped, at_most_both, at_least_both}

-- ---- values that compare

abbrev pub Compare : Content → Content → Type 0
Compare c d = is_some (content_cmp c d) ≡ true

pub fewer_compare : (c : Content) (cs : List Content) → AllCompare (c ∷ cs) → AllCompare cs
fewer_compare c cs h = all_mapped (λ x. AllByRecursion (Compare x) (c ∷ cs)) (λ x. AllByRecursion (Compare x) cs) (λ x g. g.1) cs h.1

front_compares : (cs ds : List Content) → AllCompare (cs ++ ds) → AllCompare cs
front_compares cs ds h =
    all_mapped (λ x. AllByRecursion (Compare x) (cs ++ ds)) (λ x. AllByRecursion (Compare x) cs) (λ x g. front_of_all (Compare x) cs ds g) cs
    (front_of_all (λ x. AllByRecursion (Compare x) (cs ++ ds)) cs ds h)

back_compares : (cs ds : List Content) → AllCompare (cs ++ ds) → AllCompare ds
back_compares cs ds h =
    all_mapped (λ x. AllByRecursion (Compare x) (cs ++ ds)) (λ x. AllByRecursion (Compare x) ds) (λ x g. back_of_all (Compare x) cs ds g) ds
    (back_of_all (λ x. AllByRecursion (Compare x) (cs ++ ds)) cs ds h)

-- ---- bounds by a relation: the order, or its reverse

module _ (R : Content → Content → Bool) (chain : (c d e : Content) → R c d ≡ true → R d e ≡ true → R c e ≡ true)
    (antisym : (c d : Content) → R c d ≡ true → R d c ≡ true → c ≡ d) (total : (c d : Content) → Compare c d → R c d ≡ false → R d c ≡ true) where
  abbrev bound : List (Precision Content) → Precision Content
  bound ps = bound_among (picked R) ps

  abbrev values : List (Precision Content) → List Content
  values ps = filter_map value_in ps

  pub itself : (c : Content) → Compare c c → R c c ≡ true
  itself c h = by_test (R c c) refl
    where
      by_test : (b : Bool) → R c c ≡ b → R c c ≡ true
      by_test true e = e
      by_test false e = total c c h e

  first_end : (c v : Content) (cs : List Content) → AllByRecursion (Compare c) (c ∷ cs) → IsEnd R v cs → (w : Content) × IsEnd R w (c ∷ cs)
  first_end c v cs h g = by_test (R c v) refl
    where
      by_test : (b : Bool) → R c v ≡ b → (w : Content) × IsEnd R w (c ∷ cs)
      by_test true e = (c, (inl refl, (itself c h.0, all_mapped (λ x. R v x ≡ true) (λ x. R c x ≡ true) (λ x k. chain c v x e k) cs g.1)))
      by_test false e = (v, (inr g.0, (total c v (all_among (Compare c) v cs h.1 g.0) e, g.1)))

  -- of values that compare, one is the end
  pub some_end : (c : Content) (cs : List Content) → AllCompare (c ∷ cs) → (v : Content) × IsEnd R v (c ∷ cs)
  some_end c [] h = (c, (inl refl, (itself c h.0.0, tt)))
  some_end c (d ∷ ds) h = let g = some_end d ds (fewer_compare c (d ∷ ds) h) in first_end c g.0 (d ∷ ds) h.0 g.1

  -- a bound is absent, or all are known and p is the end of them
  abbrev IsMissing : List (Precision Content) → Precision Content → Type 0
  IsMissing ps p = (list_any is_absent ps ≡ true) × (p ≡ absent)

  abbrev IsThere : List (Precision Content) → Precision Content → Type 0
  IsThere ps p = (v : Content) × (list_any is_absent ps ≡ false) × IsEnd R v (values ps) × (p ≡ bound_of (not (list_any (is_exactly v) ps)) v)

  abbrev IsBoundOf : List (Precision Content) → Precision Content → Type 0
  IsBoundOf ps p = IsMissing ps p ⊎ IsThere ps p

  bound_there : (ps : List (Precision Content)) (v : Content) → list_any is_absent ps ≡ false → IsEnd R v (values ps) → bound ps ≡ bound_of (not (list_any (is_exactly v) ps)) v
  bound_there ps v e h =
      (λ i. if e i then absent else (elim (picked R (values ps)) [ None ↦ absent | Some w ↦ bound_of (not (list_any (is_exactly w) ps)) w ]))
      ∙ ap (λ o. elim o [ None ↦ absent | Some w ↦ bound_of (not (list_any (is_exactly w) ps)) w ]) (end_picked R antisym v (values ps) h)

  -- that bound is unique
  bound_is : (ps : List (Precision Content)) (p : Precision Content) → IsBoundOf ps p → p ≡ bound ps
  bound_is ps p (inl h) =
      h.1 ∙ sym (λ i. if h.0 i then absent else (elim (picked R (values ps)) [ None ↦ absent | Some w ↦ bound_of (not (list_any (is_exactly w) ps)) w ]))
  bound_is ps p (inr h) = h.3 ∙ sym (bound_there ps h.0 h.1 h.2)

  -- ---- of two lists

  some_exact : (u : Content) (ps : List (Precision Content)) → list_any (is_exactly u) ps ≡ true → Among u (values ps)
  some_exact u [] e = absurd (cc (e))
  some_exact u (exact b ∷ ps) e = by_test (equal_content b u) refl e (some_exact u ps)
    where
      by_test : (t : Bool) → equal_content b u ≡ t → t || list_any (is_exactly u) ps ≡ true → (list_any (is_exactly u) ps ≡ true → Among u (values ps)) → Among u (b ∷ values ps)
      by_test true g k more = inl (content_so b u g)
      by_test false g k more = inr (more k)
  some_exact u (inexact b ∷ ps) e = inr (some_exact u ps e)
  some_exact u (absent ∷ ps) e = some_exact u ps e

  own_exact : (v : Content) (e : Bool) → is_exactly v (bound_of (not e) v) ≡ e
  own_exact v true = content_passes v v refl
  own_exact v false = refl

  other_exact : (u v : Content) (b : Bool) → equal_content v u ≡ false → is_exactly u (bound_of b v) ≡ false
  other_exact u v true e = refl
  other_exact u v false e = e

  -- where u is the end of more values, the bound of ps is exactly u just where some bound in ps is
  exact_alike : (u v : Content) (ps : List (Precision Content)) → IsEnd R v (values ps) → R u v ≡ true → is_exactly u (bound_of (not (list_any (is_exactly v) ps)) v) ≡ list_any (is_exactly u) ps
  exact_alike u v ps h g = by_test (equal_content v u) refl
    where
      none_other : (b : Bool) → equal_content v u ≡ false → list_any (is_exactly u) ps ≡ b → list_any (is_exactly u) ps ≡ false
      none_other false e k = k
      none_other true e k =
          let same : v ≡ u = antisym v u (all_among (λ c. R v c ≡ true) u (values ps) h.1 (some_exact u ps k)) g in
          let clash : true ≡ false = sym (content_passes v u same) ∙ e in absurd (cc (clash))

      by_test : (b : Bool) → equal_content v u ≡ b → is_exactly u (bound_of (not (list_any (is_exactly v) ps)) v) ≡ list_any (is_exactly u) ps
      by_test true e = subst (λ w. is_exactly w (bound_of (not (list_any (is_exactly v) ps)) v) ≡ list_any (is_exactly w) ps) (content_so v u e) (own_exact v (list_any (is_exactly v) ps))
      by_test false e = other_exact u v (not (list_any (is_exactly v) ps)) e ∙ sym (none_other (list_any (is_exactly u) ps) e refl)

  pair_bound : (b c : Bool) (v w u : Content) → IsEnd R u (v ∷ w ∷ []) →
      bound (bound_of b v ∷ bound_of c w ∷ []) ≡ bound_of (not (is_exactly u (bound_of b v) || (is_exactly u (bound_of c w) || false))) u
  pair_bound true true v w u h = bound_there (inexact v ∷ inexact w ∷ []) u refl h
  pair_bound true false v w u h = bound_there (inexact v ∷ exact w ∷ []) u refl h
  pair_bound false true v w u h = bound_there (exact v ∷ inexact w ∷ []) u refl h
  pair_bound false false v w u h = bound_there (exact v ∷ exact w ∷ []) u refl h

  behind_missing : (p : Precision Content) → bound (p ∷ absent ∷ []) ≡ absent
  behind_missing (exact v) = refl
  behind_missing (inexact v) = refl
  behind_missing absent = refl

  -- the end of two ends is the end of both lists
  end_of_both : (v w : Content) (cs ds : List Content) → IsEnd R v cs → IsEnd R w ds → Compare v v → Compare v w → Compare w w →
      (u : Content) × IsEnd R u (v ∷ w ∷ []) × IsEnd R u (cs ++ ds)
  end_of_both v w cs ds h g own both other = by_test (R v w) refl
    where
      by_test : (b : Bool) → R v w ≡ b → (u : Content) × IsEnd R u (v ∷ w ∷ []) × IsEnd R u (cs ++ ds)
      by_test true e = (
        v,
        (inl refl, (itself v own, (e, tt))),
        (among_left v cs ds h.0, all_append (λ c. R v c ≡ true) cs ds h.1 (all_mapped (λ x. R w x ≡ true) (λ x. R v x ≡ true) (λ x k. chain v w x e k) ds g.1)),
      )
      by_test false e = (
        w,
        (inr (inl refl), (total v w both e, (itself w other, tt))),
        (among_right w cs ds g.0, all_append (λ c. R w c ≡ true) cs ds (all_mapped (λ x. R v x ≡ true) (λ x. R w x ≡ true) (λ x k. chain w v x (total v w both e) k) cs h.1) g.1),
      )

  both_compare : (v w : Content) (cs : List Content) → AllCompare cs → Among v cs → Among w cs → Compare v w
  both_compare v w cs h g k = all_among (Compare v) w cs (all_among (λ x. AllByRecursion (Compare x) cs) v cs h g) k

  values_append : (ps qs : List (Precision Content)) → values ps ++ values qs ≡ values (ps ++ qs)
  values_append ps qs = sym (filter_map-append value_in ps qs)

  exact_append : (u : Content) (ps qs : List (Precision Content)) → list_any (is_exactly u) ps || list_any (is_exactly u) qs ≡ list_any (is_exactly u) (ps ++ qs)
  exact_append u ps qs = sym (list_any-append (is_exactly u) ps qs)

  pair_exact : (ps qs : List (Precision Content)) (v w u : Content) → IsEnd R v (values ps) → IsEnd R w (values qs) → IsEnd R u (v ∷ w ∷ []) →
      bound (bound_of (not (list_any (is_exactly v) ps)) v ∷ bound_of (not (list_any (is_exactly w) qs)) w ∷ []) ≡ bound_of (not (list_any (is_exactly u) (ps ++ qs))) u
  pair_exact ps qs v w u h g k =
      pair_bound (not (list_any (is_exactly v) ps)) (not (list_any (is_exactly w) qs)) v w u k
      ∙ (λ i. bound_of (not (exact_alike u v ps h k.1.0 i || (exact_alike u w qs g k.1.1.0 i || false))) u)
      ∙ ap (λ b. bound_of (not (list_any (is_exactly u) ps || b)) u) (or-false (list_any (is_exactly u) qs))
      ∙ ap (λ b. bound_of (not b) u) (exact_append u ps qs)

  both_there : (ps qs : List (Precision Content)) (p q : Precision Content) → AllCompare (values (ps ++ qs)) → IsThere ps p → IsThere qs q → IsThere (ps ++ qs) (bound (p ∷ q ∷ []))
  both_there ps qs p q compare h g =
      let v = h.0 in let w = g.0 in
      let cs = values ps in let ds = values qs in
      let split : AllCompare (cs ++ ds) = subst AllCompare (filter_map-append value_in ps qs) compare in
      let at_left = among_left v cs ds h.2.0 in
      let at_right = among_right w cs ds g.2.0 in
      let u = end_of_both v w cs ds h.2 g.2 (both_compare v v (cs ++ ds) split at_left at_left) (both_compare v w (cs ++ ds) split at_left at_right) (both_compare w w (cs ++ ds) split at_right at_right) in (
        u.0,
        list_any-append is_absent ps qs ∙ (λ i. h.1 i || g.1 i),
        subst (IsEnd R u.0) (values_append ps qs) u.2,
        (λ i. bound (h.3 i ∷ g.3 i ∷ []))
            ∙ pair_exact ps qs v w u.0 h.2 g.2 u.1,
      )

  -- the bound of two lists' bounds is the bound of both lists
  of_both : (ps qs : List (Precision Content)) (p q : Precision Content) → AllCompare (values (ps ++ qs)) → IsBoundOf ps p → IsBoundOf qs q → IsBoundOf (ps ++ qs) (bound (p ∷ q ∷ []))
  of_both ps qs p q compare (inl h) g = inl (list_any-append is_absent ps qs ∙ ap (λ b. b || list_any is_absent qs) h.0, ap (λ x. bound (x ∷ q ∷ [])) h.1)
  of_both ps qs p q compare (inr h) (inl g) =
      inl (list_any-append is_absent ps qs ∙ or_right (list_any is_absent ps) (list_any is_absent qs) g.0, ap (λ x. bound (p ∷ x ∷ [])) g.1 ∙ behind_missing p)
  of_both ps qs p q compare (inr h) (inr g) = inr (both_there ps qs p q compare h g)

  one_bound : (p : Precision Content) → AllCompare (values (p ∷ [])) → IsBoundOf (p ∷ []) p
  one_bound (exact v) h = inr (v, refl, (inl refl, (itself v h.0.0, tt)), ap (λ b. bound_of (not (b || false)) v) (sym (content_passes v v refl)))
  one_bound (inexact v) h = inr (v, refl, (inl refl, (itself v h.0.0, tt)), refl)
  one_bound absent h = inl (refl, refl)

  -- ---- of joins

  module _ (k : LogicalType) (f : ZoneMap → Precision Content) (by_bounds : (a b : ZoneMap) → f (joined k a b) ≡ bound (f a ∷ f b ∷ [])) where
    made_bound : (joins : Joins) → AllCompare (values (map f (all_joined joins))) → IsBoundOf (map f (all_joined joins)) (f (made_by k joins))
    made_bound (alone z) h = one_bound (f z) h
    made_bound (together x y) h =
        let ps = map f (all_joined x) in let qs = map f (all_joined y) in
        let lists = map-append f (all_joined x) (all_joined y) in
        let compare : AllCompare (values (ps ++ qs)) = subst (λ l. AllCompare (values l)) lists h in
        let split : AllCompare (values ps ++ values qs) = subst AllCompare (filter_map-append value_in ps qs) compare in
        subst (λ l. IsBoundOf l (f (joined k (made_by k x) (made_by k y)))) (sym lists)
        (subst (IsBoundOf (ps ++ qs)) (sym (by_bounds (made_by k x) (made_by k y)))
        (of_both ps qs (f (made_by k x)) (f (made_by k y)) compare
        (made_bound x (front_compares (values ps) (values qs) split)) (made_bound y (back_compares (values ps) (values qs) split))))

    pub joins_bound : (joins : Joins) → AllCompare (values (map f (all_joined joins))) → f (made_by k joins) ≡ bound (map f (all_joined joins))
    joins_bound joins h = bound_is (map f (all_joined joins)) (f (made_by k joins)) (made_bound joins h)

-- ---- both directions

not_le : (o : Ordering) → is_le o ≡ false → is_le (ordering_reverse o) ≡ true
not_le Less h = absurd (cc (h))
not_le Equal h = absurd (cc (h))
not_le Greater h = refl

total_by : (c d : Content) (p : Option Ordering) → content_cmp c d ≡ p → is_some p ≡ true → is_known is_le p ≡ false → is_at_most d c ≡ true
total_by c d None e h g = absurd (cc (h))
total_by c d (Some o) e h g = ap (is_known is_le) (reversed c d ∙ ap (λ p. elim p [ None ↦ None | Some x ↦ Some (ordering_reverse x) ]) e) ∙ not_le o g

pub at_most_total : (c d : Content) → Compare c d → is_at_most c d ≡ false → is_at_most d c ≡ true
at_most_total c d h g = total_by c d (content_cmp c d) refl h g

back_by : (c d : Content) (b : Bool) → is_at_most c d ≡ b → Compare c d → is_at_most d c ≡ false → is_at_most c d ≡ true
back_by c d true e h g = e
back_by c d false e h g = let clash : true ≡ false = sym (at_most_total c d h e) ∙ g in absurd (cc (clash))

pub at_least_total : (c d : Content) → Compare c d → is_at_least c d ≡ false → is_at_least d c ≡ true
at_least_total c d h g = back_by c d (is_at_most c d) refl h g

-- ---- counts

two_summed : (m n : ℕ) → sum (m ∷ n ∷ []) ≡ m + n
two_summed m n = let e : 0 + m + n ≡ m + n = omega arith in e

count_joined : (k : LogicalType) (f : ZoneMap → ℕ) → ((a b : ZoneMap) → f (joined k a b) ≡ sum (f a ∷ f b ∷ [])) → (joins : Joins) → f (made_by k joins) ≡ sum (map f (all_joined joins))
count_joined k f h (alone z) = let n : ℕ = f z in let e : n ≡ 0 + n = omega arith in e
count_joined k f h (together x y) =
    h (made_by k x) (made_by k y) ∙ (λ i. sum (count_joined k f h x i ∷ count_joined k f h y i ∷ []))
    ∙ two_summed (sum (map f (all_joined x))) (sum (map f (all_joined y)))
    ∙ sym (ap sum (map-append f (all_joined x) (all_joined y)) ∙ sum_by-append (λ n. n) (map f (all_joined x)) (map f (all_joined y)))

-- ---- the zone map that joins make

pub bounds_of_joins : (k : LogicalType) (joins : Joins) → AllCompare (filter_map value_in (map (λ z. z.low) (all_joined joins))) → AllCompare (filter_map value_in (map (λ z. z.high) (all_joined joins))) →
    HasBoundsOf (all_joined joins) (made_by k joins)
bounds_of_joins k joins lows highs = record {
  low = joins_bound is_at_most not_above_chain at_most_both at_most_total k (λ z. z.low) (λ a b. refl) joins lows;
  high = joins_bound is_at_least at_least_chain at_least_both at_least_total k (λ z. z.high) (λ a b. refl) joins highs;
  nulls = count_joined k (λ z. z.nulls) (λ a b. refl) joins;
  rows = count_joined k (λ z. z.rows) (λ a b. refl) joins;
}
