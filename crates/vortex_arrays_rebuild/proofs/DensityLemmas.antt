-- Elements that lists have, by the furthest end of the lists that begin at each.
use Rattle.std.proofs.Common.{◌≡◌, ◌≢◌, ◌<◌, ◌≤◌, ◌+◌, ℕ, zero, suc, Bool, true, false, cond, List, [], ◌∷◌, ◌++◌, length, take, replicate, set, get_or, count_by, max, refl, sym, ap, subst, ◌∙◌, arith, inl, inr, ⊎_elim}
use Rattle.std.proofs.Math.Dec.{ltb}
use Rattle.std.proofs.lemmas.Bool.{cases_eq, cases_lt, ltb-true, lt-ltb}
use Rattle.std.proofs.lemmas.List.{get_or-set_other, get_or-set_same, length-set, length-replicate, take_more_set, take_all, get_or_push, get_or_append_left, length_push}
use Rattle.vortex_arrays_model.specs.Layout.{Layout, list_views, Valid, required, all_valid, all_null, len_of, content_at, number_in, is_valid, IsSound}
use Rattle.vortex_arrays_model.proofs.ValidRows.{view_within}
use Rattle.vortex_arrays_validity.specs.Validities.{valid_rows}
use Rattle.vortex_arrays_validity.proofs.Rows.{bit_says, row_count}
use Rattle.vortex_arrays_rebuild.specs.Indices.{AreRead}
use Rattle.vortex_arrays_rebuild.specs.Density.{MarksElements, IsReferencedCount, AreValidSizes, AllLieWithin, AreFurthest, AreCovered}

-- ---- sizes

pub all_sized : (s : Layout) (xs : List ℕ) → AreRead s xs → AreValidSizes s all_valid xs
all_sized s xs h = record { many = h.many; each = h.each }

pub required_sized : (s : Layout) (xs : List ℕ) → AreRead s xs → AreValidSizes s required xs
required_sized s xs h = record { many = h.many; each = h.each }

abbrev zeros : ℕ → List ℕ
zeros n = replicate n 0

zero_there : (n i : ℕ) → get_or (zeros n) i 0 ≡ zero
zero_there zero i = refl
zero_there (suc n) zero = refl
zero_there (suc n) (suc i) = zero_there n i

pub none_sized : (s : Layout) (n : ℕ) → n ≡ len_of s → AreValidSizes s all_null (replicate n 0)
none_sized s n e = record { many = length-replicate n 0 ∙ e; each = λ i l. zero_there n i }

pub some_sized : (s : Layout) (v : Valid) (xs ys : List ℕ) (bits : List Bool) (n : ℕ) → AreRead s xs → n ≡ len_of s → bits ≡ valid_rows v n → length ys ≡ length xs → ((i : ℕ) → i < length xs → get_or ys i 0 ≡ cond (get_or bits i false) (get_or xs i 0) 0) → AreValidSizes s v ys
some_sized s v xs ys bits n h m b c each = record {
  many = c ∙ h.many;
  each = λ i l.
      each i (subst (λ k. i < k) (sym h.many) l)
      ∙ ap (λ t. cond t (get_or xs i 0) 0) (bit_says v bits n i b (subst (λ k. i < k) (sym m) l))
      ∙ ap (λ k. cond (is_valid v i) k 0) (h.each i l);
}

pub bits_many : (v : Valid) (bits : List Bool) (n m : ℕ) → bits ≡ valid_rows v n → n ≡ m → length bits ≡ m
bits_many v bits n m b e = ap length b ∙ row_count v n ∙ e

pub ruleset sized = (all_sized, required_sized, none_sized, some_sized, bits_many)

-- ---- the furthest ends

-- an item that is read does not depend on the default
pub same_read : (xs : List ℕ) (i x : ℕ) → i < length xs → x ≡ get_or xs i x → get_or xs i 0 ≡ x
same_read [] i x l e = absurd (omega (arith, l))
same_read (y ∷ xs) zero x l e = sym e
same_read (y ∷ xs) (suc i) x l e = same_read xs i x (omega (arith, l)) e

pub none_reached : (os ss : List ℕ) (n : ℕ) → AreFurthest os ss 0 n (replicate n 0)
none_reached os ss n = record {
  many = length-replicate n 0;
  reached = λ j h. absurd (omega (arith, h, zero_there n j));
  furthest = λ i l. absurd (omega (arith, l));
}

pub empty_passed : (os ss : List ℕ) (m n : ℕ) (ends : List ℕ) → AreFurthest os ss m n ends → get_or ss m 0 ≡ 0 → AreFurthest os ss (m + 1) n ends
empty_passed os ss m n ends h none = record {
  many = h.many;
  reached = λ j p. let r = h.reached j p in (r.0, (let w = r.1 in omega (arith, w)), r.2, r.3);
  furthest = λ i w p. elim (cases_eq i m) [
    | inl same ↦ absurd (omega (arith, p, none, ap (λ k. get_or ss k 0) same))
    | inr other ↦ h.furthest i (omega (arith, w, other)) p
  ];
}

module _ (os ss : List ℕ) (m n : ℕ) (ends : List ℕ) (start size old : ℕ) (h : AreFurthest os ss m n ends) (s : get_or os m 0 ≡ start) (z : get_or ss m 0 ≡ size) (o : get_or ends start 0 ≡ old) (some : 0 < size) (within : start < length ends) where
  at_start : get_or (set ends start (max (start + size) old)) start 0 ≡ max (start + size) old
  at_start = get_or-set_same ends start (max (start + size) old) 0 within

  elsewhere : (j : ℕ) → j ≢ start → get_or (set ends start (max (start + size) old)) j 0 ≡ get_or ends j 0
  elsewhere j other = get_or-set_other ends start j (max (start + size) old) 0 other

  reached_start : 0 < max (start + size) old → (i : ℕ) × (i < m + 1) × (get_or os i 0 ≡ start) × (get_or os i 0 + get_or ss i 0 ≡ max (start + size) old)
  reached_start p = ⊎_elim
      (λ (below : start + size < old).
      let r = h.reached start (omega (arith, o, below)) in
      (r.0, (let w = r.1 in omega (arith, w)), r.2, (let q = r.3 in omega (arith, q, o, below))))
      (λ (above : old ≤ start + size). (m, omega arith, s, omega (arith, s, z, above)))
      (cases_lt (start + size) old)

  further : (i : ℕ) → get_or ends i 0 ≤ get_or (set ends start (max (start + size) old)) i 0
  further i = elim (cases_eq i start) [
    | inl same ↦ (let a = at_start in omega (arith, a, o, ap (λ j. get_or ends j 0) same, ap (λ j. get_or (set ends start (max (start + size) old)) j 0) same))
    | inr other ↦ (let b = elsewhere i other in omega (arith, b))
  ]

  pub one_reached : AreFurthest os ss (m + 1) n (set ends start (max (start + size) old))
  one_reached = record {
    many = length-set ends start (max (start + size) old) ∙ h.many;
    reached = λ j p. elim (cases_eq j start) [
      | inl same ↦
          let here : get_or (set ends start (max (start + size) old)) j 0 ≡ max (start + size) old = ap (λ k. get_or (set ends start (max (start + size) old)) k 0) same ∙ at_start in
          let r = reached_start (subst (λ k. 0 < k) here p) in
          (r.0, r.1, r.2 ∙ sym same, r.3 ∙ sym here)
      | inr other ↦
          let r = h.reached j (subst (λ k. 0 < k) (elsewhere j other) p) in
          (r.0, (let w = r.1 in omega (arith, w)), r.2, r.3 ∙ sym (elsewhere j other))
    ];
    furthest = λ i w p. elim (cases_eq i m) [
      | inl same ↦
          let a = at_start in
          let at : get_or os i 0 ≡ start = ap (λ k. get_or os k 0) same ∙ s in
          let long : get_or ss i 0 ≡ size = ap (λ k. get_or ss k 0) same ∙ z in
          let there : get_or (set ends start (max (start + size) old)) (get_or os i 0) 0 ≡ max (start + size) old = ap (λ k. get_or (set ends start (max (start + size) old)) k 0) at ∙ a in
          omega (arith, at, long, there)
      | inr other ↦
          let f = h.furthest i (omega (arith, w, other)) p in
          let g = further (get_or os i 0) in
          omega (arith, f, g)
    ];
  }

pub ruleset reached = (none_reached, same_read)

-- ---- covered elements

-- the covered elements, and the greatest of the first n ends
pub record AreCoveredTo (ends : List ℕ) (n : ℕ) (marks : List Bool) (end : ℕ) : Type 0 where
  pub marked : AreCovered ends n marks
  pub top : (k : ℕ) → k < n → get_or ends k 0 ≤ end
  pub from : 0 < end → (k : ℕ) × (k < n) × (get_or ends k 0 ≡ end)

no_mark : (marks : List Bool) (j : ℕ) → length marks ≤ j → get_or marks j false ≡ false
no_mark [] j l = refl
no_mark (b ∷ marks) zero l = absurd (omega (arith, l))
no_mark (b ∷ marks) (suc j) l = no_mark marks j (omega (arith, l))

pub none_covered : (ends : List ℕ) (marks : List Bool) → length marks ≡ 0 → AreCoveredTo ends 0 marks 0
none_covered ends marks e = record {
  marked = record {
    many = e;
    covers = λ j h. absurd (cc (h, no_mark marks j (omega (arith, e))));
    covered = λ j k l. absurd (omega (arith, l));
  };
  top = λ k l. absurd (omega (arith, l));
  from = λ p. absurd (omega (arith, p));
}

module _ (ends : List ℕ) (n : ℕ) (marks : List Bool) (end here : ℕ) (b : Bool) (h : AreCoveredTo ends n marks end) (r : get_or ends n 0 ≡ here) (yes : b ≡ true → n < max here end) (no : n < max here end → b ≡ true) where
  all_marked : AreCovered ends n marks
  all_marked = h.marked

  reach : 0 < max here end → (k : ℕ) × (k < n + 1) × (get_or ends k 0 ≡ max here end)
  reach p = ⊎_elim
      (λ (below : here < end).
      let f = h.from (omega (arith, below)) in
      (f.0, (let w = f.1 in omega (arith, w)), (let q = f.2 in omega (arith, q, below))))
      (λ (above : end ≤ here). (n, omega arith, omega (arith, r, above)))
      (cases_lt here end)

  highest : (k : ℕ) → k < n + 1 → get_or ends k 0 ≤ max here end
  highest k l = elim (cases_eq k n) [
    | inl same ↦ omega (arith, r, ap (λ j. get_or ends j 0) same)
    | inr other ↦ (let t = h.top k (omega (arith, l, other)) in omega (arith, t))
  ]

  last : get_or (marks ++ b ∷ []) n false ≡ b
  last = get_or_push marks b false n (let m = all_marked in m.many)

  before : (j : ℕ) → j < n → get_or (marks ++ b ∷ []) j false ≡ get_or marks j false
  before j l = get_or_append_left marks (b ∷ []) false j (let m = all_marked in let e = m.many in omega (arith, e, l))

  covers_more : (j : ℕ) → get_or (marks ++ b ∷ []) j false ≡ true → (k : ℕ) × (k ≤ j) × (j < get_or ends k 0)
  covers_more j t = ⊎_elim
      (λ (l : j < n). let m = all_marked in m.covers j (sym (before j l) ∙ t))
      (λ (l : n ≤ j). elim (cases_eq j n) [
        | inl same ↦
            let p = yes (sym last ∙ ap (λ i. get_or (marks ++ b ∷ []) i false) (sym same) ∙ t) in
            let f = reach (omega (arith, p)) in
            (f.0, (let w = f.1 in omega (arith, w, same)), (let q = f.2 in omega (arith, q, p, same)))
        | inr other ↦ absurd (cc (t, no_mark (marks ++ b ∷ []) j (let m = all_marked in let e = m.many in let c = length_push marks b in omega (arith, e, c, l, other))))
      ])
      (cases_lt j n)

  covered_more : (j k : ℕ) → j < n + 1 → k ≤ j → j < get_or ends k 0 → get_or (marks ++ b ∷ []) j false ≡ true
  covered_more j k l w t = elim (cases_eq j n) [
    | inl same ↦ (let g = highest k (omega (arith, w, same)) in ap (λ i. get_or (marks ++ b ∷ []) i false) same ∙ last ∙ no (omega (arith, g, t, same)))
    | inr other ↦ (let small : j < n = omega (arith, l, other) in let m = all_marked in before j small ∙ m.covered j k small w t)
  ]

  pub one_covered : AreCoveredTo ends (n + 1) (marks ++ b ∷ []) (max here end)
  one_covered = record {
    marked = record {
      many = length_push marks b ∙ ap (λ k. k + 1) (let m = all_marked in m.many);
      covers = covers_more;
      covered = covered_more;
    };
    top = highest;
    from = reach;
  }

-- the mark of an element, which is set where the furthest end so far is past it
pub mark_covered : (ends : List ℕ) (n : ℕ) (marks : List Bool) (end : ℕ) → AreCoveredTo ends n marks end → AreCoveredTo ends (n + 1) (marks ++ ltb n (max (get_or ends n 0) end) ∷ []) (max (get_or ends n 0) end)
mark_covered ends n marks end h = one_covered ends n marks end (get_or ends n 0) (ltb n (max (get_or ends n 0) end)) h refl (ltb-true n (max (get_or ends n 0) end)) (lt-ltb n (max (get_or ends n 0) end))

pub all_covered : (ends : List ℕ) (n m : ℕ) (marks : List Bool) (end : ℕ) → AreCoveredTo ends n marks end → n ≡ m → AreCovered ends m marks
all_covered ends n m marks end h e = subst (λ k. AreCovered ends k marks) e h.marked

-- the mark written at its index
pub mark_set : (ends : List ℕ) (n : ℕ) (marks : List Bool) (end : ℕ) → n < length marks → AreCoveredTo ends n (take n marks) end → AreCoveredTo ends (n + 1) (take (n + 1) (set marks n (ltb n (max (get_or ends n 0) end)))) (max (get_or ends n 0) end)
mark_set ends n marks end l h =
    let b : Bool = ltb n (max (get_or ends n 0) end) in
    subst (λ ms. AreCoveredTo ends (n + 1) ms (max (get_or ends n 0) end)) (sym (take_more_set marks n b l)) (mark_covered ends n (take n marks) end h)

pub covered_all : (ends : List ℕ) (n : ℕ) (marks : List Bool) (end : ℕ) → length marks ≡ length ends → length ends ≤ n → AreCoveredTo ends n (take n marks) end → AreCovered ends (length ends) marks
covered_all ends n marks end e l h =
    let all : take n marks ≡ marks = take_all n marks (omega (arith, e)) in
    let c = h.marked in
    let same : n ≡ length ends = sym c.many ∙ ap length all ∙ e in
    all_covered ends n (length ends) marks end (subst (λ ms. AreCoveredTo ends n ms end) all h) same

pub ruleset covering = (none_covered)

-- ---- the elements of the lists

lie_within : (b : Bool) (n o s x : ℕ) → o + s ≤ n → x ≡ cond b s 0 → o + x ≤ n
lie_within true n o s x h e = omega (arith, h, e)
lie_within false n o s x h e = omega (arith, h, e)

pub all_within : (e o s : Layout) (f : Bool) (v : Valid) (os ns : List ℕ) → IsSound (list_views e o s f v) → AreRead o os → AreValidSizes s v ns → AllLieWithin os ns (len_of e)
all_within e o s f v os ns h r z = λ i l.
    let w : i < len_of o = subst (λ n. i < n) r.many l in
    let a = view_within (len_of e) (content_at o i) (content_at s i) (h.7 i w) in
    subst (λ k. k + get_or ns i 0 ≤ len_of e) (sym (r.each i w))
    (lie_within (is_valid v i) (len_of e) (number_in (content_at o i)) (number_in (content_at s i)) (get_or ns i 0) a (z.each i (subst (λ n. i < n) (sym h.5) w)))

pub as_many_sizes : (e o s : Layout) (f : Bool) (v : Valid) (os ns : List ℕ) → IsSound (list_views e o s f v) → AreRead o os → AreValidSizes s v ns → length ns ≡ length os
as_many_sizes e o s f v os ns h r z = z.many ∙ h.5 ∙ sym r.many

counts_only : (b : Bool) (s x : ℕ) → x ≡ cond b s 0 → 0 < x → (b ≡ true) × (x ≡ s)
counts_only true s x e p = (refl, e)
counts_only false s x e p = absurd (omega (arith, e, p))

counts_all : (b : Bool) (s x : ℕ) → x ≡ cond b s 0 → b ≡ true → x ≡ s
counts_all true s x e t = e
counts_all false s x e t = absurd (cc (t))

module _ (e o s : Layout) (f : Bool) (v : Valid) (os ns ends : List ℕ) (marks : List Bool) (h : IsSound (list_views e o s f v)) (r : AreRead o os) (z : AreValidSizes s v ns) (fu : AreFurthest os ns (length os) (len_of e) ends) (cv : AreCovered ends (length ends) marks) where
  size_there : (i : ℕ) → i < len_of o → get_or ns i 0 ≡ cond (is_valid v i) (number_in (content_at s i)) 0
  size_there i w = z.each i (subst (λ n. i < n) (sym h.5) w)

  pub marks_made : MarksElements (list_views e o s f v) marks
  marks_made = record {
    many = cv.many ∙ fu.many;
    referenced = λ j t.
        let c = cv.covers j t in
        let low = c.1 in
        let high = c.2 in
        let q = fu.reached c.0 (omega (arith, high)) in
        let w : q.0 < len_of o = subst (λ n. q.0 < n) r.many q.1 in
        let at = q.2 in
        let to = q.3 in
        let n = counts_only (is_valid v q.0) (number_in (content_at s q.0)) (get_or ns q.0 0) (size_there q.0 w) (omega (arith, at, to, low, high)) in
        let begin = r.each q.0 w in
        let long = n.1 in
        record {
          row = q.0;
          within = w;
          valid = n.0;
          begins = omega (arith, begin, at, low);
          ends = omega (arith, begin, long, to, high);
        };
    marked = λ j t.
        let i = t.row in
        let w : i < len_of o = t.within in
        let m : i < length os = subst (λ n. i < n) (sym r.many) w in
        let begin = r.each i w in
        let long = counts_all (is_valid v i) (number_in (content_at s i)) (get_or ns i 0) (size_there i w) t.valid in
        let low = t.begins in
        let high = t.ends in
        let g = fu.furthest i m (omega (arith, begin, long, low, high)) in
        let k = all_within e o s f v os ns h r z i m in
        let c = fu.many in
        cv.covered j (get_or os i 0) (omega (arith, c, k, begin, long, high)) (omega (arith, begin, low)) (omega (arith, g, begin, long, high));
  }

pub marks_view : (a e o s : Layout) (f : Bool) (v : Valid) (os ns ends : List ℕ) (marks : List Bool) → a ≡ list_views e o s f v → IsSound (list_views e o s f v) → AreRead o os → AreValidSizes s v ns → AreFurthest os ns (length os) (len_of e) ends → AreCovered ends (length ends) marks → MarksElements a marks
marks_view a e o s f v os ns ends marks same h r z fu cv = subst (λ b. MarksElements b marks) (sym same) (marks_made e o s f v os ns ends marks h r z fu cv)

pub ruleset marked = (all_within, as_many_sizes, marks_view)

pub count_made : (a : Layout) (n : ℕ) (mask : List Bool) → MarksElements a mask → n ≡ count_by (λ b. b) mask → IsReferencedCount a n
count_made a n mask h e = record { mask = mask; marks = h; counted = e }

pub ruleset counted = (count_made)
