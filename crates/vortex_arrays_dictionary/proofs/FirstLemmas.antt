-- One more row.
use Rattle.std.proofs.Common.{◌≡◌, ◌<◌, ◌≤◌, ◌-◌, ◌+◌, ℕ, Bool, true, false, not, cond, List, [], ◌∷◌, ◌++◌, length, take, get_or, slice_set, Option, Some, None, refl, sym, ap, subst, ◌∙◌, ⊎_elim, inl, inr, arith}
use Rattle.std.specs.List.{All, list_any}
use Rattle.std.specs.Cmp.{IsEquivalence}
use Rattle.std.proofs.lemmas.Bool.{false≢true, cases_eq, cases_Bool}
use Rattle.std.proofs.lemmas.List.{map-append, length-map, take_more, get_or-map, get_or_append_left, get_or_push, get_or_default, length_push, get_or-set_same, get_or-set_other}
use Rattle.std.proofs.lemmas.List.Elements.{All-nil, All-push, All-set}
use Rattle.std.proofs.lemmas.List.Folds.{list_any_at, list_any_none}
use Rattle.vortex_model.specs.Content.{Content, null, is_null, equal_content}
use Rattle.vortex_model.proofs.Contents.{null_so}
use Rattle.vortex_model_table.proofs.Equality.{content_so}
use Rattle.vortex_arrays_dictionary.specs.Distinct.{distinct}
use Rattle.vortex_arrays_dictionary.specs.Firsts.{at_places, AreKeysOf, Knows, IsNumberedWhere, AreFirsts, AreNumbered}
use Rattle.vortex_arrays_dictionary.proofs.DistinctLemmas.{distinct-null, distinct-new, distinct-old}

-- ---- the indices

at_more : (cs : List Content) (firsts : List ℕ) (p : ℕ) → at_places cs (firsts ++ p ∷ []) ≡ at_places cs firsts ++ get_or cs p null ∷ []
at_more cs firsts p = map-append (λ q. get_or cs q null) firsts (p ∷ [])

at_place : (cs : List Content) (firsts : List ℕ) (n : ℕ) → n < length firsts → get_or (at_places cs firsts) n null ≡ get_or cs (get_or firsts n 0) null
at_place cs firsts n l = get_or-map (λ q. get_or cs q null) firsts n 0 null l

at_count : (cs : List Content) (firsts : List ℕ) → length (at_places cs firsts) ≡ length firsts
at_count cs firsts = length-map firsts (λ q. get_or cs q null)

stands_there : (cs : List Content) (firsts : List ℕ) (c : Content) (n : ℕ) → n < length firsts → equal_content c (get_or cs (get_or firsts n 0) null) ≡ true → list_any (equal_content c) (at_places cs firsts) ≡ true
stands_there cs firsts c n l e =
    list_any_at (equal_content c) (at_places cs firsts) n null (subst (λ m. n < m) (sym (at_count cs firsts)) l) (ap (equal_content c) (at_place cs firsts n l) ∙ e)

stands_nowhere : (cs : List Content) (firsts : List ℕ) (c : Content) → ((n : ℕ) → n < length firsts → equal_content c (get_or cs (get_or firsts n 0) null) ≡ false) → list_any (equal_content c) (at_places cs firsts) ≡ false
stands_nowhere cs firsts c h =
    list_any_none (equal_content c) (at_places cs firsts) (λ n d l.
    let within : n < length firsts = subst (λ m. n < m) (at_count cs firsts) l in
    ap (equal_content c) (get_or_default (at_places cs firsts) n d null l ∙ at_place cs firsts n within) ∙ h n within)

-- ---- the numbers

abbrev Stands : List Content → List ℕ → List ℕ → ℕ → Type 0
Stands cs firsts ns j = is_null (get_or cs j null) ≡ false → (get_or ns j 0 < length firsts) × (get_or cs (get_or firsts (get_or ns j 0) 0) null ≡ get_or cs j null)

stands_more : (cs : List Content) (i : ℕ) (firsts more ns : List ℕ) (n : ℕ) → i < length ns → ((j : ℕ) → j < length firsts → (j < length more) × (get_or more j 0 ≡ get_or firsts j 0)) → ((j : ℕ) → j < i → Stands cs firsts ns j)
    → (is_null (get_or cs i null) ≡ false → (n < length more) × (get_or cs (get_or more n 0) null ≡ get_or cs i null)) → (j : ℕ) → j < i + 1 → Stands cs more (slice_set ns i n) j
stands_more cs i firsts more ns n l kept before this j k h = ⊎_elim
    (λ (same : j ≡ i).
    let number : get_or (slice_set ns i n) j 0 ≡ n = subst (λ x. get_or (slice_set ns i n) x 0 ≡ n) (sym same) (get_or-set_same ns i n 0 l) in
    let row : get_or cs j null ≡ get_or cs i null = ap (λ x. get_or cs x null) same in
    let there = this (ap is_null (sym row) ∙ h) in
    (subst (λ x. x < length more) (sym number) there.0, ap (λ x. get_or cs (get_or more x 0) null) number ∙ there.1 ∙ sym row))
    (λ other.
    let number : get_or (slice_set ns i n) j 0 ≡ get_or ns j 0 = get_or-set_other ns i j n 0 other in
    let old = before j (omega (arith, k, other)) h in
    let there = kept (get_or ns j 0) old.0 in
    (subst (λ x. x < length more) (sym number) there.0, ap (λ x. get_or cs (get_or more x 0) null) number ∙ ap (λ x. get_or cs x null) there.1 ∙ old.1))
    (cases_eq j i)

within_more : (i : ℕ) (firsts : List ℕ) → All (λ p. p < i) firsts → All (λ p. p < i + 1) firsts
within_more i firsts h = λ j d l. let old : get_or firsts j d < i = h j d l in omega arith

small_more : (m k i n : ℕ) (ns : List ℕ) → All (λ x. x ≤ m - 1) ns → m ≤ k → n ≤ k - 1 → All (λ x. x ≤ k - 1) (slice_set ns i n)
small_more m k i n ns h le this = All-set (λ x. x ≤ k - 1) ns i n this (λ j d l. let old : get_or ns j d ≤ m - 1 = h j d l in omega arith)

kept_all : (firsts : List ℕ) (j : ℕ) → j < length firsts → (j < length firsts) × (get_or firsts j 0 ≡ get_or firsts j 0)
kept_all firsts j l = (l, refl)

-- ---- one more row

row_more : (cs : List Content) (i : ℕ) → i < length cs → take (i + 1) cs ≡ take i cs ++ get_or cs i null ∷ []
row_more cs i l = take_more cs i null l

null_row : (cs : List Content) (i : ℕ) (firsts ns : List ℕ) → i < length cs → i < length ns → is_null (get_or cs i null) ≡ true → AreFirsts cs i firsts ns → AreFirsts cs (i + 1) firsts (slice_set ns i 0)
null_row cs i firsts ns l k h p = record {
  each_once = p.each_once ∙ sym (ap distinct (row_more cs i l ∙ ap (λ c. take i cs ++ c ∷ []) (null_so (get_or cs i null) h)) ∙ distinct-null (take i cs));
  within = within_more i firsts p.within;
  there = p.there;
  small = small_more (length firsts) (length firsts) i 0 ns p.small (omega arith) (omega arith);
  stands = stands_more cs i firsts firsts ns 0 k (kept_all firsts) p.stands (λ f. absurd (false≢true (sym f ∙ h)));
}

known_row : (cs : List Content) (i : ℕ) (firsts ns : List ℕ) (n : ℕ) → i < length cs → i < length ns → is_null (get_or cs i null) ≡ false → n < length firsts → equal_content (get_or cs i null) (get_or cs (get_or firsts n 0) null) ≡ true → AreFirsts cs i firsts ns → AreFirsts cs (i + 1) firsts (slice_set ns i n)
known_row cs i firsts ns n l k f within e p = record {
  each_once = p.each_once ∙ sym (ap distinct (row_more cs i l) ∙ distinct-old (take i cs) (get_or cs i null) f (ap (list_any (equal_content (get_or cs i null))) (sym p.each_once) ∙ stands_there cs firsts (get_or cs i null) n within e));
  within = within_more i firsts p.within;
  there = p.there;
  small = small_more (length firsts) (length firsts) i n ns p.small (omega arith) (omega (arith, within));
  stands = stands_more cs i firsts firsts ns n k (kept_all firsts) p.stands (λ _. (within, sym (content_so (get_or cs i null) (get_or cs (get_or firsts n 0) null) e)));
}

new_row : (cs : List Content) (i : ℕ) (firsts ns : List ℕ) → i < length cs → i < length ns → is_null (get_or cs i null) ≡ false → ((n : ℕ) → n < length firsts → equal_content (get_or cs i null) (get_or cs (get_or firsts n 0) null) ≡ false) → AreFirsts cs i firsts ns → AreFirsts cs (i + 1) (firsts ++ i ∷ []) (slice_set ns i (length firsts))
new_row cs i firsts ns l k f apart p =
    let longer : length (firsts ++ i ∷ []) ≡ length firsts + 1 = length_push firsts i in
    record {
      each_once = at_more cs firsts i ∙ ap (λ ds. ds ++ get_or cs i null ∷ []) p.each_once
          ∙ sym (ap distinct (row_more cs i l) ∙ distinct-new (take i cs) (get_or cs i null) f (ap (list_any (equal_content (get_or cs i null))) (sym p.each_once) ∙ stands_nowhere cs firsts (get_or cs i null) apart));
      within = All-push (λ q. q < i + 1) firsts i (within_more i firsts p.within) (omega arith);
      there = All-push (λ q. is_null (get_or cs q null) ≡ false) firsts i p.there f;
      small = small_more (length firsts) (length (firsts ++ i ∷ [])) i (length firsts) ns p.small (omega (arith, longer)) (omega (arith, longer));
      stands = stands_more cs i firsts (firsts ++ i ∷ []) ns (length firsts) k
          (λ j q. (omega (arith, q, longer), get_or_append_left firsts (i ∷ []) 0 j q))
          p.stands (λ _. (omega (arith, longer), ap (λ x. get_or cs x null) (get_or_push firsts i 0 (length firsts) refl)));
    }

-- ---- the map

module _ {K : Type 0} (eq : K → K → Bool) (laws : IsEquivalence eq) where
  this_key : (keys : List K) (firsts : List ℕ) (k q : K) (i : ℕ) → i < length keys → k ≡ get_or keys i k → get_or keys (get_or (firsts ++ i ∷ []) (length firsts) 0) q ≡ k
  this_key keys firsts k q i l is = ap (λ x. get_or keys x q) (get_or_push firsts i 0 (length firsts) refl) ∙ get_or_default keys i q k l ∙ sym is

  that_key : (keys : List K) (firsts : List ℕ) (q : K) (i n : ℕ) → n < length firsts → get_or keys (get_or (firsts ++ i ∷ []) n 0) q ≡ get_or keys (get_or firsts n 0) q
  that_key keys firsts q i n l = ap (λ x. get_or keys x q) (get_or_append_left firsts (i ∷ []) 0 n l)

  found_more : (old new : K → Option ℕ) (keys : List K) (firsts : List ℕ) (k : K) (i : ℕ) → i < length keys → k ≡ get_or keys i k → ((q : K) → new q ≡ cond (eq k q) (Some (length firsts)) (old q)) → Knows eq old keys firsts → (q : K) (n : ℕ) → new q ≡ Some n → (n < length (firsts ++ i ∷ [])) × (eq q (get_or keys (get_or (firsts ++ i ∷ []) n 0) q) ≡ true)
  found_more old new keys firsts k i l is put p q n h = ⊎_elim
      (λ e.
      let number : length firsts ≡ n = cc (sym (put q ∙ ap (λ b. cond b (Some (length firsts)) (old q)) e) ∙ h) in
      subst (λ x. (x < length (firsts ++ i ∷ [])) × (eq q (get_or keys (get_or (firsts ++ i ∷ []) x 0) q) ≡ true)) number
      (omega (arith, length_push firsts i), ap (eq q) (this_key keys firsts k q i l is) ∙ laws.symm q k ∙ e))
      (λ e.
      let there = p.found q n (sym (put q ∙ ap (λ b. cond b (Some (length firsts)) (old q)) e) ∙ h) in
      (omega (arith, there.0, length_push firsts i), ap (eq q) (that_key keys firsts q i n there.0) ∙ there.1))
      (cases_Bool (eq k q))

  unknown_more : (old new : K → Option ℕ) (keys : List K) (firsts : List ℕ) (k : K) (i : ℕ) → i < length keys → k ≡ get_or keys i k → ((q : K) → new q ≡ cond (eq k q) (Some (length firsts)) (old q)) → Knows eq old keys firsts → (q : K) (n : ℕ) → new q ≡ None → n < length (firsts ++ i ∷ []) → eq q (get_or keys (get_or (firsts ++ i ∷ []) n 0) q) ≡ false
  unknown_more old new keys firsts k i l is put p q n h lt = ⊎_elim
      (λ e. absurd (cc (sym (put q ∙ ap (λ b. cond b (Some (length firsts)) (old q)) e) ∙ h)))
      (λ e. ⊎_elim
      (λ (same : n ≡ length firsts). subst (λ x. eq q (get_or keys (get_or (firsts ++ i ∷ []) x 0) q) ≡ false) (sym same) (ap (eq q) (this_key keys firsts k q i l is) ∙ laws.symm q k ∙ e))
      (λ other.
      let before : n < length firsts = omega (arith, lt, other, length_push firsts i) in
      ap (eq q) (that_key keys firsts q i n before) ∙ p.unknown q n (sym (put q ∙ ap (λ b. cond b (Some (length firsts)) (old q)) e) ∙ h) before)
      (cases_eq n (length firsts)))
      (cases_Bool (eq k q))

  knows_more : (old new : K → Option ℕ) (keys : List K) (firsts : List ℕ) (k : K) (i : ℕ) → i < length keys → k ≡ get_or keys i k → ((q : K) → new q ≡ cond (eq k q) (Some (length firsts)) (old q)) → Knows eq old keys firsts → Knows eq new keys (firsts ++ i ∷ [])
  knows_more old new keys firsts k i l is put p = record {
    found = found_more old new keys firsts k i l is put p;
    unknown = unknown_more old new keys firsts k i l is put p;
  }

  -- a key in the map is that of its content's first occurrence, and any other's content hasn't
  -- occurred
  abbrev Numbered : List K → List Bool → ℕ → List ℕ → List ℕ → Type 0
  Numbered keys present i firsts ns = (cs : List Content) → AreKeysOf eq keys present cs → AreFirsts cs i firsts ns

  first_present : (keys : List K) (present : List Bool) (cs : List Content) (i : ℕ) (firsts ns : List ℕ) (n : ℕ) → i < length keys → AreKeysOf eq keys present cs → AreFirsts cs i firsts ns → n < length firsts → (get_or firsts n 0 < length keys) × (get_or present (get_or firsts n 0) false ≡ true)
  first_present keys present cs i firsts ns n l t p lt =
      let within : get_or firsts n 0 < i = p.within n 0 lt in
      let inside : get_or firsts n 0 < length keys = omega (arith, within, l) in
      (inside, t.nulls (get_or firsts n 0) inside ∙ ap not (p.there n 0 lt))

  told : (keys : List K) (present : List Bool) (cs : List Content) (i : ℕ) (firsts ns : List ℕ) (k : K) (n : ℕ) → i < length keys → k ≡ get_or keys i k → get_or present i false ≡ true → AreKeysOf eq keys present cs → AreFirsts cs i firsts ns → n < length firsts → eq k (get_or keys (get_or firsts n 0) k) ≡ equal_content (get_or cs i null) (get_or cs (get_or firsts n 0) null)
  told keys present cs i firsts ns k n l is h t p lt =
      let first = first_present keys present cs i firsts ns n l t p lt in
      ap (λ x. eq x (get_or keys (get_or firsts n 0) k)) is ∙ t.tells i (get_or firsts n 0) k l first.0 h first.1

  not_null : (b c : Bool) → b ≡ not c → b ≡ true → c ≡ false
  not_null b true e h = absurd (false≢true (sym e ∙ h))
  not_null b false e h = refl

  is_null_so : (b c : Bool) → b ≡ not c → b ≡ false → c ≡ true
  is_null_so b true e h = refl
  is_null_so b false e h = absurd (false≢true (sym h ∙ e))

  -- the map after a row has what it had before
  pub numbered_row : (old new : K → Option ℕ) (keys : List K) (present : List Bool) (k : K) (b : Bool) (i : ℕ) (firsts more ns : List ℕ) (n : ℕ) → i < length keys → length ns ≡ length keys → k ≡ get_or keys i k → b ≡ get_or present i false → IsNumberedWhere eq old new b k i firsts more n → Knows eq old keys firsts → Numbered keys present i firsts ns
      → Knows eq new keys more × Numbered keys present (i + 1) more (slice_set ns i n)
  numbered_row old new keys present k b i firsts more ns n l many is bit (inl h) knows p = (
    subst (λ f. Knows eq f keys more) (sym h.2) (subst (Knows eq old keys) (sym h.3) knows),
    λ cs t.
        let empty : is_null (get_or cs i null) ≡ true = is_null_so (get_or present i false) (is_null (get_or cs i null)) (t.nulls i l) (sym bit ∙ h.0) in
        subst (λ fs. AreFirsts cs (i + 1) fs (slice_set ns i n)) (sym h.3) (subst (λ x. AreFirsts cs (i + 1) firsts (slice_set ns i x)) (sym h.1)
        (null_row cs i firsts ns (subst (λ m. i < m) (sym t.many) l) (subst (λ m. i < m) (sym many) l) empty (p cs t))),
  )
  numbered_row old new keys present k b i firsts more ns n l many is bit (inr (b_true, inl h)) knows p = (
    subst (λ f. Knows eq f keys more) (sym h.1) (subst (Knows eq old keys) (sym h.2) knows),
    λ cs t.
        let here : get_or present i false ≡ true = sym bit ∙ b_true in
        let full : is_null (get_or cs i null) ≡ false = not_null (get_or present i false) (is_null (get_or cs i null)) (t.nulls i l) here in
        let there = knows.found k n h.0 in
        subst (λ fs. AreFirsts cs (i + 1) fs (slice_set ns i n)) (sym h.2)
        (known_row cs i firsts ns n (subst (λ m. i < m) (sym t.many) l) (subst (λ m. i < m) (sym many) l) full there.0 (sym (told keys present cs i firsts ns k n l is here t (p cs t) there.0) ∙ there.1) (p cs t)),
  )
  numbered_row old new keys present k b i firsts more ns n l many is bit (inr (b_true, inr h)) knows p = (
    subst (Knows eq new keys) (sym h.2) (knows_more old new keys firsts k i l is h.3 knows),
    λ cs t.
        let here : get_or present i false ≡ true = sym bit ∙ b_true in
        let full : is_null (get_or cs i null) ≡ false = not_null (get_or present i false) (is_null (get_or cs i null)) (t.nulls i l) here in
        subst (λ fs. AreFirsts cs (i + 1) fs (slice_set ns i n)) (sym h.2) (subst (λ x. AreFirsts cs (i + 1) (firsts ++ i ∷ []) (slice_set ns i x)) (sym h.1)
        (new_row cs i firsts ns (subst (λ m. i < m) (sym t.many) l) (subst (λ m. i < m) (sym many) l) full (λ m lt. sym (told keys present cs i firsts ns k m l is here t (p cs t) lt) ∙ knows.unknown k m h.0 lt) (p cs t))),
  )

  -- the map before the first row is empty
  pub knows_none : (number : K → Option ℕ) (keys : List K) → ((q : K) → number q ≡ None) → Knows eq number keys []
  knows_none number keys none = record { found = λ q n h. absurd (cc (sym (none q) ∙ h)); unknown = λ q n h l. absurd (omega arith) }

  pub numbered_none : (keys : List K) (present : List Bool) (ns : List ℕ) → All (λ n. n ≡ 0) ns → Numbered keys present 0 [] ns
  numbered_none keys present ns zeros = λ cs t. record {
    each_once = refl;
    within = All-nil (λ p. p < 0);
    there = All-nil (λ p. is_null (get_or cs p null) ≡ false);
    small = λ j d l. let zero_so : get_or ns j d ≡ 0 = zeros j d l in omega (arith, zero_so);
    stands = λ j l. absurd (omega arith);
  }

  pub numbered_all : (keys : List K) (present : List Bool) (i : ℕ) (firsts ns : List ℕ) → i ≡ length keys → length ns ≡ length keys → Numbered keys present i firsts ns → (cs : List Content) → AreKeysOf eq keys present cs → AreNumbered cs firsts ns
  numbered_all keys present i firsts ns e many p cs t = record {
    many = many ∙ sym t.many;
    firsts_of_all = subst (λ m. AreFirsts cs m firsts ns) (e ∙ sym t.many) (p cs t);
  }
