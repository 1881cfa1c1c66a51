-- Lists whose elements are cast, and lists that are end to end.
use Rattle.std.proofs.Common.{◌≡◌, ◌<◌, ◌≤◌, ◌+◌, ◌*◌, ◌==◌, ℕ, zero, suc, pos, Bool, true, false, ◌&&◌, cond, List, [], ◌∷◌, ◌++◌, length, map, take, get_or, refl, sym, ap, subst, ◌∙◌, ⊎_elim, arith}
use Rattle.std.proofs.Math.Nat.{eq-or-lt_of_le}
use Rattle.std.specs.List.{range_with_len}
use Rattle.std.proofs.lemmas.Bool.Decides.{nat_tests}
use Rattle.std.proofs.lemmas.Nat.{mul-add-lt}
use Rattle.std.proofs.lemmas.List.{take_more, take_all, length-map, get_or-map}
use Rattle.std.proofs.lemmas.List.FromFn.{length-range_with_len}
use Rattle.vortex_model.specs.LogicalType.{LogicalType, list, fixed_list, Nullability}
use Rattle.vortex_model.specs.Content.{Content, null, integer, tuple}
use Rattle.vortex_model.specs.Convert.{converts, all_convert}
use Rattle.vortex_model.proofs.Lists.{range_split}
use Rattle.vortex_dtype_core.proofs.Views.{one_level}
use Rattle.vortex_arrays_model.specs.Layout.{Layout, list_views, fixed_lists, Valid, len_of, array_type_of, nullability_by, content_at, is_valid, number_in, span, rows_of, AreEndToEnd, IsView, IsSound}
use Rattle.vortex_arrays_model.specs.Canonical.{counts, items_of, IsCanonical, IsLaidOut}
use Rattle.vortex_arrays_model.proofs.CanonicalLemmas.{items_valid, items_null, canonical_more, canonical_none, canonical_all}
use Rattle.vortex_arrays_model.proofs.PicksLemmas.{eq_span}
use Rattle.vortex_arrays_model.proofs.RowsLemmas.{row_at_position, row_count, rows_by_position}
use Rattle.vortex_arrays_model.proofs.ValidRows.{view_within, count-span}
use Rattle.vortex_arrays_validity.specs.Validities.{IsRecast}
use Rattle.vortex_arrays_cast.specs.Cast.{IsCast}
use Rattle.vortex_arrays_cast.proofs.CastLemmas.{row_held, cast_rows}

-- ---- the elements of a list

span_held : (s t : LogicalType) (f : ℕ → Content) (i n : ℕ) → ((k : ℕ) → k < n → converts s t (f (i + k)) ≡ true) → all_convert s t (span f i n) ≡ true
span_held s t f i zero h = refl
span_held s t f i (suc n) h =
    let here : converts s t (f i) ≡ true = ap (λ j. converts s t (f j)) (let e : i ≡ i + 0 = omega arith in e) ∙ h 0 (omega arith) in
    let rest = span_held s t f (i + 1) n (λ k l. ap (λ j. converts s t (f j)) (let e : i + 1 + k ≡ i + suc k = omega arith in e) ∙ h (suc k) (omega (arith, l))) in
    λ j. here j && rest j

module _ (k : LogicalType) (e d : Layout) (c : IsCast k e d) (i n : ℕ) (within : i + n ≤ len_of e) where
  pub span_same : span (λ j. content_at d j) i n ≡ span (λ j. content_at e j) i n
  span_same = eq_span (λ j. content_at d j) (λ j. content_at e j) i i n (λ m l. c.content (i + m) (omega (arith, within, l)))

  pub span_converts : all_convert (array_type_of e) k (span (λ j. content_at e j) i n) ≡ true
  span_converts = span_held (array_type_of e) k (λ j. content_at e j) i n (λ m l. c.held (i + m) (omega (arith, within, l)))

-- ---- fixed-size lists

within_lists : (i s n : ℕ) → i < n → i * s + s ≤ n * s
within_lists i zero n l = omega (arith, l)
within_lists i (suc s) n l = omega (arith, mul-add-lt i (suc s) s n l (omega arith))

pub cast_fixed_lists : (k : LogicalType) (e d : Layout) (s n : ℕ) (v w : Valid) (m : Nullability) → IsCast k e d → IsSound (fixed_lists e s n v) → IsRecast v w m n → IsCast (fixed_list k s m) (fixed_lists e s n v) (fixed_lists d s n w)
cast_fixed_lists k e d s n v w m c sound h =
    let within : (i : ℕ) → i < n → i * s + s ≤ len_of e = λ i l. subst (λ t. i * s + s ≤ t) (sym sound.1) (within_lists i s n l) in
    let same_count : (x : ℕ) → (x == x) ≡ true = λ x. grind (arith, nat_tests) in
    record {
      sound = (c.sound, c.len ∙ sound.1, h.fits);
      len = refl;
      kind = λ t. fixed_list (c.kind t) s (h.nullability t);
      content = λ i l. ap (λ b. cond b (tuple (span (λ j. content_at d j) (i * s) s)) null) (h.rows i l) ∙ ap (λ x. cond (is_valid v i) (tuple x) null) (span_same k e d c (i * s) s (within i l));
      held = λ i l. row_held (fixed_list (array_type_of e) s (nullability_by v)) (fixed_list k s m) v w m n i (tuple (span (λ j. content_at e j) (i * s) s)) refl h l
          (ap (λ x. (x == s) && all_convert (array_type_of e) k (span (λ j. content_at e j) (i * s) s)) (count-span (λ j. content_at e j) (i * s) s) ∙ (λ j. same_count s j && span_converts k e d c (i * s) s (within i l) j));
      layout = c.layout;
    }

-- ---- lists of any size

-- the parts of list views
abbrev elements_in : Layout → Layout
elements_in (list_views e o s f v) = e
elements_in a = a

abbrev offsets_in : Layout → Layout
offsets_in (list_views e o s f v) = o
offsets_in a = a

abbrev sizes_in : Layout → Layout
sizes_in (list_views e o s f v) = s
sizes_in a = a

abbrev flag_in : Layout → Bool
flag_in (list_views e o s f v) = f
flag_in a = false

module _ (k : LogicalType) (e d o s : Layout) (f : Bool) (v w : Valid) (m : Nullability) (c : IsCast k e d) (sound : IsSound (list_views e o s f v)) (h : IsRecast v w m (len_of o)) where
  within : (i : ℕ) → i < len_of o → number_in (content_at o i) + number_in (content_at s i) ≤ len_of e
  within i l = view_within (len_of e) (content_at o i) (content_at s i) (sound.7 i l)

  list_row : (i : ℕ) → i < len_of o → content_at (list_views d o s f w) i ≡ content_at (list_views e o s f v) i
  list_row i l =
      ap (λ b. cond b (tuple (span (λ j. content_at d j) (number_in (content_at o i)) (number_in (content_at s i)))) null) (h.rows i l)
      ∙ ap (λ x. cond (is_valid v i) (tuple x) null) (span_same k e d c (number_in (content_at o i)) (number_in (content_at s i)) (within i l))

  list_rows : rows_of (list_views d o s false w) ≡ rows_of (list_views e o s false v)
  list_rows = rows_by_position (list_views d o s false w) (rows_of (list_views e o s false v)) (row_count (list_views e o s false v)) (λ i l. row_at_position (list_views e o s false v) i null l ∙ sym (list_row i l))

  laid_out : IsLaidOut e o s v (list_views e o s f v) → IsLaidOut d o s w (list_views d o s f w)
  laid_out p = record {
    offsets = p.offsets;
    sizes = p.sizes;
    elements = d;
    made = λ t. list_views d (offsets_in (p.made t)) (sizes_in (p.made t)) (flag_in (p.made t)) w;
    kind = refl;
    canonical = subst (λ rows. IsCanonical rows p.offsets p.sizes (rows_of d)) (sym list_rows)
        (subst (IsCanonical (rows_of (list_views e o s false v)) p.offsets p.sizes) (ap (λ a. rows_of (elements_in a)) (sym p.made) ∙ sym (cast_rows k e d c)) p.canonical);
  }

  pub cast_list_views : IsLaidOut e o s v (list_views e o s f v) → IsCast (list k m) (list_views e o s f v) (list_views d o s f w)
  cast_list_views p = record {
    sound = (c.sound, sound.1, sound.2, sound.3, sound.4, sound.5, h.fits, (λ i l. subst (λ n. IsView n (content_at o i) (content_at s i)) (sym c.len) (sound.7 i l)), sound.8);
    len = refl;
    kind = λ t. list (c.kind t) (h.nullability t);
    content = list_row;
    held = λ i l. row_held (list (array_type_of e) (nullability_by v)) (list k m) v w m (len_of o) i (tuple (span (λ j. content_at e j) (number_in (content_at o i)) (number_in (content_at s i)))) refl h l
        (span_converts k e d c (number_in (content_at o i)) (number_in (content_at s i)) (within i l));
    layout = (c.layout, laid_out p);
  }

-- ---- null lists without elements

-- of the first n lists the null ones are empty
abbrev pub AreEmpty : Valid → List ℕ → ℕ → Type 0
AreEmpty v sizes n = (i : ℕ) → i < n → is_valid v i ≡ false → get_or sizes i 0 ≡ 0

pub none_empty : (v : Valid) (sizes : List ℕ) → AreEmpty v sizes 0
none_empty v sizes i l t = absurd (omega (arith, l))

pub more_empty : (v : Valid) (sizes : List ℕ) (n : ℕ) → AreEmpty v sizes n → (is_valid v n ≡ false → get_or sizes n 0 ≡ 0) → AreEmpty v sizes (n + 1)
more_empty v sizes n h here i l =
    ⊎_elim (λ e t. ap (λ k. get_or sizes k 0) e ∙ here (ap (λ k. is_valid v k) (sym e) ∙ t)) (λ b. h i b) (eq-or-lt_of_le (let le : i ≤ n = omega (arith, l) in le))

pub ruleset empty_lists = (none_empty, more_empty)

-- ---- lists that are end to end

-- the first i lists are end to end, and end before an element
module _ (e : Layout) (os ss : List ℕ) (v : Valid) where
  abbrev lists : Layout
  lists = list_views e (counts os) (counts ss) false v

  abbrev pub FirstStand : ℕ → ℕ → Type 0
  FirstStand i end = IsCanonical (take i (rows_of lists)) (take i os) (take i ss) (map (content_at e) (range_with_len 0 end))

  pub first_stand : FirstStand 0 0
  first_stand = canonical_none lists (content_at e)

  number_there : (xs : List ℕ) (i : ℕ) → i < length xs → number_in (content_at (counts xs) i) ≡ get_or xs i 0
  number_there xs i l = ap (λ z. number_in (integer z)) (get_or-map pos xs i 0 (pos 0) l)

  -- the elements of a list, or none of a null one
  items : (i end size : ℕ) (b : Bool) → is_valid v i ≡ b → (b ≡ false → size ≡ 0) → end ≡ number_in (content_at (counts os) i) → size ≡ number_in (content_at (counts ss) i) → items_of (content_at lists i) ≡ map (content_at e) (range_with_len end size)
  items i end size true t h p q = items_valid e (counts os) (counts ss) false v i end size t p q
  items i end size false t h p q = items_null e (counts os) (counts ss) false v i t ∙ ap (λ n. map (content_at e) (range_with_len end n)) (sym (h refl))

  pub more_stand : (i end size sum : ℕ) → length ss ≡ length os → i < length os → FirstStand i end → get_or os i 0 ≡ end → get_or ss i 0 ≡ size → (is_valid v i ≡ false → size ≡ 0) → sum ≡ end + size → FirstStand (i + 1) sum
  more_stand i end size sum many l h o s null_is_empty total =
      let l_ss : i < length ss = subst (λ n. i < n) (sym many) l in
      let inside : i < len_of (counts os) = subst (λ n. i < n) (sym (length-map os pos)) l in
      let next = canonical_more lists (content_at e) (take i os) (take i ss) (range_with_len 0 end) i end size h inside
      (items i end size (is_valid v i) refl null_is_empty (sym o ∙ sym (number_there os i l)) (sym s ∙ sym (number_there ss i l_ss))) in
      let os_more : take i os ++ length (range_with_len 0 end) ∷ [] ≡ take (i + 1) os = ap (λ x. take i os ++ x ∷ []) (length-range_with_len 0 end ∙ sym o) ∙ sym (take_more os i 0 l) in
      let ss_more : take i ss ++ size ∷ [] ≡ take (i + 1) ss = ap (λ x. take i ss ++ x ∷ []) (sym s) ∙ sym (take_more ss i 0 l_ss) in
      let all : range_with_len 0 end ++ range_with_len end size ≡ range_with_len 0 sum = sym (range_split 0 end size sum end total (omega arith)) in
      subst (λ xs. IsCanonical (take (i + 1) (rows_of lists)) (take (i + 1) os) (take (i + 1) ss) (map (content_at e) xs)) all
      (subst (λ xs. IsCanonical (take (i + 1) (rows_of lists)) (take (i + 1) os) xs (map (content_at e) (range_with_len 0 end ++ range_with_len end size))) ss_more
      (subst (λ xs. IsCanonical (take (i + 1) (rows_of lists)) xs (take i ss ++ size ∷ []) (map (content_at e) (range_with_len 0 end ++ range_with_len end size))) os_more next))

  pub all_stand : (i end : ℕ) → length ss ≡ length os → i ≡ length os → end ≡ len_of e → FirstStand i end → IsLaidOut e (counts os) (counts ss) v (list_views e (counts os) (counts ss) true v)
  all_stand i end many done last h = record {
    offsets = os;
    sizes = ss;
    elements = e;
    made = refl;
    kind = refl;
    canonical = canonical_all lists i os ss (rows_of e) (omega (arith, done, length-map os pos))
        (subst (λ n. IsCanonical (take i (rows_of lists)) os ss (map (content_at e) (range_with_len 0 n))) last
        (subst (λ xs. IsCanonical (take i (rows_of lists)) os xs (map (content_at e) (range_with_len 0 end))) (take_all i ss (omega (arith, done, many)))
        (subst (λ xs. IsCanonical (take i (rows_of lists)) xs (take i ss) (map (content_at e) (range_with_len 0 end))) (take_all i os (omega (arith, done))) h)));
  }

  -- if lists follow one another from the first element on, so do the first of them
  first_lists : length ss ≡ length os → AreEndToEnd (counts os) (counts ss) → get_or os 0 0 ≡ 0 → ((i : ℕ) → i < length ss → is_valid v i ≡ false → get_or ss i 0 ≡ 0) → (i : ℕ) → i < length os → FirstStand (i + 1) (get_or os i 0 + get_or ss i 0)
  first_lists many follow first empty zero l =
      more_stand 0 0 (get_or ss 0 0) (get_or os 0 0 + get_or ss 0 0) many l first_stand first refl (empty 0 (subst (λ n. 0 < n) (sym many) l)) (ap (λ o. o + get_or ss 0 0) first)
  first_lists many follow first empty (suc i) l =
      let before : i < length os = omega (arith, l) in
      let before_ss : i < length ss = subst (λ n. i < n) (sym many) before in
      let there : suc i < len_of (counts os) = subst (λ n. suc i < n) (sym (length-map os pos)) l in
      let begins : get_or os (suc i) 0 ≡ get_or os i 0 + get_or ss i 0 =
      sym (number_there os (suc i) l) ∙ follow i there ∙ (λ j. number_there os i before j + number_there ss i before_ss j) in
      let counted : i + 1 ≡ suc i = omega arith in
      let h = subst (λ n. FirstStand n (get_or os i 0 + get_or ss i 0)) counted (first_lists many follow first empty i before) in
      more_stand (suc i) (get_or os i 0 + get_or ss i 0) (get_or ss (suc i) 0) (get_or os (suc i) 0 + get_or ss (suc i) 0) many l h begins refl
      (empty (suc i) (subst (λ n. suc i < n) (sym many) l)) (ap (λ o. o + get_or ss (suc i) 0) begins)

  spanned_by : (n : ℕ) → length os ≡ n → length ss ≡ length os → AreEndToEnd (counts os) (counts ss) → (length os ≡ 0 → len_of e ≡ 0) → get_or os 0 0 ≡ 0 → ((n : ℕ) → length os ≡ suc n → get_or os n 0 + get_or ss n 0 ≡ len_of e) → ((i : ℕ) → i < length ss → is_valid v i ≡ false → get_or ss i 0 ≡ 0) → IsLaidOut e (counts os) (counts ss) v (list_views e (counts os) (counts ss) true v)
  spanned_by zero p many follow none first last empty = all_stand 0 0 many (sym p) (sym (none p)) first_stand
  spanned_by (suc n) p many follow none first last empty =
      all_stand (n + 1) (get_or os n 0 + get_or ss n 0) many (omega (arith, p)) (last n p) (first_lists many follow first empty n (omega (arith, p)))

  pub spanned : length ss ≡ length os → AreEndToEnd (counts os) (counts ss) → (length os ≡ 0 → len_of e ≡ 0) → get_or os 0 0 ≡ 0 → ((n : ℕ) → length os ≡ suc n → get_or os n 0 + get_or ss n 0 ≡ len_of e) → ((i : ℕ) → i < length ss → is_valid v i ≡ false → get_or ss i 0 ≡ 0) → IsLaidOut e (counts os) (counts ss) v (list_views e (counts os) (counts ss) true v)
  spanned = spanned_by (length os) refl

pub ruleset fixed = (one_level, cast_fixed_lists)

pub ruleset views = (one_level, cast_list_views)
