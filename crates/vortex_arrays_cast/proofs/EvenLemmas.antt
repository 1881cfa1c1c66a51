-- Lists of one size that are end to end, as list views and as fixed-size lists.
use Rattle.std.proofs.Common.{◌≡◌, ◌<◌, ◌≤◌, ◌+◌, ◌*◌, ℕ, suc, pos, Bool, true, false, cond, List, length, map, replicate, get_or, refl, sym, ap, subst, ◌∙◌, arith, nat_lt, Option, Some, None, IfSome}
use Rattle.std.specs.List.{range_with_len}
use Rattle.std.proofs.lemmas.Bool.Decides.{nat_tests}
use Rattle.std.proofs.lemmas.Nat.{mul-le}
use Rattle.std.proofs.lemmas.List.{length-map, length-replicate, get_or-map, get_or-replicate}
use Rattle.std.proofs.lemmas.List.FromFn.{length-map-range_with_len, get_or-map-range_with_len}
use Rattle.vortex_model.specs.LogicalType.{LogicalType, list, fixed_list, Nullability}
use Rattle.vortex_model.specs.Content.{Content, null, integer, tuple}
use Rattle.vortex_model.specs.Convert.{converts}
use Rattle.vortex_arrays_model.specs.Layout.{Layout, list_views, fixed_lists, Valid, len_of, array_type_of, nullability_by, content_at, is_valid, number_in, span, IsOffsets, IsView, IsSound}
use Rattle.vortex_arrays_model.specs.Canonical.{counts}
use Rattle.vortex_arrays_cast.specs.Cast.{IsCast, StandEvenly}

-- ---- list views and fixed-size lists

-- A list is converted as a fixed-size list is.
list_held : (a : LogicalType) (s : ℕ) (n : Nullability) (k : LogicalType) (c : Content) → converts (fixed_list a s n) k c ≡ converts (list a n) k c
list_held a s n k null = refl
list_held a s n (list b m) (tuple cs) = refl
list_held a s n (fixed_list b j m) (tuple cs) = refl
list_held a s n k (tuple cs) = refl
list_held a s n k c = refl

module _ (e o z : Layout) (s : ℕ) (v : Valid) (h : StandEvenly e o z s) where
  pub same_lists : (f : Bool) (i : ℕ) → i < len_of o → content_at (list_views e o z f v) i ≡ content_at (fixed_lists e s (len_of o) v) i
  same_lists f i l = λ t. cond (is_valid v i) (tuple (span (λ j. content_at e j) (number_in (h.offset i l t)) (number_in (h.size i l t)))) null

  pub as_views : (k : LogicalType) (r : Layout) (f : Bool) → IsCast k (list_views e o z f v) r → IsCast k (fixed_lists e s (len_of o) v) r
  as_views k r f c = record {
    sound = c.sound;
    len = c.len;
    kind = c.kind;
    content = λ i l. c.content i l ∙ same_lists f i l;
    held = λ i l. list_held (array_type_of e) s (nullability_by v) k (content_at (fixed_lists e s (len_of o) v) i) ∙ ap (converts (list (array_type_of e) (nullability_by v)) k) (sym (same_lists f i l)) ∙ c.held i l;
    layout = c.layout;
  }

  pub as_fixed : (k : LogicalType) (r : Layout) (f : Bool) → IsCast k (fixed_lists e s (len_of o) v) r → IsCast k (list_views e o z f v) r
  as_fixed k r f c = record {
    sound = c.sound;
    len = c.len;
    kind = c.kind;
    content = λ i l. c.content i l ∙ sym (same_lists f i l);
    held = λ i l. sym (list_held (array_type_of e) s (nullability_by v) k (content_at (list_views e o z f v) i)) ∙ ap (converts (fixed_list (array_type_of e) s (nullability_by v)) k) (same_lists f i l) ∙ c.held i l;
    layout = c.layout;
  }

  pub fixed_sound : (f : Bool) → IsSound (list_views e o z f v) → IsSound (fixed_lists e s (len_of o) v)
  fixed_sound f sound = (sound.0, h.all, sound.6)

  within : (i : ℕ) → i < len_of o → i * s + s ≤ len_of e
  within i l = subst (λ n. i * s + s ≤ n) (sym h.all) (subst (λ n. n ≤ len_of o * s) (omega arith) (mul-le (suc i) s (len_of o) s l (omega arith)))

  view : (i : ℕ) → i < len_of o → IsView (len_of e) (content_at o i) (content_at z i)
  view i l = subst (IsView (len_of e) (content_at o i)) (sym (h.size i l)) (subst (λ c. IsView (len_of e) c (integer (pos s))) (sym (h.offset i l)) (within i l))

  follow : (i : ℕ) → suc i < len_of o → number_in (content_at o (suc i)) ≡ number_in (content_at o i) + number_in (content_at z i)
  follow i l =
      let before : i < len_of o = omega (arith, l) in
      ap number_in (h.offset (suc i) l) ∙ (let e : suc i * s ≡ i * s + s = omega arith in e) ∙ sym (λ t. number_in (h.offset i before t) + number_in (h.size i before t))

  pub views_sound : IsSound (fixed_lists e s (len_of o) v) → IsSound o → IsSound z → IsOffsets (array_type_of o) → IsOffsets (array_type_of z) → IsSound (list_views e o z true v)
  views_sound sound so sz to tz = (sound.0, so, sz, to, tz, h.many, sound.2, view, (λ t i l. follow i l))

-- ---- to list views

pub made_evenly : (e : Layout) (s n : ℕ) → len_of e ≡ n * s → StandEvenly e (counts (map (λ i. i * s) (range_with_len 0 n))) (counts (replicate n s)) s
made_evenly e s n h =
    let os = map (λ i. i * s) (range_with_len 0 n) in
    let zs = replicate n s in
    let many_os : length os ≡ n = length-map-range_with_len (λ i. i * s) 0 n in
    let many_zs : length zs ≡ n = length-replicate n s in
    let all_os : len_of (counts os) ≡ n = length-map os pos ∙ many_os in
    let all_zs : len_of (counts zs) ≡ n = length-map zs pos ∙ many_zs in
    record {
      all = h ∙ ap (λ m. m * s) (sym all_os);
      many = all_zs ∙ sym all_os;
      offset = λ i l. let within : i < n = subst (λ m. i < m) all_os l in ap integer (get_or-map pos os i 0 (pos 0) (subst (λ m. i < m) (sym many_os) within) ∙ ap pos (get_or-map-range_with_len (λ j. j * s) 0 n i i 0 within (omega arith)));
      size = λ i l. let within : i < n = subst (λ m. i < m) all_os l in ap integer (get_or-map pos zs i 0 (pos 0) (subst (λ m. i < m) (sym many_zs) within) ∙ ap pos (get_or-replicate n i s 0 within));
    }

-- the list views of fixed-size lists
module _ (e o z : Layout) (s n : ℕ) (v : Valid) (at_o : o ≡ counts (map (λ i. i * s) (range_with_len 0 n))) (at_z : z ≡ counts (replicate n s)) (sound : IsSound (fixed_lists e s n v)) where
  made : StandEvenly e o z s
  made = subst (λ x. StandEvenly e x z s) (sym at_o) (subst (λ y. StandEvenly e (counts (map (λ i. i * s) (range_with_len 0 n))) y s) (sym at_z) (made_evenly e s n sound.1))

  made_many : len_of o ≡ n
  made_many = ap len_of at_o ∙ length-map (map (λ i. i * s) (range_with_len 0 n)) pos ∙ length-map-range_with_len (λ i. i * s) 0 n

  pub made_sound : IsSound o → IsSound z → IsSound (list_views e o z true v)
  made_sound so sz = views_sound e o z s v made (subst (λ m. IsSound (fixed_lists e s m v)) (sym made_many) sound) so sz
      (subst (λ x. IsOffsets (array_type_of x)) (sym at_o) tt) (subst (λ x. IsOffsets (array_type_of x)) (sym at_z) tt)

  pub made_back : (k : LogicalType) (r : Layout) → IsCast k (list_views e o z true v) r → IsCast k (fixed_lists e s n v) r
  made_back k r c = subst (λ m. IsCast k (fixed_lists e s m v) r) made_many (as_views e o z s v made k r true c)

-- ---- tests

-- the first i lists have the size, are end to end, and end before element `end`
pub record FirstEven (os zs : List ℕ) (s i end : ℕ) : Type 0 where
  pub whole : end ≡ i * s
  pub offset : (j : ℕ) → j < i → get_or os j 0 ≡ j * s
  pub size : (j : ℕ) → j < i → get_or zs j 0 ≡ s

pub first_even : (os zs : List ℕ) (s : ℕ) → FirstEven os zs s 0 0
first_even os zs s = record { whole = omega arith; offset = λ j l. absurd (omega (arith, l)); size = λ j l. absurd (omega (arith, l)) }

upto : (f : ℕ → ℕ) (g : ℕ → ℕ) (i : ℕ) → ((j : ℕ) → j < i → f j ≡ g j) → f i ≡ g i → (j : ℕ) → j < suc i → f j ≡ g j
upto f g i h e j l = by (nat_lt j i) refl
  where
    by : (b : Bool) → nat_lt j i ≡ b → f j ≡ g j
    by true t = h j (grind (arith, nat_tests, t))
    by false t =
        let here : j ≡ i = grind (arith, nat_tests, t, l) in
        ap f here ∙ e ∙ ap g (sym here)

pub more_even : (os zs : List ℕ) (s i end next : ℕ) → FirstEven os zs s i end → get_or os i 0 ≡ end → get_or zs i 0 ≡ s → next ≡ end + s → FirstEven os zs s (i + 1) next
more_even os zs s i end next h o z e = record {
  whole = e ∙ ap (λ n. n + s) h.whole ∙ (let d : i * s + s ≡ (i + 1) * s = omega arith in d);
  offset = λ j l. upto (λ k. get_or os k 0) (λ k. k * s) i h.offset (o ∙ h.whole) j (omega (arith, l));
  size = λ j l. upto (λ k. get_or zs k 0) (λ k. s) i h.size z j (omega (arith, l));
}

pub all_even : (e : Layout) (os zs : List ℕ) (s i end : ℕ) → length zs ≡ length os → i ≡ length os → end ≡ len_of e → FirstEven os zs s i end → StandEvenly e (counts os) (counts zs) s
all_even e os zs s i end many done last h =
    let all_os : len_of (counts os) ≡ length os = length-map os pos in
    record {
      all = sym last ∙ h.whole ∙ ap (λ n. n * s) (done ∙ sym all_os);
      many = length-map zs pos ∙ many ∙ sym all_os;
      offset = λ j l. let within : j < length os = subst (λ m. j < m) all_os l in ap integer (get_or-map pos os j 0 (pos 0) within ∙ ap pos (h.offset j (subst (λ m. j < m) (sym done) within)));
      size = λ j l. let within : j < length os = subst (λ m. j < m) all_os l in ap integer (get_or-map pos zs j 0 (pos 0) (subst (λ m. j < m) (sym many) within) ∙ ap pos (h.size j (subst (λ m. j < m) (sym done) within)));
    }

pub ruleset checked = (first_even, more_even, all_even)

-- ---- lists that passed the test

pub some_weaker : {X : Type 0} (o : Option X) (P Q : X → Type 0) → ((x : X) → P x → Q x) → IfSome o P → IfSome o Q
some_weaker None P Q f h = tt
some_weaker (Some x) P Q f h = f x h

pub ruleset views = (made_sound)

pub ruleset fixed = (fixed_sound)
