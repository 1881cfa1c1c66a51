-- Lists that are end to end, as list views.
use Rattle.std.proofs.Common.{◌≡◌, ◌<◌, ◌≤◌, ◌+◌, ℕ, zero, suc, ℤ, pos, Bool, true, false, cond, List, [], ◌∷◌, ◌++◌, length, map, take, get_or, refl, sym, ap, subst, ◌∙◌, arith}
use Rattle.std.specs.List.{flat_map, range_with_len, All}
use Rattle.std.proofs.lemmas.List.{length-map, length-append, get_or-map, take_more, take_all}
use Rattle.std.proofs.lemmas.List.FromFn.{length-range_with_len}
use Rattle.std.proofs.lemmas.List.Concat.{get_or-flat_map}
use Rattle.std.proofs.lemmas.List.Folds.{length-flat_map-take}
use Rattle.std.proofs.lemmas.List.Elements.{All-nil, All-cons, All-append}
use Rattle.std.specs.Cmp.{first_so, second_so}
use Rattle.vortex_model.specs.LogicalType.{LogicalType, list, Nullability, non_nullable, nullable, IntKind, u64}
use Rattle.vortex_model.specs.Content.{Content, null, integer, tuple, Contents, first, content_of, contents_of, Raw, raw_null, raw_tuple, Raws, no_raws, raw_first}
use Rattle.vortex_model.specs.Valid.{valid, all_have, InRange}
use Rattle.vortex_model.proofs.Lists.{range_split}
use Rattle.vortex_arrays_model.specs.Layout.{Layout, list_views, numbers, required, Valid, len_of, content_at, is_valid, number_in, span, rows_of, IsSound, IsView, AreEndToEnd, HasLength}
use Rattle.vortex_arrays_model.specs.Canonical.{items_of, IsCanonical, counts, IsLaidOut}
use Rattle.vortex_arrays_model.proofs.CanonicalLemmas.{items_valid as items_valid_row, items_null, canonical_more, canonical_none, canonical_all}
use Rattle.vortex_arrays_builder.specs.Items.{raws_listed, raw_items, StandEndToEnd}
use Rattle.vortex_arrays_builder.specs.Plain.{is_held, is_there, MarksNulls, IsPlain}
use Rattle.vortex_arrays_builder.proofs.ItemLemmas.{flat_push}

-- ---- the items are values of the element's type

pub items_valid : (k : LogicalType) (qs : Raws) → all_have k qs ≡ true → All (λ r. valid k r ≡ true) (raws_listed qs)
items_valid k no_raws h = All-nil (λ r. valid k r ≡ true)
items_valid k (raw_first q qs) h = All-cons (λ r. valid k r ≡ true) q (raws_listed qs) (first_so (valid k q) (all_have k qs) h) (items_valid k qs (second_so (valid k q) (all_have k qs) h))

row_items_valid : (k : LogicalType) (n : Nullability) (r : Raw) → is_held (list k n) r ≡ true → All (λ r. valid k r ≡ true) (raw_items r)
row_items_valid k n raw_null h = All-nil (λ r. valid k r ≡ true)
row_items_valid k n (raw_tuple qs) h = items_valid k qs h
row_items_valid k n r h = absurd (cc h)

pub all_items_valid : (k : LogicalType) (n : Nullability) (rs : List Raw) → All (λ r. is_held (list k n) r ≡ true) rs → All (λ r. valid k r ≡ true) (flat_map raw_items rs)
all_items_valid k n [] h = All-nil (λ r. valid k r ≡ true)
all_items_valid k n (r ∷ rs) h = All-append (λ r. valid k r ≡ true) (raw_items r) (flat_map raw_items rs) (row_items_valid k n r (h 0 raw_null (omega arith))) (all_items_valid k n rs (λ i d l. h (suc i) d (omega arith)))

-- a value of a type is null or one of the type
pub valid_held : (k : LogicalType) (r : Raw) → valid k r ≡ true → is_held k r ≡ true
valid_held k raw_null h = refl
valid_held k r h = h

pub all_held : (k : LogicalType) (rs : List Raw) → All (λ r. valid k r ≡ true) rs → All (λ r. is_held k r ≡ true) rs
all_held k rs h = λ i d l. valid_held k (get_or rs i d) (h i d l)

-- ---- contents one after another

pub spanned : (f : ℕ → Content) (qs : Raws) (start : ℕ) → ((j : ℕ) → j < length (raws_listed qs) → f (start + j) ≡ content_of (get_or (raws_listed qs) j raw_null)) → span f start (length (raws_listed qs)) ≡ contents_of qs
spanned f no_raws start h = refl
spanned f (raw_first q qs) start h =
    let here : f start ≡ content_of q = ap f (let e : start ≡ start + 0 = omega arith in e) ∙ h 0 (omega arith) in
    let rest = spanned f qs (start + 1) (λ j l. ap f (let e : start + 1 + j ≡ start + suc j = omega arith in e) ∙ h (suc j) (omega (arith, l))) in
    λ i. first (here i) (rest i)

-- the items of a row among those of all
pub item_content : (k : LogicalType) (f : Raw → List Raw) (rs : List Raw) (e : Layout) (i j : ℕ) → IsPlain k (flat_map f rs) e → i < length rs → j < length (f (get_or rs i raw_null)) → valid k (get_or (f (get_or rs i raw_null)) j raw_null) ≡ true → content_at e (length (flat_map f (take i rs)) + j) ≡ content_of (get_or (f (get_or rs i raw_null)) j raw_null)
item_content k f rs e i j p l m h =
    let at : ℕ = length (flat_map f (take i rs)) + j in
    let there : get_or (flat_map f rs) at raw_null ≡ get_or (f (get_or rs i raw_null)) j raw_null = get_or-flat_map f rs i j raw_null raw_null l m in
    let room = length-flat_map-take f rs i raw_null l in
    p.content at (omega (arith, room, m)) (ap (valid k) there ∙ h) ∙ ap content_of there

-- ---- the array

-- a list is null or has its items inside
list_row : (k : LogicalType) (n : Nullability) (r : Raw) (b : Bool) (s : Contents) → b ≡ is_there n r → ((qs : Raws) → r ≡ raw_tuple qs → all_have k qs ≡ true → s ≡ contents_of qs) → valid (list k n) r ≡ true → cond b (tuple s) null ≡ content_of r
list_row k nullable raw_null b s e f h = ap (λ t. cond t (tuple s) null) e
list_row k non_nullable raw_null b s e f h = absurd (cc h)
list_row k nullable (raw_tuple qs) b s e f h = λ t. cond (e t) (tuple (f qs refl h t)) null
list_row k non_nullable (raw_tuple qs) b s e f h = λ t. cond (e t) (tuple (f qs refl h t)) null
list_row k n r b s e f h = absurd (cc h)

-- a null list has no items
nothing_there : (n : Nullability) (r : Raw) → is_there n r ≡ false → raw_items r ≡ []
nothing_there nullable (raw_tuple qs) h = absurd (cc h)
nothing_there non_nullable r h = absurd (cc h)
nothing_there nullable r h = refl

-- an offset or a size, read
number_there : (xs : List ℕ) (i : ℕ) → i < length xs → number_in (content_at (counts xs) i) ≡ get_or xs i 0
number_there xs i l = ap (λ z. number_in (integer z)) (get_or-map pos xs i 0 (pos 0) l)

module _ (k : LogicalType) (n : Nullability) (rs : List Raw) (e : Layout) (os ss : List ℕ) (v : Valid) (p : IsPlain k (flat_map raw_items rs) e) (h : StandEndToEnd rs os ss) (held : All (λ r. is_held (list k n) r ≡ true) rs) (m : MarksNulls n rs v) where
  abbrev made : Layout
  made = list_views e (counts os) (counts ss) true v

  many : length (map pos os) ≡ length rs
  many = length-map os pos ∙ h.many_offsets

  offset_at : (i : ℕ) → i < length rs → number_in (content_at (counts os) i) ≡ length (flat_map raw_items (take i rs))
  offset_at i l = number_there os i (subst (λ x. i < x) (sym h.many_offsets) l) ∙ h.offset i l

  size_at : (i : ℕ) → i < length rs → number_in (content_at (counts ss) i) ≡ length (raw_items (get_or rs i raw_null))
  size_at i l = number_there ss i (subst (λ x. i < x) (sym h.many_sizes) l) ∙ h.size i l

  -- the elements of a list
  inside : (i : ℕ) (qs : Raws) → i < length rs → get_or rs i raw_null ≡ raw_tuple qs → all_have k qs ≡ true → span (content_at e) (number_in (content_at (counts os) i)) (number_in (content_at (counts ss) i)) ≡ contents_of qs
  inside i qs l r t =
      let items : raw_items (get_or rs i raw_null) ≡ raws_listed qs = ap raw_items r in
      (λ j. span (content_at e) (offset_at i l j) ((size_at i l ∙ ap length items) j))
      ∙ spanned (content_at e) qs (length (flat_map raw_items (take i rs))) (λ j b.
      let c : j < length (raw_items (get_or rs i raw_null)) = subst (λ xs. j < length xs) (sym items) b in
      item_content k raw_items rs e i j p l c (ap (λ xs. valid k (get_or xs j raw_null)) items ∙ items_valid k qs t j raw_null b)
      ∙ ap (λ xs. content_of (get_or xs j raw_null)) items)

  list_view : (i : ℕ) → i < length rs → IsView (len_of e) (content_at (counts os) i) (content_at (counts ss) i)
  list_view i l =
      let w_os : i < length os = subst (λ x. i < x) (sym h.many_offsets) l in
      let w_ss : i < length ss = subst (λ x. i < x) (sym h.many_sizes) l in
      let room = length-flat_map-take raw_items rs i raw_null l in
      let within : get_or os i 0 + get_or ss i 0 ≤ len_of e = omega (arith, room, p.len, h.offset i l, h.size i l) in
      subst (λ x. IsView (len_of e) (integer x) (integer (get_or (map pos ss) i (pos 0)))) (sym (get_or-map pos os i 0 (pos 0) w_os))
      (subst (λ x. IsView (len_of e) (integer (pos (get_or os i 0))) (integer x)) (sym (get_or-map pos ss i 0 (pos 0) w_ss)) within)

  end_to_end : AreEndToEnd (counts os) (counts ss)
  end_to_end = λ i l.
      let after : suc i < length rs = subst (λ x. suc i < x) many l in
      let here : i < length rs = omega arith in
      let next : suc i ≡ i + 1 = omega arith in
      let more : flat_map raw_items (take (suc i) rs) ≡ flat_map raw_items (take i rs) ++ raw_items (get_or rs i raw_null) =
      ap (λ x. flat_map raw_items (take x rs)) next ∙ ap (flat_map raw_items) (take_more rs i raw_null here) ∙ flat_push raw_items (take i rs) (get_or rs i raw_null) in
      offset_at (suc i) after ∙ ap length more ∙ length-append (flat_map raw_items (take i rs)) (raw_items (get_or rs i raw_null))
      ∙ (λ j. sym (offset_at i here) j + sym (size_at i here) j)

  pub sound : All (InRange u64) (map pos os) → All (InRange u64) (map pos ss) → IsSound made
  sound k_os k_ss = (
    p.sound,
    (k_os, tt),
    (k_ss, tt),
    tt,
    tt,
    length-map ss pos ∙ h.many_sizes ∙ sym many,
    subst (HasLength v) (sym many) m.fits,
    (λ i b. list_view i (subst (λ x. i < x) many b)),
    (λ t. end_to_end),
  )

  -- ---- the lists are laid out as by a rebuilding

  abbrev begin : ℕ → ℕ
  begin i = length (flat_map raw_items (take i rs))

  begin_more : (i : ℕ) → i < length rs → begin (i + 1) ≡ begin i + length (raw_items (get_or rs i raw_null))
  begin_more i l =
      ap (λ xs. length (flat_map raw_items xs)) (take_more rs i raw_null l) ∙ ap length (flat_push raw_items (take i rs) (get_or rs i raw_null))
      ∙ length-append (flat_map raw_items (take i rs)) (raw_items (get_or rs i raw_null))

  abbrev old : Layout
  old = list_views e (counts os) (counts ss) false v

  row_inside : (i : ℕ) (b : Bool) → i < length rs → is_valid v i ≡ b → items_of (content_at old i) ≡ map (content_at e) (range_with_len (begin i) (length (raw_items (get_or rs i raw_null))))
  row_inside i true l t = items_valid_row e (counts os) (counts ss) false v i (begin i) (length (raw_items (get_or rs i raw_null))) t (sym (offset_at i l)) (sym (size_at i l))
  row_inside i false l t =
      items_null e (counts os) (counts ss) false v i t
      ∙ ap (λ xs. map (content_at e) (range_with_len (begin i) (length xs))) (sym (nothing_there n (get_or rs i raw_null) (sym (m.bits i l) ∙ t)))

  canonical_front : (i : ℕ) → i ≤ length rs → IsCanonical (take i (rows_of old)) (take i os) (take i ss) (map (content_at e) (range_with_len 0 (begin i)))
  canonical_front zero l = canonical_none old (content_at e)
  canonical_front (suc i) l =
      let here : i < length rs = omega arith in
      let next : i + 1 ≡ suc i = omega arith in
      let size : ℕ = length (raw_items (get_or rs i raw_null)) in
      let more = canonical_more old (content_at e) (take i os) (take i ss) (range_with_len 0 (begin i)) i (begin i) size (canonical_front i (omega arith)) (subst (λ x. i < x) (sym many) here) (row_inside i (is_valid v i) here refl) in
      let o : take i os ++ length (range_with_len 0 (begin i)) ∷ [] ≡ take (suc i) os =
      ap (λ x. take i os ++ x ∷ []) (length-range_with_len 0 (begin i) ∙ sym (h.offset i here)) ∙ sym (take_more os i 0 (subst (λ x. i < x) (sym h.many_offsets) here)) ∙ ap (λ x. take x os) next in
      let s : take i ss ++ size ∷ [] ≡ take (suc i) ss =
      ap (λ x. take i ss ++ x ∷ []) (sym (h.size i here)) ∙ sym (take_more ss i 0 (subst (λ x. i < x) (sym h.many_sizes) here)) ∙ ap (λ x. take x ss) next in
      let r : range_with_len 0 (begin i) ++ range_with_len (begin i) size ≡ range_with_len 0 (begin (suc i)) =
      sym (range_split 0 (begin i) size (begin (suc i)) (begin i) (ap begin (sym next) ∙ begin_more i here) (omega arith)) in
      subst (λ x. IsCanonical (take x (rows_of old)) (take (suc i) os) (take (suc i) ss) (map (content_at e) (range_with_len 0 (begin (suc i))))) next
      (subst (λ xs. IsCanonical (take (i + 1) (rows_of old)) (take (suc i) os) (take (suc i) ss) (map (content_at e) xs)) r
      (subst (λ xs. IsCanonical (take (i + 1) (rows_of old)) (take (suc i) os) xs (map (content_at e) (range_with_len 0 (begin i) ++ range_with_len (begin i) size))) s
      (subst (λ xs. IsCanonical (take (i + 1) (rows_of old)) xs (take i ss ++ size ∷ []) (map (content_at e) (range_with_len 0 (begin i) ++ range_with_len (begin i) size))) o more)))

  canonical : IsCanonical (rows_of old) os ss (rows_of e)
  canonical =
      let all : begin (length rs) ≡ len_of e = ap (λ xs. length (flat_map raw_items xs)) (take_all (length rs) rs (omega arith)) ∙ sym p.len in
      canonical_all old (length rs) os ss (rows_of e) (omega (arith, many))
      (subst (λ x. IsCanonical (take (length rs) (rows_of old)) os ss (map (content_at e) (range_with_len 0 x))) all
      (subst (λ xs. IsCanonical (take (length rs) (rows_of old)) os xs (map (content_at e) (range_with_len 0 (begin (length rs))))) (take_all (length rs) ss (omega (arith, h.many_sizes)))
      (subst (λ xs. IsCanonical (take (length rs) (rows_of old)) xs (take (length rs) ss) (map (content_at e) (range_with_len 0 (begin (length rs))))) (take_all (length rs) os (omega (arith, h.many_offsets)))
      (canonical_front (length rs) (omega arith)))))

  laid_out : IsLaidOut e (counts os) (counts ss) v made
  laid_out = record { offsets = os; sizes = ss; elements = e; made = refl; kind = refl; canonical = canonical }

  pub plain_lists : All (InRange u64) (map pos os) → All (InRange u64) (map pos ss) → IsPlain (list k n) rs made
  plain_lists k_os k_ss = record {
    sound = sound k_os k_ss;
    len = many;
    kind = λ i. list (p.kind i) (m.nullability i);
    layout = (p.layout, laid_out);
    content = λ i l c. list_row k n (get_or rs i raw_null) (is_valid v i) (span (content_at e) (number_in (content_at (counts os) i)) (number_in (content_at (counts ss) i))) (m.bits i l) (λ qs r t. inside i qs l r t) c;
  }

-- natural numbers as integers
pub counted_made : (k : IntKind) (zs : List ℤ) (xs : List ℕ) → k ≡ u64 → zs ≡ map pos xs → numbers k zs required ≡ counts xs
counted_made k zs xs e f = λ i. numbers (e i) (f i) required

pub counted_held : (k : IntKind) (zs : List ℤ) (xs : List ℕ) → k ≡ u64 → zs ≡ map pos xs → All (InRange k) zs → All (InRange u64) (map pos xs)
counted_held k zs xs e f h = subst (λ ys. All (InRange u64) ys) f (subst (λ j. All (InRange j) zs) e h)

pub ruleset counted = (counted_made, counted_held)
