-- A view with some of its elements.
use Rattle.std.proofs.Common.{◌≡◌, ◌<◌, ◌≤◌, ◌+◌, ◌-◌, ℕ, ℤ, suc, pos, Bool, List, length, map, get_or, Option, Some, None, refl, sym, ap, subst, ◌∙◌, arith}
use Rattle.std.specs.List.{All, range_with_len}
use Rattle.std.proofs.lemmas.Int.{ints}
use Rattle.std.proofs.lemmas.List.{length-map, get_or-map}
use Rattle.std.proofs.lemmas.List.FromFn.{fill_by_all}
use Rattle.std.proofs.lemmas.List.Elements.{All-from_get_or}
use Rattle.vortex_model.specs.LogicalType.{LogicalType, integer_type, non_nullable, IntKind}
use Rattle.vortex_model.specs.Content.{Content, integer}
use Rattle.vortex_model.specs.Valid.{InRange, IsContent}
use Rattle.vortex_model.proofs.Passes.{range_passes}
use Rattle.vortex_model.proofs.Ranges.{least_below}
use Rattle.vortex_dtype_ptype.specs.Numbers.{NumberKind, integral, Has}
use Rattle.vortex_dtype_core.specs.Parts.{numbers_in_type}
use Rattle.vortex_arrays_model.specs.Layout.{Layout, numbers, required, list_views, Valid, len_of, array_type_of, content_at, number_in, IsOffsets, IsView, IsSound, HasLength}
use Rattle.vortex_arrays_model.specs.Picks.{Picks}
use Rattle.vortex_arrays_model.specs.Trimmed.{AreBounds}
use Rattle.vortex_arrays_model.proofs.ValidRows.{rows_valid}
use Rattle.vortex_arrays_nested.specs.Parts.{elements_of, offsets_of, sizes_of}
use Rattle.vortex_arrays_rebuild.specs.Indices.{IsAtMost, AreAtMost, AreRead}
use Rattle.vortex_arrays_rebuild.proofs.NameLemmas.{only_memory}
use Rattle.vortex_arrays_rebuild.specs.Trims.{LieBetween, IsLowered, HasLowered, HasNatural, HasElementsBetween, IsTrimmedView}

-- a natural number as a content
counts_itself : (n : ℕ) (c : Content) → IsAtMost n c → c ≡ integer (pos (number_in c - 0))
counts_itself n (integer (pos i)) h = let e : i ≡ i - 0 = omega arith in ap (λ k. integer (pos k)) e
counts_itself n c h = absurd h

-- lowered by 0
pub lowered_not : (o : Layout) (n : ℕ) → IsSound o → AreAtMost n o → IsLowered o 0 o
lowered_not o n s h = record { sound = s; many = refl; moved = λ i l. counts_itself n (content_at o i) (h i l); kind = refl }

-- a lowered number is still within the type
pub lower_held : (k : IntKind) (n m : ℕ) → Has (integral k) (pos n) → m ≤ n → InRange k (pos m)
lower_held k n m h l = let t = h.to in let b = least_below k in record { from = omega (arith, ints, b); to = omega (arith, ints, t) }

-- offsets have an integer type without null
offsets_kind : (t : LogicalType) (k : NumberKind) → IsOffsets t → numbers_in_type t ≡ Some k → (j : IntKind) × (k ≡ integral j) × (t ≡ integer_type j non_nullable)
offsets_kind (integer_type i non_nullable) k h e = (i, (let f : (o : Option NumberKind) → NumberKind = λ o. elim o [ Some x ↦ x | None ↦ k ] in sym (ap f e)), refl)
offsets_kind t k h e = absurd h

-- the integers of lowered offsets
pub lowered_to : (o r : Layout) (k : NumberKind) (xs : List ℕ) (by : ℕ) → IsOffsets (array_type_of o) → numbers_in_type (array_type_of o) ≡ Some k → AreRead o xs → HasLowered k xs by r → IsLowered o by r
lowered_to o r k xs by t e h w =
    let j = offsets_kind (array_type_of o) k t e in
    let p : HasLowered (integral j.0) xs by r = subst (λ x. HasLowered x xs by r) j.1 w in
    record {
      sound = p.0;
      many = ap len_of p.1 ∙ length-map xs (λ x. pos (x - by)) ∙ h.many;
      moved = λ i l. let m : i < length xs = subst (λ n. i < n) (sym h.many) l in
          ap (λ a. content_at a i) p.1 ∙ ap integer (get_or-map (λ x. pos (x - by)) xs i 0 (pos 0) m) ∙ ap (λ n. integer (pos (n - by))) (h.each i l);
      kind = ap array_type_of p.1 ∙ sym j.2;
    }

in_kind : (t : LogicalType) (j : IntKind) (n : ℕ) (c : Content) → t ≡ integer_type j non_nullable → IsContent t c → IsAtMost n c → InRange j (pos (number_in c))
in_kind t j n (integer (pos i)) e h l = subst (λ x. IsContent x (integer (pos i))) e h
in_kind t j n c e h l = absurd l

-- offsets are within their type
pub offsets_held : (o : Layout) (k : NumberKind) (xs : List ℕ) (n : ℕ) → IsSound o → IsOffsets (array_type_of o) → numbers_in_type (array_type_of o) ≡ Some k → AreAtMost n o → AreRead o xs → All (HasNatural k) xs
offsets_held o k xs n s t e b h =
    let j = offsets_kind (array_type_of o) k t e in
    All-from_get_or (HasNatural k) xs 0 (λ i l.
    let m : i < len_of o = subst (λ x. i < x) h.many l in
    subst (λ x. Has x (pos (get_or xs i 0))) (sym j.1)
    (subst (λ x. InRange j.0 (pos x)) (sym (h.each i m)) (in_kind (array_type_of o) j.0 n (content_at o i) j.2 (rows_valid o s i m) (b i m))))

-- a list and its elements moved
view_moved : (n m from : ℕ) (o z : Content) → IsView n o z → number_in o - from + number_in z ≤ m → IsView m (integer (pos (number_in o - from))) z
view_moved n m from (integer (pos i)) (integer (pos s)) h w = w
view_moved n m from o z h w = absurd h

-- the parts of a view with a range of the elements fit together
pub between_sound : (e o s : Layout) (f : Bool) (v : Valid) (r q : Layout) (from to : ℕ) → IsSound (list_views e o s f v) → LieBetween (list_views e o s f v) from to → Picks e r (to - from) (λ j. from + j) → IsLowered o from q → IsSound (list_views r q s f v)
between_sound e o s f v r q from to h b p w = (
  p.sound,
  w.sound,
  h.2,
  subst IsOffsets (sym w.kind) h.3,
  h.4,
  h.5 ∙ sym w.many,
  subst (HasLength v) (sym w.many) h.6,
  (λ i k.
      let l : i < len_of o = subst (λ m. i < m) w.many k in
      let low = b.begins i l in
      let high = b.ends i l in
      let many = p.len in
      subst (λ x. IsView (len_of r) x (content_at s i)) (sym (w.moved i l)) (view_moved (len_of e) (len_of r) from (content_at o i) (content_at s i) (h.7 i l) (omega (arith, low, high, many)))),
  (λ u i k.
      let after : suc i < len_of o = subst (λ m. suc i < m) w.many k in
      let here : i < len_of o = omega arith in
      let low = b.begins i here in
      omega (arith, h.8 u i after, ap number_in (w.moved i here), ap number_in (w.moved (suc i) after), low)),
)

pub between_made : (e o s : Layout) (f : Bool) (v : Valid) (r q : Layout) (from to : ℕ) → LieBetween (list_views e o s f v) from to → Picks e r (to - from) (λ j. from + j) → (to - from ≡ len_of e → r ≡ e) → IsLowered o from q → (from ≡ 0 → q ≡ o) → HasElementsBetween (list_views e o s f v) from to (list_views r q s f v)
between_made e o s f v r q from to b p all w same = record {
  elements = r;
  offsets = q;
  made = refl;
  part = p;
  lowered = w;
  whole = λ k. let x = b.order in let y = b.room in let none : from ≡ 0 = omega (arith, x, y, k) in λ i. list_views (all k i) (same none i) s f v;
}

-- each list has an offset
pub many_lists : (a : Layout) → len_of (offsets_of a) ≡ len_of a
many_lists (list_views e o s f v) = refl
many_lists a = refl

-- all lists of a view are within its bounds
pub bounds_lie : (a : Layout) (from to : ℕ) → AreBounds (offsets_of a) (sizes_of a) from to → to ≤ len_of (elements_of a) → LieBetween a from to
bounds_lie a from to h m = record {
  order = let g = h.greatest h.lowest h.lowest_within in let b = h.begins in omega (arith, g, b);
  room = m;
  begins = λ i l. h.least i (subst (λ n. i < n) (sym (many_lists a)) l);
  ends = λ i l. h.greatest i (subst (λ n. i < n) (sym (many_lists a)) l);
}

pub none_lie : (a : Layout) → len_of a ≡ 0 → LieBetween a 0 0
none_lie a e = record { order = omega arith; room = omega arith; begins = λ i l. absurd (omega (arith, e, l)); ends = λ i l. absurd (omega (arith, e, l)) }

-- where no element is dropped, the view is the same
whole_stays : (a : Layout) (from to : ℕ) (r : Layout) → HasElementsBetween a from to r → len_of (elements_of r) ≡ len_of (elements_of a) → r ≡ a
whole_stays a from to r h k = let p = h.part in h.whole (sym p.len ∙ ap (λ x. len_of (elements_of x)) (sym h.made) ∙ k)

kind_stays : (a : Layout) (from to : ℕ) (r : Layout) (h : HasElementsBetween a from to r) → array_type_of (offsets_of r) ≡ array_type_of (offsets_of a)
kind_stays a from to r h = ap (λ x. array_type_of (offsets_of x)) h.made ∙ (let w = h.lowered in w.kind)

-- a view with the elements between its bounds is trimmed
pub trimmed_some : (a : Layout) (from to : ℕ) (r : Layout) → AreBounds (offsets_of a) (sizes_of a) from to → HasElementsBetween a from to r → IsTrimmedView a r
trimmed_some a from to r b h = let w = h.lowered in (
  record {
    elements = h.elements;
    offsets = h.offsets;
    from = from;
    to = to;
    made = h.made;
    bounds = λ _. b;
    without_rows = λ none. let l = b.lowest_within in absurd (omega (arith, none, l));
    part = h.part;
    many = w.many;
    moved = w.moved;
  },
  kind_stays a from to r h,
  whole_stays a from to r h,
)

pub trimmed_none : (a r : Layout) → len_of a ≡ 0 → HasElementsBetween a 0 0 r → IsTrimmedView a r
trimmed_none a r none h = let w = h.lowered in (
  record {
    elements = h.elements;
    offsets = h.offsets;
    from = 0;
    to = 0;
    made = h.made;
    bounds = λ some. absurd (omega (arith, none, some, many_lists a));
    without_rows = λ _. refl;
    part = h.part;
    many = w.many;
    moved = w.moved;
  },
  kind_stays a 0 0 r h,
  whole_stays a 0 0 r h,
)

pub ruleset trimmed = (bounds_lie, none_lie, trimmed_some, trimmed_none)

pub ruleset between = (between_sound, between_made)

pub ruleset lowered = (lowered_not, lowered_to, offsets_held, lower_held)

pub ruleset tested = (range_passes)

-- a lowered number is within the type
pub lowered_held : (k : IntKind) (xs : List ℕ) (by i : ℕ) → All (HasNatural (integral k)) xs → i < length xs → HasNatural (integral k) (get_or xs i 0 - by)
lowered_held k xs by i h l = lower_held k (get_or xs i 0) (get_or xs i 0 - by) (h i 0 l) (omega arith)

-- lowered numbers by index
pub lowered_by_place : (xs : List ℕ) (by : ℕ) → map (λ x. pos (x - by)) xs ≡ map (λ i. pos (get_or xs i 0 - by)) (range_with_len 0 (length xs))
lowered_by_place xs by = fill_by_all (λ i. pos (get_or xs i 0 - by)) (map (λ x. pos (x - by)) xs) (length xs) (pos 0) (length-map xs (λ x. pos (x - by))) (λ i l. get_or-map (λ x. pos (x - by)) xs i 0 (pos 0) l)

-- all numbers lowered
pub lowered_all : {X : Type 0} (number : X → ℤ) (k j : IntKind) (zs : List ℤ) (b ys : List X) (xs : List ℕ) (by : ℕ) (a r : Layout) → r ≡ a → a ≡ numbers j zs required → IsSound a → j ≡ k → zs ≡ map number b → b ≡ ys → map number ys ≡ map (λ x. pos (x - by)) xs → HasLowered (integral k) xs by r
lowered_all number k j zs b ys xs by a r e m s p q u h =
    let all : zs ≡ map (λ x. pos (x - by)) xs = q ∙ ap (map number) u ∙ h in
    (subst IsSound (sym e) s, e ∙ m ∙ (λ t. numbers (p t) (all t) required))

pub ruleset lowering = (lowered_held, only_memory)
