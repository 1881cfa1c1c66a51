-- Sizes, prefixes and values of views that are made of values.
use Rattle.std.proofs.Common.{◌≡◌, ◌∙◌, sym, ap, subst, ℕ, ◌+◌, ◌-◌, ◌<◌, ◌≤◌, ◌^◌, Bool, true, false, cond, suc, zero, List, [], ◌++◌, length, take, drop, refl, arith, length-append, length-drop, length-take, inl, inr}
use Rattle.std.specs.Prelude.{slice_index_or, leb}
use Rattle.std.specs.Int.{w32, w64, byte_at, bytes_low_first, to_le_bytes, from_le_bytes, from_be_bytes}
use Rattle.std.proofs.lemmas.Bool.{cases_lt, le-leb}
use Rattle.std.proofs.lemmas.Bool.Decides.{Decides-eqb, leb_tells}
use Rattle.std.proofs.lemmas.Slice.Eq.{slice_eq-Decides}
use Rattle.std.specs.Cmp.Lexicographic.{pointwise}
use Rattle.std.proofs.Math.Dec.{eqb}
use Rattle.std.proofs.lemmas.List.{take-append-drop, take-take, drop-take, drop-drop, take_at, drop_at, length-take-le}
use Rattle.std.proofs.lemmas.List.Elements.{All-nil, All-cons, All-append}
use Rattle.std.proofs.lemmas.Nat.{from_le_bytes-to_le_bytes_4}
use Rattle.vortex_arrays_view.specs.Views.{size_of, index_of, offset_of, inlined_of, value_of, HasValue}
use Rattle.vortex_arrays_view.specs.Made.{padded, short_view, long_view, view_of, prefix_in, head_in, order_prefix_in, order_tail_in, prefix_of, head_of, order_prefix_of, order_tail_of}
use Rattle.vortex_arrays_view.specs.Laws.{AreBytes, IsZeroPadded, LiesAt, ShortViewsAreZeroPadded, ViewsReadBack, ViewsHaveTheirParts}
use Rattle.vortex_arrays_view.proofs.Padding.{length-padded, bytes-padded, take-padded, take_of_padded, drop_of_padded, padded_long}

between : (n : ℕ) → n ≤ 12 → 12 < n → ⊥
between n h k = omega arith

leb_short : (n : ℕ) → n ≤ 12 → leb n 12 ≡ true
leb_short n h = le-leb n 12 h

leb_long : (n : ℕ) → 12 < n → leb n 12 ≡ false
leb_long n h = elim (leb_tells n 12) [ inl y ↦ absurd (between n y.1 h) | inr y ↦ y.0 ]

-- the value of a view, by its size
pub value_short : (b : List ℕ) (buffers : List (List ℕ)) → size_of b ≤ 12 → value_of b buffers ≡ inlined_of b
value_short b buffers h = ap (λ (t : Bool). cond t (inlined_of b) (take (size_of b) (drop (offset_of b) (slice_index_or buffers (index_of b) [])))) (leb_short (size_of b) h)

pub value_long : (b : List ℕ) (buffers : List (List ℕ)) → 12 < size_of b → value_of b buffers ≡ take (size_of b) (drop (offset_of b) (slice_index_or buffers (index_of b) []))
value_long b buffers h = ap (λ (t : Bool). cond t (inlined_of b) (take (size_of b) (drop (offset_of b) (slice_index_or buffers (index_of b) [])))) (leb_long (size_of b) h)

view_short : (v : List ℕ) (i o : ℕ) → length v ≤ 12 → view_of v i o ≡ short_view v
view_short v i o h = ap (λ (t : Bool). cond t (short_view v) (long_view (length v) (take 4 v) i o)) (leb_short (length v) h)

view_long : (v : List ℕ) (i o : ℕ) → 12 < length v → view_of v i o ≡ long_view (length v) (take 4 v) i o
view_long v i o h = ap (λ (t : Bool). cond t (short_view v) (long_view (length v) (take 4 v) i o)) (leb_long (length v) h)

-- short views
size_short : (v : List ℕ) → length v < 2 ^ 32 → size_of (short_view v) ≡ length v
size_short v h = ap (from_le_bytes w32) (take_at (to_le_bytes w32 (length v)) (padded 12 v) 4 refl) ∙ from_le_bytes-to_le_bytes_4 (length v) h

rest_short : (v : List ℕ) → drop 4 (short_view v) ≡ padded 12 v
rest_short v = drop_at (to_le_bytes w32 (length v)) (padded 12 v) 4 refl

inlined_short : (v : List ℕ) → length v ≤ 12 → inlined_of (short_view v) ≡ v
inlined_short v h = ap (λ (n : ℕ). take n (drop 4 (short_view v))) (size_short v (omega arith)) ∙ ap (take (length v)) (rest_short v) ∙ take-padded 12 v h

byte_small : (i n : ℕ) → byte_at i n < 256
byte_small zero n = omega arith
byte_small (suc i) n = omega arith

low_bytes : (i k n : ℕ) → AreBytes (bytes_low_first i k n)
low_bytes i zero n = All-nil (λ x. x < 256)
low_bytes i (suc k) n = All-cons (λ x. x < 256) (byte_at i n) (bytes_low_first (suc i) k n) (byte_small i n) (low_bytes (suc i) k n)

four_bytes : (n : ℕ) → AreBytes (to_le_bytes w32 n)
four_bytes n = low_bytes 0 4 n

zero_padded : (v : List ℕ) → AreBytes v → length v ≤ 12 → IsZeroPadded (short_view v)
zero_padded v a h = record {
  sixteen = length-append (to_le_bytes w32 (length v)) (padded 12 v) ∙ ap (λ (n : ℕ). 4 + n) (length-padded 12 v);
  bytes = All-append (λ x. x < 256) (to_le_bytes w32 (length v)) (padded 12 v) (four_bytes (length v)) (bytes-padded 12 v a);
  short = subst (λ (n : ℕ). n ≤ 12) (sym (size_short v (omega arith))) h;
  zeros = rest_short v ∙ ap (padded 12) (sym (inlined_short v h));
}

pub short_views : ShortViewsAreZeroPadded
short_views v a h = (zero_padded v a h, inlined_short v h)

-- long views
size_long : (n : ℕ) (p : List ℕ) (i o : ℕ) → n < 2 ^ 32 → size_of (long_view n p i o) ≡ n
size_long n p i o h = ap (from_le_bytes w32) (take_at (to_le_bytes w32 n) (p ++ (to_le_bytes w32 i ++ to_le_bytes w32 o)) 4 refl) ∙ from_le_bytes-to_le_bytes_4 n h

rest_long : (n : ℕ) (p : List ℕ) (i o : ℕ) → drop 4 (long_view n p i o) ≡ p ++ (to_le_bytes w32 i ++ to_le_bytes w32 o)
rest_long n p i o = drop_at (to_le_bytes w32 n) (p ++ (to_le_bytes w32 i ++ to_le_bytes w32 o)) 4 refl

prefix_long : (n : ℕ) (p : List ℕ) (i o : ℕ) → length p ≡ 4 → prefix_in (long_view n p i o) ≡ p
prefix_long n p i o e = ap (take 4) (rest_long n p i o) ∙ take_at p (to_le_bytes w32 i ++ to_le_bytes w32 o) 4 e

place_long : (n : ℕ) (p : List ℕ) (i o : ℕ) → length p ≡ 4 → drop 8 (long_view n p i o) ≡ to_le_bytes w32 i ++ to_le_bytes w32 o
place_long n p i o e = sym (drop-drop 4 4 (long_view n p i o)) ∙ ap (drop 4) (rest_long n p i o) ∙ drop_at p (to_le_bytes w32 i ++ to_le_bytes w32 o) 4 e

index_long : (n : ℕ) (p : List ℕ) (i o : ℕ) → length p ≡ 4 → i < 2 ^ 32 → index_of (long_view n p i o) ≡ i
index_long n p i o e h = ap (λ (l : List ℕ). from_le_bytes w32 (take 4 l)) (place_long n p i o e) ∙ ap (from_le_bytes w32) (take_at (to_le_bytes w32 i) (to_le_bytes w32 o) 4 refl) ∙ from_le_bytes-to_le_bytes_4 i h

last_long : (n : ℕ) (p : List ℕ) (i o : ℕ) → length p ≡ 4 → drop 12 (long_view n p i o) ≡ to_le_bytes w32 o
last_long n p i o e = sym (drop-drop 4 8 (long_view n p i o)) ∙ ap (drop 4) (place_long n p i o e) ∙ drop_at (to_le_bytes w32 i) (to_le_bytes w32 o) 4 refl

offset_long : (n : ℕ) (p : List ℕ) (i o : ℕ) → length p ≡ 4 → o < 2 ^ 32 → offset_of (long_view n p i o) ≡ o
offset_long n p i o e h = ap (λ (l : List ℕ). from_le_bytes w32 (take 4 l)) (last_long n p i o e) ∙ from_le_bytes-to_le_bytes_4 o h

-- a part of the expected length ends within the whole
room : (n o : ℕ) (b : List ℕ) → 0 < n → length (take n (drop o b)) ≡ n → o + n ≤ length b
room n o b h e = omega (arith, length-take n (drop o b), length-drop o b)

-- the value of a view with these fields
reads : (b : List ℕ) (buffers : List (List ℕ)) (v : List ℕ) (i o : ℕ) → size_of b ≡ length v → index_of b ≡ i → offset_of b ≡ o → prefix_in b ≡ take 4 v → 12 < length v → LiesAt v buffers i o → HasValue b buffers × (value_of b buffers ≡ v)
reads b buffers v i o s x y p h l =
    let value : value_of b buffers ≡ v =
    value_long b buffers (subst (λ (n : ℕ). 12 < n) (sym s) h)
    ∙ ap (λ (n : ℕ). take n (drop (offset_of b) (slice_index_or buffers (index_of b) []))) s
    ∙ ap (λ (n : ℕ). take (length v) (drop n (slice_index_or buffers (index_of b) []))) y
    ∙ ap (λ (n : ℕ). take (length v) (drop o (slice_index_or buffers n []))) x
    ∙ l.here in
    let ends : o + length v ≤ length (slice_index_or buffers i []) =
    room (length v) o (slice_index_or buffers i []) (omega arith) (ap (λ (r : List ℕ). length r) l.here) in (
      record {
        there = λ _. subst (λ (n : ℕ). n < length buffers) (sym x) l.there;
        inside = λ _. subst (λ (n : ℕ). offset_of b + size_of b ≤ length (slice_index_or buffers n [])) (sym x) (subst (λ (n : ℕ). n + size_of b ≤ length (slice_index_or buffers i [])) (sym y) (subst (λ (n : ℕ). o + n ≤ length (slice_index_or buffers i [])) (sym s) ends));
        prefix = λ _. p ∙ ap (take 4) (sym value);
      },
      value,
    )

small : (b : List ℕ) (buffers : List (List ℕ)) → size_of b ≤ 12 → HasValue b buffers
small b buffers h = record {
  there = λ k. absurd (between (size_of b) h k);
  inside = λ k. absurd (between (size_of b) h k);
  prefix = λ k. absurd (between (size_of b) h k);
}

read_long : (v : List ℕ) (buffers : List (List ℕ)) (i o : ℕ) → length v < 2 ^ 32 → i < 2 ^ 32 → o < 2 ^ 32 → 12 < length v → LiesAt v buffers i o → HasValue (view_of v i o) buffers × (value_of (view_of v i o) buffers ≡ v)
read_long v buffers i o n x y h l =
    let p : length (take 4 v) ≡ 4 = length-take-le 4 v (omega arith) in
    subst (λ (b : List ℕ). HasValue b buffers × (value_of b buffers ≡ v)) (sym (view_long v i o h))
    (reads (long_view (length v) (take 4 v) i o) buffers v i o (size_long (length v) (take 4 v) i o n) (index_long (length v) (take 4 v) i o p x) (offset_long (length v) (take 4 v) i o p y) (prefix_long (length v) (take 4 v) i o p) h l)

read_short : (v : List ℕ) (buffers : List (List ℕ)) (i o : ℕ) → length v ≤ 12 → HasValue (view_of v i o) buffers × (value_of (view_of v i o) buffers ≡ v)
read_short v buffers i o h =
    let s : size_of (short_view v) ≤ 12 = subst (λ (n : ℕ). n ≤ 12) (sym (size_short v (omega arith))) h in
    subst (λ (b : List ℕ). HasValue b buffers × (value_of b buffers ≡ v)) (sym (view_short v i o h))
    (small (short_view v) buffers s, value_short (short_view v) buffers s ∙ inlined_short v h)

pub views_read_back : ViewsReadBack
views_read_back v buffers i o n x y l = elim (cases_lt 12 (length v)) [
  | inl g ↦ read_long v buffers i o n x y g (l g)
  | inr g ↦ read_short v buffers i o g
]

-- the parts
first_eight : (b : List ℕ) → take 8 b ≡ take 4 b ++ prefix_in b
first_eight b = sym (take-append-drop 4 (take 8 b)) ∙ ap (λ (l : List ℕ). l ++ drop 4 (take 8 b)) (take-take 4 8 b (omega arith)) ∙ ap (λ (l : List ℕ). take 4 b ++ l) (drop-take 4 4 b)

head_is : (b v : List ℕ) → take 4 b ≡ to_le_bytes w32 (length v) → prefix_in b ≡ prefix_of v → head_in b ≡ head_of v
head_is b v e f = ap (from_le_bytes w64) (first_eight b ∙ ap (λ (l : List ℕ). l ++ prefix_in b) e ∙ ap (λ (l : List ℕ). to_le_bytes w32 (length v) ++ l) f)

prefix_short : (v : List ℕ) → prefix_in (short_view v) ≡ prefix_of v
prefix_short v = ap (take 4) (rest_short v) ∙ take_of_padded 4 12 v (omega arith)

tail_short : (v : List ℕ) → drop 8 (short_view v) ≡ padded 8 (drop 4 v)
tail_short v = sym (drop-drop 4 4 (short_view v)) ∙ ap (drop 4) (rest_short v) ∙ drop_of_padded 4 8 12 v refl

abbrev HasParts : List ℕ → List ℕ → Type 0
HasParts v b = (prefix_in b ≡ prefix_of v) × ((head_in b ≡ head_of v) × ((order_prefix_in b ≡ order_prefix_of v) × (length v ≤ 12 → order_tail_in b ≡ order_tail_of v)))

parts_short : (v : List ℕ) → HasParts v (short_view v)
parts_short v = (
  prefix_short v,
  (
    head_is (short_view v) v (take_at (to_le_bytes w32 (length v)) (padded 12 v) 4 refl) (prefix_short v),
    (
      ap (from_be_bytes w32) (prefix_short v),
      λ _. ap (from_be_bytes w64) (tail_short v),
    ),
  ),
)

parts_long : (v : List ℕ) (i o : ℕ) → 12 < length v → HasParts v (long_view (length v) (take 4 v) i o)
parts_long v i o h =
    let p : prefix_in (long_view (length v) (take 4 v) i o) ≡ prefix_of v =
    prefix_long (length v) (take 4 v) i o (length-take-le 4 v (omega arith)) ∙ sym (padded_long 4 v (omega arith)) in (
      p,
      (
        head_is (long_view (length v) (take 4 v) i o) v (take_at (to_le_bytes w32 (length v)) (take 4 v ++ (to_le_bytes w32 i ++ to_le_bytes w32 o)) 4 refl) p,
        (
          ap (from_be_bytes w32) p,
          λ k. absurd (omega arith),
        ),
      ),
    )

pub views_have_their_parts : ViewsHaveTheirParts
views_have_their_parts v i o n = elim (cases_lt 12 (length v)) [
  | inl g ↦ subst (HasParts v) (sym (view_long v i o g)) (parts_long v i o g)
  | inr g ↦ subst (HasParts v) (sym (view_short v i o g)) (parts_short v)
]

minus : (n : ℕ) → n + 4 - n ≡ 4
minus n = omega arith

-- the test of the prefix, where the view is within a buffer
pub tested : (b : List ℕ) (buffers : List (List ℕ)) (buffer : List ℕ) (size start index : ℕ) (prefix : List ℕ) (test : Bool)
    → size ≡ size_of b → start ≡ offset_of b → index ≡ index_of b → 12 < size_of b → index < length buffers → buffer ≡ slice_index_or buffers index [] → start + size ≤ length buffer
    → prefix ≡ prefix_in b → test ≡ pointwise eqb prefix (take (start + 4 - start) (drop start buffer)) → (test ≡ true → HasValue b buffers) × (HasValue b buffers → test ≡ true)
tested b buffers buffer size start index prefix test s o i long there is inside p t =
    let place : slice_index_or buffers (index_of b) [] ≡ buffer = ap (λ (n : ℕ). slice_index_or buffers n []) (sym i) ∙ sym is in
    let four : take (start + 4 - start) (drop start buffer) ≡ take 4 (value_of b buffers) =
    ap (λ (n : ℕ). take n (drop start buffer)) (minus start)
    ∙ sym (take-take 4 (size_of b) (drop start buffer) (omega arith))
    ∙ ap (λ (n : ℕ). take 4 (take (size_of b) (drop n buffer))) o
    ∙ ap (λ (l : List ℕ). take 4 (take (size_of b) (drop (offset_of b) l))) (sym place)
    ∙ ap (take 4) (sym (value_long b buffers long)) in
    let decides = slice_eq-Decides Decides-eqb prefix (take (start + 4 - start) (drop start buffer)) test t in (
      λ e. record {
        there = λ _. subst (λ (n : ℕ). n < length buffers) i there;
        inside = λ _. subst (λ (l : List ℕ). offset_of b + size_of b ≤ length l) (sym place) (subst (λ (n : ℕ). n + size_of b ≤ length buffer) o (subst (λ (n : ℕ). start + n ≤ length buffer) s inside));
        prefix = λ _. sym p ∙ decides.0 e ∙ four;
      },
      λ h. decides.1 (p ∙ h.prefix long ∙ sym four),
    )

-- no value where the buffer ends too early
pub too_short : (b : List ℕ) (buffers : List (List ℕ)) (buffer : List ℕ) (size start index : ℕ)
    → size ≡ size_of b → start ≡ offset_of b → index ≡ index_of b → 12 < size_of b → buffer ≡ slice_index_or buffers index [] → length buffer < start + size → HasValue b buffers → ⊥
too_short b buffers buffer size start index s o i long is short h =
    let place : slice_index_or buffers (index_of b) [] ≡ buffer = ap (λ (n : ℕ). slice_index_or buffers n []) (sym i) ∙ sym is in
    let inside : offset_of b + size_of b ≤ length buffer = subst (λ (l : List ℕ). offset_of b + size_of b ≤ length l) place (h.inside long) in
    omega arith

-- what follows where the test of the size fails
pub not_short : (n : ℕ) (r : Bool) → r ≡ false → (n ≤ 12 → r ≡ true) → 12 < n
not_short n r e f = elim (cases_lt 12 n) [ inl l ↦ l | inr g ↦ let t = f g in absurd (cc (t, e)) ]
