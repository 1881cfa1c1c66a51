-- Laws of views.
use Rattle.std.specs.Prelude.{◌≡◌, ◌≤◌, ◌<◌, ◌^◌, ◌↔◌, ℕ, List, [], take, drop, length, slice_index_or, All}
use Rattle.std.specs.Ordering.{nat_cmp, ordering_then}
use Rattle.std.specs.declared.cmp.Ordering.{Ordering}
use Rattle.std.specs.declared.cmp.Ordering.TheVariants.{Less}
use Rattle.vortex_model.specs.Order.{bytes_cmp}
use Rattle.vortex_arrays_view.specs.Views.{size_of, inlined_of, value_of, HasValue}
use Rattle.vortex_arrays_view.specs.Made.{padded, short_view, view_of, prefix_in, head_in, order_prefix_in, order_tail_in, prefix_of, head_of, order_prefix_of, order_tail_of}

abbrev pub AreBytes : List ℕ → Type 0
AreBytes = All (λ x. x < 256)

-- A view with a short value, padded with zeros.
pub record IsZeroPadded (b : List ℕ) : Type 0 where
  pub sixteen : length b ≡ 16
  pub bytes : AreBytes b
  pub short : size_of b ≤ 12
  pub zeros : drop 4 b ≡ padded 12 (inlined_of b)

-- short views by prefix, then by tail, then by size
abbrev pub inlined_cmp : List ℕ → List ℕ → Ordering
inlined_cmp a b = ordering_then (nat_cmp (order_prefix_in a) (order_prefix_in b))
    (ordering_then (nat_cmp (order_tail_in a) (order_tail_in b)) (nat_cmp (size_of a) (size_of b)))

-- On zero-padded views that is the order of their values.
abbrev pub InlinedOrder : Type 0
InlinedOrder = (a b : List ℕ) → IsZeroPadded a → IsZeroPadded b →
    inlined_cmp a b ≡ bytes_cmp (inlined_of a) (inlined_of b)

-- Zero-padded views are equal exactly where their values are.
abbrev pub InlinedEquality : Type 0
InlinedEquality =
    (a b : List ℕ) → IsZeroPadded a → IsZeroPadded b → (a ≡ b) ↔ (inlined_of a ≡ inlined_of b)

-- Of two values whose order prefixes differ, the one with the lower prefix is lower.
abbrev pub PrefixOrder : Type 0
PrefixOrder = (v w : List ℕ) → AreBytes v → AreBytes w → order_prefix_of v < order_prefix_of w →
    bytes_cmp v w ≡ Less

-- The view of a short value is zero-padded, and has the value inline.
abbrev pub ShortViewsAreZeroPadded : Type 0
ShortViewsAreZeroPadded = (v : List ℕ) → AreBytes v → length v ≤ 12 → IsZeroPadded (short_view v) ×
    (inlined_of (short_view v) ≡ v)

-- a buffer has the value at this offset
pub record LiesAt (v : List ℕ) (buffers : List (List ℕ)) (index offset : ℕ) : Type 0 where
  pub there : index < length buffers
  pub here : take (length v) (drop offset (slice_index_or buffers index [])) ≡ v

-- A view reads back as the value that it was made of, if that is short or a buffer has it.
abbrev pub ViewsReadBack : Type 0
ViewsReadBack = (v : List ℕ) (buffers : List (List ℕ)) (index offset : ℕ) → length v < 2 ^ 32 →
    index < 2 ^ 32 → offset < 2 ^ 32 → (12 < length v → LiesAt v buffers index offset) →
    HasValue (view_of v index offset) buffers × (value_of (view_of v index offset) buffers ≡ v)

-- The view of a value has the value's prefix, head, order prefix and order tail.
abbrev pub ViewsHaveTheirParts : Type 0
ViewsHaveTheirParts = (v : List ℕ) (index offset : ℕ) → length v < 2 ^ 32 →
    (prefix_in (view_of v index offset) ≡ prefix_of v) ×
    ((head_in (view_of v index offset) ≡ head_of v) ×
    ((order_prefix_in (view_of v index offset) ≡ order_prefix_of v) ×
    (length v ≤ 12 → order_tail_in (view_of v index offset) ≡ order_tail_of v)))
