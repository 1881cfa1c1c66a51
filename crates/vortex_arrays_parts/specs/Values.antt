-- Columns of strings or of bytes from values of which some may be missing, and the values of such
-- columns.
use Rattle.std.specs.Prelude.{◌≡◌, ◌≤◌, ◌<◌, ◌^◌, ℕ, List, [], Option, Some, None, map, length, cond, slice_index_or}
use Rattle.std.specs.List.{All, flat_map, range_with_len}
use Rattle.std.specs.Borrow.{Bor}
use Rattle.vortex_model.specs.LogicalType.{LogicalType, utf8, binary, Nullability, non_nullable, nullability_of}
use Rattle.vortex_model.specs.Content.{Content, null, Raw, raw_null, raw_byte_string}
use Rattle.vortex_arrays_view.specs.Views.{value_of}
use Rattle.vortex_arrays_view.specs.Made.{short_view}
use Rattle.vortex_arrays_view.specs.Cuttings.{IsFewest}
use Rattle.vortex_arrays_view.specs.declared.error.ArrayError.{ArrayError}
use Rattle.vortex_arrays_view.specs.declared.error.ArrayError.TheVariants as error
use Rattle.vortex_arrays_model.specs.Layout.{Layout, strings, Strings, texts, is_valid, len_of, array_type_of, rows_of, string_content, IsString}
use Rattle.vortex_arrays_leaf.specs.Strings.{IsStrings, strings_in, views_in, buffers_in}
use Rattle.vortex_arrays_builder.specs.Strings.{buffered, buffered_len, AreViewsOf, IsStringsFault}

-- the bytes that a reference points to, where there is one
abbrev pub lent : Option (Bor (List ℕ)) → Option (List ℕ)
lent None = None
lent (Some r) = Some r.now

-- the bytes of a value, and none where it is missing
abbrev pub bytes_or_none : Option (List ℕ) → List ℕ
bytes_or_none None = []
bytes_or_none (Some bs) = bs

-- the value as a raw value, null where it is missing
abbrev pub raw_of_bytes : Option (List ℕ) → Raw
raw_of_bytes None = raw_null
raw_of_bytes (Some bs) = raw_byte_string bs

-- its content, null where it is missing
abbrev pub content_of_bytes : Strings → Option (List ℕ) → Content
content_of_bytes s None = null
content_of_bytes s (Some bs) = string_content s bs

abbrev pub IsPresent : Option (List ℕ) → Type 0
IsPresent None = ⊥
IsPresent (Some bs) = Unit {0}

-- missing, or UTF-8 where the kind is `texts`, and else bytes
abbrev pub IsHeld : Strings → Option (List ℕ) → Type 0
IsHeld s None = Unit {0}
IsHeld s (Some bs) = IsString s bs

-- a type of strings or of bytes
abbrev pub HoldsStrings : LogicalType → Type 0
HoldsStrings (utf8 n) = Unit {0}
HoldsStrings (binary n) = Unit {0}
HoldsStrings k = ⊥

-- no value is missing in a type without null
abbrev pub HaveNulls : Nullability → List (Option (List ℕ)) → Type 0
HaveNulls n vs = n ≡ non_nullable → All IsPresent vs

-- A value is longer than a buffer can be, or the values need more than 2^32 buffers.
abbrev pub AreTooLarge : List (Option (List ℕ)) → Type 0
AreTooLarge vs = IsStringsFault error.Total (map raw_of_bytes vs)

-- A view for each value. That of a value of at most twelve bytes is the value itself, where a
-- missing value counts as an empty one; the others are end to end in the fewest buffers.
pub record AreViewed (vs : List (Option (List ℕ))) (buffers views : List (List ℕ)) : Type 0 where
  pub viewed : AreViewsOf (map raw_of_bytes vs) buffers views
  pub short : (i : ℕ) → i < length vs →
      length (bytes_or_none (slice_index_or vs i None)) ≤ 12 →
      slice_index_or views i [] ≡ short_view (bytes_or_none (slice_index_or vs i None))
  pub fewest : IsFewest (flat_map buffered (map raw_of_bytes vs))
      (map buffered_len (map raw_of_bytes vs)) 2147483647 buffers
  pub indices : length buffers ≤ 2 ^ 32

-- a is of the type, with a row for each value, null where the value is missing, and with these
-- views and buffers
pub record IsOfValues (k : LogicalType) (vs : List (Option (List ℕ))) (a : Layout) : Type 0 where
  pub layout : IsStrings a
  pub kind : array_type_of a ≡ k
  pub rows : rows_of a ≡ map (content_of_bytes (strings_in k)) vs
  pub views : AreViewed vs (buffers_in a) (views_in a)

-- Why values make no array of the type. The type goes first, then nulls, then the size, then UTF-8.
abbrev pub IsValuesFault : ArrayError → LogicalType → List (Option (List ℕ)) → Type 0
IsValuesFault error.Memory k vs = Unit {0}
IsValuesFault error.WrongType k vs = ¬ HoldsStrings k
IsValuesFault error.NullInNonNullable k vs = HoldsStrings k × (¬ HaveNulls (nullability_of k) vs)
IsValuesFault error.Total k vs =
    HoldsStrings k × HaveNulls (nullability_of k) vs × AreTooLarge vs
IsValuesFault error.NotUtf8 k vs = HoldsStrings k × HaveNulls (nullability_of k) vs ×
    (¬ AreTooLarge vs) × (strings_in k ≡ texts) × (¬ All (IsHeld texts) vs)
IsValuesFault e k vs = ⊥

-- the value of a row's view, and none at null
abbrev pub value_at : Layout → ℕ → Option (List ℕ)
value_at (strings s views buffers v) i =
    cond (is_valid v i) (Some (value_of (slice_index_or views i []) buffers)) None
value_at a i = None

-- the values of an array of strings or of bytes
abbrev pub values_of : Layout → List (Option (List ℕ))
values_of a = map (value_at a) (range_with_len 0 (len_of a))
