-- Strings and bytes as views and buffers.
use Rattle.std.specs.Prelude.{◌≡◌, ◌<◌, ℕ, List, [], length, map, slice_index_or}
use Rattle.std.specs.List.{flat_map}
use Rattle.vortex_model.specs.Content.{content_of, Raw, raw_null}
use Rattle.vortex_arrays_view.specs.Views.{value_of, HasValue}
use Rattle.vortex_arrays_view.specs.Built.{IsLimitFault}
use Rattle.vortex_arrays_view.specs.declared.error.ArrayError.{ArrayError}
use Rattle.vortex_arrays_builder.specs.TooLarge.{string_bytes, buffered_bytes, buffered_count}

-- the bytes of a string or bytes, and none of any other raw value
abbrev pub bytes_in : Raw → List ℕ
bytes_in r = string_bytes (content_of r)

abbrev pub buffered : Raw → List ℕ
buffered r = buffered_bytes (content_of r)

abbrev pub buffered_len : Raw → ℕ
buffered_len r = buffered_count (content_of r)

-- each view has the bytes of its value
pub record AreViewsOf (rs : List Raw) (buffers views : List (List ℕ)) : Type 0 where
  pub count : length views ≡ length rs
  pub value : (i : ℕ) → i < length rs → HasValue (slice_index_or views i []) buffers
  pub reads : (i : ℕ) → i < length rs →
      value_of (slice_index_or views i []) buffers ≡ bytes_in (slice_index_or rs i raw_null)

-- memory ran out, or a value is longer than a buffer can be, or there would be more than 2^32
-- buffers
abbrev pub IsStringsFault : ArrayError → List Raw → Type 0
IsStringsFault e rs =
    IsLimitFault e (flat_map buffered rs) (map buffered_len rs) 0 2147483647
