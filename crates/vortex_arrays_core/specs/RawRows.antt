-- The raw value at an index: its content, with the types of its integers.
use Rattle.std.specs.Prelude.{◌≤◌, ◌+◌, ◌*◌, ℕ, zero, suc, pos, false, List, [], cond, slice_index_or}
use Rattle.vortex_model.specs.Content.{Content, null, Raw, raw_null, raw_boolean, raw_number, raw_text, raw_byte_string, raw_tuple, Raws, no_raws, raw_first}
use Rattle.vortex_arrays_view.specs.Views.{value_of}
use Rattle.vortex_arrays_model.specs.Layout.{Strings, texts, byte_strings, Layout, bools, numbers, strings, constant, dictionary, fixed_lists, list_views, records, Columns, no_columns, column, len_of, content_at, is_valid, number_in}
use Rattle.vortex_arrays_view.specs.declared.error.ArrayError.{ArrayError}
use Rattle.vortex_arrays_view.specs.declared.error.ArrayError.TheVariants as error

-- the raw value at the index that a code is, and null for null
abbrev pub raw_pick : Content → (ℕ → Raw) → Raw
raw_pick null f = raw_null
raw_pick c f = f (number_in c)

-- n raw values from i on
abbrev pub raw_span : (ℕ → Raw) → ℕ → ℕ → Raws
raw_span f i zero = no_raws
raw_span f i (suc n) = raw_first (f i) (raw_span f (i + 1) n)

abbrev pub raw_string : Strings → List ℕ → Raw
raw_string texts bs = raw_text bs
raw_string byte_strings bs = raw_byte_string bs

abbrev mutual
  pub raw_row : Layout → ℕ → Raw
  raw_row (bools bs v) i = cond (is_valid v i) (raw_boolean (slice_index_or bs i false)) raw_null
  raw_row (numbers k zs v) i =
      cond (is_valid v i) (raw_number k (slice_index_or zs i (pos 0))) raw_null
  raw_row (strings s vs bs v) i =
      cond (is_valid v i) (raw_string s (value_of (slice_index_or vs i []) bs)) raw_null
  raw_row (constant k r n) i = r
  raw_row (dictionary c v f) i = raw_pick (content_at c i) (λ j. raw_row v j)
  raw_row (fixed_lists e s n v) i =
      cond (is_valid v i) (raw_tuple (raw_span (λ j. raw_row e j) (i * s) s)) raw_null
  raw_row (list_views e o s f v) i =
      cond (is_valid v i) (raw_tuple
      (raw_span (λ j. raw_row e j) (number_in (content_at o i)) (number_in (content_at s i))))
      raw_null
  raw_row (records cs n v) i = cond (is_valid v i) (raw_tuple (raw_fields cs i)) raw_null

  pub raw_fields : Columns → ℕ → Raws
  raw_fields no_columns i = no_raws
  raw_fields (column x a cs) i = raw_first (raw_row a i) (raw_fields cs i)

-- why there is no value at an index
abbrev pub IsRowFault : ArrayError → Layout → ℕ → Type 0
IsRowFault error.Memory a i = Unit {0}
IsRowFault error.OutOfRange a i = len_of a ≤ i
IsRowFault e a i = ⊥
