-- Strings and bytes that are short and few enough for views and buffers, whatever their layout.
use Rattle.std.specs.Prelude.{◌+◌, ℕ, zero, suc, List, [], ◌∷◌, length, cond, leb}
use Rattle.vortex_model.specs.Content.{Content, text, byte_string, tuple, Contents, nothing, first}
use Rattle.vortex_arrays_view.specs.Views.{size_of}
use Rattle.vortex_arrays_model.specs.Layout.{Layout, bools, numbers, strings, fixed_lists, list_views, records, Columns, no_columns, column}

-- A value of `len` bytes counts 1 where a buffer has room for it, and else more than the most
-- buffers.
abbrev pub string_weight : ℕ → ℕ
string_weight len = cond (leb len 2147483647) 1 4294967297

-- the sum over the values inside lists and structs
abbrev mutual
  pub weight : Content → ℕ
  weight (text bs) = string_weight (length bs)
  weight (byte_string bs) = string_weight (length bs)
  weight (tuple cs) = weight_of_all cs
  weight c = 0

  pub weight_of_all : Contents → ℕ
  weight_of_all nothing = 0
  weight_of_all (first c cs) = weight c + weight_of_all cs

abbrev pub total_weight : List Content → ℕ
total_weight [] = 0
total_weight (c ∷ cs) = weight c + total_weight cs

abbrev pub views_weight : List (List ℕ) → ℕ
views_weight [] = 0
views_weight (view ∷ views) = string_weight (size_of view) + views_weight views

-- the sum over the values in an array in plain layout, and in its columns
abbrev mutual
  pub array_weight : Layout → ℕ
  array_weight (strings s views buffers v) = views_weight views
  array_weight (fixed_lists e s n v) = array_weight e
  array_weight (list_views e o s f v) = array_weight e
  array_weight (records cs n v) = columns_weight cs
  array_weight a = 0

  pub columns_weight : Columns → ℕ
  columns_weight no_columns = 0
  columns_weight (column x a cs) = array_weight a + columns_weight cs

abbrev pub fields_weight : List Layout → ℕ
fields_weight [] = 0
fields_weight (a ∷ fields) = array_weight a + fields_weight fields
