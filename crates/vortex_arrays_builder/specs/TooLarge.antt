-- Rows whose strings or bytes are too large for views and buffers.
use Rattle.std.specs.Prelude.{◌<◌, ◌^◌, ◌⊎◌, ℕ, suc, List, [], ◌∷◌, map, length, replicate, cond, leb}
use Rattle.std.specs.List.{flat_map, Any}
use Rattle.vortex_model.specs.LogicalType.{LogicalType, utf8, binary, list, fixed_list, struct, Fields, no_fields, field}
use Rattle.vortex_model.specs.Content.{Content, null, text, byte_string, tuple, Contents, nothing, first}
use Rattle.vortex_model.specs.Path.{part_of}
use Rattle.vortex_arrays_view.specs.Cuttings.{IsCutting}

-- the bytes of a string or of bytes, and none of any other content
abbrev pub string_bytes : Content → List ℕ
string_bytes (text bs) = bs
string_bytes (byte_string bs) = bs
string_bytes c = []

-- the bytes in a buffer: those of a value of more than twelve bytes
abbrev pub buffered_bytes : Content → List ℕ
buffered_bytes c = cond (leb (length (string_bytes c)) 12) [] (string_bytes c)

abbrev pub buffered_count : Content → ℕ
buffered_count c = length (buffered_bytes c)

-- A value is longer than a buffer can be, or the values need more than 2^32 buffers, however they
-- are cut.
abbrev pub AreTooLong : List Content → Type 0
AreTooLong rows = Any (λ row. 2147483647 < buffered_count row) rows
    ⊎ ((buffers : List (List ℕ)) → IsCutting (flat_map buffered_bytes rows)
    (map buffered_count rows) 2147483647 buffers → 2 ^ 32 < length buffers)

abbrev pub contents_listed : Contents → List Content
contents_listed nothing = []
contents_listed (first c cs) = c ∷ contents_listed cs

-- the items of a list, and none for null
abbrev pub list_items : Content → List Content
list_items (tuple cs) = contents_listed cs
list_items c = []

-- the items of a fixed-size list, and m nulls for null
abbrev pub fixed_list_items : ℕ → Content → List Content
fixed_list_items m null = replicate m null
fixed_list_items m c = list_items c

-- the parts of structs at a position
abbrev pub parts_of : ℕ → List Content → List Content
parts_of i rows = map (λ row. part_of row i) rows

-- A column of strings or of bytes, at any depth, is too large for views and buffers.
abbrev mutual
  pub AreTooLarge : LogicalType → List Content → Type 0
  AreTooLarge (utf8 n) rows = AreTooLong rows
  AreTooLarge (binary n) rows = AreTooLong rows
  AreTooLarge (list k n) rows = AreTooLarge k (flat_map list_items rows)
  AreTooLarge (fixed_list k m n) rows = AreTooLarge k (flat_map (fixed_list_items m) rows)
  AreTooLarge (struct fs n) rows = HaveTooLarge fs 0 rows
  AreTooLarge k rows = ⊥

  -- a field of structs is too large, where the first field has position i
  pub HaveTooLarge : Fields → ℕ → List Content → Type 0
  HaveTooLarge no_fields i rows = ⊥
  HaveTooLarge (field x k fs) i rows =
      AreTooLarge k (parts_of i rows) ⊎ HaveTooLarge fs (suc i) rows
