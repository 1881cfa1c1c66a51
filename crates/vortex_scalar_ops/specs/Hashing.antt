-- The writes of a value to a hasher, in order, each a list of bytes. They don't depend on
-- nullability of the types inside `Variant` values.
use Rattle.std.specs.Prelude.{ℕ, List, [], ◌∷◌, ◌++◌, length}
use Rattle.std.specs.Hash as fed
use Rattle.vortex_model.specs.Content.{Content, null, boolean, integer, text, byte_string, tuple, tagged, scalar, Contents, nothing, first, count}
use Rattle.vortex_dtype_fields.specs.Hashing.{type_writes}

abbrev mutual
  pub content_writes : Content → List (List ℕ)
  content_writes null = fed.u8 0
  content_writes (boolean b) = fed.u8 1 ++ fed.bool b
  content_writes (integer z) = fed.u8 2 ++ fed.i128 z
  content_writes (text bs) = fed.u8 3 ++ fed.str bs
  content_writes (byte_string bs) = fed.u8 4 ++ fed.usize (length bs) ++ (bs ∷ [])
  content_writes (tuple cs) = fed.u8 5 ++ fed.usize (count cs) ++ contents_writes cs
  content_writes (tagged t c) = fed.u8 6 ++ fed.i8 t ++ content_writes c
  content_writes (scalar k c) = fed.u8 7 ++ type_writes k ++ content_writes c

  pub contents_writes : Contents → List (List ℕ)
  contents_writes nothing = []
  contents_writes (first c cs) = content_writes c ++ contents_writes cs
