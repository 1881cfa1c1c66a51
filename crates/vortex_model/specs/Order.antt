-- The order of contents.
use Rattle.std.specs.Prelude.{◌≡◌, ℕ, List, Option, Some, None, if◌then◌else◌, Bool, true, false}
use Rattle.std.specs.declared.cmp.Ordering.{Ordering}
use Rattle.std.specs.declared.cmp.Ordering.TheVariants.{Less, Equal, Greater}
use Rattle.std.specs.Ordering.{nat_cmp, int_cmp, bool_cmp, is_lt, is_le, is_eq}
use Rattle.std.specs.Cmp.Lexicographic.{slice_cmp}
use Rattle.vortex_model.specs.LogicalType.{LogicalType, equal_ignoring_nullability}
use Rattle.vortex_model.specs.Content.{Content, null, boolean, integer, text, byte_string, tuple, tagged, Contents, nothing, first}

-- bytes in lexicographic order, a prefix first
abbrev pub bytes_cmp : List ℕ → List ℕ → Ordering
bytes_cmp = slice_cmp nat_cmp

-- False is below true, integers are in numeric order, strings and bytes in lexicographic order of
-- bytes. Nothing else compares.
abbrev pub leaf_cmp : Content → Content → Option Ordering
leaf_cmp (boolean a) (boolean b) = Some (bool_cmp a b)
leaf_cmp (integer a) (integer b) = Some (int_cmp a b)
leaf_cmp (text a) (text b) = Some (bytes_cmp a b)
leaf_cmp (byte_string a) (byte_string b) = Some (bytes_cmp a b)
leaf_cmp c d = None

-- the first comparison, and where that is Equal the second
abbrev pub and_then : Option Ordering → Option Ordering → Option Ordering
and_then (Some Equal) q = q
and_then p q = p

-- Null is least. Lists and structs are in lexicographic order, unions by tag and then by value. A
-- `Variant` value compares with null alone.
abbrev mutual
  pub content_cmp : Content → Content → Option Ordering
  content_cmp null null = Some Equal
  content_cmp null d = Some Less
  content_cmp c null = Some Greater
  content_cmp (tuple cs) (tuple ds) = contents_cmp cs ds
  content_cmp (tagged t c) (tagged u d) = and_then (Some (int_cmp t u)) (content_cmp c d)
  content_cmp (boolean a) (boolean b) = Some (bool_cmp a b)
  content_cmp (integer a) (integer b) = Some (int_cmp a b)
  content_cmp (text a) (text b) = Some (bytes_cmp a b)
  content_cmp (byte_string a) (byte_string b) = Some (bytes_cmp a b)
  content_cmp c d = None

  pub contents_cmp : Contents → Contents → Option Ordering
  contents_cmp nothing nothing = Some Equal
  contents_cmp nothing (first d ds) = Some Less
  contents_cmp (first c cs) nothing = Some Greater
  contents_cmp (first c cs) (first d ds) = and_then (content_cmp c d) (contents_cmp cs ds)

-- scalars compare where their types are equal up to nullability
abbrev pub scalar_cmp : LogicalType → Content → LogicalType → Content → Option Ordering
scalar_cmp s c t d = if equal_ignoring_nullability s t then content_cmp c d else None

-- the contents compare, and their order passes the test
abbrev pub is_known : (Ordering → Bool) → Option Ordering → Bool
is_known p None = false
is_known p (Some o) = p o

-- These hold where the contents compare and the first is less, is not greater, or is equal.
abbrev pub below : Content → Content → Bool
below c d = is_known is_lt (leaf_cmp c d)

abbrev pub at_most : Content → Content → Bool
at_most c d = is_known is_le (leaf_cmp c d)

abbrev pub eq_leaf : Content → Content → Bool
eq_leaf c d = is_known is_eq (leaf_cmp c d)

-- c compares with d and is not greater
abbrev pub IsAtMost : Content → Content → Type 0
IsAtMost c d = at_most c d ≡ true
