-- Parts of values by index, with their types.
use Rattle.std.specs.Prelude.{ℕ, zero, suc, List, [], ◌∷◌, Bool, Option, Some, None, option_and_then}
use Rattle.std.specs.Option.{is_some}
use Rattle.vortex_model.specs.LogicalType.{LogicalType}
use Rattle.vortex_model.specs.Content.{Raw, raw_tuple, Raws, no_raws, raw_first, raw_count}
use Rattle.vortex_model.specs.Path.{part_at, position_in}
use Rattle.vortex_dtype_core.specs.Parts.{list_element}
use Rattle.vortex_scalar_views.specs.Forms.{Typed}

-- the type is a list, of any length or of a fixed one
abbrev pub is_listing : LogicalType → Bool
is_listing k = is_some (list_element k)

-- the item at an index, and none past the end
abbrev pub item_at : Raws → ℕ → Option Raw
item_at no_raws i = None
item_at (raw_first r rs) zero = Some r
item_at (raw_first r rs) (suc i) = item_at rs i

-- the part of a value at an index; null has none
abbrev pub part_of : Raw → ℕ → Option Raw
part_of (raw_tuple rs) i = item_at rs i
part_of r i = None

-- the number of parts; null has none
abbrev pub part_count : Raw → ℕ
part_count (raw_tuple rs) = raw_count rs
part_count r = 0

-- a type with a value, where both exist
abbrev pub both : Option LogicalType → Option Raw → Option Typed
both (Some k) (Some r) = Some (k, r)
both k r = None

-- the element of a list at an index
abbrev pub element_at : Typed → ℕ → Option Typed
element_at t i = both (list_element t.0) (part_of t.1 i)

-- the items in order, each with this type
abbrev pub each_of : LogicalType → Raws → List Typed
each_of k no_raws = []
each_of k (raw_first r rs) = (k, r) ∷ each_of k rs

abbrev pub each_part : Option LogicalType → Raw → Option (List Typed)
each_part (Some k) (raw_tuple rs) = Some (each_of k rs)
each_part k r = None

-- the elements of a list in order; null has none
abbrev pub elements_of : Typed → Option (List Typed)
elements_of t = each_part (list_element t.0) t.1

-- the value of a struct's field at an index
abbrev pub field_of_record : Typed → ℕ → Option Typed
field_of_record t i = both (part_at t.0 i) (part_of t.1 i)

-- the value of a struct's first field with this name
abbrev pub field_named : Typed → List ℕ → Option Typed
field_named t x = option_and_then (λ i. field_of_record t i) (position_in t.0 x)
