-- Entries of maps: keys and values with their types.
use Rattle.std.specs.Prelude.{ℕ, List, [], ◌∷◌, Option, Some, None, option_map, option_and_then}
use Rattle.vortex_model.specs.LogicalType.{LogicalType}
use Rattle.vortex_model.specs.Content.{Raw, raw_null, raw_tuple, Raws, no_raws, raw_first}
use Rattle.vortex_dtype_core.specs.Parts.{entries_in_type}
use Rattle.vortex_dtype_core.specs.View.{EntryTypes}
use Rattle.vortex_scalar_views.specs.Forms.{Typed}
use Rattle.vortex_scalar_nested.specs.Places.{part_of}

-- the key and the value of an entry
abbrev pub pair_in : Raw → Option (Raw × Raw)
pair_in (raw_tuple (raw_first a (raw_first b no_raws))) = Some (a, b)
pair_in r = None

-- the key and the value of an entry with their types
abbrev pub typed_pair : EntryTypes → Raw × Raw → Typed × Typed
typed_pair e p = ((e.key, p.0), (e.value, p.1))

-- the entry of a map at an index; null has none
abbrev pub entry_at : Typed → ℕ → Option (Typed × Typed)
entry_at t i =
    option_and_then (λ e. option_map (typed_pair e)
    (option_and_then (λ r. pair_in r) (part_of t.1 i))) (entries_in_type t.0)

-- the key of an entry, and its value; null where it isn't a pair
abbrev pub key_in : Raw → Raw
key_in (raw_tuple (raw_first a (raw_first b no_raws))) = a
key_in r = raw_null

abbrev pub value_in : Raw → Raw
value_in (raw_tuple (raw_first a (raw_first b no_raws))) = b
value_in r = raw_null

-- the keys of entries in order, with the key type
abbrev pub each_key : LogicalType → Raws → List Typed
each_key k no_raws = []
each_key k (raw_first r rs) = (k, key_in r) ∷ each_key k rs

-- the values of entries in order, with the value type
abbrev pub each_value : LogicalType → Raws → List Typed
each_value k no_raws = []
each_value k (raw_first r rs) = (k, value_in r) ∷ each_value k rs

-- the keys of a map in order; null has none
abbrev pub keys_under : EntryTypes → Raw → Option (List Typed)
keys_under e (raw_tuple rs) = Some (each_key e.key rs)
keys_under e r = None

abbrev pub keys_of : Typed → Option (List Typed)
keys_of t = option_and_then (λ e. keys_under e t.1) (entries_in_type t.0)

-- the values of a map in the order of its entries; null has none
abbrev pub values_under : EntryTypes → Raw → Option (List Typed)
values_under e (raw_tuple rs) = Some (each_value e.value rs)
values_under e r = None

abbrev pub values_of : Typed → Option (List Typed)
values_of t = option_and_then (λ e. values_under e t.1) (entries_in_type t.0)
