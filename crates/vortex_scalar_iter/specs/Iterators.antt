-- What the iterators have left, and that each item is a clone.
use Rattle.std.specs.Prelude.{◌≡◌, ◌<◌, List, [], ◌∷◌, length, drop, Option, Result, IfOk, MatchOption}
use Rattle.std.specs.declared.alloc.AllocError.{AllocError}
use Rattle.vortex_dtype_core.specs.View.{type_of, fields_of, entries_in}
use Rattle.vortex_scalar_value.specs.View.{raws_in}
use Rattle.vortex_scalar_views.specs.Forms.{Typed}
use Rattle.vortex_scalar_nested.specs.Entries.{each_key, each_value}
use Rattle.vortex_scalar_nested.specs.Places.{each_of}
use Rattle.vortex_scalar_iter.specs.Entries.{each_entry}
use Rattle.vortex_scalar_iter.specs.Records.{each_field}
use Rattle.vortex_scalar_iter.specs.declared.list_elements_iter.ListElementsIter.{ListElementsIter}
use Rattle.vortex_scalar_iter.specs.declared.map_keys_iter.MapKeysIter.{MapKeysIter}
use Rattle.vortex_scalar_iter.specs.declared.map_values_iter.MapValuesIter.{MapValuesIter}
use Rattle.vortex_scalar_iter.specs.declared.map_entries_iter.MapEntriesIter.{MapEntriesIter}
use Rattle.vortex_scalar_iter.specs.declared.struct_fields_iter.StructFieldsIter.{StructFieldsIter}

-- A call from s yields a clone of the first part that is left, and leaves the others. Where memory
-- runs out, it yields an error, and leaves the others too.
abbrev pub YieldsCopy : {S A B : Type 0} → (A → B) → (S → List B) → S →
    Option (Result A AllocError) → S → Type 0
YieldsCopy view left s r t =
    MatchOption r ((left s ≡ []) × (left t ≡ [])) (λ item. (left t ≡ drop 1 (left s)) ×
    (length (left t) < length (left s)) × IfOk item (λ part. left s ≡ view part ∷ left t))

-- the fields that are left
abbrev pub fields_left : StructFieldsIter → List Typed
fields_left rest = each_field (fields_of rest.fields.now) (raws_in rest.values.now)

-- the entries that are left
abbrev pub entries_left : MapEntriesIter → List (Typed × Typed)
entries_left rest = each_entry (entries_in rest.types.now) (raws_in rest.entries.now)

-- the keys that are left
abbrev pub keys_left : MapKeysIter → List Typed
keys_left rest = each_key (entries_in rest.types.now).key (raws_in rest.entries.now)

-- the values that are left
abbrev pub values_left : MapValuesIter → List Typed
values_left rest = each_value (entries_in rest.types.now).value (raws_in rest.entries.now)

-- the elements that are left
abbrev pub elements_left : ListElementsIter → List Typed
elements_left rest = each_of (type_of rest.dtype.now) (raws_in rest.values.now)
