-- Entries of maps: keys and values with their types.
use Rattle.std.specs.Prelude.{List, [], ◌∷◌, Option, Some, None, option_and_then}
use Rattle.vortex_model.specs.Content.{Raw, raw_tuple, Raws, no_raws, raw_first}
use Rattle.vortex_scalar_core.specs.declared.scalar.Scalar.{Scalar}
use Rattle.vortex_dtype_core.specs.Parts.{entries_in_type}
use Rattle.vortex_dtype_core.specs.View.{EntryTypes}
use Rattle.vortex_scalar_views.specs.Forms.{Typed}
use Rattle.vortex_scalar_views.specs.Views.{typed_scalar}
use Rattle.vortex_scalar_nested.specs.Entries.{typed_pair, key_in, value_in}

-- a pair of scalars in the model
abbrev pub typed_entry : Scalar × Scalar → Typed × Typed
typed_entry p = (typed_scalar p.0, typed_scalar p.1)

-- the entries in order
abbrev pub each_entry : EntryTypes → Raws → List (Typed × Typed)
each_entry e no_raws = []
each_entry e (raw_first r rs) = typed_pair e (key_in r, value_in r) ∷ each_entry e rs

-- the entries of a map in order; null has none
abbrev pub entries_under : EntryTypes → Raw → Option (List (Typed × Typed))
entries_under e (raw_tuple rs) = Some (each_entry e rs)
entries_under e r = None

abbrev pub entries_of_map : Typed → Option (List (Typed × Typed))
entries_of_map t = option_and_then (λ e. entries_under e t.1) (entries_in_type t.0)
