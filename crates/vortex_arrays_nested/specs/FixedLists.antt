-- Lists of one size, and why parts make no array of them.
use Rattle.std.specs.Prelude.{◌≡◌, ◌*◌, ℕ}
use Rattle.vortex_arrays_view.specs.declared.error.ArrayError.{ArrayError}
use Rattle.vortex_arrays_view.specs.declared.error.ArrayError.TheVariants.{Memory, ElementCount}
use Rattle.vortex_arrays_model.specs.Layout.{Layout, fixed_lists, Valid, len_of, HasLength}
use Rattle.vortex_arrays_core.specs.Faults.{IsValidityFault}

abbrev pub IsFixedLists : Layout → Type 0
IsFixedLists (fixed_lists e s n v) = Unit {0}
IsFixedLists a = ⊥

-- why elements and a validity make no n lists of the size s
abbrev pub IsFixedListFault : ArrayError → Layout → ℕ → ℕ → Valid → Type 0
IsFixedListFault Memory e s n v = Unit {0}
IsFixedListFault ElementCount e s n v = HasLength v n × (¬ (len_of e ≡ n * s))
IsFixedListFault x e s n v = IsValidityFault x v n
