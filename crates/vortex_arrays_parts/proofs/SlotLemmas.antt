-- Layouts that have a validity themselves.
use Rattle.vortex_arrays_model.specs.Layout.{Layout}
use Rattle.vortex_arrays_model.specs.Layout as layouts
use Rattle.vortex_arrays_leaf.specs.Shapes.{IsBools, IsNumbers}
use Rattle.vortex_arrays_leaf.specs.Strings.{IsStrings}
use Rattle.vortex_arrays_parts.specs.Nulls.{HasValidity}

pub of_bools : (a : Layout) → IsBools a → HasValidity a
of_bools (layouts.bools bs v) h = tt
of_bools a h = absurd h

pub of_numbers : (a : Layout) → IsNumbers a → HasValidity a
of_numbers (layouts.numbers k zs v) h = tt
of_numbers a h = absurd h

pub of_strings : (a : Layout) → IsStrings a → HasValidity a
of_strings (layouts.strings s vs bs v) h = tt
of_strings a h = absurd h

pub ruleset own = (of_bools, of_numbers, of_strings)
