-- Which commands pass a total.
use Rattle.std.specs.Prelude.{◌⊎◌, map, Some}
use Rattle.vortex_model.specs.Content.{content_of}
use Rattle.vortex_model_table.specs.Command.{append, append_array, retype, compact}
use Rattle.vortex_model_table.specs.Reply.{Totals, RowsPass}
use Rattle.vortex_table_layout.specs.TooLarge.{AreTooLarge}
use Rattle.vortex_table_layout.specs.AnyTooLarge.{AnyTooLarge}
use Rattle.vortex_table_layout.specs.TooManyElements.{AnyHasTooManyElements}

-- The rows would be too many, or those that are laid out anew have strings or bytes in some column
-- that its views and buffers can't hold, or the lists of some column of a chunk have more elements
-- together than can be counted.
abbrev pub PassesTotal : Totals
PassesTotal (Some t) (append k values) =
    RowsPass (Some t) (append k values) ⊎ AreTooLarge t.kind (map content_of values)
PassesTotal (Some t) (append_array k rows) =
    RowsPass (Some t) (append_array k rows) ⊎ AreTooLarge t.kind rows
PassesTotal (Some t) (retype k) = AnyTooLarge k t.chunks
PassesTotal (Some t) compact = AnyHasTooManyElements t.kind t.chunks
PassesTotal old c = ⊥
