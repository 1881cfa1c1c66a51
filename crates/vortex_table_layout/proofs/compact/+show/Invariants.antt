use Rattle.std.proofs.Common.{◌+◌, ◌*◌}
use Rattle.vortex_arrays_model.specs.Layout.{size_of, columns_size}
use Rattle.vortex_arrays_model.specs.Parts.{columns_of}
use Rattle.vortex_table_layout.specs.Compacted.{IsShown}
use Rattle.vortex_table_layout.proofs.MadeColumns.{FirstMade}
use Rattle.vortex_table_layout.proofs.ShownLemmas.{seen_in}
use Rattle.vortex_table_layout.proofs.compact.+show.Given as goal

abbrev pub decreases-show_part : goal.decreases-show_part
decreases-show_part l = 2 * size_of l.array.now + 1

abbrev pub decreases-show_fields : goal.decreases-show_fields
decreases-show_fields l = 2 * columns_size (columns_of l.names.now l.fields.now.items) + 2

abbrev pub invariant-show_fields-loop-field : goal.invariant-show_fields-loop-field
invariant-show_fields-loop-field l = FirstMade (IsShown (seen_in l.seen)) l.fields.items l.field-index l.shown.items
