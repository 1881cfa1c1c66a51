use Rattle.std.proofs.Common.{◌≡◌, ◌+◌, ◌*◌, ◌++◌, [], codes, false, drop}
use Rattle.vortex_arrays_model.specs.Layout.{size_of, columns_size, row_at}
use Rattle.vortex_arrays_model.specs.Parts.{columns_of}
use Rattle.vortex_table_schema.specs.Cut.{contents_cut, parts_of}
use Rattle.vortex_table_response.specs.Text.{contents_text}
use Rattle.vortex_table_run.proofs.cut.+cut.Given as goal

abbrev pub decreases-push_cut : goal.decreases-push_cut
decreases-push_cut l = 3 * size_of l.array.now

abbrev pub decreases-push_kept : goal.decreases-push_kept
decreases-push_kept l = 3 * columns_size (columns_of [] l.fields.now) + 2

abbrev pub decreases-push_part : goal.decreases-push_part
decreases-push_part l = 3 * columns_size (columns_of [] l.fields.now) + 1

-- what is written, and the string of the rest, is the string of all
abbrev pub invariant-push_kept-loop-part : goal.invariant-push_kept-loop-part
invariant-push_kept-loop-part l =
    l.out.items ++ contents_text l.later (contents_cut (parts_of (drop l.part-index l.kept.items)) (row_at (columns_of [] l.fields) l.i))
    ≡ (l.fn.out.items ++ codes "[") ++ contents_text false (contents_cut (parts_of l.kept.items) (row_at (columns_of [] l.fields) l.i))
