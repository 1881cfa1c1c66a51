use Rattle.std.proofs.Common.{◌≡◌, ◌+◌, ◌-◌, ◌*◌, ◌++◌, [], codes, false, drop}
use Rattle.vortex_arrays_model.specs.Layout.{size_of, columns_size, content_at, row_at, span}
use Rattle.vortex_arrays_model.specs.Parts.{columns_of}
use Rattle.vortex_table_response.specs.Text.{contents_text}
use Rattle.vortex_table_run.proofs.content.+content.Given as goal

abbrev pub decreases-push_content : goal.decreases-push_content
decreases-push_content l = 3 * size_of l.array.now

abbrev pub decreases-push_list : goal.decreases-push_list
decreases-push_list l = 3 * size_of l.elements.now + 2

abbrev pub decreases-push_items : goal.decreases-push_items
decreases-push_items l = 3 * size_of l.elements.now + 1

abbrev pub decreases-push_record : goal.decreases-push_record
decreases-push_record l = 3 * columns_size (columns_of [] l.fields.now.items) + 1

-- what is written, and the string of the rest, is the string of all
abbrev pub invariant-push_items-loop-k : goal.invariant-push_items-loop-k
invariant-push_items-loop-k l =
    l.out.items ++ contents_text l.later (span (content_at l.elements) (l.start + l.k) (l.count - l.k)) ≡ l.fn.out.items ++ contents_text false (span (content_at l.elements) l.start l.count)

abbrev pub invariant-push_record-loop-field : goal.invariant-push_record-loop-field
invariant-push_record-loop-field l =
    l.out.items ++ contents_text l.later (row_at (columns_of [] (drop l.field-index l.fields.items)) l.i) ≡ (l.fn.out.items ++ codes "[") ++ contents_text false (row_at (columns_of [] l.fields.items) l.i)
