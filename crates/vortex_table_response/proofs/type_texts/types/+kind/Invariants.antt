use Rattle.std.proofs.Common.{◌≡◌, ◌++◌, false, drop}
use Rattle.vortex_dtype_core.specs.View.{type_of, fields_of}
use Rattle.vortex_table_response.specs.type_texts.Text.{children_text}
use Rattle.vortex_dtype_core.proofs.Sizes.{type_size, fields_size}
use Rattle.vortex_table_response.proofs.type_texts.types.+kind.Given as goal

abbrev pub decreases-push_dtype : goal.decreases-push_dtype
decreases-push_dtype l = type_size (type_of l.dtype.now)

abbrev pub decreases-push_children : goal.decreases-push_children
decreases-push_children l = fields_size (fields_of l.fields.now)

-- what is written so far and the JSON of the rest are the JSON of all
abbrev pub invariant-push_children-loop-field : goal.invariant-push_children-loop-field
invariant-push_children-loop-field l =
    l.out.items ++ children_text l.later (fields_of (drop l.field-index l.fields)) ≡ l.fn.out.items ++ children_text false (fields_of l.fields)
