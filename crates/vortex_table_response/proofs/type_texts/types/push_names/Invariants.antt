use Rattle.std.proofs.Common.{◌≡◌, ◌++◌, false, drop}
use Rattle.vortex_dtype_core.specs.View.{fields_of}
use Rattle.vortex_table_response.specs.type_texts.Text.{names_text}
use Rattle.vortex_table_response.proofs.type_texts.types.push_names.Given as goal

-- what is written so far and the JSON of the rest are the JSON of all
abbrev pub invariant-loop-field : goal.invariant-loop-field
invariant-loop-field l = l.out.items ++ names_text l.later (fields_of (drop l.field-index l.fields)) ≡ l.fn.out.items ++ names_text false (fields_of l.fields)
