-- Answers as JSON.
use Rattle.std.specs.Prelude.{ℕ, List, ◌∷◌, map, Bool, Option}
use Rattle.vortex_model.specs.LogicalType.{LogicalType}
use Rattle.vortex_dtype_core.specs.View.{type_of}
use Rattle.vortex_scalar_core.specs.Scalar.{scalar_type}
use Rattle.vortex_arrays_model.specs.Layout.{array_type_of}
use Rattle.vortex_table_schema.specs.Answer.{answer_of}
use Rattle.vortex_table_schema.specs.declared.answer.ScanAnswer.{ScanAnswer}
use Rattle.vortex_table_select.specs.Selected.{answer_in}
use Rattle.vortex_table_select.specs.declared.selection.Selection.{Selection}
use Rattle.vortex_table_select.specs.declared.selection.LazyAnswer.{LazyAnswer}
use Rattle.vortex_table_response.specs.Text.{scan_text}
use Rattle.vortex_table_text.specs.Types.{all_have_texts}
use Rattle.vortex_table_text.specs.Writing.{text_if}

-- the types of the answer and of its rows have JSON text
abbrev pub answer_has_text : ScanAnswer → Bool
answer_has_text a = all_have_texts (type_of a.dtype ∷ map scalar_type a.rows.items)

abbrev pub answer_text_of : ScanAnswer → Option (List ℕ)
answer_text_of a = text_if (answer_has_text a) (scan_text (answer_of a))

abbrev pub selection_type : Selection → LogicalType
selection_type s = array_type_of s.array

-- the types of the answer and of the arrays of its rows have JSON text
abbrev pub lazy_answer_has_text : LazyAnswer → Bool
lazy_answer_has_text a =
    all_have_texts (type_of a.cut.dtype ∷ map selection_type a.selection.selections.items)

abbrev pub lazy_answer_text_of : LazyAnswer → Option (List ℕ)
lazy_answer_text_of a = text_if (lazy_answer_has_text a) (scan_text (answer_in a))
