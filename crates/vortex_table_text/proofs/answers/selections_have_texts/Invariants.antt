use Rattle.std.proofs.Common.{◌≡◌, map, drop}
use Rattle.vortex_table_text.specs.Answers.{selection_type}
use Rattle.vortex_table_text.specs.Types.{all_have_texts}
use Rattle.vortex_table_text.proofs.answers.selections_have_texts.Given as goal

abbrev pub invariant-loop-selection : goal.invariant-loop-selection
invariant-loop-selection l = all_have_texts (map selection_type (drop l.selection-index l.selections)) ≡ all_have_texts (map selection_type l.selections)
