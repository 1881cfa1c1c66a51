use Rattle.std.proofs.Common.{◌≡◌, map, drop}
use Rattle.vortex_scalar_core.specs.Scalar.{scalar_type}
use Rattle.vortex_table_text.specs.Types.{all_have_texts}
use Rattle.vortex_table_text.proofs.answers.all_have_texts.Given as goal

abbrev pub invariant-loop-row : goal.invariant-loop-row
invariant-loop-row l = all_have_texts (map scalar_type (drop l.row-index l.rows)) ≡ all_have_texts (map scalar_type l.rows)
