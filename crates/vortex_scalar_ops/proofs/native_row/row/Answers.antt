use Rattle.std.proofs.Common.{ap, ◌∙◌}
use Rattle.vortex_model.specs.LogicalType.{struct, non_nullable}
use Rattle.vortex_model.specs.Content.{raw_tuple}
use Rattle.vortex_model.specs.Valid.{valid}
use Rattle.vortex_scalar_value.specs.View.{raws_from}
use Rattle.vortex_scalar_value.proofs.Views.{raw_of-Tuple}
use Rattle.vortex_scalar_ops.proofs.NativeRows.{valid_row}
use Rattle.vortex_scalar_ops.proofs.native_row.row.Goals as goal

pub returns-clause-value : goal.returns-clause-value
returns-clause-value g c = raw_of-Tuple c.in_ok-cells.cells ∙ ap (λ rs. raw_tuple (raws_from rs)) c.in_ok-cells.ensures.values

pub returns-clause-valid : goal.returns-clause-valid
returns-clause-valid g c = λ fs e. ap (λ r. valid (struct fs non_nullable) r) (raw_of-Tuple c.in_ok-cells.cells) ∙ valid_row _ _ c.in_ok-cells.cells.items c.in_ok-cells.ensures fs e
