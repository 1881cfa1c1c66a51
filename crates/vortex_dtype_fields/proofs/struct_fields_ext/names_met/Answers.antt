use Rattle.std.proofs.Common.{◌∙◌}
use Rattle.vortex_dtype_fields.proofs.Pieces.{met_more}
use Rattle.vortex_dtype_fields.proofs.struct_fields_ext.names_met.Goals as goal

pub loop-field-preserved : goal.loop-field-preserved
loop-field-preserved c = λ q. met_more _ _ c.as_str.result c.field-item.result c.args.fields.now c.loop-field.field-index q c.loop-field-test.true c.field-item.is c.as_str.ensures c.in_ok-insert.ensures.updates ∙ c.loop-field.invariant q
