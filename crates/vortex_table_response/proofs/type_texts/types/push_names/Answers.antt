use Rattle.std.proofs.Common.{◌∙◌}
use Rattle.vortex_table_response.proofs.type_texts.Pieces.{one_more_name}
use Rattle.vortex_table_response.proofs.type_texts.types.push_names.Goals as goal

pub loop-field-preserved : goal.loop-field-preserved
loop-field-preserved c =
    one_more_name _ _ _ _ _ c.loop-field.later c.args.fields.now c.loop-field.field-index c.field-item.result c.loop-field-test.true c.field-item.is
    c.in_ok-push_comma.ensures c.in_ok-push_text.ensures (c.as_bytes.ensures.value ∙ c.as_str.ensures) c.loop-field.invariant
