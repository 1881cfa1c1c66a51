use Rattle.std.proofs.Common.{arith, sym, ◌∙◌}
use Rattle.vortex_dtype_proto.proofs.Parts.{one_more, all_taken, field_names-fields_of}
use Rattle.vortex_dtype_proto.proofs.write.names_of_fields.Goals as goal

pub loop-field-preserved : goal.loop-field-preserved
loop-field-preserved c =
    one_more (λ f. f.name) c.args.fields.now c.loop-field.field-index c.field-item.result c.loop-field.names.items _ c.in_ok-name.name (omega arith) c.field-item.is c.in_ok-push.ensures.items c.in_ok-name.ensures.cases c.loop-field.invariant

pub returns : goal.returns
returns c = c.new.ensures ∙ c.loop-field.invariant ∙ all_taken (λ f. f.name) c.args.fields.now c.loop-field.field-index (omega arith) ∙ sym (field_names-fields_of c.args.fields.now)
