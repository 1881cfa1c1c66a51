use Rattle.std.proofs.Common.{◌∙◌, refl, ap, map}
use Rattle.std.proofs.lemmas.List.{take_all}
use Rattle.vortex_dtype_core.specs.View.{fields_in}
use Rattle.vortex_scalar_value.specs.View.{raws_in}
use Rattle.vortex_scalar_iter.specs.Records.{value_named}
use Rattle.vortex_scalar_iter.proofs.Records.{missed_name, all_named}
use Rattle.vortex_scalar_iter.proofs.projection.values_in_order.Goals as goal

pub returns-in_default-clause-refused : goal.returns-in_default-clause-refused
returns-in_default-clause-refused c = λ _. (refl, missed_name (fields_in c.args.fields.now) (raws_in c.args.values.now) c.args.names.now c.loop-name.name-index c.name-item.result c.requires c.loop-name-test.true c.name-item.is c.in_default.ensures)

pub returns-clause-made : goal.returns-clause-made
returns-clause-made c =
    all_named (fields_in c.args.fields.now) (raws_in c.args.values.now) c.loop-name.all.items c.args.names.now
    (c.loop-name.invariant ∙ ap (λ xs. map (λ x. value_named (fields_in c.args.fields.now) (raws_in c.args.values.now) x) xs) (take_all c.loop-name.name-index c.args.names.now c.loop-name-test.false))
