use Rattle.std.proofs.Common.{◌∙◌, map, refl}
use Rattle.vortex_dtype_core.specs.View.{field_of, fields_in}
use Rattle.vortex_dtype_fields.proofs.Projections.{onto_missed, onto_met, onto_end}
use Rattle.vortex_dtype_fields.proofs.struct_fields_ext.projection.Goals as goal

pub returns-in_default-clause-refused : goal.returns-in_default-clause-refused
returns-in_default-clause-refused c = λ _. (refl, onto_missed (map field_of c.loop-name.all.items) (fields_in c.args.fields.now) c.args.names.now c.loop-name.name-index c.name-item.result c.loop-name-test.true c.name-item.is c.in_default.ensures c.loop-name.invariant)

pub loop-name-preserved : goal.loop-name-preserved
loop-name-preserved c = onto_met c.loop-name.all.items c.push.new.self.items _ (fields_in c.args.fields.now) c.args.names.now c.loop-name.name-index c.name-item.result c.loop-name-test.true c.name-item.is
    (cc (c.in_ok-dtype.ensures.cases, c.in-Some.ensures)) c.in_ok-push.ensures.items (cc (c.in_ok-name.ensures.cases)) ∙ c.loop-name.invariant

pub returns-clause-made : goal.returns-clause-made
returns-clause-made c = onto_end c.loop-name.all.items (fields_in c.args.fields.now) c.args.names.now c.loop-name.name-index c.loop-name-test.false c.loop-name.invariant
