use Rattle.std.proofs.Common.{◌≡◌, ◌<◌, ◌∙◌, List, ap, subst, arith, Some}
use Rattle.vortex_model.specs.Path.{Step}
use Rattle.vortex_dtype_core.specs.View.{type_of, fields_of}
use Rattle.vortex_dtype_core.proofs.Sizes.{type_size, fields_size, field_smaller}
use Rattle.vortex_dtype_path.specs.View.{steps_of}
use Rattle.vortex_scalar_value.specs.View.{content_in}
use Rattle.vortex_table_core.specs.TableView.{table_of}
use Rattle.vortex_table_core.proofs.Tables.{is_table}
use Rattle.vortex_table_zones.specs.Zone.{is_count, IsTold, IsOfEach}
use Rattle.vortex_table_zones.proofs.Named.{into_field, to_fields}
use Rattle.vortex_table_zones.proofs.TypeLemmas.{below_record}
use Rattle.vortex_table_zones.proofs.ValidZones.{valid_next, valid_done}
use Rattle.vortex_table_zones.proofs.ZoneLemmas.{fields_next, fields_done}
use Rattle.vortex_table_zones.proofs.zone.+columns.Goals as goal

pub fields_values-columns_value-requires : goal.fields_values-columns_value-requires
fields_values-columns_value-requires t c =
    let e : type_size (type_of c.field-item.result.dtype) < fields_size (fields_of c.args.fields.now) = field_smaller c.args.fields.now c.loop-field.field-index c.field-item.result (omega arith) c.field-item.is in
    let d : fields_size (fields_of c.args.fields.now) ≡ t = c.decreases in
    let leads = into_field (table_of c.args.table.now).kind (steps_of c.args.path.now) (steps_of c.in_ok-path.path) c.args.fields.now c.loop-field.field-index c.field-item.result
    (is_table c.args.table.now).holds c.requires c.loop-field-test.true c.field-item.is c.in_ok-path.ensures in
    (omega (arith, e, d), leads)

pub columns_value-fields_values-requires : goal.columns_value-fields_values-requires
columns_value-fields_values-requires t c =
    let e : fields_size (fields_of c.as_slice-fields.result.now) < type_size (type_of c.args.dtype.now) = below_record _ _ (ap Some c.as_slice-fields.ensures.fields ∙ c.in-Some.ensures) in
    let d : type_size (type_of c.args.dtype.now) ≡ t = c.decreases in
    let leads = to_fields (table_of c.args.table.now).kind (steps_of c.args.path.now) (type_of c.args.dtype.now) (fields_of c.as_slice-fields.result.now)
    c.requires (ap Some c.as_slice-fields.ensures.fields ∙ c.in-Some.ensures) in
    (omega (arith, e, d), leads)

pub fields_values-loop-field-preserved : goal.fields_values-loop-field-preserved
fields_values-loop-field-preserved t c =
    let one = subst (λ (p : List Step). IsOfEach (IsTold (table_of c.args.table.now) c.args.group c.args.statistic) p (type_of c.field-item.result.dtype) (content_in c.in_ok-value.value))
    c.in_ok-path.ensures c.in_ok-value.ensures.told in (
      fields_next (IsTold (table_of c.args.table.now) c.args.group c.args.statistic) (steps_of c.args.path.now) c.args.fields.now c.loop-field.field-index c.field-item.result
          c.loop-field.values.items c.push.new.self.items c.in_ok-value.value c.loop-field-test.true c.field-item.is c.in_ok-push.ensures.items one c.loop-field.invariant.0,
      valid_next (is_count c.args.statistic) c.args.fields.now c.loop-field.field-index c.field-item.result c.loop-field.values.items c.push.new.self.items c.in_ok-value.value
          c.loop-field-test.true c.field-item.is c.in_ok-push.ensures.items c.in_ok-value.ensures.valid c.loop-field.invariant.1,
    )

pub fields_values-returns-clause-told : goal.fields_values-returns-clause-told
fields_values-returns-clause-told t c =
    fields_done (IsTold (table_of c.args.table.now) c.args.group c.args.statistic) (steps_of c.args.path.now) c.args.fields.now c.loop-field.field-index c.loop-field.values.items
    c.loop-field-test.false c.loop-field.invariant.0

pub fields_values-returns-clause-valid : goal.fields_values-returns-clause-valid
fields_values-returns-clause-valid t c =
    valid_done (is_count c.args.statistic) c.args.fields.now c.loop-field.field-index c.loop-field.values.items c.loop-field-test.false c.loop-field.invariant.1
