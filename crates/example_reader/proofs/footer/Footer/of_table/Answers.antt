use Rattle.std.proofs.Common.{◌≡◌, None, IfErr, map, ap, subst, ◌∙◌, arith}
use Rattle.vortex_arrays_model.specs.Layout.{rows_of}
use Rattle.vortex_arrays_builder.specs.TooLarge.{AreTooLarge}
use Rattle.vortex_dtype_core.specs.View.{type_of}
use Rattle.vortex_scalar_value.specs.View.{raw_in, content_in}
use Rattle.vortex_stats_rules.proofs.Joining.{at_error}
use Rattle.vortex_table_schema.specs.Error.{Explains}
use Rattle.vortex_table_core.specs.TableView.{table_of}
use Rattle.vortex_table_zones.specs.Build.{rows_fault}
use Rattle.vortex_table_zones.specs.Types.{zone_type}
use Rattle.example_reader.specs.Written.{HasTooLargeZones}
use Rattle.example_reader.proofs.TableZones.{zones_all, zones_honest, zones_refused}
use Rattle.example_reader.proofs.footer.Footer.of_table.Goals as goal

pub returns-in_err-zones-clause-refused : goal.returns-in_err-zones-clause-refused
returns-in_err-zones-clause-refused c =
    let t = c.args.table.now in let l = type_of c.in_ok-zone_dtype.zone_dtype in let e = c.in_err-zones.field-0.0 in
    let kind : type_of c.in_ok-dtype.dtype ≡ (table_of t).kind = c.in_ok-dtype.ensures.cases ∙ c.dtype.ensures in
    let why = subst (λ vs. Explains (AreTooLarge l (map content_in vs)) (rows_fault l (map raw_in vs)) e) c.deref.ensures.value c.in_err-zones.ensures.refused in
    at_error c.from_residual-in_err-zones.result e (λ r. IfErr r (λ e. Explains (HasTooLargeZones (table_of t)) None e)) c.from_residual-in_err-zones.ensures.1
    (zones_refused t c.loop-group.group l c.loop-group.zones.items e (omega arith) (c.in_ok-zone_dtype.ensures.dtype ∙ ap zone_type kind) c.loop-group.invariant why)

pub returns-clause-honest : goal.returns-clause-honest
returns-clause-honest c =
    let t = c.args.table.now in let rows = rows_of c.in_ok-zones.zones in
    zones_honest t rows c.descriptions_are_honest.ensures
    (zones_all t c.loop-group.group c.loop-group.zones.items rows (omega arith) (c.in_ok-zones.ensures.rows ∙ ap (map content_in) c.deref.ensures.value) c.loop-group.invariant)
