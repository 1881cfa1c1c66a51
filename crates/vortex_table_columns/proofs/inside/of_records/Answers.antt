use Rattle.std.proofs.Common.{◌≡◌, length, map, sym, subst, ap, ◌∙◌}
use Rattle.vortex_model.specs.LogicalType.{struct}
use Rattle.vortex_dtype_ptype.specs.View.{nullability_of_flag}
use Rattle.vortex_dtype_core.specs.View.{fields_in}
use Rattle.vortex_dtype_fields.specs.Records.{names_of}
use Rattle.vortex_arrays_model.specs.Layout.{records, IsSound}
use Rattle.vortex_arrays_model.specs.Parts.{columns_of}
use Rattle.vortex_arrays_core.specs.LayoutOf.{valid_of}
use Rattle.vortex_table_columns.specs.Cells.{IsColumn}
use Rattle.vortex_table_columns.specs.Nested.{tuple_or_null}
use Rattle.vortex_table_columns.proofs.InsideLemmas.{names_many, insides, records_column}
use Rattle.vortex_table_columns.proofs.inside.of_records.Goals as goal

pub of_records-requires-clause-named : goal.of_records-requires-clause-named
of_records-requires-clause-named c =
    let fields = fields_in c.args.fields.now in
    let names : c.in_ok-names-2.names.value ≡ names_of fields = c.in_ok-names-2.ensures.ok ∙ c.in_ok-names.ensures in
    ap length names ∙ names_many fields (insides c.requires.0) c.args.columns.items c.requires.1.inside

pub of_records-requires-clause-sound : goal.of_records-requires-clause-sound
of_records-requires-clause-sound c =
    let fields = fields_in c.args.fields.now in
    let names : c.in_ok-names-2.names.value ≡ names_of fields = c.in_ok-names-2.ensures.ok ∙ c.in_ok-names.ensures in
    let v = valid_of c.in_ok-validity.validity in
    let made = records_column (nullability_of_flag c.args.nullability) c.args.present.now v c.requires.0 c.in_ok-validity.ensures c.requires.1.marks fields c.args.columns.items c.requires.1.inside in
    subst (λ xs. IsSound (records (columns_of xs c.args.columns.items) (length c.args.present.now) v)) (sym names) made.sound

pub returns : goal.returns
returns c = λ rows h.
    let fields = fields_in c.args.fields.now in
    let names : c.in_ok-names-2.names.value ≡ names_of fields = c.in_ok-names-2.ensures.ok ∙ c.in_ok-names.ensures in
    let v = valid_of c.in_ok-validity.validity in
    let made = records_column (nullability_of_flag c.args.nullability) c.args.present.now v rows c.in_ok-validity.ensures h.marks fields c.args.columns.items h.inside in
    subst (IsColumn (struct fields (nullability_of_flag c.args.nullability)) (map tuple_or_null rows))
    (sym (c.in_ok-array.ensures ∙ ap (λ xs. records (columns_of xs c.args.columns.items) (length c.args.present.now) v) names)) made
