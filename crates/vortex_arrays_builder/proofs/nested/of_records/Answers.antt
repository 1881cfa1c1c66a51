use Rattle.std.proofs.Common.{◌≡◌, ◌∙◌, map, length, sym, ap, subst}
use Rattle.std.proofs.lemmas.List.{length-map}
use Rattle.vortex_model.specs.LogicalType.{struct}
use Rattle.vortex_dtype_ptype.specs.View.{nullability_of_flag}
use Rattle.vortex_dtype_core.specs.View.{fields_in}
use Rattle.vortex_dtype_fields.specs.Records.{names_of}
use Rattle.vortex_scalar_value.specs.View.{raw_at}
use Rattle.vortex_arrays_model.specs.Layout.{records, IsSound}
use Rattle.vortex_arrays_model.specs.Parts.{columns_of}
use Rattle.vortex_arrays_core.specs.LayoutOf.{valid_of}
use Rattle.vortex_arrays_builder.specs.Plain.{IsPlain}
use Rattle.vortex_arrays_builder.proofs.RecordLemmas.{names_many, plain_records}
use Rattle.vortex_arrays_builder.proofs.nested.of_records.Goals as goal

pub of_records-requires-clause-named : goal.of_records-requires-clause-named
of_records-requires-clause-named c =
    let fields = fields_in c.args.fields.now in
    let names : c.in_ok-names-2.names.value ≡ names_of fields = c.in_ok-names-2.ensures.ok ∙ c.in_ok-names.ensures in
    ap length names ∙ names_many fields 0 (map raw_at c.args.values.now) c.args.columns.items c.requires.columns

pub of_records-requires-clause-sound : goal.of_records-requires-clause-sound
of_records-requires-clause-sound c =
    let fields = fields_in c.args.fields.now in
    let names : c.in_ok-names-2.names.value ≡ names_of fields = c.in_ok-names-2.ensures.ok ∙ c.in_ok-names.ensures in
    let made = plain_records fields (nullability_of_flag c.args.nullability) (map raw_at c.args.values.now) (columns_of (names_of fields) c.args.columns.items) (valid_of c.in_ok-validity.validity) c.requires.columns c.in_ok-validity.ensures in
    subst (λ n. IsSound (records (columns_of c.in_ok-names-2.names.value c.args.columns.items) n (valid_of c.in_ok-validity.validity))) (length-map c.args.values.now raw_at)
    (subst (λ xs. IsSound (records (columns_of xs c.args.columns.items) (length (map raw_at c.args.values.now)) (valid_of c.in_ok-validity.validity))) (sym names) made.sound)

pub returns : goal.returns
returns c =
    let fields = fields_in c.args.fields.now in
    let names : c.in_ok-names-2.names.value ≡ names_of fields = c.in_ok-names-2.ensures.ok ∙ c.in_ok-names.ensures in
    let same : c.in_ok-array.array ≡ records (columns_of (names_of fields) c.args.columns.items) (length (map raw_at c.args.values.now)) (valid_of c.in_ok-validity.validity) =
    c.in_ok-array.ensures ∙ (λ i. records (columns_of (names i) c.args.columns.items) (sym (length-map c.args.values.now raw_at) i) (valid_of c.in_ok-validity.validity)) in
    subst (IsPlain (struct fields (nullability_of_flag c.args.nullability)) (map raw_at c.args.values.now)) (sym same)
    (plain_records fields (nullability_of_flag c.args.nullability) (map raw_at c.args.values.now) (columns_of (names_of fields) c.args.columns.items) (valid_of c.in_ok-validity.validity) c.requires.columns c.in_ok-validity.ensures)
