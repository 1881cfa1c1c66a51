use Rattle.std.proofs.Common.{◌≡◌, ◌∙◌, sym, ap, subst, arith}
use Rattle.vortex_arrays_model.specs.Layout.{records, fields_of}
use Rattle.vortex_arrays_model.specs.Parts.{columns_of}
use Rattle.vortex_arrays_core.specs.LayoutOf.{layout_of, valid_of}
use Rattle.vortex_arrays_builder.specs.Types.{HavePlain}
use Rattle.vortex_table_layout.proofs.HintLemmas.{records_plain}
use Rattle.vortex_table_layout.proofs.hint.hint_records.Goals as goal

pub hint_columns-requires-clause-plain : goal.hint_columns-requires-clause-plain
hint_columns-requires-clause-plain c =
    let names = c.in-Struct.names.value in
    let fields = c.in-Struct.fields.items in
    let whole : c.args.array.now ≡ records (columns_of names fields) c.in-Struct.len (valid_of c.in-Struct.validity) = sym c.layout.ensures.layout ∙ ap layout_of c.in-Struct.is in
    let same : c.deref.result.now ≡ names = grind arith in
    subst (λ ns. HavePlain (fields_of (columns_of ns fields))) (sym same)
    (records_plain c.args.array.now (columns_of names fields) c.in-Struct.len (valid_of c.in-Struct.validity) c.requires.kept whole)
