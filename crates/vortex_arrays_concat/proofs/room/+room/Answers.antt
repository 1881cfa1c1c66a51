use Rattle.std.proofs.Common.{◌≡◌, sym, ap, ◌∙◌, arith}
use Rattle.vortex_arrays_model.specs.Layout.{records, size_of}
use Rattle.vortex_arrays_model.specs.Parts.{columns_of}
use Rattle.vortex_arrays_core.specs.LayoutOf.{layout_of, valid_of}
use Rattle.vortex_arrays_core.proofs.RawRowsLemmas.{size_without_names}
use Rattle.vortex_arrays_concat.proofs.room.+room.Goals as goal

pub left_by-left_by_fields-requires : goal.left_by-left_by_fields-requires
left_by-left_by_fields-requires t c =
    let names = c.in-Struct.field-0.value in
    let fields = c.in-Struct.fields.items in
    let whole : c.args.array.now ≡ records (columns_of names fields) c.in-Struct.field-2 (valid_of c.in-Struct.field-3) = sym c.layout.ensures.layout ∙ ap layout_of c.in-Struct.is in
    let size = ap size_of whole in
    let same = size_without_names names fields in
    let d = c.decreases in
    (omega (arith, size, same, d), tt)
