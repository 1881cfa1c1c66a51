use Rattle.std.proofs.Common.{◌≡◌, ◌∙◌, ◌<◌, get_or, length, false, sym, ap, subst, arith}
use Rattle.std.proofs.lemmas.List.FromFn.{length-map-range_with_len}
use Rattle.std.specs.Prelude.{◌&&◌}
use Rattle.vortex_arrays_model.specs.Layout.{records, is_valid, len_of, size_of, IsSound}
use Rattle.vortex_arrays_model.specs.Parts.{columns_of}
use Rattle.vortex_arrays_model.proofs.PicksLemmas.{each_length, field_size}
use Rattle.vortex_arrays_core.specs.LayoutOf.{layout_of, valid_of}
use Rattle.vortex_table_layout.specs.Compacted.{AreShown, IsShown}
use Rattle.vortex_table_layout.proofs.MadeColumns.{first_more}
use Rattle.vortex_table_layout.proofs.ShownLemmas.{seen_in, shown_fit, records_shown}
use Rattle.vortex_table_layout.proofs.compact.+show.Goals as goal

pub show_fields-show_part-requires : goal.show_fields-show_part-requires
show_fields-show_part-requires t c =
    let ns = c.args.names.now in let fs = c.args.fields.now.items in let i = c.loop-field.field-index in let a = c.field-item.result in
    let e = c.deref-field-items.ensures.value in
    let inside : i < length fs = subst (λ xs. i < length xs) e c.loop-field-test.true in
    let here : a ≡ get_or fs i a = subst (λ xs. a ≡ get_or xs i a) e c.field-item.is in
    let smaller = field_size ns fs i a here inside in
    let falls = c.decreases in (
      omega (arith, falls, smaller),
      c.requires.many ∙ sym (ap len_of here ∙ each_length ns fs c.args.len i a c.requires.fit inside),
    )

pub show_fields-loop-field-preserved : goal.show_fields-loop-field-preserved
show_fields-loop-field-preserved t c =
    let fs = c.args.fields.now.items in let i = c.loop-field.field-index in let a = c.field-item.result in
    let e = c.deref-field-items.ensures.value in
    let inside : i < length fs = subst (λ xs. i < length xs) e c.loop-field-test.true in
    let here : a ≡ get_or fs i a = subst (λ xs. a ≡ get_or xs i a) e c.field-item.is in
    first_more (IsShown (seen_in c.args.seen.now)) fs i c.loop-field.shown.items c.push.new.self.items a c.in_ok-column.column
    c.loop-field.invariant inside here c.in_ok-column.ensures c.len-rows.ensures.sound c.in_ok-push.ensures.items

pub show_fields-returns-clause-fit : goal.show_fields-returns-clause-fit
show_fields-returns-clause-fit t c =
    let e = c.deref-field-items.ensures.value in
    let all : c.loop-field.field-index ≡ length c.args.fields.now.items = rw (← e) (omega arith) in
    shown_fit (seen_in c.args.seen.now) c.args.names.now c.args.fields.now.items c.loop-field.field-index c.args.len c.loop-field.shown.items c.loop-field.invariant all c.requires.fit

pub show_part-show_fields-requires : goal.show_part-show_fields-requires
show_part-show_fields-requires t c =
    let bs = c.args.seen.now in let fs = c.in-Struct.fields.items in let n = c.in-Struct.len in let v = valid_of c.in-Struct.validity in
    let same : c.args.array.now ≡ records (columns_of c.deref.result.now fs) n v
    = sym c.layout.ensures.layout ∙ ap layout_of c.in-Struct.is ∙ ap (λ xs. records (columns_of xs fs) n v) (sym c.deref.ensures) in
    let size = ap size_of same in let falls = c.decreases in
    let sound : IsSound (records (columns_of c.deref.result.now fs) n v) = subst IsSound (c.layout.ensures.layout ∙ same) c.layout.ensures.sound in (
      omega (arith, falls, size),
      (
        sound.0,
        ap length c.deref-in-Struct.ensures.value ∙ ap length c.in_ok-seen-in-Struct.ensures ∙ length-map-range_with_len (λ i. get_or bs i false && is_valid v i) 0 (length bs) ∙ c.requires ∙ ap len_of same,
      ),
    )

pub show_part-returns-in_ok-records-in-Struct : goal.show_part-returns-in_ok-records-in-Struct
show_part-returns-in_ok-records-in-Struct t c =
    let bs = c.args.seen.now in let ns = c.in-Struct.names.value in let fs = c.in-Struct.fields.items in let ds = c.in_ok-fields-in-Struct.fields.items in
    let n = c.in-Struct.len in let v = valid_of c.in-Struct.validity in let inside = c.deref-in-Struct.result.now in
    let same : c.args.array.now ≡ records (columns_of ns fs) n v = sym c.layout.ensures.layout ∙ ap layout_of c.in-Struct.is in
    let sound : IsSound (records (columns_of ns fs) n v) = subst IsSound (c.layout.ensures.layout ∙ same) c.layout.ensures.sound in
    let shown : AreShown (seen_in inside) (columns_of ns fs) (columns_of ns ds) = subst (λ xs. AreShown (seen_in inside) (columns_of xs fs) (columns_of xs ds)) c.deref.ensures c.in_ok-fields-in-Struct.ensures.shown in
    subst (IsShown (seen_in bs) c.args.array.now) (sym c.in_ok-records-in-Struct.ensures)
    (records_shown bs inside c.args.array.now (columns_of ns fs) (columns_of ns ds) n v same sound (c.requires ∙ ap len_of same) (c.deref-in-Struct.ensures.value ∙ c.in_ok-seen-in-Struct.ensures) shown)
