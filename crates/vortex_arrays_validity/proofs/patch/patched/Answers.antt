use Rattle.std.proofs.Common.{◌≡◌, ◌<◌, ◌∙◌, length, drop, sym, ap, subst}
use Rattle.std.proofs.lemmas.List.{take_at}
use Rattle.vortex_arrays_model.specs.Layout.{HasLength, len_of}
use Rattle.vortex_arrays_core.specs.LayoutOf.{valid_of}
use Rattle.vortex_arrays_validity.specs.Places.{places_or}
use Rattle.vortex_arrays_validity.specs.Validities.{valid_rows}
use Rattle.vortex_arrays_validity.proofs.Overwritten.{count_listed, none_listed, last_listed}
use Rattle.vortex_arrays_validity.proofs.Rows.{bit_says, row_count, rows_patched}
use Rattle.vortex_arrays_validity.proofs.patch.patched.Goals as goal

pub overwrite-requires : goal.overwrite-requires
overwrite-requires c =
    let named : c.deref.result.now ≡ places_or c.args.len c.args.places.now =
    c.deref.ensures.value ∙ c.in_ok-indices.ensures in
    ap length (c.deref-2.ensures.value ∙ c.in_ok-theirs.ensures)
    ∙ row_count (valid_of c.args.patches.now) c.len.result ∙ c.len.ensures.count
    ∙ sym (count_listed c.args.places.now c.args.len c.deref.result.now named)

pub returns : goal.returns
returns c =
    let n = c.args.len in
    let v = valid_of c.args.validity.now in
    let q = valid_of c.args.patches.now in
    let w = valid_of c.in_ok-made.made in
    let old = c.deref_mut.result.now in
    let new = c.overwrite.new.rows in
    let places = c.args.places.now in
    let indices = c.deref.result.now in
    let theirs = c.deref-2.result.now in
    let within = c.requires.places.within in
    let mine : old ≡ valid_rows v n = c.deref_mut.ensures.value ∙ c.in_ok-rows.ensures in
    let count : length old ≡ n = ap length mine ∙ row_count v n in
    let named : indices ≡ places_or n places = c.deref.ensures.value ∙ c.in_ok-indices.ensures in
    let all : theirs ≡ valid_rows q (len_of places) =
    c.deref-2.ensures.value ∙ c.in_ok-theirs.ensures ∙ ap (valid_rows q) c.len.ensures.count in
    let full : length new ≡ c.in_ok-rows.rows.len = c.overwrite.ensures.count ∙ c.deref_mut.ensures.len in
    let same : c.from_buffer.result ≡ new =
    c.from_buffer.ensures ∙ c.in_ok-bits.ensures ∙ c.deref-3.ensures.value
    ∙ take_at new (drop (length new) c.in_ok-rows.rows.items) c.in_ok-rows.rows.len full in
    rows_patched v q w places n old new mine c.overwrite.ensures.count
    (λ j l none. c.overwrite.ensures.kept j (none_listed places n indices j named within l none))
    (λ j k l last. c.overwrite.ensures.overwritten j k (subst (λ m. j < m) (sym count) l)
    (last_listed places n indices j k named within l last)
    ∙ bit_says q theirs (len_of places) k all last.within)
    (subst (λ m. HasLength w (length m)) same c.in_ok-made.ensures.fits)
    c.in_ok-made.ensures.nullability
    (subst (λ m. valid_rows w (length m) ≡ m) same c.in_ok-made.ensures.rows)
    (c.may_be_null.ensures.0 search)
