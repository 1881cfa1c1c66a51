use Rattle.std.proofs.Common.{sym, ap, ◌∙◌, ◌++◌, append-nil, length, ◌≡◌, arith}
use Rattle.std.proofs.lemmas.Bool.{eqb-true}
use Rattle.vortex_arrays_buffer.specs.Bits.{positions_of}
use Rattle.vortex_table_select.specs.Selected.{rows_in}
use Rattle.vortex_table_select.proofs.Taken.{none_selected}
use Rattle.vortex_table_select.proofs.select.select_rows.Goals as goal

pub returns-then-is_empty-clause-rows : goal.returns-then-is_empty-clause-rows
returns-then-is_empty-clause-rows g c =
    let before = rows_in c.args.found.now.items in
    let empty = eqb-true _ 0 (sym c.is_empty.ensures ∙ c.if-is_empty.true) in
    let many = c.in_ok-rows.rows.ok.0 in
    let none : length c.in_ok-rows.rows.items ≡ 0 = omega (arith, many, empty) in
    sym (append-nil before)
    ∙ ap (λ rows. before ++ rows) (sym (none_selected c.args.predicate.now c.args.array.now _ c.in_ok-mask.mask.items c.requires.columns c.in_ok-mask.ensures c.in_ok-rows.rows.items (c.in_ok-rows.ensures ∙ ap positions_of c.deref.ensures.value) none))
