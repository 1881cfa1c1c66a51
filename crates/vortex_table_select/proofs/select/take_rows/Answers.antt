use Rattle.std.proofs.Common.{◌≡◌, ◌<◌, ◌++◌, ◌∙◌, ap, sym, subst, map, All}
use Rattle.std.specs.List.{range_with_len}
use Rattle.std.proofs.lemmas.Result.{on_ok_weaker}
use Rattle.vortex_arrays_model.specs.Layout.{len_of, content_at}
use Rattle.vortex_table_select.specs.Selected.{rows_in}
use Rattle.vortex_table_select.proofs.Taken.{range_within}
use Rattle.vortex_table_select.proofs.select.take_rows.Goals as goal

pub push_selection-requires-clause-within : goal.push_selection-requires-clause-within
push_selection-requires-clause-within c =
    let n = len_of c.args.array.now in
    let is : c.in_ok-rows.rows.items ≡ range_with_len 0 n = c.in_ok-rows.ensures ∙ ap (range_with_len 0) c.len.ensures.count in
    subst (All (λ i. i < n)) (sym is) (range_within n)

pub returns-clause-rows : goal.returns-clause-rows
returns-clause-rows c =
    let a = c.args.array.now in
    let is : c.in_ok-rows.rows.items ≡ range_with_len 0 (len_of a) = c.in_ok-rows.ensures ∙ ap (range_with_len 0) c.len.ensures.count in
    on_ok_weaker c.push_selection.result (λ e. e ∙ ap (λ rows. rows_in c.args.found.now.items ++ map (content_at a) rows) is) c.push_selection.ensures.rows
