use Rattle.std.proofs.Common.{◌≡◌, ◌<◌, List, Option, length, get_or, sym, ap, subst, ◌∙◌}
use Rattle.vortex_model.specs.Path.{Positions}
use Rattle.vortex_model_table.specs.ZoneMap.{values_at}
use Rattle.vortex_stats_select.specs.declared.leaf.Leaf.{Leaf}
use Rattle.vortex_table_schema.proofs.Places.{positions_so}
use Rattle.vortex_table_chunk.specs.Chunk.{chunk_rows}
use Rattle.vortex_table_chunk.specs.Kept.{IsKeptOf}
use Rattle.vortex_table_chunk.proofs.KeptLemmas.{placed_column}
use Rattle.vortex_table_chunk.proofs.kept.kept_at.Goals as goal

pub returns-in-Some-column : goal.returns-in-Some-column
returns-in-Some-column c =
    let chunk = c.args.chunk.now in let i = c.args.index in let rows = chunk_rows chunk in
    let is = c.in-Some-get.place.now in let column = c.in-Some.column.now in
    let columns : c.deref.result.now ≡ chunk.columns.items = c.deref.ensures.value in
    let leaves : c.deref-3.result.now ≡ chunk.leaves.value.items = c.deref-3.ensures.value ∙ ap (λ v. v.items) c.deref-2.ensures in
    let inside : i < length chunk.columns.items = subst (λ (cs : List (Option Leaf)). i < length cs) columns c.in-Some.ensures.lookup.3.0 in
    let same_column : column ≡ get_or chunk.columns.items i column = subst (λ (cs : List (Option Leaf)). column ≡ get_or cs i column) columns c.in-Some.ensures.lookup.1 in
    let same_place : is ≡ get_or chunk.leaves.value.items i is = subst (λ (ls : List Positions). is ≡ get_or ls i is) leaves c.in-Some-get.ensures.lookup.1 in
    let here : IsKeptOf column (values_at is rows) = placed_column chunk.leaves.value.items chunk.columns.items rows i is column chunk.kept inside same_place same_column in
    subst (λ o. IsKeptOf o (values_at is rows)) c.in-Some-column.is here
    ∙ ap (λ js. values_at js rows) (positions_so is c.args.positions.now (sym c.equals.ensures ∙ c.if-not-equals.false))
