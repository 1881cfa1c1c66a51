-- How many rows a group has.
use Rattle.std.proofs.Common.{◌≡◌, refl, sym, ◌∙◌, ap, ℕ, ◌+◌, ◌<◌, List, [], ◌∷◌, length, length-append, map, flat_map, get_or}
use Rattle.std.proofs.lemmas.List.Sums.{sum_by-cons}
use Rattle.vortex_model.specs.Content.{Content}
use Rattle.vortex_table_chunk.specs.Chunk.{chunk_rows}
use Rattle.vortex_table_chunk.specs.Joined.{rows_in}
use Rattle.vortex_table_core.specs.Group.{chunks_of}
use Rattle.vortex_table_core.specs.GroupRows.{rows_of_group}
use Rattle.vortex_table_core.specs.TableView.{table_of}
use Rattle.vortex_table_core.specs.declared.group.Group.{Group}
use Rattle.vortex_table_core.specs.declared.table.Table.{Table}
use Rattle.vortex_table_core.proofs.Described.{chunks_there, group_there}

flat_rows : (chunks : List (List Content)) → length (flat_map (λ chunk. chunk) chunks) ≡ rows_in chunks
flat_rows [] = refl
flat_rows (chunk ∷ chunks) =
    length-append chunk (flat_map (λ c. c) chunks) ∙ ap (λ n. length chunk + n) (flat_rows chunks) ∙ sym (sum_by-cons (λ n. n) (length chunk) (map length chunks))

pub group_counted : (t : Table) (i : ℕ) (g : Group) → i < length t.groups → g ≡ get_or t.groups i g → g.rows ≡ length (rows_of_group (table_of t) i)
group_counted t i g inside at_i =
    let own : List (List Content) = map chunk_rows (chunks_of t.chunks.items g) in
    sym ((group_there t i g inside at_i).rows) ∙ sym (flat_rows own)
    ∙ sym (ap (λ cs. length (flat_map (λ chunk. chunk) cs)) (chunks_there t i g inside at_i))

pub ruleset counted = (group_counted)
