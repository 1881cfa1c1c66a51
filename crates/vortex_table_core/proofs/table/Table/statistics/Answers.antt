use Rattle.std.proofs.Common.{sym, ap, subst, ◌∙◌, map}
use Rattle.std.specs.Prelude.{option_map}
use Rattle.vortex_dtype_core.specs.View.{type_of}
use Rattle.vortex_table_chunk.specs.Chunk.{chunk_rows}
use Rattle.vortex_table_chunk.specs.Joined.{AreJoined}
use Rattle.vortex_table_schema.specs.Leaves.{leaf_positions}
use Rattle.vortex_table_core.specs.Group.{chunks_of}
use Rattle.vortex_table_core.proofs.JoinedGroups.{one_has}
use Rattle.vortex_table_core.proofs.Merged.{of_one}
use Rattle.vortex_table_schema.specs.Lengths.{length_in}
use Rattle.vortex_table_core.proofs.table.Table.statistics.Goals as goal

pub returns-in-None-clause-joined : goal.returns-in-None-clause-joined
returns-in-None-clause-joined c =
    let table = c.args.self.now in let g = c.args.group.now in let k = type_of table.dtype in let all = table.chunks.items in
    subst (λ bounds. ∥ AreJoined k (length_in table.bound_lengths) (leaf_positions k) bounds (map chunk_rows (chunks_of all g)) ∥₁) (sym c.as_slice-in-None.ensures.value)
    ∣ one_has k (length_in table.bound_lengths) all g _ c.index.result.now table.formed (ap (option_map (λ v. v.items)) c.in-None.is) c.requires.group.statistics (sym c.requires.group.count) c.requires.inside c.index.ensures ∣₁

pub returns-in-None-clause-own : goal.returns-in-None-clause-own
returns-in-None-clause-own c =
    let table = c.args.self.now in let g = c.args.group.now in
    c.as_slice-in-None.ensures.value
    ∙ of_one table.chunks.items g c.index.result.now (ap (option_map (λ v. v.items)) c.in-None.is) c.requires.group.some c.requires.inside c.index.ensures
