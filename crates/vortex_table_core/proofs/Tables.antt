-- The model's table of a table is one.
use Rattle.std.proofs.Common.{◌≡◌, sym, ◌∙◌, ℕ, ◌+◌, ◌<◌, List, [], ◌∷◌, length, map, drop, true, arith}
use Rattle.std.specs.List.{AllByRecursion, list_all}
use Rattle.std.proofs.lemmas.List.{length-map}
use Rattle.std.specs.Cmp.{first_so, second_so}
use Rattle.vortex_model.specs.LogicalType.{LogicalType}
use Rattle.vortex_model.specs.Path.{Positions}
use Rattle.vortex_model_table.specs.Table.{IsTable, bound_length}
use Rattle.vortex_dtype_core.specs.View.{type_of}
use Rattle.vortex_table_schema.proofs.Explained.{none_so}
use Rattle.vortex_table_chunk.specs.Chunk.{chunk_rows}
use Rattle.vortex_table_chunk.specs.Formed.{is_formed}
use Rattle.vortex_table_chunk.specs.declared.chunk.Chunk.{Chunk}
use Rattle.vortex_table_chunk.proofs.Formed.{some_rows}
use Rattle.vortex_table_chunk.proofs.TypedRows.{all_said, chunk_counted}
use Rattle.vortex_table_core.specs.Group.{AreGroups}
use Rattle.vortex_table_core.specs.TableView.{table_of}
use Rattle.vortex_table_core.specs.declared.group.Group.{Group}
use Rattle.vortex_table_core.specs.declared.table.Table.{Table}
use Rattle.vortex_table_core.proofs.Groups.{sizes_sum}

-- each chunk has rows
all_some : (L : Positions → ℕ) (k : LogicalType) (chunks : List Chunk) → list_all (is_formed L k) chunks ≡ true → AllByRecursion (λ chunk. 0 < length chunk) (map chunk_rows chunks)
all_some L k [] h = tt
all_some L k (c ∷ chunks) h = (
  (let some = some_rows L k c (first_so (is_formed L k c) (list_all (is_formed L k) chunks) h) in let same = chunk_counted c in omega (arith, some, same)),
  all_some L k chunks (second_so (is_formed L k c) (list_all (is_formed L k) chunks) h),
)

-- each group has chunks
sizes_positive : (k : LogicalType) (L : Positions → ℕ) (i : ℕ) (groups : List Group) (chunks : List Chunk) → AreGroups k L i groups chunks → AllByRecursion (λ size. 0 < size) (map (λ g. g.chunks) groups)
sizes_positive k L i [] chunks h = tt
sizes_positive k L i (g ∷ groups) chunks h = (h.1.some, sizes_positive k L (i + g.chunks) groups (drop g.chunks chunks) h.2)

pub is_table : (t : Table) → IsTable (table_of t)
is_table t =
    let k = type_of t.dtype in let L = bound_length (table_of t) in let chunks = t.chunks.items in
    record {
      holds = none_so _ t.kept;
      rows = all_said L k chunks t.formed;
      not_empty = all_some L k chunks t.formed;
      positive = sizes_positive k L 0 t.groups chunks t.grouped;
      grouped = sizes_sum k L 0 t.groups chunks t.grouped ∙ sym (length-map chunks chunk_rows);
    }
