-- What is left of the arrays of a session's table.
use Rattle.std.proofs.Common.{◌≡◌, ◌≢◌, ℕ, List, [], ◌∷◌, map, Option, Some, None, refl, sym, ap, subst, ◌∙◌}
use Rattle.vortex_arrays_model.specs.Layout.{Layout}
use Rattle.vortex_model.specs.LogicalType.{LogicalType}
use Rattle.vortex_model.specs.Path.{Step}
use Rattle.vortex_model_table.specs.Command.{created}
use Rattle.vortex_table_chunk.specs.Chunk.{chunk_rows}
use Rattle.vortex_table_chunk.specs.declared.chunk.Chunk.{Chunk}
use Rattle.vortex_table_core.specs.Arrays.{arrays_of}
use Rattle.vortex_table_core.specs.Kept.{HasChunksOf}
use Rattle.vortex_table_core.specs.TableView.{table_of}
use Rattle.vortex_table_core.specs.declared.table.Table.{Table}
use Rattle.vortex_table_io.specs.declared.line_handler.Response.{Response}
use Rattle.vortex_table_io.specs.declared.line_handler.Response.TheVariants.{Written, Short, Done, NoMemory}
use Rattle.vortex_table_run.specs.Laying.{arrays_in, WhereDone}

-- a command that isn't done leaves them as they are
pub not_done : (r : Response) (Makes : List Layout → List Layout → Type 0) (old new : Option Table) → r ≢ Done → arrays_in new ≡ arrays_in old → WhereDone r Makes old new
not_done Written Makes old new n h = h
not_done (Short text) Makes old new n h = h
not_done Done Makes old new n h = absurd (n refl)
not_done NoMemory Makes old new n h = h

-- so does an error that leaves the chunks
pub chunks_stay : (r : Response) (Makes : List Layout → List Layout → Type 0) (old : Option Table) (t u : Table) → old ≡ Some t → r ≢ Done → HasChunksOf t u → WhereDone r Makes old (Some u)
chunks_stay r Makes old t u is n h = not_done r Makes old (Some u) n (ap (map (λ (c : Chunk). c.array)) h.chunks ∙ ap arrays_in (sym is))

-- and one that leaves the whole table
pub table_stays : (r : Response) (Makes : List Layout → List Layout → Type 0) (old : Option Table) (t u : Table) → old ≡ Some t → r ≢ Done → u ≡ t → WhereDone r Makes old (Some u)
table_stays r Makes old t u is n h = not_done r Makes old (Some u) n (ap arrays_of h ∙ ap arrays_in (sym is))

-- a table without chunks has no arrays
no_arrays : (chunks : List Chunk) → map chunk_rows chunks ≡ [] → map (λ (c : Chunk). c.array) chunks ≡ []
no_arrays [] e = refl
no_arrays (c ∷ chunks) e = absurd (cc e)

pub created_empty : (t : Table) (k : LogicalType) (n : ℕ) (entries : List (List Step × ℕ)) → table_of t ≡ created k n entries → arrays_of t ≡ []
created_empty t k n entries e = no_arrays t.chunks.items (ap (λ m. m.chunks) e)

-- what a table's call makes of them, the session's command makes
pub done_so : (Makes : Option Table → List Layout → List Layout → Type 0) (old : Option Table) (t u : Table) → old ≡ Some t → Makes (Some t) (arrays_of t) (arrays_of u) → WhereDone Done (Makes old) old (Some u)
done_so Makes old t u is h = subst (λ (o : Option Table). Makes o (arrays_in o) (arrays_of u)) (sym is) h

-- what changes no table
pub untouched : (r : Response) (t : Option Table) → WhereDone r (λ old new. new ≡ old) t t
untouched Written t = refl
untouched (Short text) t = refl
untouched Done t = refl
untouched NoMemory t = refl
