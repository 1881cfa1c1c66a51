-- What chunks of a table are, by what is lent and by what is appended.
use Rattle.std.proofs.Common.{◌≡◌, refl, sym, ◌∙◌, ap, subst, ℕ, zero, suc, ◌+◌, ◌<◌, List, [], ◌∷◌, length, map, drop, add-one, arith, Some, None}
use Rattle.std.specs.Prelude.{slice_get, Result, Ok, Err, OnOk}
use Rattle.std.specs.List.{AllByRecursion}
use Rattle.vortex_model.specs.LogicalType.{LogicalType}
use Rattle.vortex_model.specs.Content.{Content}
use Rattle.vortex_model_table.specs.Command.{append_array, after, appended}
use Rattle.vortex_model_table.specs.Table as model
use Rattle.vortex_arrays_model.specs.Layout.{Layout, rows_of}
use Rattle.vortex_table_chunk.specs.Chunk.{chunk_rows}
use Rattle.vortex_table_chunk.specs.declared.chunk.Chunk.{Chunk}
use Rattle.vortex_table_core.specs.Arrays.{arrays_of}
use Rattle.vortex_table_core.specs.TableView.{table_of}
use Rattle.vortex_table_core.specs.declared.table.Table.{Table}
use Rattle.vortex_table_core.proofs.Tables.{is_table}
use Rattle.example_planner.specs.Split.{HasNextChunk, HasOneMore}

-- there is something within
within : {A B C : Type 0} (f : A → B) (g : A → C) (xs : List A) (i : ℕ) → i < length (map g xs) → None ≡ slice_get (map f xs) i → ⊥
within f g [] i l e = omega (arith, l)
within f g (x ∷ xs) zero l e = cc (e)
within f g (x ∷ xs) (suc i) l e = within f g xs i (omega (arith, l)) e

pub lent : (t : Table) (i : ℕ) → i < length (table_of t).chunks → None ≡ slice_get (arrays_of t) i → ⊥
lent t i l e = within (λ (c : Chunk). c.array) chunk_rows t.chunks.items i l e

next_of : {A B C : Type 0} (f : A → B) (h : B → C) (xs : List A) (i : ℕ) (b : B) → Some b ≡ slice_get (map f xs) i → drop i (map (λ x. h (f x)) xs) ≡ h b ∷ drop (suc i) (map (λ x. h (f x)) xs)
next_of f h [] i b e = absurd (cc (e))
next_of f h (x ∷ xs) zero b e = let same : f x ≡ b = cc (e) in ap (λ y. h y ∷ map (λ x. h (f x)) xs) same
next_of f h (x ∷ xs) (suc i) b e = next_of f h xs i b e

-- the array that is lent has the rows of the next chunk
pub next_chunk : (t : Table) (i : ℕ) (array : Layout) → Some array ≡ slice_get (arrays_of t) i → drop i (table_of t).chunks ≡ rows_of array ∷ drop (i + 1) (table_of t).chunks
next_chunk t i array e = next_of (λ (c : Chunk). c.array) rows_of t.chunks.items i array e ∙ ap (λ n. rows_of array ∷ drop n (table_of t).chunks) (sym (add-one i))

of_next : (P : List Content → Type 0) (xs : List (List Content)) (i : ℕ) (c : List Content) (rest : List (List Content)) → AllByRecursion P xs → drop i xs ≡ c ∷ rest → P c
of_next P [] zero c rest h e = absurd (cc (e))
of_next P [] (suc i) c rest h e = absurd (cc (e))
of_next P (x ∷ xs) zero c rest h e = let same : x ≡ c = cc (e) in subst P same h.0
of_next P (x ∷ xs) (suc i) c rest h e = of_next P xs i c rest h.1 e

one_behind : (t : model.Table) (rows : List Content) → 0 < length rows → HasOneMore rows t (appended t rows)
one_behind t [] l = absurd (omega (arith, l))
one_behind t (row ∷ rows) l = record { kind = refl; chunks = refl }

-- what is appended is the next chunk
pub chunk_added : {A E : Type 0} (t part new : Table) (i : ℕ) (array : Layout) (k : LogicalType) (r : Result A E) → Some array ≡ slice_get (arrays_of t) i →
    OnOk r (table_of new ≡ after (table_of part) (append_array k (rows_of array))) → OnOk r (HasNextChunk i (table_of t).chunks (λ c. HasOneMore c (table_of part) (table_of new)))
chunk_added t part new i array k (Err x) e added = tt
chunk_added t part new i array k (Ok x) e added =
    let next = next_chunk t i array e in
    let some = of_next (λ c. 0 < length c) (table_of t).chunks i (rows_of array) (drop (i + 1) (table_of t).chunks) (is_table t).not_empty next in
    record {
      chunk = rows_of array;
      next = next;
      some = some;
      holds = subst (HasOneMore (rows_of array) (table_of part)) (sym added) (one_behind (table_of part) (rows_of array) some);
    }
