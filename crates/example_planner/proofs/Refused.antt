-- Why chunks of a table are not appended to another, and why the scans of its parts are refused.
use Rattle.std.proofs.Common.{◌≡◌, refl, sym, ◌∙◌, ap, subst, ℕ, zero, suc, ◌+◌, ◌<◌, ◌≤◌, ◌^◌, List, [], ◌∷◌, length, map, get_or, arith, true, Some, None, Option, ◌⊎◌, inl, inr}
use Rattle.std.specs.Prelude.{slice_get, Result, Ok, Err, IfErr, IsErrOf}
use Rattle.std.specs.List.{AllByRecursion, list_all}
use Rattle.std.specs.Cmp.{first_so, second_so}
use Rattle.vortex_model.specs.LogicalType.{LogicalType}
use Rattle.vortex_model.specs.Kept.{type_fault}
use Rattle.vortex_model.specs.Path.{Positions, Step}
use Rattle.vortex_model.specs.Refusal.{Refusal, or_else}
use Rattle.vortex_model.proofs.Refusals.{first_none}
use Rattle.vortex_model_table.specs.Command.{append_array, scan, refusal, first_unconvertible, paths_fault, predicate_fault}
use Rattle.vortex_model_table.specs.Expression.{Expression}
use Rattle.vortex_model_table.specs.Reply.{RowsPass}
use Rattle.vortex_model_table.specs.Table as model
use Rattle.vortex_dtype_core.specs.View.{type_of}
use Rattle.vortex_arrays_model.specs.Layout.{Layout, array_type_of, rows_of}
use Rattle.vortex_table.specs.TableLayoutKept.{KeepsLayout}
use Rattle.vortex_table.specs.TooLarge.{AreTooLarge}
use Rattle.vortex_table_schema.specs.Error.{Explains}
use Rattle.vortex_table_schema.specs.declared.error.TableError.{TableError}
use Rattle.vortex_table_schema.specs.declared.error.TableError.TheVariants as error
use Rattle.vortex_table_schema.proofs.Explained.{none_so, none_both}
use Rattle.vortex_table_chunk.specs.Formed.{is_formed}
use Rattle.vortex_table_chunk.specs.Rows.{are_rows_valid}
use Rattle.vortex_table_chunk.specs.declared.chunk.Chunk.{Chunk}
use Rattle.vortex_table_chunk.proofs.Formed.{of_type}
use Rattle.vortex_table_core.specs.Arrays.{arrays_of}
use Rattle.vortex_table_core.specs.TableView.{table_of}
use Rattle.vortex_table_core.specs.Totals.{PassesTotal}
use Rattle.vortex_table_core.specs.declared.table.Table.{Table}
use Rattle.vortex_table_core.proofs.OwnType.{rows_convert}
use Rattle.example_planner.specs.Split.{first_refusal, HasTooLarge}

-- what explains an error where there is no refusal explains it where there is one
pub explains_any : (P : Type 0) (o : Option Refusal) (e : TableError) → Explains P None e → Explains P o e
explains_any P o error.Memory h = tt
explains_any P o error.Total h = h
explains_any P o error.RuleFault h = absurd h
explains_any P o e h = absurd (cc (h))

-- only that memory ran out is explained by no refusal and no total
pub memory_alone : (o : Option Refusal) (e : TableError) → o ≡ None → Explains ⊥ o e → e ≡ error.Memory
memory_alone o error.Memory n h = refl
memory_alone o error.Total n h = absurd h
memory_alone o error.RuleFault n h = absurd h
memory_alone o e n h = absurd (cc (n, h))

pub at_memory : (P : Type 0) (o : Option Refusal) (e : TableError) → e ≡ error.Memory → Explains P o e
at_memory P o e h = subst (λ x. Explains P o x) (sym h) tt

-- ---- appends

found : {A : Type 0} (xs : List A) (i : ℕ) (x : A) → Some x ≡ slice_get xs i → (i < length xs) × (get_or xs i x ≡ x)
found [] i x e = absurd (cc (e))
found (y ∷ ys) zero x e = let same : y ≡ x = cc (e) in (omega arith, same)
found (y ∷ ys) (suc i) x e = let rest = found ys i x e in let l = rest.0 in (omega (arith, l), rest.1)

-- the array of a formed chunk is of the type, with rows of it
own : (L : Positions → ℕ) (k : LogicalType) (chunks : List Chunk) (i : ℕ) (a : Layout) → list_all (is_formed L k) chunks ≡ true → Some a ≡ slice_get (map (λ (c : Chunk). c.array) chunks) i →
    (array_type_of a ≡ k) × (are_rows_valid a ≡ true)
own L k [] i a f e = absurd (cc (e))
own L k (c ∷ chunks) zero a f e =
    let same : c.array ≡ a = cc (e) in
    subst (λ b. (array_type_of b ≡ k) × (are_rows_valid b ≡ true)) same (of_type L k c (first_so (is_formed L k c) (list_all (is_formed L k) chunks) f), c.typed)
own L k (c ∷ chunks) (suc i) a f e = own L k chunks i a (second_so (is_formed L k c) (list_all (is_formed L k) chunks) f) e

module _ (t part : Table) (i : ℕ) (a : Layout) (is : Some a ≡ slice_get (arrays_of t) i) (alike : (table_of part).kind ≡ (table_of t).kind) where
  abbrev rows_before : ℕ
  rows_before = length (model.rows_of (table_of part))

  abbrev passes : Type 0
  passes = RowsPass (Some (table_of part)) (append_array (array_type_of a) (rows_of a))

  accepted : refusal (table_of part) (append_array (array_type_of a) (rows_of a)) ≡ None
  accepted =
      let k = type_of t.dtype in let kept = none_so (type_fault k) t.kept in
      let so = own (model.bound_length (table_of t)) k t.chunks.items i a t.formed is in
      none_both (type_fault (array_type_of a)) (first_unconvertible 0 (array_type_of a) (table_of part).kind (rows_of a))
      (subst (λ s. type_fault s ≡ None) (sym so.0) kept)
      (subst (λ s. first_unconvertible 0 s (table_of part).kind (rows_of a) ≡ None) (sym so.0)
      (subst (λ u. first_unconvertible 0 k u (rows_of a) ≡ None) (sym alike) (rows_convert k a kept so.0 0 so.1)))

  too_large : rows_before + length (rows_of a) < 2 ^ 64 → passes ⊎ AreTooLarge (table_of part).kind (rows_of a) → (KeepsLayout (type_of part.dtype) a → passes) →
      HasTooLarge (table_of t).kind (arrays_of t)
  too_large room (inl many) kept = let more : 2 ^ 64 ≤ rows_before + length (rows_of a) = many in absurd (omega (arith, room, more))
  too_large room (inr large) kept =
      let place = found (arrays_of t) i a is in (
        i,
        a,
        place.0,
        place.1,
        (
          (λ keeps. let more : 2 ^ 64 ≤ rows_before + length (rows_of a) = kept (subst (λ u. KeepsLayout u a) (sym alike) keeps) in omega (arith, room, more)),
          subst (λ u. AreTooLarge u (rows_of a)) alike large,
        ),
      )

  by_error : (e : TableError) → rows_before + length (rows_of a) < 2 ^ 64 →
      Explains (PassesTotal (Some (table_of part)) (append_array (array_type_of a) (rows_of a))) (refusal (table_of part) (append_array (array_type_of a) (rows_of a))) e →
      (KeepsLayout (type_of part.dtype) a → e ≡ error.Total → passes) → Explains (HasTooLarge (table_of t).kind (arrays_of t)) None e
  by_error error.Memory room h kept = tt
  by_error error.Total room h kept = too_large room h (λ keeps. kept keeps refl)
  by_error error.RuleFault room h kept = absurd h
  by_error e room h kept = sym accepted ∙ h

  -- A chunk of a table is appended to another of its type, unless it is laid out anew and is too large.
  pub own_refused : {A : Type 0} (r : Result A TableError) → rows_before + length (rows_of a) < 2 ^ 64 →
      IfErr r (Explains (PassesTotal (Some (table_of part)) (append_array (array_type_of a) (rows_of a))) (refusal (table_of part) (append_array (array_type_of a) (rows_of a)))) →
      (KeepsLayout (type_of part.dtype) a → IsErrOf r error.Total → passes) → IfErr r (Explains (HasTooLarge (table_of t).kind (arrays_of t)) None)
  own_refused (Ok x) room h kept = tt
  own_refused (Err e) room h kept = by_error e room h (λ keeps same. kept keeps (ap Err same))

-- ---- scans

none_either : (q : Option Refusal) → (q ≡ None) ⊎ (q ≡ None) → q ≡ None
none_either q (inl n) = n
none_either q (inr n) = n

-- the first refusal of parts that are refused as one is
one_refusal : (o p q : Option Refusal) → p ≡ o → (q ≡ None) ⊎ (q ≡ o) → (or_else p q ≡ None) ⊎ (or_else p q ≡ o)
one_refusal None p q e h = inl (ap (λ x. or_else x q) e ∙ none_either q h)
one_refusal (Some r) p q e h = inr (ap (λ x. or_else x q) e)

module _ (whole : model.Table) (steps : List (List Step)) (e : Expression) where
  same_refusal : (part : model.Table) → part.kind ≡ whole.kind → refusal part (scan steps e) ≡ refusal whole (scan steps e)
  same_refusal part same = ap (λ k. or_else (paths_fault 0 k steps) (predicate_fault k e)) same

  as_whole : (parts : List model.Table) → AllByRecursion (λ part. part.kind ≡ whole.kind) parts →
      (first_refusal (scan steps e) parts ≡ None) ⊎ (first_refusal (scan steps e) parts ≡ refusal whole (scan steps e))
  as_whole [] h = inl refl
  as_whole (part ∷ parts) h =
      one_refusal (refusal whole (scan steps e)) (refusal part (scan steps e)) (first_refusal (scan steps e) parts) (same_refusal part h.0) (as_whole parts h.1)

  -- parts of the type are refused as a table of the type is
  pub refused_as_whole : (P : Type 0) (parts : List model.Table) (x : TableError) → AllByRecursion (λ part. part.kind ≡ whole.kind) parts → Explains P (first_refusal (scan steps e) parts) x →
      Explains P (refusal whole (scan steps e)) x
  refused_as_whole P parts x h because = elim (as_whole parts h) [
    | inl none ↦ explains_any P (refusal whole (scan steps e)) x (subst (λ o. Explains P o x) none because)
    | inr same ↦ subst (λ o. Explains P o x) same because
  ]

  -- and accepted, where there is one
  pub accepted_as_whole : (parts : List model.Table) → AllByRecursion (λ part. part.kind ≡ whole.kind) parts → 0 < length parts → first_refusal (scan steps e) parts ≡ None →
      refusal whole (scan steps e) ≡ None
  accepted_as_whole [] h l n = absurd (omega (arith, l))
  accepted_as_whole (part ∷ parts) h l n = sym (same_refusal part h.0) ∙ first_none (refusal part (scan steps e)) (first_refusal (scan steps e) parts) n
