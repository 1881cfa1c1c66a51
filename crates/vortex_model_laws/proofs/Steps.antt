-- Each command keeps what holds of tables.
use Rattle.std.proofs.Common.{◌≡◌, refl, sym, ◌∙◌, ap, ℕ, zero, suc, ◌+◌, ◌<◌, List, [], ◌∷◌, ◌++◌, length, map, sum, Bool, true, false, Option, Some, None, if◌then◌else◌, arith}
use Rattle.std.specs.Prelude.{flat_map, fold}
use Rattle.std.proofs.lemmas.List.Sums.{sum_by-append}
use Rattle.std.specs.List.{AllByRecursion}
use Rattle.vortex_model.specs.LogicalType.{LogicalType, stored}
use Rattle.vortex_model.specs.Content.{Content, Raw, content_of}
use Rattle.vortex_model.specs.Valid.{IsContent, valid}
use Rattle.vortex_model.specs.Convert.{converts}
use Rattle.vortex_model.specs.Kept.{type_fault}
use Rattle.vortex_model.specs.Refusal.{Refusal, or_else, invalid_value, not_convertible}
use Rattle.vortex_model_table.specs.Table.{Table, IsTable, rows_of}
use Rattle.vortex_model_table.specs.Command.{Command, create, append, append_array, join, retype, compact, scan, describe, first_invalid, first_unconvertible, entries_fault, appended, joined_at, refusal, after, step}
use Rattle.vortex_model_table.specs.Laws.{IsFormed}
use Rattle.vortex_model.proofs.Contents.{said}
use Rattle.vortex_model.proofs.Kept.{kept}
use Rattle.vortex_model.proofs.Tests.{has_so, converts_so}
use Rattle.vortex_model.proofs.Lists.{all_append, front_of_all, back_of_all}
use Rattle.vortex_model.proofs.Refusals.{first_none, second_none}

valid_by : (i : ℕ) (k : LogicalType) (r : Raw) (rs : List Raw) (b : Bool) → valid k r ≡ b →
    (if b then first_invalid (suc i) k rs else Some (invalid_value i)) ≡ None →
    (first_invalid (suc i) k rs ≡ None → AllByRecursion (IsContent k) (map content_of rs)) → IsContent k (content_of r) × AllByRecursion (IsContent k) (map content_of rs)
valid_by i k r rs true w e later = (said (stored k) r (has_so (stored k) r w), later e)
valid_by i k r rs false w e later = absurd (cc (e))

valid_so : (i : ℕ) (k : LogicalType) (rs : List Raw) → first_invalid i k rs ≡ None → AllByRecursion (IsContent k) (map content_of rs)
valid_so i k [] e = tt
valid_so i k (r ∷ rs) e = valid_by i k r rs (valid k r) refl e (valid_so (suc i) k rs)

rows_by : (i : ℕ) (s t : LogicalType) (c : Content) (cs : List Content) (b : Bool) → converts s t c ≡ b → IsContent s c →
    (if b then first_unconvertible (suc i) s t cs else Some (not_convertible i)) ≡ None →
    (first_unconvertible (suc i) s t cs ≡ None → AllByRecursion (IsContent t) cs) → IsContent t c × AllByRecursion (IsContent t) cs
rows_by i s t c cs true w h e later = (kept s t c h (converts_so s t c w), later e)
rows_by i s t c cs false w h e later = absurd (cc (e))

rows_so : (i : ℕ) (s t : LogicalType) (cs : List Content) → AllByRecursion (IsContent s) cs → first_unconvertible i s t cs ≡ None → AllByRecursion (IsContent t) cs
rows_so i s t [] h e = tt
rows_so i s t (c ∷ cs) h e = rows_by i s t c cs (converts s t c) refl h.0 e (rows_so (suc i) s t cs h.1)

pub flat : (k : LogicalType) (chunks : List (List Content)) → AllByRecursion (λ chunk. AllByRecursion (IsContent k) chunk) chunks → AllByRecursion (IsContent k) (flat_map (λ chunk. chunk) chunks)
flat k [] h = tt
flat k (chunk ∷ chunks) h = all_append (IsContent k) chunk (flat_map (λ c. c) chunks) h.0 (flat k chunks h.1)

unflat : (k : LogicalType) (chunks : List (List Content)) → AllByRecursion (IsContent k) (flat_map (λ chunk. chunk) chunks) → AllByRecursion (λ chunk. AllByRecursion (IsContent k) chunk) chunks
unflat k [] h = tt
unflat k (chunk ∷ chunks) h = (front_of_all (IsContent k) chunk (flat_map (λ c. c) chunks) h, unflat k chunks (back_of_all (IsContent k) chunk (flat_map (λ c. c) chunks) h))

one_more : {X : Type 0} (xs : List X) (x : X) → length (xs ++ x ∷ []) ≡ suc (length xs)
one_more [] x = refl
one_more (y ∷ xs) x = ap (λ n. suc n) (one_more xs x)

sum_first : (n : ℕ) (ns : List ℕ) → sum (n ∷ ns) ≡ n + sum ns
sum_first n ns = sum_by-append (λ x. x) (n ∷ []) ns ∙ ap (λ m. m + sum ns) (let e : 0 + n ≡ n = omega arith in e)

sum_more : (ns : List ℕ) → sum (ns ++ 1 ∷ []) ≡ suc (sum ns)
sum_more ns = sum_by-append (λ x. x) ns (1 ∷ []) ∙ (let m : ℕ = sum ns in let e : m + 1 ≡ suc m = omega arith in e)

appended_kept : (t : Table) (rows : List Content) → AllByRecursion (IsContent t.kind) rows → IsTable t → IsTable (appended t rows)
appended_kept t [] h g = g
appended_kept t (row ∷ rows) h g = record {
  holds = g.holds;
  rows = all_append (λ chunk. AllByRecursion (IsContent t.kind) chunk) t.chunks ((row ∷ rows) ∷ []) g.rows (h, tt);
  not_empty = all_append (λ (chunk : List Content). 0 < length chunk) t.chunks ((row ∷ rows) ∷ []) g.not_empty (omega arith, tt);
  positive = all_append (λ size. 0 < size) t.groups (1 ∷ []) g.positive (omega arith, tt);
  grouped = sum_more t.groups ∙ ap (λ n. suc n) g.grouped ∙ sym (one_more t.chunks (row ∷ rows));
}

joined_positive : (i : ℕ) (sizes : List ℕ) → AllByRecursion (λ size. 0 < size) sizes → AllByRecursion (λ size. 0 < size) (joined_at i sizes)
joined_positive zero [] h = tt
joined_positive zero (m ∷ []) h = h
joined_positive zero (m ∷ n ∷ sizes) h = (let p : 0 < m = h.0 in omega (arith, p), h.1.1)
joined_positive (suc i) [] h = tt
joined_positive (suc i) (m ∷ sizes) h = (h.0, joined_positive i sizes h.1)

joined_sum : (i : ℕ) (sizes : List ℕ) → sum (joined_at i sizes) ≡ sum sizes
joined_sum zero [] = refl
joined_sum zero (m ∷ []) = refl
joined_sum zero (m ∷ n ∷ sizes) = ap (λ a. fold (λ b x. b + x) a sizes) (let e : 0 + (m + n) ≡ 0 + m + n = omega arith in e)
joined_sum (suc i) [] = refl
joined_sum (suc i) (m ∷ sizes) = sum_first m (joined_at i sizes) ∙ ap (λ s. m + s) (joined_sum i sizes) ∙ sym (sum_first m sizes)

after_kept : (t : Table) (c : Command) → IsFormed c → refusal t c ≡ None → IsTable t → IsTable (after t c)
after_kept t (create k default entries) f e h =
    record { holds = (first_none (type_fault k) (entries_fault 0 k [] entries) e); rows = tt; not_empty = tt; positive = tt; grouped = refl }
after_kept t (append s values) f e h =
    let later = second_none (type_fault s) (or_else (first_invalid 0 s values) (first_unconvertible 0 s t.kind (map content_of values))) e in
    appended_kept t (map content_of values)
    (rows_so 0 s t.kind (map content_of values)
    (valid_so 0 s values (first_none (first_invalid 0 s values) (first_unconvertible 0 s t.kind (map content_of values)) later))
    (second_none (first_invalid 0 s values) (first_unconvertible 0 s t.kind (map content_of values)) later)) h
after_kept t (append_array s rows) f e h =
    appended_kept t rows (rows_so 0 s t.kind rows f (second_none (type_fault s) (first_unconvertible 0 s t.kind rows) e)) h
after_kept t (join i) f e h =
    record { holds = h.holds; rows = h.rows; not_empty = h.not_empty; positive = joined_positive i t.groups h.positive; grouped = joined_sum i t.groups ∙ h.grouped }
after_kept t (retype k) f e h = record {
  holds = (first_none (type_fault k) (first_unconvertible 0 t.kind k (rows_of t)) e);
  rows = unflat k t.chunks (rows_so 0 t.kind k (rows_of t) (flat t.kind t.chunks h.rows) (second_none (type_fault k) (first_unconvertible 0 t.kind k (rows_of t)) e));
  not_empty = h.not_empty;
  positive = h.positive;
  grouped = h.grouped;
}
after_kept t compact f e h = h
after_kept t (scan paths p) f e h = h
after_kept t (describe path i) f e h = h

stepped : (t : Table) (c : Command) (r : Option Refusal) → refusal t c ≡ r → IsFormed c → IsTable t → IsTable (elim r [ None ↦ after t c | Some x ↦ t ])
stepped t c None e f h = after_kept t c f e h
stepped t c (Some x) e f h = h

pub step_kept : (t : Table) (c : Command) → IsFormed c → IsTable t → IsTable (step t c)
step_kept t c f h = stepped t c (refusal t c) refl f h
