-- An append of the rows that an array has is one of their raw values.
use Rattle.std.proofs.Common.{◌≡◌, ◌<◌, ◌≤◌, ◌+◌, ◌^◌, ℕ, suc, Bool, true, List, [], ◌∷◌, length, get_or, map, inl, inr, Option, Some, None, if◌then◌else◌, refl, sym, ap, subst, ◌∙◌, arith}
use Rattle.std.specs.List.{range_with_len}
use Rattle.std.proofs.lemmas.List.{length-map}
use Rattle.std.proofs.lemmas.List.FromFn.{get_or-map-range_with_len, length-map-range_with_len}
use Rattle.vortex_model.specs.LogicalType.{LogicalType}
use Rattle.vortex_model.specs.Content.{Raw, raw_null, content_of}
use Rattle.vortex_model.specs.Valid.{valid, IsValid}
use Rattle.vortex_model.specs.Kept.{type_fault}
use Rattle.vortex_model.specs.Refusal.{Refusal, invalid_value, or_else}
use Rattle.vortex_model_table.specs.Table.{Table, rows_of as table_rows}
use Rattle.vortex_model_table.specs.Command.{Command, append, append_array, refusal, after, after_in, first_invalid, first_unconvertible}
use Rattle.vortex_model_table.specs.Reply.{accepted, SaysIn, RespondsTo}
use Rattle.vortex_model.specs.Laws.{TestsOfValidityAreRight}
use Rattle.vortex_arrays_model.specs.Layout.{Layout, len_of, array_type_of, content_at, rows_of, IsSound}
use Rattle.vortex_arrays_core.specs.RawRows.{raw_row}
use Rattle.vortex_arrays_core.proofs.RawRowsLemmas.{says, raw_valid}
use Rattle.vortex_table_core.specs.Totals.{PassesTotal}
use Rattle.vortex_table_request.specs.View.{raw_rows}

said : (a : Layout) (is : List ℕ) → map content_of (map (raw_row a) is) ≡ map (content_at a) is
said a [] = refl
said a (i ∷ is) = λ t. says a i t ∷ said a is t

-- the raw values have the contents of the rows
contents : (a : Layout) → map content_of (raw_rows a) ≡ rows_of a
contents a = said a (range_with_len 0 (len_of a))

none_invalid : (k : LogicalType) (rs : List Raw) (i : ℕ) → ((j : ℕ) → j < length rs → valid k (get_or rs j raw_null) ≡ true) → first_invalid i k rs ≡ None
none_invalid k [] i h = refl
none_invalid k (r ∷ rs) i h =
    ap (λ (b : Bool). if b then first_invalid (suc i) k rs else Some (invalid_value i)) (h 0 (omega arith)) ∙ none_invalid k rs (suc i) (λ j l. h (suc j) (omega (arith, l)))

-- and each is one of the array's type
all_valid : TestsOfValidityAreRight → (a : Layout) → IsSound a → first_invalid 0 (array_type_of a) (raw_rows a) ≡ None
all_valid right a sound = none_invalid (array_type_of a) (raw_rows a) 0 (λ j l.
    let many : length (raw_rows a) ≡ len_of a = length-map-range_with_len (raw_row a) 0 (len_of a) in
    let m : j < len_of a = subst (λ n. j < n) many l in
    let is : get_or (raw_rows a) j raw_null ≡ raw_row a j = get_or-map-range_with_len (raw_row a) 0 (len_of a) j j raw_null m (omega arith) in
    let law = right (array_type_of a) (raw_row a j) in
    ap (valid (array_type_of a)) is ∙ law.1 (raw_valid a sound j m))

-- so both appends are refused for the same reason
pub same_refusal : TestsOfValidityAreRight → (t : Table) (a : Layout) → IsSound a → refusal t (append_array (array_type_of a) (rows_of a)) ≡ refusal t (append (array_type_of a) (raw_rows a))
same_refusal right t a sound =
    let k : LogicalType = array_type_of a in
    ap (λ rows. or_else (type_fault k) (first_unconvertible 0 k t.kind rows)) (sym (contents a))
    ∙ ap (λ (o : Option Refusal). or_else (type_fault k) (or_else o (first_unconvertible 0 k t.kind (map content_of (raw_rows a))))) (sym (all_valid right a sound))

pub same_after : (t : Table) (a : Layout) → after t (append_array (array_type_of a) (rows_of a)) ≡ after t (append (array_type_of a) (raw_rows a))
same_after t a = ap (λ rows. after t (append_array (array_type_of a) rows)) (sym (contents a))

passes : (t : Table) (k : LogicalType) (vs : List Raw) → PassesTotal (Some t) (append_array k (map content_of vs)) → PassesTotal (Some t) (append k vs)
passes t k vs (inl h) = inl (subst (λ n. 2 ^ 64 ≤ length (table_rows t) + n) (length-map vs content_of) h)
passes t k vs (inr h) = inr h

pub same_total : (t : Table) (a : Layout) → PassesTotal (Some t) (append_array (array_type_of a) (rows_of a)) → PassesTotal (Some t) (append (array_type_of a) (raw_rows a))
same_total t a h = passes t (array_type_of a) (raw_rows a) (subst (λ rows. PassesTotal (Some t) (append_array (array_type_of a) rows)) (sym (contents a)) h)

-- a command to a table that is accepted and answers no more
pub appended_so : (old : Option Table) (t new : Table) (c : Command) → old ≡ Some t → refusal t c ≡ None → SaysIn (Some t) c accepted → Some new ≡ after_in (Some t) c
    → RespondsTo PassesTotal old c accepted (Some new)
appended_so old t new c there none says left =
    subst (λ (o : Option Table). RespondsTo PassesTotal o c accepted (Some new)) (sym there) (none, says, left)
