-- Columns selected, added and removed.
use Rattle.std.proofs.Common.{◌≡◌, ◌<◌, ◌+◌, ℕ, zero, suc, Bool, true, false, Bor, is_some, List, [], ◌∷◌, ◌++◌, length, map, take, remove, get_or, slice_get, Option, Some, None, option_map, option_and_then, if◌then◌else◌, refl, sym, ap, subst, ◌∙◌, arith}
use Rattle.std.proofs.Math.Dec.{ltb}
use Rattle.std.proofs.lemmas.Bool.{ltb-true, ltb-false}
use Rattle.std.specs.Prelude.{option_copied, IfSome}
use Rattle.std.specs.Str.{bytes_eq}
use Rattle.std.proofs.lemmas.List.{length-map, length_push, take_more, map-append}
use Rattle.std.proofs.lemmas.Option.{slice_get_read, slice_get_past}
use Rattle.vortex_model.specs.Path.{position_named}
use Rattle.vortex_dtype_ptype.specs.View.{IsFirstPlace}
use Rattle.vortex_arrays_model.specs.Layout.{Layout, records, Valid, Columns, no_columns, column, len_of, fields_of, IsSound, HasLength, HaveLength}
use Rattle.vortex_arrays_model.specs.Column.{array_at}
use Rattle.vortex_arrays_model.specs.Parts.{columns_of}
use Rattle.vortex_arrays_model.proofs.ColumnLemmas.{array_sound, array_len}
use Rattle.vortex_arrays_struct.specs.Records.{columns_in, validity_in, names_in, arrays_in}
use Rattle.vortex_arrays_struct.specs.Edited.{array_named, with_last, without_named}
use Rattle.vortex_arrays_struct.proofs.Columns.{position_of_place, no_position, place_within}
use Rattle.vortex_arrays_struct.proofs.Places.{array_at-columns_of}

-- the columns and the validity have the length of the struct array
pub parts_fit : (a : Layout) (cs : Columns) (n : ℕ) (v : Valid) → a ≡ records cs n v → IsSound a → HaveLength (columns_in a) (len_of a) × HasLength (validity_in a) (len_of a)
parts_fit a cs n v e s = rw e (subst IsSound e s)

pub ruleset fitting = (parts_fit)

-- the array at a name's first index
pub array_by_name : (a : Layout) (xs : List (List ℕ)) (fs : List Layout) (n : ℕ) (v : Valid) (x : List ℕ) (k : ℕ) (b : Layout) → a ≡ records (columns_of xs fs) n v → length xs ≡ length fs → IsFirstPlace xs x (Some k) → b ≡ get_or fs k b → array_named (columns_in a) x ≡ Some b
array_by_name a xs fs n v x k b e m p is =
    ap (λ c. array_named (columns_in c) x) e
    ∙ ap (option_and_then (array_at (columns_of xs fs))) (position_of_place xs fs x k m p)
    ∙ array_at-columns_of xs fs k
    ∙ slice_get_read fs (length fs) k b refl (place_within xs fs x k m p) is

pub no_array_named : (a : Layout) (xs : List (List ℕ)) (fs : List Layout) (n : ℕ) (v : Valid) (x : List ℕ) → a ≡ records (columns_of xs fs) n v → length xs ≡ length fs → IsFirstPlace xs x None → array_named (columns_in a) x ≡ None
no_array_named a xs fs n v x e m p =
    ap (λ c. array_named (columns_in c) x) e
    ∙ ap (option_and_then (array_at (columns_of xs fs))) (no_position xs fs x m p)

pub ruleset found = (array_by_name, no_array_named, place_within)

-- one more array of those with the names
pub found_more : (f : List ℕ → Option Layout) (ys : List Layout) (xs : List (List ℕ)) (i : ℕ) (x : List ℕ) (y : Layout) → map Some ys ≡ map f (take i xs) → i < length xs → x ≡ get_or xs i x → f x ≡ Some y → map Some (ys ++ y ∷ []) ≡ map f (take (i + 1) xs)
found_more f ys xs i x y h l e is =
    map-append Some ys (y ∷ [])
    ∙ (λ t. h t ++ sym is t ∷ [])
    ∙ sym (map-append f (take i xs) (x ∷ []))
    ∙ ap (map f) (ap (λ z. take i xs ++ z ∷ []) e ∙ sym (take_more xs i x l))

pub ruleset named = (found_more)

-- the array of a name is one of the columns
place_sound : (cs : Columns) (n : ℕ) (o : Option ℕ) (a : Layout) → HaveLength cs n → option_and_then (array_at cs) o ≡ Some a → IsSound a × (len_of a ≡ n)
place_sound cs n None a h e = absurd (cc (e))
place_sound cs n (Some k) a h e = (array_sound cs n k a h e, array_len cs n k a h e)

pub chosen_fit : (cs : Columns) (n : ℕ) (xs : List (List ℕ)) (fs : List Layout) → HaveLength cs n → map Some fs ≡ map (array_named cs) xs → HaveLength (columns_of xs fs) n
chosen_fit cs n [] [] h e = tt
chosen_fit cs n (x ∷ xs) [] h e = tt
chosen_fit cs n [] (a ∷ fs) h e = absurd (cc (e))
chosen_fit cs n (x ∷ xs) (a ∷ fs) h e =
    let here : Some a ≡ array_named cs x = ap (λ (l : List (Option Layout)). get_or l 0 None) e in
    let s = place_sound cs n (position_named (fields_of cs) x) a h (sym here) in
    let rest : map Some fs ≡ map (array_named cs) xs = ap (λ (l : List (Option Layout)). remove l 0) e in
    (s.0, s.1, chosen_fit cs n xs fs h rest)

pub chosen_many : (f : List ℕ → Option Layout) (xs : List (List ℕ)) (fs : List Layout) → map Some fs ≡ map f xs → length xs ≡ length fs
chosen_many f xs fs e = sym (length-map xs f) ∙ ap length (sym e) ∙ length-map fs Some

pub ruleset projected = (chosen_fit, chosen_many)

-- columns by their names and arrays
pub columns_again : (cs : Columns) → columns_of (names_in cs) (arrays_in cs) ≡ cs
columns_again no_columns = refl
columns_again (column x a cs) = ap (column x a) (columns_again cs)

pub as_many : (cs : Columns) → length (names_in cs) ≡ length (arrays_in cs)
as_many no_columns = refl
as_many (column x a cs) = ap suc (as_many cs)

-- one more column
pub columns_last : (cs : Columns) (x : List ℕ) (a : Layout) → columns_of (names_in cs ++ x ∷ []) (arrays_in cs ++ a ∷ []) ≡ with_last cs x a
columns_last no_columns x a = refl
columns_last (column y b cs) x a = ap (column y b) (columns_last cs x a)

last_fits : (cs : Columns) (n : ℕ) (x : List ℕ) (a : Layout) → HaveLength cs n → IsSound a → len_of a ≡ n → HaveLength (with_last cs x a) n
last_fits no_columns n x a h s e = (s, e, tt)
last_fits (column y b cs) n x a h s e = (h.0, h.1, last_fits cs n x a h.2 s e)

pub added_fit : (cs : Columns) (n : ℕ) (x : List ℕ) (a : Layout) → HaveLength cs n → IsSound a → len_of a ≡ n → HaveLength (columns_of (names_in cs ++ x ∷ []) (arrays_in cs ++ a ∷ [])) n
added_fit cs n x a h s e = subst (λ ds. HaveLength ds n) (sym (columns_last cs x a)) (last_fits cs n x a h s e)

pub added_many : (cs : Columns) (x : List ℕ) (a : Layout) → length (names_in cs ++ x ∷ []) ≡ length (arrays_in cs ++ a ∷ [])
added_many cs x a = length_push (names_in cs) x ∙ ap (λ n. n + 1) (as_many cs) ∙ sym (length_push (arrays_in cs) a)

pub ruleset added = (columns_last, added_fit, added_many)

-- one column fewer
pub less_many : (cs : Columns) (k : ℕ) → k < length (names_in cs) → length (remove (names_in cs) k) ≡ length (remove (arrays_in cs) k)
less_many no_columns k l = absurd (omega (arith, l))
less_many (column x a cs) zero l = as_many cs
less_many (column x a cs) (suc k) l = ap suc (less_many cs k (omega (arith, l)))

pub less_fit : (cs : Columns) (n k : ℕ) → k < length (names_in cs) → HaveLength cs n → HaveLength (columns_of (remove (names_in cs) k) (remove (arrays_in cs) k)) n
less_fit no_columns n k l h = absurd (omega (arith, l))
less_fit (column x a cs) n zero l h = subst (λ ds. HaveLength ds n) (sym (columns_again cs)) h.2
less_fit (column x a cs) n (suc k) l h = (h.0, h.1, less_fit cs n k (omega (arith, l)) h.2)

pub array_taken : (cs : Columns) (k : ℕ) (a : Layout) → k < length (names_in cs) → a ≡ get_or (arrays_in cs) k a → array_at cs k ≡ Some a
array_taken cs k a l e =
    ap (λ ds. array_at ds k) (sym (columns_again cs)) ∙ array_at-columns_of (names_in cs) (arrays_in cs) k
    ∙ slice_get_read (arrays_in cs) (length (arrays_in cs)) k a refl (subst (λ n. k < n) (as_many cs) l) e

pub array_within : (cs : Columns) (k : ℕ) → k < length (names_in cs) → k < length (arrays_in cs)
array_within cs k l = subst (λ n. k < n) (as_many cs) l

pub ruleset taken = (less_many, less_fit, array_taken, array_within)

-- the first column with a name is the one at its index
position_in_columns : (cs : Columns) (x : List ℕ) (k : ℕ) → IsFirstPlace (names_in cs) x (Some k) → position_named (fields_of cs) x ≡ Some k
position_in_columns cs x k p = ap (λ ds. position_named (fields_of ds) x) (sym (columns_again cs)) ∙ position_of_place (names_in cs) (arrays_in cs) x k (as_many cs) p

without_first : (y x : List ℕ) (a : Layout) (cs : Columns) (k : ℕ) (b : Bool) (o : Option ℕ) → ((j : ℕ) → o ≡ Some j → columns_of (remove (names_in cs) j) (remove (arrays_in cs) j) ≡ without_named cs x) → (if b then Some 0 else option_map suc o) ≡ Some k → columns_of (remove (y ∷ names_in cs) k) (remove (a ∷ arrays_in cs) k) ≡ (if b then cs else column y a (without_named cs x))
without_first y x a cs zero true o ih f = columns_again cs
without_first y x a cs (suc k) true o ih f = absurd (cc (f))
without_first y x a cs k false None ih f = absurd (cc (f))
without_first y x a cs zero false (Some j) ih f = absurd (cc (f))
without_first y x a cs (suc k) false (Some j) ih f =
    let same : j ≡ k = cc (f) in
    ap (column y a) (ih k (ap (λ i. Some i) same))

without_at : (cs : Columns) (x : List ℕ) (k : ℕ) → position_named (fields_of cs) x ≡ Some k → columns_of (remove (names_in cs) k) (remove (arrays_in cs) k) ≡ without_named cs x
without_at no_columns x k e = absurd (cc (e))
without_at (column y a cs) x k e = without_first y x a cs k (bytes_eq y x) (position_named (fields_of cs) x) (λ j f. without_at cs x j f) e

pub removed_at : (cs : Columns) (x : List ℕ) (k : ℕ) → IsFirstPlace (names_in cs) x (Some k) → columns_of (remove (names_in cs) k) (remove (arrays_in cs) k) ≡ without_named cs x
removed_at cs x k p = without_at cs x k (position_in_columns cs x k p)

pub removed_array : (cs : Columns) (x : List ℕ) (k : ℕ) (a : Layout) → IsFirstPlace (names_in cs) x (Some k) → array_at cs k ≡ Some a → array_named cs x ≡ Some a
removed_array cs x k a p e = ap (option_and_then (array_at cs)) (position_in_columns cs x k p) ∙ e

pub none_removed : (cs : Columns) (x : List ℕ) → IsFirstPlace (names_in cs) x None → array_named cs x ≡ None
none_removed cs x p = ap (option_and_then (array_at cs)) (ap (λ ds. position_named (fields_of ds) x) (sym (columns_again cs)) ∙ no_position (names_in cs) (arrays_in cs) x (as_many cs) p)

pub named_within : (cs : Columns) (x : List ℕ) (k : ℕ) → IsFirstPlace (names_in cs) x (Some k) → k < length (names_in cs)
named_within cs x k p = subst (λ n. k < n) (sym (as_many cs)) (place_within (names_in cs) (arrays_in cs) x k (as_many cs) p)

pub ruleset removed = (removed_at, removed_array, none_removed, named_within)

pub got_at : {X : Type 0} (o : Option (Bor X)) (xs : List X) (i : ℕ) → is_some o ≡ ltb i (length xs) → IfSome o (λ x. x.now ≡ get_or xs i x.now) → option_copied o ≡ slice_get xs i
got_at None xs i e h = sym (slice_get_past xs i (ltb-false i (length xs) (sym e)))
got_at (Some x) xs i e h = sym (slice_get_read xs (length xs) i x.now refl (ltb-true i (length xs) (sym e)) h)
