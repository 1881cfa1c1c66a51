-- The column of a field.
use Rattle.std.proofs.Common.{◌≡◌, ◌≢◌, ◌<◌, ℕ, zero, suc, Bool, true, false, List, [], ◌∷◌, length, map, get_or, Option, Some, None, option_map, option_and_then, if◌then◌else◌, refl, sym, ap, subst, ◌∙◌, arith}
use Rattle.std.proofs.lemmas.List.{get_or-map, length-map}
use Rattle.std.proofs.lemmas.Option.{slice_get_within}
use Rattle.std.proofs.lemmas.Slice.Eq.{bytes_eq-Decides}
use Rattle.std.specs.Str.{bytes_eq}
use Rattle.vortex_model.specs.LogicalType.{LogicalType, Fields, struct, nullable_inside}
use Rattle.vortex_model.specs.Path.{position_named, field_at, type_at, positions, type_of_column}
use Rattle.vortex_dtype_ptype.specs.View.{IsFirstPlace}
use Rattle.vortex_dtype_core.specs.Parts.{fields_in_type}
use Rattle.vortex_arrays_model.specs.Layout.{Layout, records, Valid, array_type_of, fields_of}
use Rattle.vortex_arrays_model.specs.Column.{IsColumn, IsPart, array_at}
use Rattle.vortex_arrays_model.specs.Parts.{columns_of}
use Rattle.vortex_arrays_model.proofs.ColumnLemmas.{part_named}
use Rattle.vortex_arrays_core.specs.Flags.{ViewFlags, no_view, flags_of, flags_at, HasFlagsOfColumn}
use Rattle.vortex_arrays_core.proofs.Picked.{flags_together, flags_in_columns}

-- Struct arrays: the index of a name is that of its field.
eq_bytes : (x y : List ℕ) → x ≡ y → bytes_eq x y ≡ true
eq_bytes x y e = (bytes_eq-Decides x y).1 e

other_bytes : (x y : List ℕ) → (x ≢ y) → (b : Bool) → bytes_eq x y ≡ b → b ≡ false
other_bytes x y n true e = absurd (n ((bytes_eq-Decides x y).0 e))
other_bytes x y n false e = refl

abbrev first_or : Bool → Option ℕ → Option ℕ
first_or b o = if b then Some 0 else option_map suc o

pub position_of_place : (xs : List (List ℕ)) (fs : List Layout) (x : List ℕ) (k : ℕ) → length xs ≡ length fs → IsFirstPlace xs x (Some k) → position_named (fields_of (columns_of xs fs)) x ≡ Some k
position_of_place [] fs x k e p = absurd (cc (p.0))
position_of_place (y ∷ xs) [] x k e p = cc
position_of_place (y ∷ xs) (a ∷ fs) x zero e p =
    let same : y ≡ x = cc (p.0) in
    ap (λ b. first_or b (position_named (fields_of (columns_of xs fs)) x)) (eq_bytes y x same)
position_of_place (y ∷ xs) (a ∷ fs) x (suc k) e p =
    let other : y ≢ x = λ same. p.1 0 (omega arith) (ap (λ z. Some z) same) in
    ap (λ b. first_or b (position_named (fields_of (columns_of xs fs)) x)) (other_bytes y x other (bytes_eq y x) refl)
    ∙ ap (option_map suc) (position_of_place xs fs x k (omega (arith, e)) (p.0, λ i l. p.1 (suc i) (omega (arith, l))))

pub no_position : (xs : List (List ℕ)) (fs : List Layout) (x : List ℕ) → length xs ≡ length fs → IsFirstPlace xs x None → position_named (fields_of (columns_of xs fs)) x ≡ None
no_position [] [] x e p = refl
no_position [] (a ∷ fs) x e p = cc
no_position (y ∷ xs) [] x e p = cc
no_position (y ∷ xs) (a ∷ fs) x e p =
    let other : y ≢ x = λ same. p 0 (ap (λ z. Some z) same) in
    ap (λ b. first_or b (position_named (fields_of (columns_of xs fs)) x)) (other_bytes y x other (bytes_eq y x) refl)
    ∙ ap (option_map suc) (no_position xs fs x (omega (arith, e)) (λ i. p (suc i)))

pub array_of_place : (xs : List (List ℕ)) (fs : List Layout) (k : ℕ) (a : Layout) → a ≡ get_or fs k a → k < length fs → array_at (columns_of xs fs) k ≡ Some a
array_of_place xs [] k a e l = absurd (omega (arith, l))
array_of_place [] (b ∷ fs) zero a e l = ap (λ z. Some z) (sym e)
array_of_place (x ∷ xs) (b ∷ fs) zero a e l = ap (λ z. Some z) (sym e)
array_of_place [] (b ∷ fs) (suc k) a e l = array_of_place [] fs k a e (omega (arith, l))
array_of_place (x ∷ xs) (b ∷ fs) (suc k) a e l = array_of_place xs fs k a e (omega (arith, l))

-- the field with a name, before and after the struct's nulls
pub place_within : (xs : List (List ℕ)) (fs : List Layout) (x : List ℕ) (k : ℕ) → length xs ≡ length fs → IsFirstPlace xs x (Some k) → k < length fs
place_within xs fs x k e p = subst (λ n. k < n) e (slice_get_within xs k x p.0)

-- The column of a name is the part at the position of the first field with this name.
position_there : (k : LogicalType) (fs : Fields) (x : List ℕ) (i : ℕ) (t : LogicalType) → Some fs ≡ fields_in_type k → Some i ≡ position_named fs x → type_at k (i ∷ []) ≡ Some t → positions k (x ∷ []) ≡ Some (i ∷ [])
position_there (struct gs n) fs x i t e p h =
    let same : fs ≡ gs = cc (e) in
    ap (λ o. option_and_then (λ j. option_and_then (λ part. option_map (λ is. j ∷ is) (positions part [])) (field_at gs j)) o) (ap (λ g. position_named g x) (sym same) ∙ sym p)
    ∙ by_field (field_at gs i) h
  where
    by_field : (o : Option LogicalType) → option_map (nullable_inside n) (option_and_then (λ part. type_at part []) o) ≡ Some t → option_and_then (λ part. option_map (λ is. i ∷ is) (positions part [])) o ≡ Some (i ∷ [])
    by_field None f = absurd (cc (f))
    by_field (Some part) f = refl
position_there k fs x i t e p h = absurd (cc (e))

pub column_of_part : (a r : Layout) (fs : Fields) (x : List ℕ) (i : ℕ) → Some fs ≡ fields_in_type (array_type_of a) → Some i ≡ position_named fs x → IsPart a (i ∷ []) r → IsColumn a (x ∷ []) r
column_of_part a r fs x i e p h = part_named a (x ∷ []) (i ∷ []) r (position_there (array_type_of a) fs x i (array_type_of r) e p h.kind) h

-- its flags are those of the field
flags_at_field : (fs : List ViewFlags) (i : ℕ) → i < length fs → flags_at (flags_together fs) (i ∷ []) ≡ get_or fs i no_view
flags_at_field [] i l = absurd (omega (arith, l))
flags_at_field (f ∷ fs) zero l = refl
flags_at_field (f ∷ fs) (suc i) l = flags_at_field fs i (omega (arith, l))

pub field_flagged : (xs : List (List ℕ)) (fs : List Layout) (n : ℕ) (v : Valid) (i : ℕ) (a r : Layout) → a ≡ get_or fs i a → i < length fs → flags_of r ≡ flags_of a → flags_of r ≡ flags_at (flags_of (records (columns_of xs fs) n v)) (i ∷ [])
field_flagged xs fs n v i a r e l f =
    f ∙ ap flags_of e ∙ sym (get_or-map flags_of fs i a no_view l)
    ∙ sym (flags_at_field (map flags_of fs) i (subst (λ m. i < m) (sym (length-map fs flags_of)) l))
    ∙ ap (λ g. flags_at g (i ∷ [])) (sym (flags_in_columns xs fs))

pub flags_of_part : (a r : Layout) (fs : Fields) (x : List ℕ) (i : ℕ) → Some fs ≡ fields_in_type (array_type_of a) → Some i ≡ position_named fs x → IsPart a (i ∷ []) r → flags_of r ≡ flags_at (flags_of a) (i ∷ []) → HasFlagsOfColumn a (x ∷ []) r
flags_of_part a r fs x i e p h f = λ is q.
    let there : Some (i ∷ []) ≡ Some is = sym (position_there (array_type_of a) fs x i (array_type_of r) e p h.kind) ∙ q in
    let same : i ∷ [] ≡ is = cc (there) in
    f ∙ ap (flags_at (flags_of a)) same

pub no_record : (k : LogicalType) (x : List ℕ) → None ≡ fields_in_type k → type_of_column k (x ∷ []) ≡ None
no_record (struct fs n) x e = absurd (cc (e))
no_record k x e = refl

pub no_such_name : (k : LogicalType) (fs : Fields) (x : List ℕ) → Some fs ≡ fields_in_type k → None ≡ position_named fs x → type_of_column k (x ∷ []) ≡ None
no_such_name (struct gs n) fs x e p =
    let same : fs ≡ gs = cc (e) in
    ap (λ o. option_and_then (type_at (struct gs n)) (option_and_then (λ i. option_and_then (λ part. option_map (λ is. i ∷ is) (positions part [])) (field_at gs i)) o)) (ap (λ g. position_named g x) (sym same) ∙ sym p)
no_such_name k fs x e p = absurd (cc (e))

pub no_part_there : (k : LogicalType) (fs : Fields) (x : List ℕ) (i : ℕ) → Some fs ≡ fields_in_type k → Some i ≡ position_named fs x → type_at k (i ∷ []) ≡ None → type_of_column k (x ∷ []) ≡ None
no_part_there (struct gs n) fs x i e p h =
    let same : fs ≡ gs = cc (e) in
    ap (λ o. option_and_then (type_at (struct gs n)) (option_and_then (λ j. option_and_then (λ part. option_map (λ is. j ∷ is) (positions part [])) (field_at gs j)) o)) (ap (λ g. position_named g x) (sym same) ∙ sym p)
    ∙ by_field (field_at gs i) h
  where
    by_field : (o : Option LogicalType) → option_map (nullable_inside n) (option_and_then (λ part. type_at part []) o) ≡ None → option_and_then (type_at (struct gs n)) (option_and_then (λ part. option_map (λ is. i ∷ is) (positions part [])) o) ≡ None
    by_field None f = refl
    by_field (Some part) f = absurd (cc (f))
no_part_there k fs x i e p h = absurd (cc (e))

pub ruleset stepped = (column_of_part, no_record, no_such_name, no_part_there)
