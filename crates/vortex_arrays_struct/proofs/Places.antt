-- Names and fields, by index.
use Rattle.std.proofs.Common.{◌≡◌, ◌<◌, ℕ, zero, suc, List, [], ◌∷◌, length, get_or, slice_get, Option, Some, IsTrue, refl, sym, ap, subst, ◌∙◌, arith}
use Rattle.std.proofs.lemmas.Option.{slice_get_read}
use Rattle.vortex_model.specs.LogicalType.{LogicalType, Fields}
use Rattle.vortex_dtype_core.specs.Parts.{is_struct_type, fields_in_type}
use Rattle.vortex_arrays_model.specs.Layout.{Layout, records, Valid, array_type_of, fields_of}
use Rattle.vortex_arrays_model.specs.Column.{array_at}
use Rattle.vortex_arrays_model.specs.Parts.{columns_of}
use Rattle.vortex_arrays_struct.specs.Records.{columns_in, validity_in, names_in, arrays_in}

names_in-columns_of : (xs : List (List ℕ)) (fs : List Layout) → length xs ≡ length fs → names_in (columns_of xs fs) ≡ xs
names_in-columns_of [] [] e = refl
names_in-columns_of [] (a ∷ fs) e = cc
names_in-columns_of (x ∷ xs) [] e = cc
names_in-columns_of (x ∷ xs) (a ∷ fs) e = ap (λ ys. x ∷ ys) (names_in-columns_of xs fs (omega (arith, e)))

arrays_in-columns_of : (xs : List (List ℕ)) (fs : List Layout) → arrays_in (columns_of xs fs) ≡ fs
arrays_in-columns_of xs [] = refl
arrays_in-columns_of [] (a ∷ fs) = ap (λ bs. a ∷ bs) (arrays_in-columns_of [] fs)
arrays_in-columns_of (x ∷ xs) (a ∷ fs) = ap (λ bs. a ∷ bs) (arrays_in-columns_of xs fs)

pub array_at-columns_of : (xs : List (List ℕ)) (fs : List Layout) (i : ℕ) → array_at (columns_of xs fs) i ≡ slice_get fs i
array_at-columns_of xs [] i = refl
array_at-columns_of [] (a ∷ fs) zero = refl
array_at-columns_of (x ∷ xs) (a ∷ fs) zero = refl
array_at-columns_of [] (a ∷ fs) (suc i) = array_at-columns_of [] fs i
array_at-columns_of (x ∷ xs) (a ∷ fs) (suc i) = array_at-columns_of xs fs i

-- the parts of an array of names and fields
pub names_of_parts : (a : Layout) (xs : List (List ℕ)) (fs : List Layout) (n : ℕ) (v : Valid) → a ≡ records (columns_of xs fs) n v → length xs ≡ length fs → xs ≡ names_in (columns_in a)
names_of_parts a xs fs n v e many = sym (ap (λ b. names_in (columns_in b)) e ∙ names_in-columns_of xs fs many)

pub arrays_of_parts : (a : Layout) (xs : List (List ℕ)) (fs : List Layout) (n : ℕ) (v : Valid) → a ≡ records (columns_of xs fs) n v → fs ≡ arrays_in (columns_in a)
arrays_of_parts a xs fs n v e = sym (ap (λ b. arrays_in (columns_in b)) e ∙ arrays_in-columns_of xs fs)

pub validity_of_parts : (a : Layout) (xs : List (List ℕ)) (fs : List Layout) (n : ℕ) (v : Valid) → a ≡ records (columns_of xs fs) n v → v ≡ validity_in a
validity_of_parts a xs fs n v e = sym (ap validity_in e)

array_of_parts : (a : Layout) (xs : List (List ℕ)) (fs : List Layout) (n : ℕ) (v : Valid) (i : ℕ) → a ≡ records (columns_of xs fs) n v → slice_get fs i ≡ array_at (columns_in a) i
array_of_parts a xs fs n v i e = sym (ap (λ b. array_at (columns_in b) i) e ∙ array_at-columns_of xs fs i)

pub array_got : (a : Layout) (xs : List (List ℕ)) (fs : List Layout) (n : ℕ) (v : Valid) (i : ℕ) (o : Option Layout) → a ≡ records (columns_of xs fs) n v → o ≡ slice_get fs i → o ≡ array_at (columns_in a) i
array_got a xs fs n v i o e g = g ∙ array_of_parts a xs fs n v i e

pub place_within : (a : Layout) (xs : List (List ℕ)) (fs : List Layout) (n : ℕ) (v : Valid) (i : ℕ) → a ≡ records (columns_of xs fs) n v → i < length (arrays_in (columns_in a)) → i < length fs
place_within a xs fs n v i e l = subst (λ bs. i < length bs) (sym (arrays_of_parts a xs fs n v e)) l

pub array_there : (a : Layout) (xs : List (List ℕ)) (fs : List Layout) (n : ℕ) (v : Valid) (i : ℕ) (b : Layout) → a ≡ records (columns_of xs fs) n v → i < length (arrays_in (columns_in a)) → b ≡ get_or fs i b → array_at (columns_in a) i ≡ Some b
array_there a xs fs n v i b e l is = sym (array_of_parts a xs fs n v i e) ∙ slice_get_read fs (length fs) i b refl (place_within a xs fs n v i e l) is

pub ruleset placed = (names_of_parts, arrays_of_parts, validity_of_parts, array_got, place_within, array_there)

-- the type
pub kind_of_records : (a : Layout) (xs : List (List ℕ)) (fs : List Layout) (n : ℕ) (v : Valid) (k : LogicalType) → a ≡ records (columns_of xs fs) n v → k ≡ array_type_of a → IsTrue (is_struct_type k)
kind_of_records a xs fs n v k e h = ap is_struct_type (h ∙ ap array_type_of e)

some_fields : (fs gs : Fields) → Some fs ≡ Some gs → fs ≡ gs
some_fields fs gs e = cc (e)

pub fields_of_records : (a : Layout) (xs : List (List ℕ)) (fs : List Layout) (n : ℕ) (v : Valid) (k : LogicalType) (gs : Fields) → a ≡ records (columns_of xs fs) n v → k ≡ array_type_of a → Some gs ≡ fields_in_type k → gs ≡ fields_of (columns_in a)
fields_of_records a xs fs n v k gs e h g = some_fields gs (fields_of (columns_of xs fs)) (g ∙ ap fields_in_type (h ∙ ap array_type_of e)) ∙ sym (ap (λ b. fields_of (columns_in b)) e)

pub ruleset typed = (kind_of_records, fields_of_records)
