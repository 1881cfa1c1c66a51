-- Names that are those of fields.
use Rattle.std.proofs.Common.{◌≡◌, ◌<◌, ◌+◌, ◌++◌, ◌∷◌, [], ℕ, zero, suc, List, length, take, get_or, refl, sym, ap, ◌∙◌, arith}
use Rattle.std.proofs.lemmas.List.{take_more, take_all}
use Rattle.vortex_dtype_core.specs.View.{fields_of}
use Rattle.vortex_dtype_core.specs.declared.struct_fields.StructField.{StructField}
use Rattle.vortex_dtype_core.proofs.Views.{field_of-parts}
use Rattle.vortex_dtype_fields.specs.Records.{names_of}
use Rattle.vortex_arrays_cast.proofs.CastLemmas.{names_many}

name_at : (fs : List StructField) (i : ℕ) (f : StructField) (d : List ℕ) → i < length fs → f ≡ get_or fs i f → get_or (names_of (fields_of fs)) i d ≡ f.name
name_at [] i f d l e = absurd (omega (arith, l))
name_at (g ∷ fs) zero f d l e = ap (λ p. p.0) (field_of-parts g) ∙ ap (λ h. h.name) (sym e)
name_at (g ∷ fs) (suc i) f d l e = name_at fs i f d (omega (arith, l)) e

-- the first n names are those of the first n fields
abbrev pub FirstNamed : List (List ℕ) → List StructField → ℕ → Type 0
FirstNamed xs fs n = take n xs ≡ take n (names_of (fields_of fs))

pub none_named : (xs : List (List ℕ)) (fs : List StructField) → FirstNamed xs fs 0
none_named xs fs = refl

pub more_named : (xs : List (List ℕ)) (fs : List StructField) (i : ℕ) (x : List ℕ) (f : StructField) → length xs ≡ length fs → i < length xs → x ≡ get_or xs i x → f ≡ get_or fs i f → x ≡ f.name → FirstNamed xs fs i → FirstNamed xs fs (i + 1)
more_named xs fs i x f many l at_x at_f same before =
    let inside : i < length fs = omega (arith, many, l) in
    let count = names_many fs in
    let within : i < length (names_of (fields_of fs)) = omega (arith, count, inside) in
    take_more xs i x l
    ∙ (λ t. before t ++ (sym at_x ∙ same ∙ sym (name_at fs i f x inside at_f)) t ∷ [])
    ∙ sym (take_more (names_of (fields_of fs)) i x within)

pub all_named : (xs : List (List ℕ)) (fs : List StructField) (i : ℕ) → length xs ≡ length fs → i ≡ length xs → FirstNamed xs fs i → xs ≡ names_of (fields_of fs)
all_named xs fs i many e h =
    let count = names_many fs in
    sym (take_all i xs (omega (arith, e))) ∙ h ∙ take_all i (names_of (fields_of fs)) (omega (arith, e, many, count))

pub ruleset named = (none_named, more_named, all_named)
