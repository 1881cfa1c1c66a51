-- Struct arrays whose fields have stated types.
use Rattle.std.proofs.Common.{◌≡◌, ◌<◌, ◌≤◌, ◌+◌, ◌⊎◌, ℕ, zero, suc, min, List, [], ◌∷◌, length, drop, get_or, refl, sym, ap, subst, ◌∙◌, ⊎_elim, inl, inr, arith}
use Rattle.std.proofs.lemmas.Bool.{cases_lt}
use Rattle.vortex_model.specs.LogicalType.{LogicalType, struct, Fields, no_fields, field, Nullability}
use Rattle.vortex_dtype_core.specs.View.{type_of, field_of, fields_of}
use Rattle.vortex_dtype_core.specs.declared.struct_fields.StructField.{StructField}
use Rattle.vortex_dtype_core.proofs.Views.{field_of-parts}
use Rattle.vortex_dtype_fields.specs.Records.{names_of}
use Rattle.vortex_arrays_view.specs.declared.error.ArrayError.{ArrayError}
use Rattle.vortex_arrays_view.specs.declared.error.ArrayError.TheVariants as error
use Rattle.vortex_arrays_model.specs.Layout.{Layout, Valid, records, array_type_of, fields_of as types_in, nullability_by}
use Rattle.vortex_arrays_model.specs.Parts.{columns_of}
use Rattle.vortex_arrays_struct.specs.RecordFaults.{TellsNulls, FitTogether, IsRecordsFault}
use Rattle.vortex_arrays_parts.specs.Typed.{AreOfTypes, IsTypedFault}

-- the fields of columns of stated types, if there are as many, are the stated ones
stated_fields : (fs : Fields) (ls : List Layout) → length (names_of fs) ≡ length ls → AreOfTypes fs ls → types_in (columns_of (names_of fs) ls) ≡ fs
stated_fields no_fields [] e h = refl
stated_fields no_fields (l ∷ ls) e h = absurd (omega (arith, e))
stated_fields (field x k fs) [] e h = absurd (omega (arith, e))
stated_fields (field x k fs) (l ∷ ls) e h = λ i. field x (h.0 i) (stated_fields fs ls (omega (arith, e)) h.1 i)

pub typed_records : (fs : Fields) (ns : List (List ℕ)) (ls : List Layout) (n : ℕ) (v : Valid) (a : Layout) → a ≡ records (columns_of ns ls) n v → ns ≡ names_of fs → FitTogether ns ls n v → AreOfTypes fs ls → array_type_of a ≡ struct fs (nullability_by v)
typed_records fs ns ls n v a made same fit h =
    ap array_type_of made ∙ ap (λ xs. struct (types_in (columns_of xs ls)) (nullability_by v)) same
    ∙ ap (λ gs. struct gs (nullability_by v)) (stated_fields fs ls (ap length (sym same) ∙ fit.named) h)

pub typed_fault : (e : ArrayError) (fs : Fields) (ns : List (List ℕ)) (ls : List Layout) (n : ℕ) (v : Valid) → IsRecordsFault e ns ls n v → ns ≡ names_of fs → AreOfTypes fs ls → IsTypedFault e fs ls n v
typed_fault error.Memory fs ns ls n v h e t = tt
typed_fault error.WrongType fs ns ls n v h e t = inl h
typed_fault error.LengthMismatch fs ns ls n v h e t = (h.0, t, (λ f. h.1 (subst (λ xs. FitTogether xs ls n v) (sym e) f)))
typed_fault x fs ns ls n v h e t = absurd h

pub no_memory : (e : ArrayError) (fs : Fields) (ls : List Layout) (n : ℕ) (v : Valid) → e ≡ error.Memory → IsTypedFault e fs ls n v
no_memory e fs ls n v h = subst (λ x. IsTypedFault x fs ls n v) (sym h) tt

pub other_type : (fs : Fields) (ls : List Layout) (n : ℕ) (v : Valid) → (AreOfTypes fs ls → ⊥) → IsTypedFault error.WrongType fs ls n v
other_type fs ls n v h = inr h

pub ruleset typed = (typed_records, typed_fault, no_memory, other_type)

-- ---- the rest, one field after another

abbrev Left : List StructField → List Layout → ℕ → Type 0
Left fs ls i = AreOfTypes (fields_of (drop i fs)) (drop i ls)

abbrev Step : List StructField → List Layout → ℕ → ℕ → StructField → Layout → Type 0
Step fs ls i n f l = (Left fs ls i → (array_type_of l ≡ type_of f.dtype) × Left fs ls n) × ((array_type_of l ≡ type_of f.dtype) → Left fs ls n → Left fs ls i)

pub left_step : (fs : List StructField) (ls : List Layout) (i : ℕ) (f : StructField) (l : Layout) → i < length fs → i < length ls → f ≡ get_or fs i f → l ≡ get_or ls i l → Step fs ls i (i + 1) f l
left_step [] ls i f l a b e d = absurd (omega arith)
left_step (g ∷ fs) [] i f l a b e d = absurd (omega arith)
left_step (g ∷ fs) (m ∷ ls) zero f l a b e d =
    let type_is : (field_of g).1 ≡ type_of f.dtype = ap (λ p. p.1) (field_of-parts g) ∙ sym (ap (λ x. type_of x.dtype) e) in
    ((λ h. (ap array_type_of d ∙ h.0 ∙ type_is, h.1)), (λ h r. (sym (ap array_type_of d) ∙ h ∙ sym type_is, r)))
left_step (g ∷ fs) (m ∷ ls) (suc i) f l a b e d =
    subst (λ n. Step (g ∷ fs) (m ∷ ls) (suc i) n f l) (let s : suc (i + 1) ≡ suc i + 1 = omega arith in s) (left_step fs ls i f l (omega (arith, a)) (omega (arith, b)) e d)

of_none : (fs : Fields) → AreOfTypes fs []
of_none no_fields = tt
of_none (field x k fs) = tt

pub left_none : (fs : List StructField) (ls : List Layout) (i : ℕ) → (length fs ≤ i) ⊎ (length ls ≤ i) → Left fs ls i
left_none [] ls zero h = tt
left_none [] ls (suc i) h = tt
left_none (f ∷ fs) [] zero h = tt
left_none (f ∷ fs) [] (suc i) h = of_none (fields_of (drop i fs))
left_none (f ∷ fs) (l ∷ ls) zero h = ⊎_elim (λ a. absurd (omega (arith, a))) (λ b. absurd (omega (arith, b))) h
left_none (f ∷ fs) (l ∷ ls) (suc i) h = left_none fs ls i (⊎_elim (λ a. inl (omega (arith, a))) (λ b. inr (omega (arith, b))) h)

le_or_lt : (m n : ℕ) → (m ≤ n) ⊎ (n < m)
le_or_lt m n = ⊎_elim (λ a. inr a) (λ b. inl b) (cases_lt n m)

pub left_ends : (fs : List StructField) (ls : List Layout) (i : ℕ) → min (length ls) (length fs) ≤ i → Left fs ls i
left_ends fs ls i h = left_none fs ls i (⊎_elim (λ a. inl a) (λ b. inr (omega (arith, h, b))) (le_or_lt (length fs) i))
