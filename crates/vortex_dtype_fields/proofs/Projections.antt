-- Projections, built from the front.
use Rattle.std.proofs.Common.{◌≡◌, ◌++◌, ◌<◌, ◌≤◌, ◌+◌, add-one, suc, drop, drop-cons, get_or, length, List, [], ◌∷◌, map, refl, sym, ap, ◌∙◌, ℕ, Option, Some, None, option_map, option_and_then}
use Rattle.std.proofs.Math.ListN.{drop_of_length-le}
use Rattle.std.proofs.lemmas.List.{map-append}
use Rattle.vortex_model.specs.LogicalType.{LogicalType, Fields, no_fields, field}
use Rattle.vortex_dtype_core.specs.View.{NamedType, type_of, field_of, fields_of, fields_from}
use Rattle.vortex_dtype_core.specs.declared.struct_fields.StructField.{StructField}
use Rattle.vortex_dtype_core.proofs.Views.{field_of-parts}
use Rattle.vortex_dtype_fields.specs.Records.{type_named, projected, joined}

abbrev pub projected_onto : List NamedType → Fields → List (List ℕ) → Option (List NamedType)
projected_onto front fs [] = Some front
projected_onto front fs (x ∷ xs) = elim (type_named fs x) [ None ↦ None | Some k ↦ projected_onto (front ++ (x, k) ∷ []) fs xs ]

joined-none : (fs : Fields) → joined fs no_fields ≡ fs
joined-none no_fields = refl
joined-none (field x k fs) = ap (λ gs. field x k gs) (joined-none fs)

joined-next : (ns : List NamedType) (x : List ℕ) (k : LogicalType) (gs : Fields) → joined (fields_from (ns ++ (x, k) ∷ [])) gs ≡ joined (fields_from ns) (field x k gs)
joined-next [] x k gs = refl
joined-next (n ∷ ns) x k gs = ap (λ fs. field n.0 n.1 fs) (joined-next ns x k gs)

rest_joined : (front : List NamedType) (x : List ℕ) (k : LogicalType) (rest : Option Fields) →
    option_map (joined (fields_from (front ++ (x, k) ∷ []))) rest ≡ option_map (joined (fields_from front)) (option_map (field x k) rest)
rest_joined front x k None = refl
rest_joined front x k (Some gs) = ap (λ hs. Some hs) (joined-next front x k gs)

behind : (front : List NamedType) (fs : Fields) (xs : List (List ℕ)) →
    option_map fields_from (projected_onto front fs xs) ≡ option_map (joined (fields_from front)) (projected fs xs)
behind front fs [] = ap (λ gs. Some gs) (sym (joined-none (fields_from front)))
behind front fs (x ∷ xs) =
    elim (type_named fs x) as (λ found. option_map fields_from (elim found [ None ↦ None | Some k ↦ projected_onto (front ++ (x, k) ∷ []) fs xs ])
    ≡ option_map (joined (fields_from front)) (option_and_then (λ k. option_map (field x k) (projected fs xs)) found)) [
      | None ↦ refl
      | Some k ↦ behind (front ++ (x, k) ∷ []) fs xs ∙ rest_joined front x k (projected fs xs)
    ]

joined-first : (rest : Option Fields) → option_map (joined no_fields) rest ≡ rest
joined-first None = refl
joined-first (Some gs) = refl

pub projected-onto : (fs : Fields) (xs : List (List ℕ)) → option_map fields_from (projected_onto [] fs xs) ≡ projected fs xs
projected-onto fs xs = behind [] fs xs ∙ joined-first (projected fs xs)

onto_first : (front : List NamedType) (fs : Fields) (xs : List (List ℕ)) (i : ℕ) (x : List ℕ) (found : Option LogicalType) →
    i < length xs → x ≡ get_or xs i x → found ≡ type_named fs x →
    projected_onto front fs (drop i xs) ≡ elim found [ None ↦ None | Some k ↦ projected_onto (front ++ (x, k) ∷ []) fs (drop (i + 1) xs) ]
onto_first front fs xs i x found h e g =
    let split : drop i xs ≡ x ∷ drop (i + 1) xs = drop-cons xs i x h ∙ ap (λ y. y ∷ drop (suc i) xs) (sym e) ∙ ap (λ n. x ∷ drop n xs) (sym (add-one i)) in
    ap (λ ys. projected_onto front fs ys) split ∙ ap (λ o. elim o [ None ↦ None | Some k ↦ projected_onto (front ++ (x, k) ∷ []) fs (drop (i + 1) xs) ]) (sym g)

-- a name without a field
pub onto_missed : (front : List NamedType) (fs : Fields) (xs : List (List ℕ)) (i : ℕ) (x : List ℕ) →
    i < length xs → x ≡ get_or xs i x → None ≡ type_named fs x → projected_onto front fs (drop i xs) ≡ projected_onto [] fs xs → projected fs xs ≡ None
onto_missed front fs xs i x h e g whole =
    sym (projected-onto fs xs) ∙ ap (λ o. option_map fields_from o) (sym whole ∙ onto_first front fs xs i x None h e g)

-- a name with a field
pub onto_met : (all both : List StructField) (f : StructField) (fs : Fields) (xs : List (List ℕ)) (i : ℕ) (x : List ℕ) →
    i < length xs → x ≡ get_or xs i x → Some (type_of f.dtype) ≡ type_named fs x → both ≡ all ++ f ∷ [] → f.name ≡ x →
    projected_onto (map field_of both) fs (drop (i + 1) xs) ≡ projected_onto (map field_of all) fs (drop i xs)
onto_met all both f fs xs i x h e g pushed named =
    let one : field_of f ≡ (x, type_of f.dtype) = field_of-parts f ∙ ap (λ y. (y, type_of f.dtype)) named in
    let more : map field_of both ≡ map field_of all ++ (x, type_of f.dtype) ∷ []
    = ap (map field_of) pushed ∙ map-append field_of all (f ∷ []) ∙ ap (λ n. map field_of all ++ n ∷ []) one in
    ap (λ ns. projected_onto ns fs (drop (i + 1) xs)) more ∙ sym (onto_first (map field_of all) fs xs i x (Some (type_of f.dtype)) h e g)

-- no names are left
pub onto_end : (all : List StructField) (fs : Fields) (xs : List (List ℕ)) (i : ℕ) → length xs ≤ i →
    projected_onto (map field_of all) fs (drop i xs) ≡ projected_onto [] fs xs → Some (fields_of all) ≡ projected fs xs
onto_end all fs xs i h whole =
    ap (λ ys. option_map fields_from (projected_onto (map field_of all) fs ys)) (sym (drop_of_length-le xs h)) ∙ ap (λ o. option_map fields_from o) whole ∙ projected-onto fs xs
