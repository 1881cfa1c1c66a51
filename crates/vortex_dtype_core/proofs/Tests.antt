-- Equality of types, from the parts to the whole.
use Rattle.std.proofs.Math.Bool.{and-false, and-true, true-and, false-and}
use Rattle.std.proofs.Common.{◌≡◌, ◌≢◌, ◌↔◌, IsTrue, false, List, [], ◌∷◌, length, suc, refl, sym, ap}
use Rattle.vortex_model.specs.LogicalType.{LogicalType, mapping, non_nullable, eq_fields, eq_variants, bare_fields, bare_variants}
use Rattle.vortex_dtype_core.specs.Equal.{eq_type-decides, eq_fields-decides, eq_variants-decides}
use Rattle.vortex_dtype_core.specs.View.{EntryTypes, entries_in, map_type_of, eq_map, fields_of, variants_of}
use Rattle.vortex_dtype_core.specs.declared.map_dtype.MapDType.{MapDType}
use Rattle.vortex_dtype_core.specs.declared.struct_fields.StructField.{StructField}
use Rattle.vortex_dtype_core.specs.declared.union_variants.UnionVariant.{UnionVariant}
use Rattle.vortex_dtype_core.proofs.Views.{one_level, extension_type-parts}

-- lists of fields with other lengths are unequal
pub unequal_lengths : (xs ys : List StructField) → length xs ≢ length ys → false ≡ eq_fields (fields_of xs) (fields_of ys)
unequal_lengths [] [] n = absurd (n refl)
unequal_lengths [] (y ∷ ys) n = refl
unequal_lengths (x ∷ xs) [] n = refl
unequal_lengths (x ∷ xs) (y ∷ ys) n = rw (← unequal_lengths xs ys (λ e. n (ap suc e))) (sym (and-false _))

pub unequal_bare_lengths : (xs ys : List StructField) → length xs ≢ length ys → false ≡ eq_fields (bare_fields (fields_of xs)) (bare_fields (fields_of ys))
unequal_bare_lengths [] [] n = absurd (n refl)
unequal_bare_lengths [] (y ∷ ys) n = refl
unequal_bare_lengths (x ∷ xs) [] n = refl
unequal_bare_lengths (x ∷ xs) (y ∷ ys) n = rw (← unequal_bare_lengths xs ys (λ e. n (ap suc e))) (sym (and-false _))

-- lists of variants with other lengths are unequal
pub unequal_choices : (xs ys : List UnionVariant) → length xs ≢ length ys → false ≡ eq_variants (variants_of xs) (variants_of ys)
unequal_choices [] [] n = absurd (n refl)
unequal_choices [] (y ∷ ys) n = refl
unequal_choices (x ∷ xs) [] n = refl
unequal_choices (x ∷ xs) (y ∷ ys) n = rw (← unequal_choices xs ys (λ e. n (ap suc e))) (sym (and-false _))

pub unequal_bare_choices : (xs ys : List UnionVariant) → length xs ≢ length ys → false ≡ eq_variants (bare_variants (variants_of xs)) (bare_variants (variants_of ys))
unequal_bare_choices [] [] n = absurd (n refl)
unequal_bare_choices [] (y ∷ ys) n = refl
unequal_bare_choices (x ∷ xs) [] n = refl
unequal_bare_choices (x ∷ xs) (y ∷ ys) n = rw (← unequal_bare_choices xs ys (λ e. n (ap suc e))) (sym (and-false _))

-- the entries of a map type
abbrev entries_inside : LogicalType → EntryTypes
entries_inside (mapping k v s n) = record { key = k; value = v; sorted = s }
entries_inside k = record { key = k; value = k; sorted = false }

abbrev mapping_of : EntryTypes → LogicalType
mapping_of e = mapping e.key e.value e.sorted non_nullable

-- maps are equal where their entries are
pub maps_decided : (m l : MapDType) → IsTrue (eq_map m l) ↔ (entries_in m ≡ entries_in l)
maps_decided m l =
    let decides = eq_type-decides (map_type_of m) (map_type_of l) in
    (λ e. ap entries_inside (decides.0 e), λ e. decides.1 (ap mapping_of e))

pub ruleset tests = (one_level, unequal_lengths, unequal_bare_lengths, unequal_choices, unequal_bare_choices, true-and, false-and)

pub ruleset maps = (and-true, true-and, false-and)

pub ruleset extensions = (extension_type-parts, true-and, false-and)

pub ruleset decided = (one_level, eq_type-decides, eq_fields-decides, eq_variants-decides)
