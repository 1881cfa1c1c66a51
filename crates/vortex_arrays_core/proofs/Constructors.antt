-- The type of an array by its parts.
use Rattle.std.proofs.Common.{◌≡◌, true, ℕ, List, [], ◌∷◌, length, map, refl, ap, ◌∙◌, arith}
use Rattle.std.specs.List.{zip}
use Rattle.vortex_model.specs.LogicalType.{LogicalType, Nullability, non_nullable, nullable, either_nullable, nullability_of, stored, Fields, field}
use Rattle.vortex_model.specs.Content.{Raw}
use Rattle.vortex_model.specs.Valid.{valid, IsValid}
use Rattle.vortex_model.proofs.Tests.{has_so}
use Rattle.vortex_dtype_core.specs.View.{fields_from}
use Rattle.vortex_dtype_core.specs.Parts.{can_be_nonnullable}
use Rattle.vortex_dtype_core.proofs.Views.{one_level, union_can_be}
use Rattle.vortex_arrays_model.specs.Layout.{Layout, array_type_of, fields_of}
use Rattle.vortex_arrays_model.specs.Parts.{columns_of}

pub valid_so : (k : LogicalType) (r : Raw) → valid k r ≡ true → IsValid k r
valid_so k r h = has_so (stored k) r h

-- the order of the two doesn't matter
either_way : (n m : Nullability) → either_nullable n m ≡ either_nullable m n
either_way non_nullable non_nullable = refl
either_way non_nullable nullable = refl
either_way nullable non_nullable = refl
either_way nullable nullable = refl

-- the fields of names and arrays
fields_of-columns_of : (ns : List (List ℕ)) (fs : List Layout) → length ns ≡ length fs → fields_from (zip ns (map array_type_of fs)) ≡ fields_of (columns_of ns fs)
fields_of-columns_of [] [] e = refl
fields_of-columns_of [] (a ∷ fs) e = cc
fields_of-columns_of (n ∷ ns) [] e = cc
fields_of-columns_of (n ∷ ns) (a ∷ fs) e = ap (field n (array_type_of a)) (fields_of-columns_of ns fs (omega (arith, e)))

-- without null where neither can be null, so that the second is `non_nullable` too
pub second_can_be : (n : Nullability) (k : LogicalType) → either_nullable n (nullability_of k) ≡ non_nullable → can_be_nonnullable k ≡ true
second_can_be n k h = union_can_be k n (either_way (nullability_of k) n ∙ h)

-- the fields of names and types
pub struct_fields : (xs ys : List (List ℕ)) (ks : List LogicalType) (fs : List Layout) (all : Fields) → all ≡ fields_from (zip ys ks) → ys ≡ xs → ks ≡ map array_type_of fs → length xs ≡ length fs → all ≡ fields_of (columns_of xs fs)
struct_fields xs ys ks fs all made same kinds count = made ∙ (λ i. fields_from (zip (same i) (kinds i))) ∙ fields_of-columns_of xs fs count

pub ruleset of_records = (one_level, struct_fields)
