-- Laws over the definitions.
use Rattle.std.proofs.Common.{◌≡◌, List, [], ◌∷◌, ℕ, Option, Some, None, option_map, option_and_then, refl, sym, ap, ◌∙◌}
use Rattle.std.specs.Cmp.{on_equiv, IsEquivalence}
use Rattle.vortex_model.specs.LogicalType.{LogicalType, Fields, no_fields, field, bare, EqualIgnoringNullability, equal_ignoring_nullability}
use Rattle.vortex_dtype_core.specs.Equal.{eq_type_equiv}
use Rattle.vortex_dtype_fields.specs.Hashing.{type_writes}
use Rattle.vortex_dtype_fields.specs.Records.{names_of, projected, type_named}
use Rattle.vortex_dtype_fields.specs.Widths.{FitsInto}
use Rattle.vortex_dtype_fields.proofs.Hashed.{bare_writes}

pub equal_equiv : IsEquivalence equal_ignoring_nullability
equal_equiv = on_equiv bare eq_type_equiv

pub hash_alike : (k l : LogicalType) → EqualIgnoringNullability k l → type_writes k ≡ type_writes l
hash_alike k l e = sym (bare_writes k) ∙ ap type_writes e ∙ bare_writes l

pub fits_itself : (k : LogicalType) → FitsInto k k
fits_itself k = (refl, λ h. h)

pub fits_on : (k l m : LogicalType) → FitsInto k l → FitsInto l m → FitsInto k m
fits_on k l m f g = (f.0 ∙ g.0, λ h. g.1 (f.1 h))

one_more : (x : List ℕ) (xs : List (List ℕ)) (found : Option LogicalType) (rest : Option Fields) (gs : Fields) → ((hs : Fields) → rest ≡ Some hs → names_of hs ≡ xs) →
    option_and_then (λ k. option_map (field x k) rest) found ≡ Some gs → names_of gs ≡ x ∷ xs
one_more x xs None rest gs below h = absurd (cc h)
one_more x xs (Some k) None gs below h = absurd (cc h)
one_more x xs (Some k) (Some hs) gs below h = let e : field x k hs ≡ gs = cc h in ap names_of (sym e) ∙ ap (λ ys. x ∷ ys) (below hs refl)

pub projected_names : (fs : Fields) (xs : List (List ℕ)) (gs : Fields) → projected fs xs ≡ Some gs → names_of gs ≡ xs
projected_names fs [] gs h = let e : no_fields ≡ gs = cc h in ap names_of (sym e)
projected_names fs (x ∷ xs) gs h = one_more x xs (type_named fs x) (projected fs xs) gs (λ hs. projected_names fs xs hs) h
