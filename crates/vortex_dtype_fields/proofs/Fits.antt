-- Types that fit into others.
use Rattle.std.proofs.Common.{◌≡◌, ◌||◌, ◌↔◌, Bool, true, not, IsTrue, refl, sym, ◌∙◌}
use Rattle.vortex_model.specs.LogicalType.{LogicalType, Nullability, nullable, non_nullable, is_nullable, nullability_of, EqualIgnoringNullability}
use Rattle.vortex_dtype_fields.specs.Widths.{FitsInto}

outer_test : (m n : Nullability) → (not (is_nullable m) || is_nullable n) ≡ true ↔ (m ≡ nullable → n ≡ nullable)
outer_test nullable nullable = (λ h e. refl, λ h. refl)
outer_test nullable non_nullable = (λ h. absurd (cc h), λ h. absurd (cc (h refl)))
outer_test non_nullable n = (λ h e. absurd (cc e), λ h. refl)

pub fits_where : (k l : LogicalType) (b : Bool) → EqualIgnoringNullability k l → b ≡ (not (is_nullable (nullability_of k)) || is_nullable (nullability_of l)) → IsTrue b ↔ FitsInto k l
fits_where k l b h e =
    let outer : (not (is_nullable (nullability_of k)) || is_nullable (nullability_of l)) ≡ true ↔ (nullability_of k ≡ nullable → nullability_of l ≡ nullable)
    = outer_test (nullability_of k) (nullability_of l) in
    (λ t. (h, outer.0 (sym e ∙ t)), λ f. e ∙ outer.1 f.1)

pub ruleset fits = (fits_where)
