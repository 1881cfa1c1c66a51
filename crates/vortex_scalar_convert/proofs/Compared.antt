-- Order and equality of scalars.
use Rattle.std.proofs.Common.{◌≡◌, ◌↔◌, ◌∙◌, ◌&&◌, sym, ap, Bool, true, false, Some, None, if◌then◌else◌}
use Rattle.std.specs.declared.cmp.Ordering.TheVariants.{Equal}
use Rattle.vortex_model.specs.LogicalType.{LogicalType, bare, EqualIgnoringNullability, equal_ignoring_nullability}
use Rattle.vortex_model.specs.Content.{Content}
use Rattle.vortex_model.specs.Order.{content_cmp, scalar_cmp}
use Rattle.vortex_dtype_core.specs.Equal.{eq_type-decides}
use Rattle.vortex_dtype_fields.proofs.Lawful.{equal_equiv}
use Rattle.vortex_scalar_ops.specs.Equality.{eq_content}
use Rattle.vortex_scalar_core.specs.Equality.{eq_typed}

equal_so : (k l : LogicalType) → EqualIgnoringNullability k l → equal_ignoring_nullability k l ≡ true
equal_so k l e = (eq_type-decides (bare k) (bare l)).1 e

compares : (k l : LogicalType) (c d : Content) → equal_ignoring_nullability k l ≡ true → scalar_cmp k c l d ≡ content_cmp c d
compares k l c d e = ap (λ b. if b then content_cmp c d else None) e

pub order_kept : (k l t : LogicalType) (c d x y : Content) → EqualIgnoringNullability k l → x ≡ c → y ≡ d → scalar_cmp t x t y ≡ scalar_cmp k c l d
order_kept k l t c d x y e p q =
    compares t t x y (equal_equiv.refl t) ∙ (λ i. content_cmp (p i) (q i)) ∙ sym (compares k l c d (equal_so k l e))

equals : (k l : LogicalType) (c d : Content) → equal_ignoring_nullability k l ≡ true → eq_typed k c l d ≡ eq_content c d
equals k l c d e = ap (λ b. b && eq_content c d) e

pub equality_kept : (k l t : LogicalType) (c d x y : Content) → EqualIgnoringNullability k l → x ≡ c → y ≡ d → eq_typed t x t y ≡ eq_typed k c l d
equality_kept k l t c d x y e p q =
    equals t t x y (equal_equiv.refl t) ∙ (λ i. eq_content (p i) (q i)) ∙ sym (equals k l c d (equal_so k l e))

pub tied_where : (b : Bool) (c d : Content) → (content_cmp c d ≡ Some Equal) ↔ (eq_content c d ≡ true) →
    ((if b then content_cmp c d else None) ≡ Some Equal) ↔ ((b && eq_content c d) ≡ true)
tied_where true c d h = h
tied_where false c d h = (λ e. absurd (cc (e)), λ e. absurd (cc (e)))
