-- Variants of a union by tag, one after another.
use Rattle.std.proofs.Common.{◌≡◌, ◌<◌, ◌+◌, ◌&&◌, ◌||◌, if◌then◌else◌, ℕ, ℤ, Bool, true, false, refl, sym, ap, ◌∙◌, List, ◌∷◌, length, drop, get_or, Option, Some, None}
use Rattle.std.proofs.lemmas.List.{drop_more}
use Rattle.std.specs.Ordering.{int_eq}
use Rattle.vortex_model.specs.LogicalType.{LogicalType, Variants, no_variants, choice, has_tag, type_tagged, stored, union, variant}
use Rattle.vortex_model.specs.Content.{Raw, raw_tagged, raw_scalar}
use Rattle.vortex_model.specs.Valid.{has, valid}
use Rattle.vortex_dtype_core.specs.Parts.{variants_in_type, is_variant_type}
use Rattle.vortex_dtype_core.specs.View.{type_of, variants_of}
use Rattle.vortex_dtype_core.specs.declared.union_variants.UnionVariant.{UnionVariant}
use Rattle.vortex_dtype_core.proofs.Views.{variant_of-parts}
use Rattle.vortex_scalar_value.specs.Parts.{tag_in, type_in, child_in}
use Rattle.vortex_scalar_value.specs.View.{raw_of_union, raw_of_variant}
use Rattle.vortex_scalar_value.specs.declared.union_value.UnionValue.{UnionValue}
use Rattle.vortex_scalar_value.specs.declared.variant_value.VariantValue.{VariantValue}
use Rattle.vortex_scalar_value.proofs.Views.{raw_of_union-parts, raw_of_variant-parts}
use Rattle.vortex_scalar_ops.specs.Tagged.{type_under}

-- the type of the first variant, or the type by the others
pub tagged_next : (vs : List UnionVariant) (i : ℕ) (v : UnionVariant) (t : ℤ) → i < length vs → v ≡ get_or vs i v →
    type_under (variants_of (drop i vs)) t ≡ (if int_eq v.tag t then Some (type_of v.dtype) else type_under (variants_of (drop (i + 1) vs)) t)
tagged_next vs i v t h e =
    ap (λ us. type_under (variants_of us) t) (drop_more vs i v h ∙ ap (λ u. u ∷ drop (i + 1) vs) (sym e))
    ∙ ap (λ p. if int_eq p.1.0 t then Some p.1.1 else type_under (variants_of (drop (i + 1) vs)) t) (variant_of-parts v)

-- a union's value is one of the variant with its tag
abbrev pub has_under : Option LogicalType → Raw → Bool
has_under None r = false
has_under (Some k) r = valid k r

under : (vs : Variants) (t : ℤ) (r : Raw) → has_tag vs t && has (stored (type_tagged vs t)) r ≡ has_under (type_under vs t) r
under no_variants t r = refl
under (choice x u k vs) t r =
    elim (int_eq u t) as (λ b. (b || has_tag vs t) && has (stored (if b then k else type_tagged vs t)) r ≡ has_under (if b then Some k else type_under vs t) r) [
      | true ↦ refl
      | false ↦ under vs t r
    ]

abbrev pub has_in : Option Variants → ℤ → Raw → Bool
has_in None t r = false
has_in (Some vs) t r = has_under (type_under vs t) r

has-tagged : (k : LogicalType) (t : ℤ) (r : Raw) → has k (raw_tagged t r) ≡ has_in (variants_in_type k) t r
has-tagged (union vs n) t r = under vs t r
has-tagged k t r = refl

tagged_parts : (u : UnionValue) → raw_of_union u ≡ raw_tagged (tag_in (raw_of_union u)) (child_in (raw_of_union u))
tagged_parts u = raw_of_union-parts u ∙ sym (ap (λ r. raw_tagged (tag_in r) (child_in r)) (raw_of_union-parts u))

pub has_union : (k : LogicalType) (u : UnionValue) → has k (raw_of_union u) ≡ has_in (variants_in_type k) (tag_in (raw_of_union u)) (child_in (raw_of_union u))
has_union k u = ap (has k) (tagged_parts u) ∙ has-tagged k (tag_in (raw_of_union u)) (child_in (raw_of_union u))

-- the value inside a `Variant` value is one of the type inside
has-scalar : (k l : LogicalType) (r : Raw) → has k (raw_scalar l r) ≡ is_variant_type k && valid l r
has-scalar (variant n) l r = refl
has-scalar k l r = refl

scalar_parts : (v : VariantValue) → raw_of_variant v ≡ raw_scalar (type_in (raw_of_variant v)) (child_in (raw_of_variant v))
scalar_parts v = raw_of_variant-parts v ∙ sym (ap (λ r. raw_scalar (type_in r) (child_in r)) (raw_of_variant-parts v))

pub has_variant : (k : LogicalType) (v : VariantValue) → has k (raw_of_variant v) ≡ is_variant_type k && valid (type_in (raw_of_variant v)) (child_in (raw_of_variant v))
has_variant k v = ap (has k) (scalar_parts v) ∙ has-scalar k (type_in (raw_of_variant v)) (child_in (raw_of_variant v))
