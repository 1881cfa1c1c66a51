-- Names of a union's variants, by index.
use Rattle.std.proofs.Common.{◌≡◌, ◌<◌, ◌≤◌, ℕ, zero, suc, List, [], ◌∷◌, length, get_or, arith, Some, None, refl, ap, ◌∙◌, sym}
use Rattle.vortex_dtype_core.specs.View.{variants_of}
use Rattle.vortex_dtype_core.specs.declared.union_variants.UnionVariant.{UnionVariant}
use Rattle.vortex_dtype_core.proofs.Views as types
use Rattle.vortex_scalar_iter.specs.Choices.{variant_name_at}

pub name_within : (vs : List UnionVariant) (i : ℕ) (v : UnionVariant) → i < length vs → v ≡ get_or vs i v → Some v.name ≡ variant_name_at (variants_of vs) i
name_within [] i v h e = absurd (omega arith)
name_within (w ∷ vs) zero v h e = ap (λ u. Some u.name) e ∙ sym (ap (λ p. Some p.0) (types.variant_of-parts w))
name_within (w ∷ vs) (suc i) v h e = name_within vs i v (omega arith) e

pub name_past : (vs : List UnionVariant) (i : ℕ) → length vs ≤ i → None ≡ variant_name_at (variants_of vs) i
name_past [] i h = refl
name_past (w ∷ vs) zero h = absurd (omega arith)
name_past (w ∷ vs) (suc i) h = name_past vs i (omega arith)

pub ruleset named = (types.one_level, name_within, name_past)
