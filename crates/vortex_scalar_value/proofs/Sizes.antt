-- The size of values, which bounds the depth of recursion.
use Rattle.std.proofs.Common.{◌≡◌, ℕ, zero, suc, ◌+◌, ◌<◌, List, [], ◌∷◌, length, get_or, arith, ap, ◌∙◌, refl, Option, Some, None, option_copied, Bor, Vec, Global, sym}
use Rattle.std.specs.declared.boxed.Box.{Box}
use Rattle.vortex_model.specs.Content.{Raw, raw_tuple, raw_tagged, raw_scalar, Raws, no_raws, raw_first}
use Rattle.vortex_scalar_value.specs.Parts.{child_in}
use Rattle.vortex_scalar_value.specs.View.{raw_of, raw_of_union, raw_of_variant, raw_in, raw_at, raws_in}
use Rattle.vortex_scalar_value.specs.declared.scalar_value.ScalarValue as value
use Rattle.vortex_scalar_value.specs.declared.scalar_value.ScalarValue.{ScalarValue}
use Rattle.vortex_scalar_value.specs.declared.union_value.UnionValue.{UnionValue}
use Rattle.vortex_scalar_value.specs.declared.variant_value.VariantValue.{VariantValue}
use Rattle.vortex_scalar_value.proofs.Views.{raw_of-Tuple, raw_of-Union, raw_of-Variant, raw_of_union-parts, raw_of_variant-parts}

abbrev mutual
  pub raw_size : Raw → ℕ
  raw_size (raw_tuple rs) = suc (suc (raws_size rs))
  raw_size (raw_tagged t r) = suc (suc (raw_size r))
  raw_size (raw_scalar k r) = suc (suc (raw_size r))
  raw_size r = 0

  pub raws_size : Raws → ℕ
  raws_size no_raws = 0
  raws_size (raw_first r rs) = suc (raw_size r + raws_size rs)

pub raw_at-copied : (o : Option (Bor ScalarValue)) → raw_at o ≡ raw_in (option_copied o)
raw_at-copied None = refl
raw_at-copied (Some r) = refl

at_place : (vs : List (Option ScalarValue)) (i : ℕ) (v : Option ScalarValue) → i < length vs → v ≡ get_or vs i v → raw_size (raw_in v) < raws_size (raws_in vs)
at_place [] i v h e = absurd (omega arith)
at_place (w ∷ vs) zero v h e = let p : raw_size (raw_in v) ≡ raw_size (raw_in w) = ap (λ u. raw_size (raw_in u)) e in omega (arith, p)
at_place (w ∷ vs) (suc i) v h e = let k = at_place vs i v (omega arith) e in omega (arith, k)

-- each item is smaller than the list
pub item_smaller : (vs : List (Option ScalarValue)) (i : ℕ) (v : Option ScalarValue) (o : Option (Bor ScalarValue)) → i < length vs → v ≡ get_or vs i v → option_copied o ≡ v → raw_size (raw_at o) < raws_size (raws_in vs)
item_smaller vs i v o h e c =
    let p : raw_size (raw_at o) ≡ raw_size (raw_in v) = ap raw_size (raw_at-copied o ∙ ap (λ u. raw_in u) c) in
    let k = at_place vs i v h e in
    omega (arith, p, k)

-- the values inside a value are smaller
pub tuple_size : (v : Vec (Option ScalarValue) Global) → raw_size (raw_of (value.Tuple v)) ≡ suc (suc (raws_size (raws_in v.items)))
tuple_size v = ap raw_size (raw_of-Tuple v)

pub union_size : (u : UnionValue) → raw_size (raw_of (value.Union u)) ≡ raw_size (raw_of_union u)
union_size u = ap raw_size (raw_of-Union u)

pub child_size : (u : UnionValue) → raw_size (raw_of_union u) ≡ suc (suc (raw_size (child_in (raw_of_union u))))
child_size u = ap raw_size (raw_of_union-parts u) ∙ ap (λ r. suc (suc (raw_size (child_in r)))) (sym (raw_of_union-parts u))

pub variant_size : (b : Box VariantValue Global) → raw_size (raw_of (value.Variant b)) ≡ raw_size (raw_of_variant b.value)
variant_size b = ap raw_size (raw_of-Variant b)

pub typed_size : (v : VariantValue) → raw_size (raw_of_variant v) ≡ suc (suc (raw_size (child_in (raw_of_variant v))))
typed_size v = ap raw_size (raw_of_variant-parts v) ∙ ap (λ r. suc (suc (raw_size (child_in r)))) (sym (raw_of_variant-parts v))

pub ruleset sizes = (tuple_size, union_size, child_size, variant_size, typed_size)
