-- Casts one after another, and casts that are never refused.
use Rattle.std.proofs.Common.{◌≡◌, ◌≢◌, refl, ◌∙◌, subst, true, false, Bool}
use Rattle.vortex_model.specs.LogicalType.{LogicalType, nullable, with_nullability, stored}
use Rattle.vortex_model.specs.Content.{Content, Raw, content_of}
use Rattle.vortex_model.specs.Valid.{valid}
use Rattle.vortex_model.specs.Convert.{converts}
use Rattle.vortex_model.specs.Laws.{ConversionsCompose, TestsOfConversionAreRight}
use Rattle.vortex_model.proofs.Contents.{said}
use Rattle.vortex_model.proofs.Tests.{has_so}
use Rattle.vortex_scalar_value.specs.declared.error.ScalarError.{ScalarError}
use Rattle.vortex_scalar_value.specs.declared.error.ScalarError.TheVariants.{Memory, Invalid, NotConvertible}
use Rattle.vortex_scalar_convert.proofs.Converted.{from_nullable}
use Rattle.vortex_scalar_convert.proofs.Returned.{back}

pub through : ConversionsCompose → TestsOfConversionAreRight → (s m t w : LogicalType) (c d : Content) → converts s m c ≡ true → t ≡ m → d ≡ c → converts t w d ≡ true → converts s w c ≡ true
through compose tests s m t w c d h e same g =
    let after : converts m w c ≡ true = subst (λ k. converts k w c ≡ true) e (subst (λ x. converts t w x ≡ true) same g) in
    (tests s w c).1 (compose s m w c ((tests s m c).0 h) ((tests m w c).0 after))

pub comes_back : TestsOfConversionAreRight → (k l m : LogicalType) (r s : Raw) → valid k r ≡ true → l ≡ with_nullability nullable k → m ≡ k → s ≡ r → converts l m (content_of s) ≡ true
comes_back tests k l m r s h e f same =
    let there : converts (with_nullability nullable k) k (content_of r) ≡ true = (tests (with_nullability nullable k) k (content_of r)).1 (from_nullable k (content_of r) (said (stored k) r (has_so (stored k) r h))) in
    (λ i. converts (e i) (f i) (content_of (same i))) ∙ there

-- u of type t was cast from r of type s, and can be cast back
pub returns : TestsOfConversionAreRight → (s t l m : LogicalType) (r : Raw) (d : Content) → valid s r ≡ true → converts s t (content_of r) ≡ true → l ≡ t → m ≡ s → d ≡ content_of r → converts l m d ≡ true
returns tests s t l m r d h e p q same =
    let there : converts t s (content_of r) ≡ true = (tests t s (content_of r)).1 (back s t (content_of r) (said (stored s) r (has_so (stored s) r h)) ((tests s t (content_of r)).0 e)) in
    (λ i. converts (p i) (q i) (same i)) ∙ there

pub only_memory : (e : ScalarError) (b : Bool) → b ≡ true → (e ≢ Memory → (e ≡ NotConvertible) × (b ≡ false)) → e ≡ Memory
only_memory Memory b h g = refl
only_memory Invalid b h g = absurd (cc ((g (λ x. cc (x))).0))
only_memory NotConvertible b h g = absurd (cc (h, (g (λ x. cc (x))).1))
