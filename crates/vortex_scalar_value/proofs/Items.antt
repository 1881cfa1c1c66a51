-- The item at an index.
use Rattle.std.proofs.Common.{◌≡◌, ◌<◌, ◌≤◌, ℕ, zero, suc, List, [], ◌∷◌, length, get_or, Option, Some, None, refl, ap, arith}
use Rattle.vortex_model.specs.Content.{Raw, raw_null, raw_tuple, Raws}
use Rattle.vortex_scalar_value.specs.Parts.{items_in, raw_nth, raw_part}
use Rattle.vortex_scalar_value.specs.View.{raw_in, raws_in}
use Rattle.vortex_scalar_value.specs.declared.scalar_value.ScalarValue.{ScalarValue}

pub nth_there : (vs : List (Option ScalarValue)) (i : ℕ) (x : Option ScalarValue) → x ≡ get_or vs i x → i < length vs → raw_in x ≡ raw_nth (raws_in vs) i
nth_there [] i x e l = absurd (omega (arith, l))
nth_there (v ∷ vs) zero x e l = ap raw_in e
nth_there (v ∷ vs) (suc i) x e l = nth_there vs i x e (omega (arith, l))

pub nth_past : (vs : List (Option ScalarValue)) (i : ℕ) → length vs ≤ i → raw_null ≡ raw_nth (raws_in vs) i
nth_past [] i l = refl
nth_past (v ∷ vs) zero l = absurd (omega (arith, l))
nth_past (v ∷ vs) (suc i) l = nth_past vs i (omega (arith, l))

pub part_of_items : (r : Raw) (rs : Raws) (i : ℕ) → Some rs ≡ items_in r → raw_part r i ≡ raw_nth rs i
part_of_items (raw_tuple qs) rs i e = ap (λ ps. raw_nth ps i) (let same : qs ≡ rs = cc (e) in same)
part_of_items r rs i e = absurd (cc (e))

pub no_parts : (r : Raw) (i : ℕ) → None ≡ items_in r → raw_part r i ≡ raw_null
no_parts (raw_tuple rs) i e = absurd (cc (e))
no_parts r i e = refl

pub ruleset parts = (part_of_items, no_parts)
