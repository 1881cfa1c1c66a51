-- What a conjunction or a disjunction of tests shows about its parts, where std has no lemma.
use Rattle.std.proofs.Common.{◌≡◌, refl, Bool, true, false, ◌&&◌, ◌||◌}

pub or_false_left : (b c : Bool) → b || c ≡ false → b ≡ false
or_false_left true c e = absurd (cc (e))
or_false_left false c e = refl

pub or_false_right : (b c : Bool) → b || c ≡ false → c ≡ false
or_false_right true c e = absurd (cc (e))
or_false_right false c e = e

pub three_true : (p q r : Bool) → p && q && r ≡ true → (p ≡ true) × (q ≡ true) × (r ≡ true)
three_true true true true h = (refl, refl, refl)
three_true true true false h = absurd (cc (h))
three_true true false r h = absurd (cc (h))
three_true false q r h = absurd (cc (h))

pub clashing : (b : Bool) → b ≡ true → b ≡ false → ⊥
clashing true e f = cc (f)
clashing false e f = cc (e)
