-- Proofs joined in rounds.
use Rattle.std.proofs.Common.{◌≡◌, ℕ, zero, suc, ◌≤◌, ◌<◌, List, [], ◌∷◌, length, refl, sym, ap, ◌∙◌, arith}
use Rattle.vortex_stats_bind.specs.Bound.{Bound}
use Rattle.vortex_stats_rules.specs.Table.{Boxed, all_unboxed, paired, rounds, first_of_list, joined_proofs}

-- a round leaves no more, and fewer of two or more
pub no_more : (es : List Bound) → length (paired es) ≤ length es
no_more [] = omega arith
no_more (x ∷ []) = omega arith
no_more (x ∷ y ∷ es) = omega (arith, no_more es)

pub fewer : (es : List Bound) → 1 < length es → length (paired es) < length es
fewer [] h = absurd (omega (arith, h))
fewer (x ∷ []) h = absurd (omega (arith, h))
fewer (x ∷ y ∷ es) h = omega (arith, no_more es)

-- where one is left or none, rounds change nothing
few : (n : ℕ) (es : List Bound) → length es ≤ 1 → rounds n es ≡ es
few zero es h = refl
few (suc n) [] h = few n [] (omega arith)
few (suc n) (x ∷ []) h = few n (x ∷ []) (omega arith)
few (suc n) (x ∷ y ∷ es) h = absurd (omega (arith, h))

enough : (m n : ℕ) (es : List Bound) → length es ≤ suc m → length es ≤ suc n → rounds m es ≡ rounds n es
enough zero n es h g = sym (few n es h)
enough (suc m) zero es h g = few (suc m) es g
enough (suc m) (suc n) [] h g = few m [] (omega arith) ∙ sym (few n [] (omega arith))
enough (suc m) (suc n) (x ∷ []) h g = few m (x ∷ []) (omega arith) ∙ sym (few n (x ∷ []) (omega arith))
enough (suc m) (suc n) (x ∷ y ∷ es) h g =
    let all = x ∷ y ∷ es in
    let less = fewer all (omega arith) in
    enough m n (paired all) (omega (arith, less, h)) (omega (arith, less, g))

round_by : (n : ℕ) (es : List Bound) → length es ≡ n → 1 < length es → joined_proofs es ≡ joined_proofs (paired es)
round_by zero es e h = absurd (omega (arith, e, h))
round_by (suc n) es e h =
    ap (λ m. first_of_list (rounds m es)) e
    ∙ ap first_of_list (enough n (length (paired es)) (paired es) (omega (arith, fewer es h, e)) (omega arith))

-- a round changes nothing of what is joined in the end
pub one_round : (es : List Bound) → 1 < length es → joined_proofs es ≡ joined_proofs (paired es)
one_round es h = round_by (length es) es refl h

-- ---- in boxes

unboxed_length : (bs : List Boxed) → length (all_unboxed bs) ≡ length bs
unboxed_length [] = refl
unboxed_length (b ∷ bs) = ap suc (unboxed_length bs)

two_or_more : (bs : List Boxed) → 1 < length bs → 1 < length (all_unboxed bs)
two_or_more bs h = omega (arith, h, unboxed_length bs)

pub fewer_left : (bs cs : List Boxed) → 1 < length bs → all_unboxed cs ≡ paired (all_unboxed bs) → length cs < length bs
fewer_left bs cs h is =
    let less = fewer (all_unboxed bs) (two_or_more bs h) in
    let same = ap length is in
    omega (arith, less, same, unboxed_length bs, unboxed_length cs)

pub same_left : (bs cs : List Boxed) → 1 < length bs → all_unboxed cs ≡ paired (all_unboxed bs) → joined_proofs (all_unboxed bs) ≡ joined_proofs (all_unboxed cs)
same_left bs cs h is = one_round (all_unboxed bs) (two_or_more bs h) ∙ ap joined_proofs (sym is)

pub ruleset joined = (fewer_left, same_left)
