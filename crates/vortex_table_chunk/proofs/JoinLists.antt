-- Lists of statistics that are joined one by one.
use Rattle.std.proofs.Common.{◌≡◌, refl, sym, ◌∙◌, ap, subst, ℕ, zero, suc, ◌+◌, ◌<◌, ◌≤◌, List, [], ◌∷◌, ◌++◌, length, take, get_or, arith}
use Rattle.std.proofs.lemmas.List.{take_more}
use Rattle.vortex_stats_array.specs.declared.array_stats.ArrayStats.{ArrayStats}
use Rattle.vortex_table_chunk.specs.zones.Join.{HaveCounts, IsJoinOf, CanJoin, AreJoinsOf}

pub as_many : (left right : List ArrayStats) → CanJoin left right → length left ≡ length right
as_many [] [] h = refl
as_many (a ∷ left) (b ∷ right) h = ap suc (as_many left right h.1)
as_many [] (b ∷ right) h = absurd h
as_many (a ∷ left) [] h = absurd h

-- those at the same index can be joined
pub can_join_at : (left right : List ArrayStats) (i : ℕ) (a b : ArrayStats) → CanJoin left right → i < length left → a ≡ get_or left i a → b ≡ get_or right i b → HaveCounts a b
can_join_at [] right i a b h inside at_left at_right = absurd (omega (arith, inside))
can_join_at (c ∷ left) [] i a b h inside at_left at_right = absurd h
can_join_at (c ∷ left) (d ∷ right) zero a b h inside at_left at_right = subst (λ (y : ArrayStats). HaveCounts a y) (sym at_right) (subst (λ (x : ArrayStats). HaveCounts x d) (sym at_left) h.0)
can_join_at (c ∷ left) (d ∷ right) (suc i) a b h inside at_left at_right = can_join_at left right i a b h.1 (omega (arith, inside)) at_left at_right

one_more : (left right all : List ArrayStats) (a b j : ArrayStats) → AreJoinsOf left right all → IsJoinOf a b j → AreJoinsOf (left ++ a ∷ []) (right ++ b ∷ []) (all ++ j ∷ [])
one_more [] [] [] a b j h g = (g, tt)
one_more (x ∷ left) (y ∷ right) (z ∷ all) a b j h g = (h.0, one_more left right all a b j h.1 g)
one_more [] [] (z ∷ all) a b j h g = absurd h
one_more [] (y ∷ right) all a b j h g = absurd h
one_more (x ∷ left) [] all a b j h g = absurd h
one_more (x ∷ left) (y ∷ right) [] a b j h g = absurd h

-- one more of each
pub join_pushed : (left right old new : List ArrayStats) (i : ℕ) (a b j : ArrayStats) → CanJoin left right → i < length left → a ≡ get_or left i a → b ≡ get_or right i b → new ≡ old ++ j ∷ [] →
    IsJoinOf a b j → AreJoinsOf (take i left) (take i right) old → AreJoinsOf (take (i + 1) left) (take (i + 1) right) new
join_pushed left right old new i a b j can inside at_left at_right made g h =
    let same = as_many left right can in
    let within : i < length right = omega (arith, inside, same) in
    subst (λ ls. AreJoinsOf ls (take (i + 1) right) new) (sym (take_more left i a inside ∙ ap (λ x. take i left ++ x ∷ []) (sym at_left)))
    (subst (λ rs. AreJoinsOf (take i left ++ a ∷ []) rs new) (sym (take_more right i b within ∙ ap (λ x. take i right ++ x ∷ []) (sym at_right)))
    (subst (λ js. AreJoinsOf (take i left ++ a ∷ []) (take i right ++ b ∷ []) js) (sym made) (one_more (take i left) (take i right) old a b j h g)))

all_taken : (xs : List ArrayStats) (i : ℕ) → length xs ≤ i → take i xs ≡ xs
all_taken [] zero h = refl
all_taken [] (suc i) h = refl
all_taken (x ∷ xs) zero h = absurd (omega (arith, h))
all_taken (x ∷ xs) (suc i) h = ap (λ l. x ∷ l) (all_taken xs i (omega (arith, h)))

-- all of them
pub joins_done : (left right all : List ArrayStats) (i : ℕ) → CanJoin left right → length left ≤ i → AreJoinsOf (take i left) (take i right) all → AreJoinsOf left right all
joins_done left right all i can past h =
    let same = as_many left right can in
    subst (λ ls. AreJoinsOf ls right all) (all_taken left i past) (subst (λ rs. AreJoinsOf (take i left) rs all) (all_taken right i (omega (arith, past, same))) h)
