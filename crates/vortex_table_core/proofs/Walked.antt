-- The groups that a walk has come to.
use Rattle.std.proofs.Common.{◌≡◌, sym, ap, ◌∙◌, ◌<◌, ◌≤◌, ℕ, zero, suc, ◌+◌, List, [], ◌∷◌, length, take, drop, get_or, add-one, arith}
use Rattle.std.proofs.lemmas.List.{length-drop, length-take}
use Rattle.vortex_model.specs.LogicalType.{LogicalType}
use Rattle.vortex_model.specs.Path.{Positions}
use Rattle.vortex_table_chunk.specs.declared.chunk.Chunk.{Chunk}
use Rattle.vortex_table_core.specs.Group.{AreGroups}
use Rattle.vortex_table_core.specs.Retyped.{AreRegrouped}
use Rattle.vortex_table_core.specs.declared.group.Group.{Group}

-- the first item after those that are dropped
module _ {X : Type 0} where
  pub there : (xs : List X) (j : ℕ) (x : X) (rest : List X) → drop j xs ≡ x ∷ rest → j < length xs
  there [] zero x rest e = absurd (cc (e))
  there [] (suc j) x rest e = absurd (cc (e))
  there (y ∷ xs) zero x rest e = omega (arith)
  there (y ∷ xs) (suc j) x rest e = let h = there xs j x rest e in omega (arith, h)

  pub is_there : (xs : List X) (j : ℕ) (x : X) (rest : List X) → drop j xs ≡ x ∷ rest → x ≡ get_or xs j x
  is_there [] zero x rest e = absurd (cc (e))
  is_there [] (suc j) x rest e = absurd (cc (e))
  is_there (y ∷ xs) zero x rest e = cc (e)
  is_there (y ∷ xs) (suc j) x rest e = is_there xs j x rest e

  behind_it : (xs : List X) (j : ℕ) (x : X) (rest : List X) → drop j xs ≡ x ∷ rest → rest ≡ drop (suc j) xs
  behind_it [] zero x rest e = absurd (cc (e))
  behind_it [] (suc j) x rest e = absurd (cc (e))
  behind_it (y ∷ xs) zero x rest e = cc (e)
  behind_it (y ∷ xs) (suc j) x rest e = behind_it xs j x rest e

  pub behind : (xs : List X) (j : ℕ) (x : X) (rest : List X) → drop j xs ≡ x ∷ rest → rest ≡ drop (j + 1) xs
  behind xs j x rest e = behind_it xs j x rest e ∙ ap (λ n. drop n xs) (sym (add-one j))

  pub all_seen : (xs : List X) (j : ℕ) → drop j xs ≡ [] → length xs ≤ j
  all_seen xs j e = let n = length-drop j xs in let none : length (drop j xs) ≡ 0 = ap length e in omega (arith, n, none)

-- no more groups than chunks
pub few_groups : (k : LogicalType) (L : Positions → ℕ) (i : ℕ) (groups : List Group) (chunks : List Chunk) → AreGroups k L i groups chunks → length groups ≤ length chunks
few_groups k L i [] [] h = omega (arith)
few_groups k L i [] (c ∷ chunks) h = absurd h
few_groups k L i (g ∷ groups) chunks h =
    let rest = few_groups k L (i + g.chunks) groups (drop g.chunks chunks) h.2 in
    let count = h.1.count in let some = h.1.some in let left = length-drop g.chunks chunks in let front = length-take g.chunks chunks in
    omega (arith, rest, count, some, left, front)

as_many : (k : LogicalType) (L : Positions → ℕ) (chunks : List Chunk) (old new : List Group) → AreRegrouped k L chunks old new → length old ≡ length new
as_many k L chunks [] [] h = omega (arith)
as_many k L chunks [] (g ∷ new) h = absurd h
as_many k L chunks (g ∷ old) [] h = absurd h
as_many k L chunks (g ∷ old) (x ∷ new) h = ap suc (as_many k L chunks old new h.1)

pub one_more_fits : (k : LogicalType) (L : Positions → ℕ) (chunks : List Chunk) (old new : List Group) (j : ℕ) → j < length old → AreRegrouped k L chunks (take j old) new → length new + 1 ≤ length old
one_more_fits k L chunks old new j inside h =
    let same = as_many k L chunks (take j old) new h in let n = length-take j old in omega (arith, inside, same, n)
