-- One more chunk in a group of its own.
use Rattle.std.proofs.Common.{◌≡◌, refl, sym, ap, subst, ℕ, zero, suc, ◌+◌, ◌≤◌, List, [], ◌∷◌, ◌++◌, length, take, drop, None, option_map, arith}
use Rattle.std.proofs.lemmas.List.{length-drop, length-take}
use Rattle.vortex_model.specs.LogicalType.{LogicalType}
use Rattle.vortex_model.specs.Path.{Positions}
use Rattle.vortex_arrays_model.specs.Layout.{len_of}
use Rattle.vortex_table_chunk.specs.Chunk.{chunk_rows}
use Rattle.vortex_table_chunk.specs.declared.chunk.Chunk.{Chunk}
use Rattle.vortex_table_chunk.proofs.TypedRows.{chunk_counted}
use Rattle.vortex_table_core.specs.Group.{HasStatistics, IsGroup, AreGroups}
use Rattle.vortex_table_core.specs.declared.group.Group.{Group}

take_front : {X : Type 0} (n : ℕ) (xs ys : List X) → n ≤ length xs → take n (xs ++ ys) ≡ take n xs
take_front zero xs ys h = refl
take_front (suc n) [] ys h = absurd (omega (arith, h))
take_front (suc n) (x ∷ xs) ys h = ap (λ l. x ∷ l) (take_front n xs ys (omega (arith, h)))

drop_front : {X : Type 0} (n : ℕ) (xs ys : List X) → n ≤ length xs → drop n (xs ++ ys) ≡ drop n xs ++ ys
drop_front zero xs ys h = refl
drop_front (suc n) [] ys h = absurd (omega (arith, h))
drop_front (suc n) (x ∷ xs) ys h = drop_front n xs ys (omega (arith, h))

module _ (k : LogicalType) (L : Positions → ℕ) (g : Group) (c : Chunk) (one : g.chunks ≡ 1) (rows : g.rows ≡ len_of c.array) (own : option_map (λ v. v.items) g.joined ≡ None) where
  alone : IsGroup k L g (take g.chunks (c ∷ []))
  alone =
      let front : take g.chunks (c ∷ []) ≡ c ∷ [] = ap (λ n. take n (c ∷ [])) one in
      subst (λ cs. IsGroup k L g cs) (sym front) (record {
        count = sym one;
        some = omega (arith, one);
        rows = (let n : ℕ = length (chunk_rows c) in let same : n ≡ len_of c.array = chunk_counted c in let h : 0 + n ≡ g.rows = omega (arith, same, rows) in h);
        statistics = subst (λ o. HasStatistics k L o (c ∷ [])) (sym own) refl;
      })

  pub group_pushed : (i : ℕ) (groups : List Group) (chunks : List Chunk) → AreGroups k L i groups chunks → g.first ≡ i + length chunks → AreGroups k L i (groups ++ g ∷ []) (chunks ++ c ∷ [])
  group_pushed i [] [] h first = (
    (let e = first in omega (arith, e)),
    alone,
    subst (λ n. AreGroups k L (i + g.chunks) [] (drop n (c ∷ []))) (sym one) tt,
  )
  group_pushed i [] (d ∷ chunks) h first = absurd h
  group_pushed i (x ∷ groups) chunks h first =
      let count = h.1.count in let some = h.1.some in let taken = length-take x.chunks chunks in let left = length-drop x.chunks chunks in
      let within : x.chunks ≤ length chunks = omega (arith, count, some, taken) in (
        h.0,
        subst (λ cs. IsGroup k L x cs) (sym (take_front x.chunks chunks (c ∷ []) within)) h.1,
        subst (λ cs. AreGroups k L (i + x.chunks) (groups ++ g ∷ []) cs) (sym (drop_front x.chunks chunks (c ∷ []) within))
            (group_pushed (i + x.chunks) groups (drop x.chunks chunks) h.2 (let e = first in omega (arith, e, left, within))),
      )
