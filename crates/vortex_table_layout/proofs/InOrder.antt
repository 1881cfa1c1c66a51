-- Chunks whose statistics are joined one by one, from the first to the last.
use Rattle.std.proofs.Common.{◌≡◌, refl, sym, ◌∙◌, ap, subst, ℕ, zero, suc, ◌+◌, ◌-◌, ◌<◌, ◌≤◌, ◌^◌, List, [], ◌∷◌, ◌++◌, length, map, take, drop, get_or, Bool, true, ◌&&◌, arith}
use Rattle.std.specs.List.{AllByRecursion, list_all}
use Rattle.std.proofs.Math.Logic.{∥∥₁_map}
use Rattle.std.proofs.Math.Seq.{take-length}
use Rattle.std.proofs.lemmas.List.{map-append, take_all}
use Rattle.std.specs.Cmp.{first_so, second_so}
use Rattle.vortex_model.specs.LogicalType.{LogicalType}
use Rattle.vortex_model.specs.Content.{Content}
use Rattle.vortex_model.specs.Path.{Positions}
use Rattle.vortex_model_table.specs.Scan.{kind_at}
use Rattle.vortex_model.specs.Valid.{IsContent}
use Rattle.vortex_model_table.specs.ZoneMap.{ZoneMap, zone_of, values_at, joined, joined_from}
use Rattle.vortex_table_schema.specs.Leaves.{leaf_positions}
use Rattle.vortex_table_chunk.specs.Bounds.{AreBoundsOf, are_typed_at}
use Rattle.vortex_table_chunk.specs.Chunk.{chunk_rows, row_count}
use Rattle.vortex_table_chunk.specs.Formed.{is_formed}
use Rattle.vortex_table_chunk.specs.Joined.{IsJoined, rows_in}
use Rattle.vortex_table_chunk.specs.zones.Join.{IsJoinOf, CanJoin, AreJoinsOf}
use Rattle.vortex_table_chunk.specs.zones.Typed.{is_typed_as}
use Rattle.vortex_table_chunk.specs.declared.chunk.Chunk.{Chunk}
use Rattle.vortex_stats_array.specs.declared.array_stats.ArrayStats.{ArrayStats}
use Rattle.vortex_table_chunk.proofs.Formed.{formed_honest, led, summed}
use Rattle.vortex_table_chunk.proofs.JoinedLemmas.{rows_append, one_zone, chunk_joined, neighbours, all_joined_up, groups_can_join}
use Rattle.vortex_table_chunk.proofs.TypedRows.{formed_said, all_said, all_counted}
use Rattle.vortex_table_layout.specs.InOrder.{IsInOrder, AreInOrder, AreJoinedInOrder}

-- ---- one chunk

module _ (k : LogicalType) (L : Positions → ℕ) (rows : List Content) (typed : AllByRecursion (IsContent k) rows) where
  one_in_order : (leaves : List Positions) (bounds : List ArrayStats) → AreBoundsOf k (map L leaves) leaves bounds rows → are_typed_at k leaves bounds ≡ true → AreInOrder k L leaves bounds (rows ∷ [])
  one_in_order [] [] h g = tt
  one_in_order [] (b ∷ bounds) h g = absurd h
  one_in_order (is ∷ leaves) [] h g = absurd h
  one_in_order (is ∷ leaves) (b ∷ bounds) h g =
      let own = is_typed_as (kind_at k is) b in (
        (λ part leaf. sym (one_zone k L rows typed is b h.0 part leaf)),
        one_in_order leaves bounds h.1 (second_so own (are_typed_at k leaves bounds) g),
      )

-- a formed chunk has its own statistics
module _ (k : LogicalType) (L : Positions → ℕ) (c : Chunk) (formed : is_formed L k c ≡ true) where
  types : are_typed_at k (leaf_positions k) c.bounds.items ≡ true
  types = ap (λ ls. are_typed_at k ls c.bounds.items) (sym (led L k c formed)) ∙ summed L k c formed

  pub alone_in_order : AreJoinedInOrder k L (leaf_positions k) c.bounds.items (chunk_rows c ∷ [])
  alone_in_order =
      let typed = formed_said L k c formed in let honest = formed_honest L k c formed in (
        chunk_joined k L (chunk_rows c) typed (leaf_positions k) c.bounds.items honest types,
        one_in_order k L (chunk_rows c) typed (leaf_positions k) c.bounds.items honest types,
      )

-- ---- one more chunk

joined_more : (k : LogicalType) (z : ZoneMap) (zs : List ZoneMap) (y : ZoneMap) → joined k (joined_from k z zs) y ≡ joined_from k z (zs ++ y ∷ [])
joined_more k z [] y = refl
joined_more k z (x ∷ zs) y = joined_more k (joined k z x) zs y

module _ (k : LogicalType) (L : Positions → ℕ) (x : List Content) (xs : List (List Content)) (y : List Content) (front : AllByRecursion (λ chunk. AllByRecursion (IsContent k) chunk) (x ∷ xs))
    (back : AllByRecursion (λ chunk. AllByRecursion (IsContent k) chunk) (y ∷ [])) where
  zones_more : (f : List Content → ZoneMap) (is : Positions) → map f (map (values_at is) xs) ++ f (values_at is y) ∷ [] ≡ map f (map (values_at is) (xs ++ y ∷ []))
  zones_more f is = sym (ap (map f) (map-append (values_at is) xs (y ∷ [])) ∙ map-append f (map (values_at is) xs) (values_at is y ∷ []))

  in_order_on : (is : Positions) (a b j : ArrayStats) → IsJoined k L is a (x ∷ xs) → IsJoined k L is b (y ∷ []) → IsJoinOf a b j → IsInOrder k L is a (x ∷ xs) → IsInOrder k L is b (y ∷ []) →
      IsInOrder k L is j ((x ∷ xs) ++ y ∷ [])
  in_order_on is a b j left right both first last = λ part leaf.
      let f = zone_of part (L is) in
      both.zone part (neighbours k L (x ∷ xs) (y ∷ []) front back is a b left right part leaf)
      ∙ (λ i. joined part (first part leaf i) (last part leaf i))
      ∙ joined_more part (f (values_at is x)) (map f (map (values_at is) xs)) (f (values_at is y))
      ∙ ap (joined_from part (f (values_at is x))) (zones_more f is)

  all_in_order : (leaves : List Positions) (left right all : List ArrayStats) → AreJoinedInOrder k L leaves left (x ∷ xs) → AreJoinedInOrder k L leaves right (y ∷ []) → AreJoinsOf left right all →
      AreInOrder k L leaves all ((x ∷ xs) ++ y ∷ [])
  all_in_order [] [] [] [] h g j = tt
  all_in_order (is ∷ leaves) (a ∷ left) (b ∷ right) (c ∷ all) h g j =
      (in_order_on is a b c h.0.0 g.0.0 j.0 h.1.0 g.1.0, all_in_order leaves left right all (h.0.1, h.1.1) (g.0.1, g.1.1) j.1)
  all_in_order [] [] [] (c ∷ all) h g j = absurd j
  all_in_order [] [] (b ∷ right) all h g j = absurd g.0
  all_in_order [] (a ∷ left) right all h g j = absurd h.0
  all_in_order (is ∷ leaves) [] right all h g j = absurd h.0
  all_in_order (is ∷ leaves) (a ∷ left) [] all h g j = absurd g.0
  all_in_order (is ∷ leaves) (a ∷ left) (b ∷ right) [] h g j = absurd j

  pub one_more : (leaves : List Positions) (left right all : List ArrayStats) → ∥ AreJoinedInOrder k L leaves left (x ∷ xs) ∥₁ → AreJoinedInOrder k L leaves right (y ∷ []) → AreJoinsOf left right all →
      ∥ AreJoinedInOrder k L leaves all ((x ∷ xs) ++ y ∷ []) ∥₁
  one_more leaves left right all h g j =
      ∥∥₁_map h (λ p. (all_joined_up k L (x ∷ xs) (y ∷ []) front back leaves left right all p.0 g.0 j, all_in_order leaves left right all p g j))

-- ---- the chunks of a group, of which there are two or more

front_counted : (cs : List Chunk) (i : ℕ) (c : Chunk) → i < length cs → c ≡ get_or cs i c → rows_in (map chunk_rows (take i cs)) + rows_in (chunk_rows c ∷ []) ≤ rows_in (map chunk_rows cs)
front_counted cs i c inside is =
    let all : rows_in (map chunk_rows (take i cs)) + rows_in (map chunk_rows (drop i cs)) ≡ rows_in (map chunk_rows cs) =
    rows_append (map chunk_rows (take i cs)) (map chunk_rows (drop i cs)) ∙ ap rows_in (sym (map-append chunk_rows (take i cs) (drop i cs))) ∙ ap (λ xs. rows_in (map chunk_rows xs)) (together i cs) in
    let next : rows_in (chunk_rows c ∷ []) + rows_in (map chunk_rows (drop (suc i) cs)) ≡ rows_in (map chunk_rows (drop i cs)) =
    rows_append (chunk_rows c ∷ []) (map chunk_rows (drop (suc i) cs)) ∙ ap (λ xs. rows_in (map chunk_rows xs)) (sym (next_is cs i c inside is)) in
    omega (arith, all, next)
  where
    together : (n : ℕ) (xs : List Chunk) → take n xs ++ drop n xs ≡ xs
    together zero xs = refl
    together (suc n) [] = refl
    together (suc n) (x ∷ xs) = ap (λ l. x ∷ l) (together n xs)

    next_is : (xs : List Chunk) (j : ℕ) (d : Chunk) → j < length xs → d ≡ get_or xs j d → drop j xs ≡ d ∷ drop (suc j) xs
    next_is [] j d h e = absurd (omega (arith, h))
    next_is (x ∷ xs) zero d h e = ap (λ y. y ∷ xs) (sym e)
    next_is (x ∷ xs) (suc j) d h e = next_is xs j d (omega (arith, h)) e

taken_more : (cs : List Chunk) (i : ℕ) (c : Chunk) → i < length cs → c ≡ get_or cs i c → take (suc i) cs ≡ take i cs ++ c ∷ []
taken_more [] i c h e = absurd (omega (arith, h))
taken_more (x ∷ cs) zero c h e = ap (λ y. y ∷ []) (sym e)
taken_more (x ∷ cs) (suc i) c h e = ap (λ l. x ∷ l) (taken_more cs i c (omega (arith, h)) e)

pub formed_front : (p : Chunk → Bool) (n : ℕ) (xs : List Chunk) → list_all p xs ≡ true → list_all p (take n xs) ≡ true
formed_front p zero xs h = refl
formed_front p (suc n) [] h = refl
formed_front p (suc n) (x ∷ xs) h = (λ i. first_so (p x) (list_all p xs) h i && formed_front p n xs (second_so (p x) (list_all p xs) h) i)

formed_at : (p : Chunk → Bool) (xs : List Chunk) (i : ℕ) (c : Chunk) → list_all p xs ≡ true → i < length xs → c ≡ get_or xs i c → p c ≡ true
formed_at p [] i c h g e = absurd (omega (arith, g))
formed_at p (x ∷ xs) zero c h g e = ap p e ∙ first_so (p x) (list_all p xs) h
formed_at p (x ∷ xs) (suc i) c h g e = formed_at p xs i c (second_so (p x) (list_all p xs) h) (omega (arith, g)) e

module _ (k : LogicalType) (L : Positions → ℕ) (chunks : List Chunk) (formed : list_all (is_formed L k) chunks ≡ true) where
  -- the statistics are those of the first n chunks
  abbrev pub Upto : ℕ → List ArrayStats → Type 0
  Upto n bounds = ∥ AreJoinedInOrder k L (leaf_positions k) bounds (map chunk_rows (take n chunks)) ∥₁

  pub from_first : (c : Chunk) → 0 < length chunks → c ≡ get_or chunks 0 c → Upto 1 c.bounds.items
  from_first c inside is =
      subst (λ cs. ∥ AreJoinedInOrder k L (leaf_positions k) c.bounds.items (map chunk_rows cs) ∥₁) (sym (taken_more chunks 0 c inside is))
      ∣ alone_in_order k L c (formed_at (is_formed L k) chunks 0 c formed inside is) ∣₁

  pub can_go_on : (n : ℕ) (c : Chunk) (left : List ArrayStats) → row_count chunks < 2 ^ 64 → n < length chunks → c ≡ get_or chunks n c → Upto n left → CanJoin left c.bounds.items
  can_go_on n c left few inside is h =
      let within = front_counted chunks n c inside is in let all = all_counted chunks in
      groups_can_join k L (map chunk_rows (take n chunks)) (chunk_rows c ∷ []) (leaf_positions k) left c.bounds.items (omega (arith, within, all, few))
      (∥∥₁_map h (λ p. p.0)) ∣ (alone_in_order k L c (formed_at (is_formed L k) chunks n c formed inside is)).0 ∣₁

  pub go_on : (n : ℕ) (c : Chunk) (left all : List ArrayStats) → 0 < n → n < length chunks → c ≡ get_or chunks n c → Upto n left → AreJoinsOf left c.bounds.items all → Upto (suc n) all
  go_on n c left all some inside is h j =
      subst (λ cs. ∥ AreJoinedInOrder k L (leaf_positions k) all (map chunk_rows cs) ∥₁) (sym (taken_more chunks n c inside is))
      (subst (λ rows. ∥ AreJoinedInOrder k L (leaf_positions k) all rows ∥₁) (sym (map-append chunk_rows (take n chunks) (c ∷ [])))
      (by_front (take n chunks) (formed_front (is_formed L k) n chunks formed) (not_empty n chunks some inside) h))
    where
      here : is_formed L k c ≡ true
      here = formed_at (is_formed L k) chunks n c formed inside is

      not_empty : (m : ℕ) (cs : List Chunk) → 0 < m → m < length cs → 0 < length (take m cs)
      not_empty zero cs s g = absurd (omega (arith, s))
      not_empty (suc m) [] s g = absurd (omega (arith, g))
      not_empty (suc m) (x ∷ cs) s g = omega arith

      by_front : (front : List Chunk) → list_all (is_formed L k) front ≡ true → 0 < length front → ∥ AreJoinedInOrder k L (leaf_positions k) left (map chunk_rows front) ∥₁ →
          ∥ AreJoinedInOrder k L (leaf_positions k) all (map chunk_rows front ++ chunk_rows c ∷ []) ∥₁
      by_front [] g s p = absurd (omega (arith, s))
      by_front (x ∷ front) g s p =
          one_more k L (chunk_rows x) (map chunk_rows front) (chunk_rows c) (all_said L k (x ∷ front) g) (all_said L k (c ∷ []) (λ i. here i && true)) (leaf_positions k) left c.bounds.items all p
          (alone_in_order k L c here) j

-- ---- the chunks after the first two

module _ {X : Type 0} where
  behind_two : (a b : X) (rest : List X) → take (length (a ∷ b ∷ rest) - 2) rest ≡ rest
  behind_two a b rest = ap (λ n. take n rest) (let e : length (a ∷ b ∷ rest) - 2 ≡ length rest = omega arith in e) ∙ take-length rest

  pub third_on : (xs : List X) (i : ℕ) (x : X) → 1 < length xs → i < length (take (length xs - 2) (drop 2 xs)) → x ≡ get_or (take (length xs - 2) (drop 2 xs)) i x →
      (suc (suc i) < length xs) × (x ≡ get_or xs (suc (suc i)) x)
  third_on [] i x many inside is = absurd (omega (arith, many))
  third_on (a ∷ []) i x many inside is = absurd (omega (arith, many))
  third_on (a ∷ b ∷ rest) i x many inside is =
      let e = behind_two a b rest in let here : i < length rest = subst (λ (ys : List X). i < length ys) e inside in (
        omega (arith, here),
        subst (λ (ys : List X). x ≡ get_or ys i x) e is,
      )

  pub none_left : (xs : List X) (i : ℕ) → 1 < length xs → length (take (length xs - 2) (drop 2 xs)) ≤ i → take (suc (suc i)) xs ≡ xs
  none_left [] i many past = absurd (omega (arith, many))
  none_left (a ∷ []) i many past = absurd (omega (arith, many))
  none_left (a ∷ b ∷ rest) i many past = ap (λ l. a ∷ b ∷ l) (take_all i rest (subst (λ (ys : List X). length ys ≤ i) (behind_two a b rest) past))
