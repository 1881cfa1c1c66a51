-- Two neighbouring groups as one.
use Rattle.std.proofs.Common.{◌≡◌, refl, sym, ◌∙◌, ap, subst, ℕ, zero, suc, ◌+◌, ◌<◌, ◌≤◌, List, [], ◌∷◌, ◌++◌, length, map, take, drop, get_or, true, ◌&&◌, Option, Some, None, option_map, arith}
use Rattle.std.specs.Prelude.{slice_set}
use Rattle.std.specs.List.{list_all}
use Rattle.std.proofs.lemmas.List.{length-drop, length-take, length-append, map-append, take-append-drop}
use Rattle.std.proofs.Math.Seq.{drop-cons}
use Rattle.vortex_model.specs.LogicalType.{LogicalType}
use Rattle.vortex_model_table.specs.Command.{joined_at}
use Rattle.vortex_table_chunk.specs.Bounds.{are_typed_at}
use Rattle.vortex_model.specs.Path.{Positions}
use Rattle.vortex_table_chunk.specs.Chunk.{chunk_rows, row_count}
use Rattle.vortex_table_chunk.specs.Joined.{AreJoined, rows_in}
use Rattle.vortex_table_chunk.specs.zones.Join.{AreJoinsOf}
use Rattle.vortex_table_chunk.specs.declared.chunk.Chunk.{Chunk}
use Rattle.vortex_stats_array.specs.declared.array_stats.ArrayStats.{ArrayStats}
use Rattle.vortex_table_chunk.proofs.JoinedLemmas.{rows_append, chunk_joined, groups_joined}
use Rattle.vortex_table_schema.specs.Leaves.{leaf_positions}
use Rattle.vortex_table_core.specs.Group.{HasStatistics, IsGroup, AreGroups, chunks_of}
use Rattle.vortex_table_chunk.specs.Formed.{is_formed}
use Rattle.vortex_table_core.specs.declared.group.Group.{Group}
use Rattle.vortex_table_chunk.proofs.Formed.{formed_honest, led, summed}
use Rattle.vortex_table_chunk.proofs.TypedRows.{all_said, all_counted}
use Rattle.vortex_table_chunk.proofs.TypedRows.{list_all_at}
use Rattle.vortex_table_core.proofs.Groups.{drop_on, formed_in}
use Rattle.vortex_table_core.proofs.Ranges.{none_taken}

-- ---- lists

take_on : {X : Type 0} (m n : ℕ) (xs : List X) → take m xs ++ take n (drop m xs) ≡ take (m + n) xs
take_on zero n xs = ap (λ k. take k xs) (let e : n ≡ 0 + n = omega arith in e)
take_on (suc m) n [] = none_taken n ∙ sym (none_taken (suc m + n))
take_on (suc m) n (x ∷ xs) = ap (λ l. x ∷ l) (take_on m n xs) ∙ ap (λ k. take k (x ∷ xs)) (let e : suc (m + n) ≡ suc m + n = omega arith in e)

one_left : (n : ℕ) (c : Chunk) (chunks : List Chunk) → n ≡ 1 → take n (c ∷ chunks) ≡ c ∷ []
one_left n c chunks e = ap (λ k. take k (c ∷ chunks)) e

pub group_within : (k : LogicalType) (L : Positions → ℕ) (g : Group) (chunks : List Chunk) → IsGroup k L g (chunks_of chunks g) → g.first + g.chunks ≤ length chunks
group_within k L g chunks is =
    let some = is.some in let count = is.count in
    let left = length-drop g.first chunks in let front = length-take g.chunks (drop g.first chunks) in
    omega (arith, some, count, left, front)

-- ---- the groups of a table

module _ (k : LogicalType) (L : Positions → ℕ) (chunks : List Chunk) where
  moved : (i n : ℕ) (groups : List Group) → AreGroups k L (i + n) groups (drop n (drop i chunks)) → AreGroups k L (i + n) groups (drop (i + n) chunks)
  moved i n groups h = subst (λ cs. AreGroups k L (i + n) groups cs) (drop_on i n chunks) h

  first_group : (i : ℕ) (g : Group) (groups : List Group) → AreGroups k L i (g ∷ groups) (drop i chunks) → IsGroup k L g (chunks_of chunks g)
  first_group i g groups h = subst (λ n. IsGroup k L g (take g.chunks (drop n chunks))) (sym h.0) h.1

  pub group_at : (i : ℕ) (groups : List Group) → AreGroups k L i groups (drop i chunks) → (j : ℕ) (g : Group) → j < length groups → g ≡ get_or groups j g → IsGroup k L g (chunks_of chunks g)
  group_at i [] h j g inside is = absurd (omega (arith, inside))
  group_at i (x ∷ groups) h zero g inside is = subst (λ y. IsGroup k L y (chunks_of chunks y)) (sym is) (first_group i x groups h)
  group_at i (x ∷ groups) h (suc j) g inside is = group_at (i + x.chunks) groups (moved i x.chunks groups h.2) j g (omega (arith, inside)) is

  pub next_first : (i : ℕ) (groups : List Group) → AreGroups k L i groups (drop i chunks) → (j : ℕ) (g n : Group) → suc j < length groups → g ≡ get_or groups j g → n ≡ get_or groups (suc j) n →
      n.first ≡ g.first + g.chunks
  next_first i [] h j g n inside at_g at_n = absurd (omega (arith, inside))
  next_first i (x ∷ []) h zero g n inside at_g at_n = absurd (omega (arith, inside))
  next_first i (x ∷ y ∷ groups) h zero g n inside at_g at_n =
      ap (λ z. z.first) at_n ∙ h.2.0 ∙ ap (λ m. m + x.chunks) (sym h.0) ∙ ap (λ z. z.first + z.chunks) (sym at_g)
  next_first i (x ∷ groups) h (suc j) g n inside at_g at_n =
      next_first (i + x.chunks) groups (moved i x.chunks groups h.2) j g n (omega (arith, inside)) at_g at_n

  -- ---- the statistics of a group

  pub one_has : (g : Group) (o : Option (List ArrayStats)) (c : Chunk) → list_all (is_formed L k) chunks ≡ true → o ≡ None → HasStatistics k L o (chunks_of chunks g) → g.chunks ≡ length (chunks_of chunks g) →
      g.first < length chunks → c ≡ get_or chunks g.first c → AreJoined k L (leaf_positions k) c.bounds.items (map chunk_rows (chunks_of chunks g))
  one_has g o c formed e has count inside is =
      let own = subst (λ p. HasStatistics k L p (chunks_of chunks g)) e has in
      let here : is_formed L k c ≡ true = ap (is_formed L k) is ∙ list_all_at (is_formed L k) chunks g.first c formed inside in
      let alone : chunks_of chunks g ≡ c ∷ [] =
      ap (take g.chunks) (drop-cons chunks g.first c inside ∙ ap (λ x. x ∷ drop (suc g.first) chunks) (sym is)) ∙ one_left g.chunks c (drop (suc g.first) chunks) (count ∙ own) in
      subst (λ cs. AreJoined k L (leaf_positions k) c.bounds.items (map chunk_rows cs)) (sym alone)
      (chunk_joined k L (chunk_rows c) (all_said L k (c ∷ []) (λ i. here i && true)).0 (leaf_positions k) c.bounds.items (formed_honest L k c here)
      (ap (λ ls. are_typed_at k ls c.bounds.items) (sym (led L k c here)) ∙ summed L k c here))

  -- ---- two as one

  pub both_chunks : (a b : Group) → b.first ≡ a.first + a.chunks → chunks_of chunks a ++ chunks_of chunks b ≡ take (a.chunks + b.chunks) (drop a.first chunks)
  both_chunks a b next =
      ap (λ n. take a.chunks (drop a.first chunks) ++ take b.chunks (drop n chunks)) next
      ∙ ap (λ cs. take a.chunks (drop a.first chunks) ++ take b.chunks cs) (sym (drop_on a.first a.chunks chunks))
      ∙ take_on a.chunks b.chunks (drop a.first chunks)

  pub both_rows : (a b : Group) → IsGroup k L a (chunks_of chunks a) → IsGroup k L b (chunks_of chunks b) → b.first ≡ a.first + a.chunks →
      rows_in (map chunk_rows (take (a.chunks + b.chunks) (drop a.first chunks))) ≡ a.rows + b.rows
  both_rows a b p q next =
      ap (λ cs. rows_in (map chunk_rows cs)) (sym (both_chunks a b next))
      ∙ ap rows_in (map-append chunk_rows (chunks_of chunks a) (chunks_of chunks b))
      ∙ sym (rows_append (map chunk_rows (chunks_of chunks a)) (map chunk_rows (chunks_of chunks b)))
      ∙ (λ i. p.rows i + q.rows i)

  pub one_group : (a b g : Group) (left right all : List ArrayStats) → list_all (is_formed L k) chunks ≡ true → IsGroup k L a (chunks_of chunks a) → IsGroup k L b (chunks_of chunks b) → b.first ≡ a.first + a.chunks →
      ∥ AreJoined k L (leaf_positions k) left (map chunk_rows (chunks_of chunks a)) ∥₁ → ∥ AreJoined k L (leaf_positions k) right (map chunk_rows (chunks_of chunks b)) ∥₁ → AreJoinsOf left right all →
      g.first ≡ a.first → g.chunks ≡ a.chunks + b.chunks → g.rows ≡ a.rows + b.rows → option_map (λ v. v.items) g.joined ≡ Some all → IsGroup k L g (chunks_of chunks g)
  one_group a b g left right all formed p q next h j joins first count rows joined =
      let here : chunks_of chunks a ++ chunks_of chunks b ≡ chunks_of chunks g = both_chunks a b next ∙ (λ i. take (sym count i) (drop (sym first i) chunks)) in
      let sizes = length-append (chunks_of chunks a) (chunks_of chunks b) in
      let p_count = p.count in let q_count = q.count in let p_some = p.some in let q_some = q.some in
      let total : length (chunks_of chunks g) ≡ a.chunks + b.chunks = ap length (sym here) ∙ sizes ∙ (λ i. p_count i + q_count i) in record {
        count = total ∙ sym count;
        some = omega (arith, count, p_some);
        rows = ap (λ cs. rows_in (map chunk_rows cs)) (sym here ∙ both_chunks a b next) ∙ both_rows a b p q next ∙ sym rows;
        statistics = subst (λ o. HasStatistics k L o (chunks_of chunks g)) (sym joined) (
          omega (arith, total, p_some, q_some),
          subst (λ cs. ∥ AreJoined k L (leaf_positions k) all cs ∥₁) (sym (map-append chunk_rows (chunks_of chunks a) (chunks_of chunks b)) ∙ ap (map chunk_rows) here)
              (groups_joined k L (map chunk_rows (chunks_of chunks a)) (map chunk_rows (chunks_of chunks b)) (all_said L k (chunks_of chunks a) (formed_in (is_formed L k) a chunks formed))
              (all_said L k (chunks_of chunks b) (formed_in (is_formed L k) b chunks formed)) (leaf_positions k) left right all h j joins),
        );
      }

  -- ---- the groups with one in place of two

  abbrev pub with_one : ℕ → Group → List Group → List Group
  with_one zero g (a ∷ b ∷ groups) = g ∷ groups
  with_one zero g groups = groups
  with_one (suc j) g [] = []
  with_one (suc j) g (x ∷ groups) = x ∷ with_one j g groups

  pub edited : (j : ℕ) (g : Group) (groups : List Group) → suc j < length groups → take (suc j) (slice_set groups j g) ++ drop (suc (suc j)) (slice_set groups j g) ≡ with_one j g groups
  edited zero g [] inside = absurd (omega (arith, inside))
  edited zero g (a ∷ []) inside = absurd (omega (arith, inside))
  edited zero g (a ∷ b ∷ groups) inside = refl
  edited (suc j) g [] inside = absurd (omega (arith, inside))
  edited (suc j) g (x ∷ groups) inside = ap (λ gs. x ∷ gs) (edited j g groups (omega (arith, inside)))

  pub sizes_joined : (j : ℕ) (g : Group) (groups : List Group) → suc j < length groups → g.chunks ≡ (get_or groups j g).chunks + (get_or groups (suc j) g).chunks →
      map (λ x. x.chunks) (with_one j g groups) ≡ joined_at j (map (λ x. x.chunks) groups)
  sizes_joined zero g [] inside count = absurd (omega (arith, inside))
  sizes_joined zero g (a ∷ []) inside count = absurd (omega (arith, inside))
  sizes_joined zero g (a ∷ b ∷ groups) inside count = ap (λ n. n ∷ map (λ x. x.chunks) groups) count
  sizes_joined (suc j) g [] inside count = absurd (omega (arith, inside))
  sizes_joined (suc j) g (x ∷ groups) inside count = ap (λ ns. x.chunks ∷ ns) (sizes_joined j g groups (omega (arith, inside)) count)

  pub groups_replaced : (i j : ℕ) (g : Group) (groups : List Group) → suc j < length groups → AreGroups k L i groups (drop i chunks) → g.first ≡ (get_or groups j g).first →
      g.chunks ≡ (get_or groups j g).chunks + (get_or groups (suc j) g).chunks → IsGroup k L g (chunks_of chunks g) → AreGroups k L i (with_one j g groups) (drop i chunks)
  groups_replaced i zero g [] inside h first count is = absurd (omega (arith, inside))
  groups_replaced i zero g (a ∷ []) inside h first count is = absurd (omega (arith, inside))
  groups_replaced i zero g (a ∷ b ∷ groups) inside h first count is =
      let start = first ∙ h.0 in
      let on : i + a.chunks + b.chunks ≡ i + g.chunks = (let e = count in omega (arith, e)) in (
        start,
        subst (λ n. IsGroup k L g (take g.chunks (drop n chunks))) start is,
        subst (λ n. AreGroups k L (i + g.chunks) groups (drop n (drop i chunks))) (sym count)
            (subst (λ cs. AreGroups k L (i + g.chunks) groups cs) (drop_on a.chunks b.chunks (drop i chunks))
            (subst (λ n. AreGroups k L n groups (drop b.chunks (drop a.chunks (drop i chunks)))) on h.2.2)),
      )
  groups_replaced i (suc j) g [] inside h first count is = absurd (omega (arith, inside))
  groups_replaced i (suc j) g (x ∷ groups) inside h first count is = (
    h.0,
    h.1,
    subst (λ cs. AreGroups k L (i + x.chunks) (with_one j g groups) cs) (sym (drop_on i x.chunks chunks))
        (groups_replaced (i + x.chunks) j g groups (omega (arith, inside)) (moved i x.chunks groups h.2) first count is),
  )

-- ---- rows that can be counted

front_rows : (n : ℕ) (chunks : List Chunk) → rows_in (map chunk_rows (take n chunks)) ≤ rows_in (map chunk_rows chunks)
front_rows n chunks =
    let a : ℕ = rows_in (map chunk_rows (take n chunks)) in let b : ℕ = rows_in (map chunk_rows (drop n chunks)) in
    let both : a + b ≡ rows_in (map chunk_rows chunks) =
    rows_append (map chunk_rows (take n chunks)) (map chunk_rows (drop n chunks)) ∙ ap rows_in (sym (map-append chunk_rows (take n chunks) (drop n chunks))) ∙ ap (λ cs. rows_in (map chunk_rows cs)) (take-append-drop n chunks) in
    omega (arith, both)

back_rows : (n : ℕ) (chunks : List Chunk) → rows_in (map chunk_rows (drop n chunks)) ≤ rows_in (map chunk_rows chunks)
back_rows n chunks =
    let a : ℕ = rows_in (map chunk_rows (take n chunks)) in let b : ℕ = rows_in (map chunk_rows (drop n chunks)) in
    let both : a + b ≡ rows_in (map chunk_rows chunks) =
    rows_append (map chunk_rows (take n chunks)) (map chunk_rows (drop n chunks)) ∙ ap rows_in (sym (map-append chunk_rows (take n chunks) (drop n chunks))) ∙ ap (λ cs. rows_in (map chunk_rows cs)) (take-append-drop n chunks) in
    omega (arith, both)

pub few_rows : (k : LogicalType) (L : Positions → ℕ) (chunks : List Chunk) (a b : Group) → IsGroup k L a (chunks_of chunks a) → IsGroup k L b (chunks_of chunks b) → b.first ≡ a.first + a.chunks → a.rows + b.rows ≤ row_count chunks
few_rows k L chunks a b p q next =
    let both = both_rows k L chunks a b p q next in
    let front = front_rows (a.chunks + b.chunks) (drop a.first chunks) in let back = back_rows a.first chunks in let all = all_counted chunks in
    omega (arith, both, front, back, all)

-- an element that is there, whatever the default
pub same_at : (groups : List Group) (i : ℕ) (a d e : Group) → i < length groups → a ≡ get_or groups i d → a ≡ get_or groups i e
same_at [] i a d e inside is = absurd (omega (arith, inside))
same_at (x ∷ groups) zero a d e inside is = is
same_at (x ∷ groups) (suc i) a d e inside is = same_at groups i a d e (omega (arith, inside)) is
