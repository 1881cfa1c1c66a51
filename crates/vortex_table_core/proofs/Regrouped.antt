-- The groups of a table whose chunks are converted.
use Rattle.std.proofs.Common.{◌≡◌, refl, sym, ◌∙◌, ap, subst, ℕ, ◌+◌, ◌-◌, ◌<◌, ◌≤◌, nat_lt, List, [], ◌∷◌, ◌++◌, length, map, take, drop, get_or, true, Option, Some, None, option_map, arith}
use Rattle.std.specs.Prelude.{is_some}
use Rattle.std.proofs.Math.Logic.{∥∥₁_map}
use Rattle.std.proofs.lemmas.Bool.Decides.{nat_tests}
use Rattle.std.proofs.lemmas.List.{length-map, take_more, take-append-drop}
use Rattle.std.proofs.lemmas.List.Sums.{sum_by-append}
use Rattle.vortex_arrays_model.specs.Layout.{len_of}
use Rattle.vortex_model.specs.LogicalType.{LogicalType}
use Rattle.vortex_model.specs.Path.{Positions}
use Rattle.vortex_table_chunk.specs.Chunk.{chunk_rows, row_count}
use Rattle.vortex_table_chunk.specs.Joined.{rows_in}
use Rattle.vortex_table_chunk.specs.declared.chunk.Chunk.{Chunk}
use Rattle.vortex_stats_array.specs.declared.array_stats.ArrayStats.{ArrayStats}
use Rattle.vortex_table_chunk.proofs.TypedRows.{all_counted}
use Rattle.vortex_table_core.specs.Group.{HasStatistics, IsGroup, AreGroups, chunks_of}
use Rattle.vortex_table_core.specs.Retyped.{IsSizeOf, HasOrdered, IsRegrouped, AreRegrouped}
use Rattle.vortex_table_core.specs.declared.group.Group.{Group}
use Rattle.vortex_table_core.proofs.Groups.{take_said, drop_said, drop_on}
use Rattle.vortex_table_core.proofs.Added.{as_there}
use Rattle.vortex_table_core.proofs.Proven.{is_more}

has_many : (k : LogicalType) (L : Positions → ℕ) (o : Option (List ArrayStats)) (chunks : List Chunk) → HasStatistics k L o chunks → is_some o ≡ nat_lt 1 (length chunks)
has_many k L None chunks h = ap (nat_lt 1) (sym h)
has_many k L (Some bounds) chunks h = sym (is_more (length chunks) h.0)

ordered_has : (k : LogicalType) (L : Positions → ℕ) (o : Option (List ArrayStats)) (chunks : List Chunk) → HasOrdered k L o chunks → HasStatistics k L o chunks
ordered_has k L None chunks h = h
ordered_has k L (Some bounds) chunks h = (h.0, ∥∥₁_map h.1 (λ p. p.0))

-- chunks of one type and of another, with the same rows
module _ (s t : LogicalType) (L : Positions → ℕ) (old new : List Chunk) (same : map chunk_rows new ≡ map chunk_rows old) where
  behind : (i : ℕ) → map chunk_rows (drop i new) ≡ map chunk_rows (drop i old)
  behind i = sym (drop_said i new) ∙ ap (drop i) same ∙ drop_said i old

  own_rows : (g : Group) → map chunk_rows (chunks_of new g) ≡ map chunk_rows (chunks_of old g)
  own_rows g = sym (take_said g.chunks (drop g.first new)) ∙ ap (take g.chunks) (behind g.first) ∙ take_said g.chunks (drop g.first old)

  as_many : (g : Group) → length (chunks_of new g) ≡ length (chunks_of old g)
  as_many g = sym (length-map (chunks_of new g) chunk_rows) ∙ ap length (own_rows g) ∙ length-map (chunks_of old g) chunk_rows

  pub size_of : (g : Group) → IsGroup s L g (chunks_of old g) → IsSizeOf g (map chunk_rows (chunks_of new g))
  size_of g is = record {
    count = length-map (chunks_of new g) chunk_rows ∙ as_many g ∙ is.count;
    some = is.some;
    rows = ap rows_in (own_rows g) ∙ is.rows;
    many = as_there (λ v. v.items) g.joined ∙ has_many s L (option_map (λ v. v.items) g.joined) (chunks_of old g) is.statistics
        ∙ ap (nat_lt 1) (sym (length-map (chunks_of new g) chunk_rows ∙ as_many g));
  }

  group_again : (g h : Group) → IsGroup s L g (chunks_of old g) → IsRegrouped t L new g h → IsGroup t L h (chunks_of new h)
  group_again g h is made =
      let here : chunks_of new h ≡ chunks_of new g = (λ i. take (made.count i) (drop (made.first i) new)) in
      let more = made.count in let some = is.some in record {
        count = ap length here ∙ as_many g ∙ is.count ∙ sym made.count;
        some = omega (arith, more, some);
        rows = ap (λ cs. rows_in (map chunk_rows cs)) here ∙ ap rows_in (own_rows g) ∙ is.rows ∙ sym made.rows;
        statistics = ordered_has t L (option_map (λ v. v.items) h.joined) (chunks_of new h) made.statistics;
      }

  none_there : (i : ℕ) (xs : List Chunk) → AreGroups s L i [] xs → xs ≡ []
  none_there i [] h = refl
  none_there i (c ∷ xs) h = absurd h

  none_said : (xs ys : List Chunk) → map chunk_rows xs ≡ map chunk_rows ys → ys ≡ [] → xs ≡ []
  none_said [] ys e f = refl
  none_said (c ∷ xs) ys e f = let clash : map chunk_rows (c ∷ xs) ≡ [] = e ∙ ap (map chunk_rows) f in absurd (cc (clash))

  pub groups_again : (i : ℕ) (gs hs : List Group) → AreGroups s L i gs (drop i old) → AreRegrouped t L new gs hs → AreGroups t L i hs (drop i new)
  groups_again i [] [] h made = subst (λ cs. AreGroups t L i [] cs) (sym (none_said (drop i new) (drop i old) (behind i) (none_there i (drop i old) h))) tt
  groups_again i (g ∷ gs) (x ∷ hs) h made =
      let is : IsGroup s L g (chunks_of old g) = subst (λ n. IsGroup s L g (take g.chunks (drop n old))) (sym h.0) h.1 in
      let start : x.first ≡ i = made.0.first ∙ h.0 in
      let rest = groups_again (i + g.chunks) gs hs (subst (λ cs. AreGroups s L (i + g.chunks) gs cs) (drop_on i g.chunks old) h.2) made.1 in (
        start,
        subst (λ n. IsGroup t L x (take x.chunks (drop n new))) start (group_again g x is made.0),
        subst (λ n. AreGroups t L (i + n) hs (drop n (drop i new))) (sym made.0.count) (subst (λ cs. AreGroups t L (i + g.chunks) hs cs) (sym (drop_on i g.chunks new)) rest),
      )
  groups_again i [] (x ∷ hs) h made = absurd made
  groups_again i (g ∷ gs) [] h made = absurd made

  pub sizes_again : (gs hs : List Group) → AreRegrouped t L new gs hs → map (λ (g : Group). g.chunks) hs ≡ map (λ (g : Group). g.chunks) gs
  sizes_again [] [] h = refl
  sizes_again (g ∷ gs) (x ∷ hs) h = (λ i. h.0.count i ∷ sizes_again gs hs h.1 i)
  sizes_again [] (x ∷ hs) h = absurd h
  sizes_again (g ∷ gs) [] h = absurd h

  pub counted_again : row_count new ≡ row_count old
  counted_again = sym (all_counted new) ∙ ap rows_in same ∙ all_counted old

-- one more group
pub regrouped_more : (t : LogicalType) (L : Positions → ℕ) (chunks : List Chunk) (gs hs : List Group) (g h : Group) → AreRegrouped t L chunks gs hs → IsRegrouped t L chunks g h →
    AreRegrouped t L chunks (gs ++ g ∷ []) (hs ++ h ∷ [])
regrouped_more t L chunks [] [] g h p q = (q, tt)
regrouped_more t L chunks (x ∷ gs) (y ∷ hs) g h p q = (p.0, regrouped_more t L chunks gs hs g h p.1 q)
regrouped_more t L chunks [] (y ∷ hs) g h p q = absurd p
regrouped_more t L chunks (x ∷ gs) [] g h p q = absurd p

pub next_regrouped : (t : LogicalType) (L : Positions → ℕ) (chunks : List Chunk) (gs old new : List Group) (i : ℕ) (g h : Group) → i < length gs → g ≡ get_or gs i g → new ≡ old ++ h ∷ [] →
    AreRegrouped t L chunks (take i gs) old → IsRegrouped t L chunks g h → AreRegrouped t L chunks (take (i + 1) gs) new
next_regrouped t L chunks gs old new i g h inside is pushed before made =
    subst (λ xs. AreRegrouped t L chunks xs new) (sym (take_more gs i g inside ∙ ap (λ x. take i gs ++ x ∷ []) (sym is)))
    (subst (λ ys. AreRegrouped t L chunks (take i gs ++ g ∷ []) ys) (sym pushed) (regrouped_more t L chunks (take i gs) old g h before made))

-- ---- the chunks of one group

pub sliced : (g : Group) (chunks : List Chunk) → take (g.first + g.chunks - g.first) (drop g.first chunks) ≡ chunks_of chunks g
sliced g chunks = ap (λ n. take n (drop g.first chunks)) (let e : g.first + g.chunks - g.first ≡ g.chunks = omega arith in e)

many_so : (n : ℕ) → nat_lt 1 n ≡ true → 1 < n
many_so n h = grind (arith, nat_tests, h)

pub own_many : (g : Group) (chunks : List Chunk) → IsSizeOf g (map chunk_rows (chunks_of chunks g)) → is_some g.joined ≡ true → 1 < length (chunks_of chunks g)
own_many g chunks size h = subst (λ n. 1 < n) (length-map (chunks_of chunks g) chunk_rows) (many_so (length (map chunk_rows (chunks_of chunks g))) (sym size.many ∙ h))

-- ---- how many rows a part of the chunks has

both_parts : (n : ℕ) (chunks : List Chunk) → row_count chunks ≡ row_count (take n chunks) + row_count (drop n chunks)
both_parts n chunks = ap row_count (sym (take-append-drop n chunks)) ∙ sum_by-append (λ (c : Chunk). len_of c.array) (take n chunks) (drop n chunks)

pub few_within : (n from : ℕ) (chunks : List Chunk) → row_count (take n (drop from chunks)) ≤ row_count chunks
few_within n from chunks =
    let whole = both_parts from chunks in let part = both_parts n (drop from chunks) in
    omega (arith, whole, part)
