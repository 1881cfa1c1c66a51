-- What is true of the chunks and the groups of a table is true of their clones.
use Rattle.std.proofs.Common.{◌≡◌, refl, sym, ap, subst, ◌∙◌, ℕ, zero, suc, ◌+◌, ◌<◌, List, [], ◌∷◌, map, take, drop, Option, Some, None, option_map, Vec, Global}
use Rattle.std.specs.List.{AllZip}
use Rattle.std.proofs.Math.Logic.{∥∥₁_map}
use Rattle.vortex_model.specs.LogicalType.{LogicalType}
use Rattle.vortex_model.specs.Path.{Positions}
use Rattle.vortex_table_schema.specs.Leaves.{leaf_positions}
use Rattle.vortex_table_chunk.specs.Chunk.{chunk_rows}
use Rattle.vortex_table_chunk.specs.Cloned.{IsCloneOf}
use Rattle.vortex_table_chunk.specs.declared.chunk.Chunk.{Chunk}
use Rattle.vortex_stats_array.specs.declared.array_stats.ArrayStats.{ArrayStats}
use Rattle.vortex_table_chunk.proofs.ClonedLemmas.{all_own_joined}
use Rattle.vortex_table_core.specs.Group.{HasStatistics, IsGroup, AreGroups, chunks_of}
use Rattle.vortex_table_core.specs.Kept.{SayTheSame}
use Rattle.vortex_table_core.specs.Statistics.{statistics_by, statistics_in}
use Rattle.vortex_table_core.specs.declared.group.Group.{Group}

-- ---- chunks

pub own_arrays : (old new : List Chunk) → AllZip IsCloneOf old new → map (λ (c : Chunk). c.array) new ≡ map (λ (c : Chunk). c.array) old
own_arrays [] [] z = refl
own_arrays (c ∷ old) (d ∷ new) z = λ i. z.0.array i ∷ own_arrays old new z.1 i
own_arrays [] (d ∷ new) z = absurd z
own_arrays (c ∷ old) [] z = absurd z

pub own_bounds : (old new : List Chunk) → AllZip IsCloneOf old new → AllZip SayTheSame (map (λ (c : Chunk). c.bounds.items) old) (map (λ (c : Chunk). c.bounds.items) new)
own_bounds [] [] z = tt
own_bounds (c ∷ old) (d ∷ new) z = (z.0.bounds, own_bounds old new z.1)
own_bounds [] (d ∷ new) z = absurd z
own_bounds (c ∷ old) [] z = absurd z

zip_front : {X : Type 0} (R : X → X → Type 0) (n : ℕ) (xs ys : List X) → AllZip R xs ys → AllZip R (take n xs) (take n ys)
zip_front R zero xs ys z = tt
zip_front R (suc n) [] [] z = tt
zip_front R (suc n) (x ∷ xs) (y ∷ ys) z = (z.0, zip_front R n xs ys z.1)
zip_front R (suc n) [] (y ∷ ys) z = absurd z
zip_front R (suc n) (x ∷ xs) [] z = absurd z

zip_behind : {X : Type 0} (R : X → X → Type 0) (n : ℕ) (xs ys : List X) → AllZip R xs ys → AllZip R (drop n xs) (drop n ys)
zip_behind R zero xs ys z = z
zip_behind R (suc n) [] [] z = tt
zip_behind R (suc n) (x ∷ xs) (y ∷ ys) z = zip_behind R n xs ys z.1
zip_behind R (suc n) [] (y ∷ ys) z = absurd z
zip_behind R (suc n) (x ∷ xs) [] z = absurd z

-- ---- equal items

pub all_same : {X : Type 0} (R : X → X → Type 0) → ((x y : X) → R x y → y ≡ x) → (xs ys : List X) → AllZip R xs ys → ys ≡ xs
all_same R one [] [] z = refl
all_same R one (x ∷ xs) (y ∷ ys) z = λ i. one x y z.0 i ∷ all_same R one xs ys z.1 i
all_same R one [] (y ∷ ys) z = absurd z
all_same R one (x ∷ xs) [] z = absurd z

-- ---- groups

abbrev pub BothSay : Option (List ArrayStats) → Option (List ArrayStats) → Type 0
BothSay None None = Unit {0}
BothSay (Some old) (Some new) = SayTheSame old new
BothSay old new = ⊥

pub record IsSameGroup (old new : Group) : Type 0 where
  pub first : new.first ≡ old.first
  pub chunks : new.chunks ≡ old.chunks
  pub rows : new.rows ≡ old.rows
  pub joined : BothSay (option_map (λ v. v.items) old.joined) (option_map (λ v. v.items) new.joined)

abbrev pub Many : Type 0
Many = Vec ArrayStats Global

abbrev pub with_joined : Group → Option Many → Group
with_joined g o = record { first = g.first; chunks = g.chunks; rows = g.rows; joined = o }

-- what the clone of a group says, as a relation
module _ (R : Group → Group → Type 0)
    (first : (g h : Group) → R g h → h.first ≡ g.first)
    (chunks : (g h : Group) → R g h → h.chunks ≡ g.chunks)
    (rows : (g h : Group) → R g h → h.rows ≡ g.rows)
    (both : (g h : Group) (v w : Many) → R (with_joined g (Some v)) (with_joined h (Some w)) → SayTheSame v.items w.items)
    (lost : (g h : Group) (v : Many) → R (with_joined g (Some v)) (with_joined h None) → ⊥)
    (won : (g h : Group) (v : Many) → R (with_joined g None) (with_joined h (Some v)) → ⊥) where
  joined_same : (g h : Group) (o p : Option Many) → R (with_joined g o) (with_joined h p) → BothSay (option_map (λ v. v.items) o) (option_map (λ v. v.items) p)
  joined_same g h None None r = tt
  joined_same g h (Some v) (Some w) r = both g h v w r
  joined_same g h None (Some w) r = absurd (won g h w r)
  joined_same g h (Some v) None r = absurd (lost g h v r)

  pub groups_same : (gs hs : List Group) → AllZip R gs hs → AllZip IsSameGroup gs hs
  groups_same [] [] z = tt
  groups_same (g ∷ gs) (h ∷ hs) z = (
    record { first = first g h z.0; chunks = chunks g h z.0; rows = rows g h z.0; joined = joined_same g h g.joined h.joined z.0 },
    groups_same gs hs z.1,
  )
  groups_same [] (h ∷ hs) z = absurd z
  groups_same (g ∷ gs) [] z = absurd z

pub own_sizes : (gs hs : List Group) → AllZip IsSameGroup gs hs → map (λ (g : Group). g.chunks) hs ≡ map (λ (g : Group). g.chunks) gs
own_sizes [] [] z = refl
own_sizes (g ∷ gs) (h ∷ hs) z = λ i. z.0.chunks i ∷ own_sizes gs hs z.1 i
own_sizes [] (h ∷ hs) z = absurd z
own_sizes (g ∷ gs) [] z = absurd z

module _ (k : LogicalType) (L : Positions → ℕ) where
  own_has : (o p : Option (List ArrayStats)) (chunks : List Chunk) → BothSay o p → HasStatistics k L o chunks → HasStatistics k L p chunks
  own_has None None chunks s h = h
  own_has (Some old) (Some new) chunks s h = (h.0, ∥∥₁_map h.1 (λ all. all_own_joined k L (map chunk_rows chunks) (leaf_positions k) old new s all))
  own_has None (Some new) chunks s h = absurd s
  own_has (Some old) None chunks s h = absurd s

  own_group : (g h : Group) (chunks : List Chunk) → IsSameGroup g h → IsGroup k L g chunks → IsGroup k L h chunks
  own_group g h chunks s is = record {
    count = is.count ∙ sym s.chunks;
    some = subst (λ n. 0 < n) (sym s.chunks) is.some;
    rows = is.rows ∙ sym s.rows;
    statistics = own_has (option_map (λ v. v.items) g.joined) (option_map (λ v. v.items) h.joined) chunks s.joined is.statistics;
  }

  pub own_groups : (i : ℕ) (gs hs : List Group) (chunks : List Chunk) → AllZip IsSameGroup gs hs → AreGroups k L i gs chunks → AreGroups k L i hs chunks
  own_groups i [] [] chunks z are = are
  own_groups i (g ∷ gs) (h ∷ hs) chunks z are = (
    z.0.first ∙ are.0,
    subst (λ n. IsGroup k L h (take n chunks)) (sym z.0.chunks) (own_group g h (take g.chunks chunks) z.0 are.1),
    subst (λ n. AreGroups k L (i + n) hs (drop n chunks)) (sym z.0.chunks) (own_groups (i + g.chunks) gs hs (drop g.chunks chunks) z.1 are.2),
  )
  own_groups i [] (h ∷ hs) chunks z are = absurd z
  own_groups i (g ∷ gs) [] chunks z are = absurd z

-- ---- the statistics of groups

said_by_both : (o p : Option (List ArrayStats)) (old new : List Chunk) → BothSay o p → AllZip IsCloneOf old new → SayTheSame (statistics_by o old) (statistics_by p new)
said_by_both (Some xs) (Some ys) old new s z = s
said_by_both None None [] [] s z = tt
said_by_both None None (c ∷ old) (d ∷ new) s z = z.0.bounds
said_by_both None None [] (d ∷ new) s z = absurd z
said_by_both None None (c ∷ old) [] s z = absurd z
said_by_both None (Some ys) old new s z = absurd s
said_by_both (Some xs) None old new s z = absurd s

pub own_statistics : (gs hs : List Group) (old new : List Chunk) → AllZip IsSameGroup gs hs → AllZip IsCloneOf old new → AllZip SayTheSame (map (statistics_in old) gs) (map (statistics_in new) hs)
own_statistics [] [] old new s z = tt
own_statistics (g ∷ gs) (h ∷ hs) old new s z = (
  (let same : take g.chunks (drop g.first new) ≡ chunks_of new h = λ i. take (sym s.0.chunks i) (drop (sym s.0.first i) new) in
      subst (λ cs. SayTheSame (statistics_in old g) (statistics_by (option_map (λ v. v.items) h.joined) cs)) same
      (said_by_both (option_map (λ v. v.items) g.joined) (option_map (λ v. v.items) h.joined) (chunks_of old g) (take g.chunks (drop g.first new)) s.0.joined
      (zip_front IsCloneOf g.chunks (drop g.first old) (drop g.first new) (zip_behind IsCloneOf g.first old new z)))),
  own_statistics gs hs old new s.1 z,
)
own_statistics [] (h ∷ hs) old new s z = absurd s
own_statistics (g ∷ gs) [] old new s z = absurd s
