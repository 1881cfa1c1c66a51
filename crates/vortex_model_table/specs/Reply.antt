-- The lines of an input, and the answers to them.
use Rattle.std.specs.Prelude.{◌≡◌, ◌≤◌, ◌+◌, ◌^◌, ℕ, ◌==◌, length, List, [], ◌∷◌, map, flat_map, Option, Some, None, if◌then◌else◌, slice_get}
use Rattle.vortex_model.specs.Content.{Content}
use Rattle.vortex_model.specs.Path.{Positions}
use Rattle.vortex_model_table.specs.ZoneMap.{ZoneMap, group_low, group_high, group_nulls, zone_of_group, values_at, IsGroupTotal, IsGroupConstancy}
use Rattle.vortex_model_table.specs.Statistics.{sum_of}
use Rattle.vortex_model.specs.Refusal.{Refusal, total_passed}
use Rattle.vortex_model_table.specs.Table.{Table, rows_of}
use Rattle.vortex_model_table.specs.Scan.{ScanAnswer, scanned, grouped, chunk_zone_at, kind_at}
use Rattle.vortex_model_table.specs.Command.{Command, append, append_array, scan, describe, refusal_in, after_in, names_of, positions_of}

-- the byte is put before the first line
abbrev pub onto_first_line : ℕ → List (List ℕ) → List (List ℕ)
onto_first_line b [] = (b ∷ []) ∷ []
onto_first_line b (line ∷ lines) = (b ∷ line) ∷ lines

-- An LF ends a line, which the last line may lack. No line follows the last LF if no byte does.
abbrev pub lines : List ℕ → List (List ℕ)
lines [] = []
lines (b ∷ bs) = if b == 10 then [] ∷ lines bs else onto_first_line b (lines bs)

-- the relation of a state, a line, its answer and the next state
abbrev pub Answers : Type 0 → Type 0 → Type 1
Answers S A = S → List ℕ → A → S → Type 0

-- One answer for each line in order, each from the state that the line before led to.
abbrev pub Replies : {S A : Type 0} → Answers S A → S → List (List ℕ) → List A → S → Type 0
Replies {S} {A} answers old [] [] new = new ≡ old
Replies {S} {A} answers old [] (a ∷ rest) new = ⊥
Replies {S} {A} answers old (line ∷ lines) [] new = ⊥
Replies {S} {A} answers old (line ∷ lines) (a ∷ rest) new =
    (mid : S) × answers old line a mid × Replies answers mid lines rest new

-- ---- the answer to one command

-- the chunks of a group
abbrev pub chunks_of_group : Table → ℕ → List (List Content)
chunks_of_group t i =
    elim (slice_get (grouped t.groups t.chunks) i) [ None ↦ [] | Some chunks ↦ chunks ]

-- the zone maps of a group's chunks
abbrev pub chunk_zones : Table → Positions → ℕ → List ZoneMap
chunk_zones t is i =
    map (λ chunk. chunk_zone_at t chunk is (kind_at t.kind is)) (chunks_of_group t i)

-- the zone map of a leaf column of a group, by joins from the left
abbrev pub zone_at : Table → Positions → ℕ → ZoneMap
zone_at t is i = zone_of_group (kind_at t.kind is) (chunk_zones t is i)

-- What a description reports: the group's bounds and null count, and its sum and constancy, or that
-- joins lost them.
pub record Describes (t : Table) (is : Positions) (i : ℕ) (z : ZoneMap) : Type 0 where
  pub low : z.low ≡ group_low (chunk_zones t is i)
  pub high : z.high ≡ group_high (chunk_zones t is i)
  pub nulls : z.nulls ≡ group_nulls (chunk_zones t is i)
  pub total : IsGroupTotal (kind_at t.kind is)
      (map (λ chunk. sum_of (values_at is chunk)) (chunks_of_group t i)) z.total
  pub constant : IsGroupConstancy (values_at is (flat_map (λ chunk. chunk) (chunks_of_group t i)))
      (chunk_zones t is i) z.constant

-- the answers to a command
pub data Answer : Type 0 where
  accepted : Answer
  out_of_memory : Answer
  refused : Refusal → Answer
  found : ScanAnswer → Answer
  described : ZoneMap → Answer

-- the answer to an accepted command
abbrev pub Says : Table → Command → Answer → Type 0
Says t (scan paths e) a = a ≡ found (scanned t (map names_of paths) e)
Says t (describe path i) a =
    (z : ZoneMap) × Describes t (positions_of t.kind path) i z × (a ≡ described z)
Says t c a = a ≡ accepted

-- the answer to an accepted command where there may be no table yet
abbrev pub SaysIn : Option Table → Command → Answer → Type 0
SaysIn (Some t) c a = Says t c a
SaysIn None c a = a ≡ accepted

-- Which totals a command would pass: more rows than can be counted, or more than the layouts that
-- hold them have room for.
abbrev pub Totals : Type 1
Totals = Option Table → Command → Type 0

-- With the rows of the command, the table would have 2^64 rows or more.
abbrev pub RowsPass : Totals
RowsPass (Some t) (append k values) = 2 ^ 64 ≤ length (rows_of t) + length values
RowsPass (Some t) (append_array k rows) = 2 ^ 64 ≤ length (rows_of t) + length rows
RowsPass old c = ⊥

-- A command is refused by its first reason, is accepted, or is answered by `out_of_memory`. A total
-- is the reason only where there is no other. The table changes only where the command is accepted.
abbrev pub RespondsTo : Totals → Option Table → Command → Answer → Option Table → Type 0
RespondsTo passes old c out_of_memory new = new ≡ old
RespondsTo passes old c (refused total_passed) new =
    (refusal_in old c ≡ None) × passes old c × (new ≡ old)
RespondsTo passes old c (refused r) new = (refusal_in old c ≡ Some r) × (new ≡ old)
RespondsTo passes old c a new = (refusal_in old c ≡ None) × SaysIn old c a × (new ≡ after_in old c)
