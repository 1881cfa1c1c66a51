-- How the chunks of a table are shared out among workers.
use Rattle.std.specs.Prelude.{◌≡◌, ◌⊎◌, ℕ, suc, ◌+◌, ◌<◌, ◌≤◌, ◌^◌, List, [], ◌∷◌, ◌++◌, length, flat_map, drop, slice_index_or, Bool, true, false, ◌==◌, if◌then◌else◌, ◌↔◌, Contains, Any, Option, None}
use Rattle.std.specs.Int.{div_ceil}
use Rattle.std.specs.List.{AllByRecursion, list_any}
use Rattle.vortex_arrays_model.specs.Layout.{Layout, rows_of}
use Rattle.vortex_model_table.specs.Class.{Hopeless, is_wide, is_bounded}
use Rattle.vortex_table.specs.Command.{Command, refusal}
use Rattle.vortex_table.specs.ModelLawsExact.{box_of_chunk}
use Rattle.vortex_table.specs.Content.{Content}
use Rattle.vortex_table.specs.LogicalType.{LogicalType}
use Rattle.vortex_table.specs.Expression.{Expression}
use Rattle.vortex_table.specs.Refusal.{Refusal, or_else}
use Rattle.vortex_table.specs.Scan.{skipped_chunks}
use Rattle.vortex_table.specs.Table.{Table}
use Rattle.vortex_table.specs.TableLayoutKept.{KeepsLayout}
use Rattle.vortex_table.specs.TooLarge.{AreTooLarge}

-- ---- which chunks

abbrev pub is_among : ℕ → List ℕ → Bool
is_among i numbers = list_any (λ j. j == i) numbers

-- of the chunks, which are numbered from i, those that are not left out
abbrev pub kept : List ℕ → ℕ → List (List Content) → List (List Content)
kept left i [] = []
kept left i (chunk ∷ chunks) =
    if is_among i left then kept left (suc i) chunks else chunk ∷ kept left (suc i) chunks

-- each number that is left out is that of a chunk that a scan skips
abbrev pub AreSkipped : List ℕ → Table → Expression → Type 0
AreSkipped left t e = (i : ℕ) → is_among i left ≡ true → is_among i (skipped_chunks t e) ≡ true

-- A chunk that has both bounds of each column outside null tests is left out exactly where no choice
-- of values in its box makes the predicate true. The predicate is of the wide class.
abbrev pub HasTheHopeless : Table → Expression → List ℕ → Type 0
HasTheHopeless t e left = (before : List (List Content)) (chunk : List Content)
    (after : List (List Content)) → is_wide e ≡ true → t.chunks ≡ before ++ chunk ∷ after →
    is_bounded (box_of_chunk t chunk) e ≡ true →
    Contains left (length before) ↔ Hopeless t.kind e (box_of_chunk t chunk)

-- for each chunk of a number of them, whether it is left out
pub record AreMarks (left : List ℕ) (count : ℕ) (marks : List Bool) : Type 0 where
  pub long : length marks ≡ count
  pub told : (i : ℕ) → i < count → slice_index_or marks i false ≡ is_among i left

-- ---- how many rows

-- how many rows the chunks have together
abbrev pub row_count : List (List Content) → ℕ
row_count chunks = length (flat_map (λ chunk. chunk) chunks)

-- There are no chunks, or all but the last have fewer rows than this.
abbrev pub IsWithin : ℕ → List (List Content) → Type 0
IsWithin share chunks = (chunks ≡ []) ⊎ ((front : List (List Content)) × (last : List Content)
    × (chunks ≡ front ++ last ∷ []) × (row_count front < share))

-- ---- refusals

-- the first refusal of a command by these tables, in order
abbrev pub first_refusal : Command → List Table → Option Refusal
first_refusal c [] = None
first_refusal c (t ∷ ts) = or_else (refusal t c) (first_refusal c ts)

-- The layout of one of these arrays, as the rows of a chunk, is not one that appends to a table of
-- the type keep, and its rows are too large to be laid out plain.
abbrev pub HasTooLarge : LogicalType → List Layout → Type 0
HasTooLarge k arrays = Any (λ a. (¬ KeepsLayout k a) × AreTooLarge k (rows_of a)) arrays

-- ---- splits

-- The parts are of the table's type. Their chunks, end to end, are those of the table that are not
-- left out. There is a part, and at most one for each worker. A part has an equal share of the
-- rows, and at most one chunk more.
pub record IsSplit (whole : Table) (left : List ℕ) (workers : ℕ) (parts : List Table) :
    Type 0 where
  pub kinds : AllByRecursion (λ part. part.kind ≡ whole.kind) parts
  pub chunks : flat_map (λ part. part.chunks) parts ≡ kept left 0 whole.chunks
  pub some : 0 < length parts
  pub most : length parts ≤ workers
  pub fair : AllByRecursion
      (λ part. IsWithin (div_ceil (row_count (kept left 0 whole.chunks)) workers) part.chunks) parts

-- ---- steps of a split

-- the part has no chunk, and is of the table's type
pub record IsEmptyOf (whole part : Table) : Type 0 where
  pub kind : part.kind ≡ whole.kind
  pub chunks : part.chunks ≡ []

-- the chunk at the number, which has rows, is so
pub record HasNextChunk (i : ℕ) (chunks : List (List Content)) (Holds : List Content → Type 0) :
    Type 0 where
  pub chunk : List Content
  pub next : drop i chunks ≡ chunk ∷ drop (i + 1) chunks
  pub some : 0 < length chunk
  pub holds : Holds chunk

-- the chunk comes after the others
pub record HasOneMore (chunk : List Content) (old new : Table) : Type 0 where
  pub kind : new.kind ≡ old.kind
  pub chunks : new.chunks ≡ old.chunks ++ chunk ∷ []

-- the rows of the chunk at the number can be counted together with those of the part
abbrev pub HasRoom : ℕ → List (List Content) → Table → Type 0
HasRoom i chunks part = (chunk : List Content) → drop i chunks ≡ chunk ∷ drop (i + 1) chunks →
    row_count part.chunks + length chunk < 2 ^ 64

-- The part has fewer rows than its share and stays, or it comes after the others now and the next
-- has no chunk.
abbrev pub ClosesFull : LogicalType → ℕ → List Table → Table → List Table → Table → Type 0
ClosesFull k share old part new next =
    ((row_count part.chunks < share) × (new ≡ old) × (next ≡ part)) ⊎
    ((share ≤ row_count part.chunks) × (new ≡ old ++ part ∷ []) × (next.kind ≡ k)
    × (next.chunks ≡ []))
