-- Statements of the laws of skipping: what a proof that is true means for the rows.
use Rattle.std.specs.Prelude.{◌≡◌, ℕ, List, [], ◌++◌, length, map, filter, flat_map, Some, None, Bool, true}
use Rattle.std.specs.List.{AllByRecursion}
use Rattle.vortex_model.specs.LogicalType.{LogicalType}
use Rattle.vortex_model.specs.Content.{Content}
use Rattle.vortex_model.specs.Valid.{IsContent}
use Rattle.vortex_model.specs.Path.{Names}
use Rattle.vortex_model.specs.Kept.{is_leaf}
use Rattle.vortex_model_table.specs.Expression.{Expression, HasFormedLiterals}
use Rattle.vortex_model_table.specs.Truth.{selects, HasTruth}
use Rattle.vortex_model_table.specs.Cut.{cut_row}
use Rattle.vortex_model_table.specs.Table.{Table, rows_of, answer}
use Rattle.vortex_model_table.specs.Statistics.{IsHonest}
use Rattle.vortex_model_table.specs.ZoneMap.{zone_of, statistics_of}
use Rattle.vortex_model_table.specs.Rewrite.{falsifier, satisfier}
use Rattle.vortex_model_table.specs.Sound.{IsSoundFalsifier, IsSoundSatisfier}
use Rattle.vortex_model_table.specs.Scan.{Outcome, skipped_in_group, skipped, whole, tested, chunk_outcome, chunk_zone, proves}
use Rattle.vortex_model_table.specs.Class.{Hopeless, box_of, is_wide}
use Rattle.vortex_model_table.specs.Command.{predicate_fault, appended}

-- the rows that a scan takes of a chunk with this outcome: none, all, or those that pass the test
abbrev pub found_in : (Content → Bool) → Outcome → List Content → List Content
found_in p skipped_in_group chunk = []
found_in p skipped chunk = []
found_in p whole chunk = chunk
found_in p tested chunk = filter p chunk

-- The built-in falsifier of a predicate is sound over any rows of the type, where the predicate has
-- a truth and its literals are of their types.
abbrev pub FalsifiersAreSound : Type 0
FalsifiersAreSound = (k : LogicalType) (e proof : Expression) → HasTruth k e → HasFormedLiterals e →
    falsifier k e ≡ Some proof → IsSoundFalsifier k e proof

-- the built-in satisfier is sound over any rows of the type
abbrev pub SatisfiersAreSound : Type 0
SatisfiersAreSound = (k : LogicalType) (e proof : Expression) → HasTruth k e →
    satisfier k e ≡ Some proof → IsSoundSatisfier k e proof

-- the zone map of a leaf column is honest, whatever the bound length
abbrev pub ZoneMapsAreHonest : Type 0
ZoneMapsAreHonest = (k : LogicalType) (L : ℕ) (cs : List Content) → is_leaf k ≡ true →
    AllByRecursion (IsContent k) cs → IsHonest (statistics_of (zone_of k L cs)) cs

-- a predicate that a scan accepts has a truth
abbrev pub AcceptedPredicatesHaveTruth : Type 0
AcceptedPredicatesHaveTruth =
    (k : LogicalType) (e : Expression) → predicate_fault k e ≡ None → HasTruth k e

-- The scan accepts the predicate, and its literals are of their types.
pub record IsAsked (t : Table) (e : Expression) : Type 0 where
  pub faultless : predicate_fault t.kind e ≡ None
  pub formed : HasFormedLiterals e

-- a chunk whose zone maps falsify the predicate has no row that satisfies it
abbrev pub SkippedChunksHoldNone : Type 0
SkippedChunksHoldNone = (t : Table) (e : Expression) (chunk : List Content) → IsAsked t e →
    AllByRecursion (IsContent t.kind) chunk →
    proves (chunk_zone t chunk) (length chunk) (falsifier t.kind e) ≡ true →
    filter (selects t.kind e) chunk ≡ []

-- a chunk whose box is hopeless has none either, where the predicate is of the wide class
abbrev pub HopelessChunksHoldNone : Type 0
HopelessChunksHoldNone = (t : Table) (e : Expression) (chunk : List Content) →
    predicate_fault t.kind e ≡ None → is_wide e ≡ true →
    AllByRecursion (IsContent t.kind) chunk → Hopeless t.kind e (box_of (chunk_zone t chunk)) →
    filter (selects t.kind e) chunk ≡ []

-- each row of a chunk whose zone maps satisfy the predicate satisfies it
abbrev pub WholeChunksHoldAll : Type 0
WholeChunksHoldAll = (t : Table) (e : Expression) (chunk : List Content) → IsAsked t e →
    AllByRecursion (IsContent t.kind) chunk →
    proves (chunk_zone t chunk) (length chunk) (satisfier t.kind e) ≡ true →
    filter (selects t.kind e) chunk ≡ chunk

-- a scan that skips chunks, or takes them whole, finds the rows that a plain filter finds
abbrev pub SkippingLosesNone : Type 0
SkippingLosesNone = (t : Table) (e : Expression) → IsAsked t e →
    AllByRecursion (λ chunk. AllByRecursion (IsContent t.kind) chunk) t.chunks →
    filter (selects t.kind e) (rows_of t) ≡
    flat_map (λ chunk. found_in (selects t.kind e) (chunk_outcome t e chunk) chunk) t.chunks

-- tables of one type with equal rows in order give each scan the same rows, whatever their chunks
abbrev pub ChunksDoNotShow : Type 0
ChunksDoNotShow = (t u : Table) (paths : List Names) (e : Expression) → t.kind ≡ u.kind →
    rows_of t ≡ rows_of u → answer t paths e ≡ answer u paths e

-- after an append a scan answers the rows of before, and then those of the batch that satisfy the
-- predicate
abbrev pub AppendsAnswerBehind : Type 0
AppendsAnswerBehind = (t : Table) (rows : List Content) (paths : List Names) (e : Expression) →
    answer (appended t rows) paths e ≡ answer t paths e ++
    map (cut_row paths t.kind) (filter (selects t.kind e) rows)
