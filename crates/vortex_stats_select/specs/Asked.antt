-- The rows that one part of AND or OR leaves open, and what a mask has at those.
use Rattle.std.specs.Prelude.{List, Bool, true, false, not, ◌&&◌, map, Option, Some, None}
use Rattle.std.specs.List.{zip}
use Rattle.vortex_stats_bind.specs.Bound.{Bound, opposite, match_test}
use Rattle.vortex_stats_select.specs.declared.asked.Asked.{Asked}

-- a true part leaves AND open where truth is wanted, and a false one where falsehood is
abbrev pub leaves_open : Bool → Bool → Bool
leaves_open true b = b
leaves_open false b = not b

-- of the rows that a mask leaves open, those that another one has
abbrev pub open_rows : Bool → List Bool → List Bool → List Bool
open_rows at mask rows = map (λ p. leaves_open at p.0 && p.1) (zip mask rows)

-- The rows of a mask that are open. All are where no part was tested before.
abbrev pub seen : Option Asked → List Bool → List Bool
seen None rows = rows
seen (Some asked) rows = open_rows asked.at asked.mask.now rows

-- LIKE
abbrev pub is_match : Bound → Bool
is_match (match_test x form negated ignores_case) = true
is_match b = false

-- LIKE, or NOT of it
abbrev pub is_late : Bound → Bool
is_late (opposite x) = is_match x
is_late b = is_match b
