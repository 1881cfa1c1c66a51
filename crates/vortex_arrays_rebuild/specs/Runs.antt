-- Neighbouring elements that are copied together.
use Rattle.std.specs.Prelude.{◌≤◌, ◌+◌, ◌*◌, ◌^◌, ℕ, List, take, drop}
use Rattle.std.specs.List.{flat_map, range_with_len, All}
use Rattle.vortex_arrays_view.specs.declared.error.ArrayError.{ArrayError}
use Rattle.vortex_arrays_view.specs.declared.error.ArrayError.TheVariants as error
use Rattle.vortex_arrays_rebuild.specs.declared.runs.Run.{Run}

-- the indices of the elements of a run
abbrev pub positions_of : Run → List ℕ
positions_of run = range_with_len run.start run.len

-- the indices of the elements of all runs, run after run
abbrev pub positions_in : List Run → List ℕ
positions_in runs = flat_map positions_of runs

-- the items of a run
abbrev pub items_of_run : {A : Type 0} → List A → Run → List A
items_of_run xs run = take run.len (drop run.start xs)

-- the items of all runs, run after run
abbrev pub items_in : {A : Type 0} → List A → List Run → List A
items_in xs runs = flat_map (items_of_run xs) runs

-- the indices of the elements of the fixed-size lists at indices
abbrev pub elements_at : ℕ → List ℕ → List ℕ
elements_at size ps = flat_map (λ p. range_with_len (p * size) size) ps

-- a run ends within n elements
abbrev pub LiesWithin : ℕ → Run → Type 0
LiesWithin n run = run.start + run.len ≤ n

-- each run ends within n elements
pub record FitWithin (n : ℕ) (runs : List Run) : Type 0 where
  pub each : All (LiesWithin n) runs

-- memory ran out, or there are 2^64 elements or more
abbrev pub IsLengthFault : ArrayError → ℕ → Type 0
IsLengthFault error.Memory n = Unit {0}
IsLengthFault error.Total n = 2 ^ 64 ≤ n
IsLengthFault e n = ⊥
