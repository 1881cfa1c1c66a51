-- The rows of runs, by a dictionary of their indices.
use Rattle.std.proofs.Common.{◌≡◌, ◌<◌, ℕ, pos, false, List, length, map, get_or, refl, subst}
use Rattle.std.specs.List.{All}
use Rattle.vortex_model.specs.LogicalType.{u64}
use Rattle.vortex_arrays_model.specs.Layout.{Layout, numbers, required, dictionary, len_of, IsSound}
use Rattle.vortex_arrays_model.specs.Picks.{Picks}
use Rattle.vortex_arrays_view.specs.declared.error.ArrayError.{ArrayError}
use Rattle.vortex_arrays_view.specs.declared.error.ArrayError.TheVariants as error
use Rattle.vortex_arrays_leaf.specs.Faults.{IsLeafFault}
use Rattle.vortex_arrays_core.proofs.Gathered.{names_positions}
use Rattle.vortex_arrays_rebuild.specs.declared.runs.Run.{Run}
use Rattle.vortex_arrays_rebuild.specs.Runs.{positions_in, FitWithin}
use Rattle.vortex_arrays_rebuild.proofs.CopyLemmas.{positions_within}

-- a dictionary of the indices
pub named_rows : (a c : Layout) (n : ℕ) (runs : List Run) → c ≡ numbers u64 (map pos (positions_in runs)) required → IsSound c → IsSound a → n ≡ len_of a → FitWithin n runs → Picks a (dictionary c a false) (length (positions_in runs)) (λ i. get_or (positions_in runs) i 0)
named_rows a c n runs e sc sa same w = names_positions a c (positions_in runs) e sc sa (subst (λ m. All (λ i. i < m) (positions_in runs)) same (positions_within n runs w))

pub named_sound : (a c : Layout) (n : ℕ) (runs : List Run) → c ≡ numbers u64 (map pos (positions_in runs)) required → IsSound c → IsSound a → n ≡ len_of a → FitWithin n runs → IsSound (dictionary c a false)
named_sound a c n runs e sc sa same w = let p = named_rows a c n runs e sc sa same w in p.sound

pub ruleset naming = (named_rows, named_sound)

-- integers without null fail only where memory runs out
pub only_memory : (e : ArrayError) (n : ℕ) → IsLeafFault e required n → e ≡ error.Memory
only_memory error.Memory n h = refl
only_memory e n h = absurd h
