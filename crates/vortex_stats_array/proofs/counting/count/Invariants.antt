use Rattle.std.proofs.Common.{◌≡◌, ◌+◌, ℕ, length}
use Rattle.std.specs.Prelude.{sum}
use Rattle.std.specs.List.{range_with_len}
use Rattle.std.specs.List.Sorted.{IsPermutation}
use Rattle.std.proofs.Common.{map}
use Rattle.vortex_model.specs.Content.{Content}
use Rattle.vortex_arrays_model.specs.Layout.{pick}
use Rattle.vortex_stats_array.specs.Counted.{ReadsCodes, spread}
use Rattle.vortex_stats_array.proofs.counting.count.Given as goal

abbrev pub invariant-loop-i : goal.invariant-loop-i
invariant-loop-i g l = (length l.of_values.items ≡ l.value_count)
    × (l.nulls + sum l.of_values.items ≡ l.i)
    × ((codes : ℕ → Content) → ReadsCodes l.row_count (λ i v. g.F.Fn.post l.code (i, tt) v) codes → (value : ℕ → Content) →
    IsPermutation (spread l.of_values.items l.nulls value 0) (map (λ i. pick (codes i) value) (range_with_len 0 l.i)))
