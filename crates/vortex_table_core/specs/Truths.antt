-- Runs of truths that are true.
use Rattle.std.specs.Prelude.{◌≡◌, ◌≤◌, ◌<◌, ◌+◌, ◌&&◌, ℕ, List, Bool, true, false, length, nat_le, slice_index_or}
use Rattle.std.specs.List.{list_all, slice_range}

-- the truths from one index to before another are true
abbrev pub AreTrue : List Bool → ℕ → ℕ → Type 0
AreTrue bits from to = (i : ℕ) → from ≤ i → i < to → slice_index_or bits i false ≡ true

-- the 64 from a place on
abbrev pub is_block : List Bool → ℕ → Bool
is_block bits from =
    nat_le (from + 64) (length bits) && list_all (λ b. b) (slice_range bits from (from + 64))
