-- The bytes of lent buffers.
use Rattle.std.specs.Prelude.{ℕ, List, [], ◌∷◌}
use Rattle.vortex_stats_match.specs.declared.buffers.Buffers.{Buffers}
use Rattle.vortex_stats_match.specs.declared.buffers.Buffers.TheVariants.{Shared, One}

-- the bytes of each buffer
abbrev pub buffers_in : Buffers → List (List ℕ)
buffers_in (Shared buffers) = buffers.now
buffers_in (One bytes) = bytes.now ∷ []
