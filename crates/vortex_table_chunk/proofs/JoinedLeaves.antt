-- Leaves of groups, whose statistics are those of their chunks joined.
use Rattle.std.proofs.Common.{◌≡◌, refl, ◌∙◌, ap, subst, ℕ, List, Bool, true, false, Some, if◌then◌else◌, [], ◌∷◌, ◌||◌}
use Rattle.vortex_model.specs.LogicalType.{LogicalType}
use Rattle.vortex_model.specs.Content.{Content}
use Rattle.vortex_model.specs.Path.{Positions, eq_positions}
use Rattle.vortex_table_schema.proofs.Places.{is_among, positions_so}
use Rattle.vortex_stats_array.specs.declared.array_stats.ArrayStats.{ArrayStats}
use Rattle.vortex_table_chunk.specs.BoundStat.{bounds_at}
use Rattle.vortex_table_chunk.specs.Joined.{IsJoined, AreJoined}

pub record FoundJoined (k : LogicalType) (L : Positions → ℕ) (leaves : List Positions) (bounds : List ArrayStats) (chunks : List (List Content)) (is : Positions) : Type 0 where
  pub bounds_of : ArrayStats
  pub there : bounds_at leaves bounds is ≡ Some bounds_of
  pub joined : IsJoined k L is bounds_of chunks

pub found_joined : (k : LogicalType) (L : Positions → ℕ) (leaves : List Positions) (bounds : List ArrayStats) (chunks : List (List Content)) (is : Positions) → AreJoined k L leaves bounds chunks → is_among leaves is ≡ true →
    FoundJoined k L leaves bounds chunks is
found_joined k L [] bounds chunks is h g = absurd (cc (g))
found_joined k L (js ∷ leaves) [] chunks is h g = absurd h
found_joined k L (js ∷ leaves) (b ∷ bounds) chunks is h g = by_test (eq_positions js is) refl g (found_joined k L leaves bounds chunks is h.1)
  where
    by_test : (t : Bool) → eq_positions js is ≡ t → t || is_among leaves is ≡ true → (is_among leaves is ≡ true → FoundJoined k L leaves bounds chunks is) → FoundJoined k L (js ∷ leaves) (b ∷ bounds) chunks is
    by_test true e s f = record {
      bounds_of = b;
      there = ap (λ t. if t then Some b else bounds_at leaves bounds is) e;
      joined = subst (λ ks. IsJoined k L ks b chunks) (positions_so js is e) h.0;
    }
    by_test false e s f = record {
      bounds_of = (f s).bounds_of;
      there = ap (λ t. if t then Some b else bounds_at leaves bounds is) e ∙ (f s).there;
      joined = (f s).joined;
    }
