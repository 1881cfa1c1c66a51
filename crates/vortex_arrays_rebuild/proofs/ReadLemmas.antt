-- Integers read from a column.
use Rattle.std.proofs.Common.{◌≡◌, ◌∙◌, ℕ, List, length, get_or, ap}
use Rattle.vortex_arrays_model.specs.Layout.{Layout, content_at}
use Rattle.vortex_arrays_model.proofs.CanonicalLemmas.{offsets_are_integers}
use Rattle.vortex_arrays_validity.specs.Places.{places_or}
use Rattle.vortex_arrays_validity.proofs.PlaceLemmas.{place_count, place_read, number_named}
use Rattle.vortex_arrays_rebuild.specs.Indices.{AreRead}

-- the integer of each row
pub all_read : (a : Layout) (xs : List ℕ) → xs ≡ places_or 0 a → AreRead a xs
all_read a xs e = record {
  many = ap length e ∙ place_count 0 a;
  each = λ i l. ap (λ ys. get_or ys i 0) e ∙ place_read 0 a i 0 l ∙ number_named (content_at a i);
}

pub ruleset read = (offsets_are_integers, all_read)
