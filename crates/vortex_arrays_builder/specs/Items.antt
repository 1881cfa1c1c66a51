-- The values inside lists and structs.
use Rattle.std.specs.Prelude.{◌≡◌, ◌<◌, ℕ, List, [], ◌∷◌, length, take, replicate, slice_index_or}
use Rattle.std.specs.List.{flat_map}
use Rattle.vortex_model.specs.Content.{Raw, raw_null, raw_tuple, Raws, no_raws, raw_first}

abbrev pub raws_listed : Raws → List Raw
raws_listed no_raws = []
raws_listed (raw_first r rs) = r ∷ raws_listed rs

-- the items of a list, and none for null
abbrev pub raw_items : Raw → List Raw
raw_items (raw_tuple rs) = raws_listed rs
raw_items r = []

-- the items of a list, and m nulls for null
abbrev pub fixed_items : ℕ → Raw → List Raw
fixed_items m raw_null = replicate m raw_null
fixed_items m r = raw_items r

-- The lists are end to end: each begins after the items of those before.
pub record StandEndToEnd (rs : List Raw) (offsets sizes : List ℕ) : Type 0 where
  pub many_offsets : length offsets ≡ length rs
  pub many_sizes : length sizes ≡ length rs
  pub offset : (i : ℕ) → i < length rs →
      slice_index_or offsets i 0 ≡ length (flat_map raw_items (take i rs))
  pub size : (i : ℕ) → i < length rs →
      slice_index_or sizes i 0 ≡ length (raw_items (slice_index_or rs i raw_null))
