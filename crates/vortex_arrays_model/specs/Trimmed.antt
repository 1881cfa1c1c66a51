-- A list view without the elements before its first list and after its last.
use Rattle.std.specs.Prelude.{◌≡◌, ◌<◌, ◌≤◌, ◌+◌, ◌-◌, ℕ, pos, Bool}
use Rattle.vortex_model.specs.Content.{integer}
use Rattle.vortex_arrays_model.specs.Layout.{Layout, list_views, Valid, len_of, content_at, number_in}
use Rattle.vortex_arrays_model.specs.Picks.{Picks}

-- the least offset and the greatest end, also of null and empty lists
pub record AreBounds (o s : Layout) (from to : ℕ) : Type 0 where
  pub least : (i : ℕ) → i < len_of o → from ≤ number_in (content_at o i)
  pub greatest : (i : ℕ) → i < len_of o → number_in (content_at o i) +
      number_in (content_at s i) ≤ to
  pub lowest : ℕ
  pub lowest_within : lowest < len_of o
  pub begins : number_in (content_at o lowest) ≡ from
  pub highest : ℕ
  pub highest_within : highest < len_of o
  pub ends : number_in (content_at o highest) + number_in (content_at s highest) ≡ to

-- r has the elements from the least offset to the greatest end, none where there is no list, and
-- offsets relative to the least
pub record IsTrimmed (e o s : Layout) (flag : Bool) (v : Valid) (r : Layout) : Type 0 where
  pub elements : Layout
  pub offsets : Layout
  pub from : ℕ
  pub to : ℕ
  pub made : r ≡ list_views elements offsets s flag v
  pub bounds : 0 < len_of o → AreBounds o s from to
  pub without_rows : len_of o ≡ 0 → from ≡ to
  pub part : Picks e elements (to - from) (λ j. from + j)
  pub many : len_of offsets ≡ len_of o
  pub moved : (i : ℕ) → i < len_of o → content_at offsets i ≡
      integer (pos (number_in (content_at o i) - from))
