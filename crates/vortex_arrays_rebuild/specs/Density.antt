-- Which elements of a list view its lists have.
use Rattle.std.specs.Prelude.{◌≡◌, ◌<◌, ◌≤◌, ◌+◌, ℕ, List, Bool, true, false, cond, length, slice_index_or, count_by, IsTrue}
use Rattle.vortex_arrays_model.specs.Layout.{Layout, Valid, len_of, content_at, number_in, is_valid}
use Rattle.vortex_arrays_model.specs.Parts.{valid_in}
use Rattle.vortex_arrays_nested.specs.Parts.{elements_of}
use Rattle.vortex_arrays_rebuild.specs.Trims.{begin_of, end_of}

-- a list of the view a that is not null has element j
pub record IsReferencedElement (a : Layout) (j : ℕ) : Type 0 where
  pub row : ℕ
  pub within : row < len_of a
  pub valid : IsTrue (is_valid (valid_in a) row)
  pub begins : begin_of a row ≤ j
  pub ends : j < end_of a row

-- a bit for each element, true where a list that is not null has it
pub record MarksElements (a : Layout) (mask : List Bool) : Type 0 where
  pub many : length mask ≡ len_of (elements_of a)
  pub referenced : (j : ℕ) → slice_index_or mask j false ≡ true → IsReferencedElement a j
  pub marked : (j : ℕ) → IsReferencedElement a j → slice_index_or mask j false ≡ true

-- n elements are in a list that is not null
pub record IsReferencedCount (a : Layout) (n : ℕ) : Type 0 where
  pub mask : List Bool
  pub marks : MarksElements a mask
  pub counted : n ≡ count_by (λ b. b) mask

-- ---- intermediate results

-- ns are the sizes of lists, and 0 for null ones
pub record AreValidSizes (s : Layout) (v : Valid) (ns : List ℕ) : Type 0 where
  pub many : length ns ≡ len_of s
  pub each : (i : ℕ) → i < len_of s → slice_index_or ns i 0 ≡
      cond (is_valid v i) (number_in (content_at s i)) 0

-- each list is within n elements
abbrev pub AllLieWithin : List ℕ → List ℕ → ℕ → Type 0
AllLieWithin os ss n = (i : ℕ) → i < length os →
    slice_index_or os i 0 + slice_index_or ss i 0 ≤ n

-- of the first m lists that are not empty, the greatest end of those that begin at each of n
-- elements, and 0 where none begins
pub record AreFurthest (os ss : List ℕ) (m n : ℕ) (ends : List ℕ) : Type 0 where
  pub many : length ends ≡ n
  pub reached : (j : ℕ) → 0 < slice_index_or ends j 0 → (i : ℕ) × (i < m) ×
      (slice_index_or os i 0 ≡ j) ×
      (slice_index_or os i 0 + slice_index_or ss i 0 ≡ slice_index_or ends j 0)
  pub furthest : (i : ℕ) → i < m → 0 < slice_index_or ss i 0 →
      slice_index_or os i 0 + slice_index_or ss i 0 ≤ slice_index_or ends (slice_index_or os i 0) 0

-- of the first n elements, those are marked that are before the end of one at or before them
pub record AreCovered (ends : List ℕ) (n : ℕ) (marks : List Bool) : Type 0 where
  pub many : length marks ≡ n
  pub covers : (j : ℕ) → slice_index_or marks j false ≡ true → (k : ℕ) × (k ≤ j) ×
      (j < slice_index_or ends k 0)
  pub covered : (j k : ℕ) → j < n → k ≤ j → j < slice_index_or ends k 0 →
      slice_index_or marks j false ≡ true
