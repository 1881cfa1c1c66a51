-- Rows numbered by the first occurrences of distinct ones.
use Rattle.std.specs.Prelude.{◌≡◌, ◌<◌, ◌≤◌, ◌-◌, ◌⊎◌, ℕ, List, [], ◌∷◌, ◌++◌, length, map, take, Bool, true, false, not, cond, Option, Some, None, slice_index_or, All}
use Rattle.vortex_model.specs.Content.{Content, null, is_null, equal_content}
use Rattle.vortex_arrays_dictionary.specs.Distinct.{distinct}

-- the contents at each of the indices
abbrev pub at_places : List Content → List ℕ → List Content
at_places cs places = map (λ p. slice_index_or cs p null) places

-- Each row has a key, and two rows that are present have equal keys exactly where their contents
-- are equal. A row is present where its content is not null.
pub record AreKeysOf {K : Type 0} (eq : K → K → Bool) (keys : List K) (present : List Bool) (cs : List Content) : Type 0 where
  pub many : length cs ≡ length keys
  pub nulls : (i : ℕ) → i < length keys →
      slice_index_or present i false ≡ not (is_null (slice_index_or cs i null))
  pub tells : (i j : ℕ) (d : K) → i < length keys → j < length keys →
      slice_index_or present i false ≡ true → slice_index_or present j false ≡ true →
      eq (slice_index_or keys i d) (slice_index_or keys j d) ≡
      equal_content (slice_index_or cs i null) (slice_index_or cs j null)

-- the map has for a key the number of the first occurrence with that key, and none where there is
-- none
pub record Knows {K : Type 0} (eq : K → K → Bool) (number : K → Option ℕ) (keys : List K) (firsts : List ℕ) : Type 0 where
  pub found : (q : K) (n : ℕ) → number q ≡ Some n → (n < length firsts) ×
      (eq q (slice_index_or keys (slice_index_or firsts n 0) q) ≡ true)
  pub unknown : (q : K) (n : ℕ) → number q ≡ None → n < length firsts →
      eq q (slice_index_or keys (slice_index_or firsts n 0) q) ≡ false

-- The key has the number n: that of before, or the next one if it had none.
abbrev pub IsNumberedAt : {K : Type 0} → (K → K → Bool) → (K → Option ℕ) → (K → Option ℕ) → K → ℕ → List ℕ → List ℕ → ℕ → Type 0
IsNumberedAt {K} eq old new k place firsts more n =
    ((old k ≡ Some n) × (new ≡ old) × (more ≡ firsts)) ⊎
    ((old k ≡ None) × (n ≡ length firsts) × (more ≡ firsts ++ place ∷ []) ×
    ((q : K) → new q ≡ cond (eq k q) (Some (length firsts)) (old q)))

-- The row has the number n: that of its key, or 0 if it is null, which adds no first occurrence.
abbrev pub IsNumberedWhere : {K : Type 0} → (K → K → Bool) → (K → Option ℕ) → (K → Option ℕ) → Bool → K → ℕ → List ℕ → List ℕ → ℕ → Type 0
IsNumberedWhere eq old new present k place firsts more n =
    ((present ≡ false) × (n ≡ 0) × (new ≡ old) × (more ≡ firsts)) ⊎
    ((present ≡ true) × IsNumberedAt eq old new k place firsts more n)

-- Each distinct content of the first m rows first occurs at one of the indices, and each of these
-- rows but null has the number of the index of its content.
pub record AreFirsts (cs : List Content) (m : ℕ) (firsts ns : List ℕ) : Type 0 where
  pub each_once : at_places cs firsts ≡ distinct (take m cs)
  pub within : All (λ p. p < m) firsts
  pub there : All (λ p. is_null (slice_index_or cs p null) ≡ false) firsts
  pub small : All (λ n. n ≤ length firsts - 1) ns
  pub stands : (i : ℕ) → i < m → is_null (slice_index_or cs i null) ≡ false →
      (slice_index_or ns i 0 < length firsts) ×
      (slice_index_or cs (slice_index_or firsts (slice_index_or ns i 0) 0) null ≡
      slice_index_or cs i null)

-- all rows are numbered by first occurrences
pub record AreNumbered (cs : List Content) (firsts ns : List ℕ) : Type 0 where
  pub many : length ns ≡ length cs
  pub firsts_of_all : AreFirsts cs (length cs) firsts ns
