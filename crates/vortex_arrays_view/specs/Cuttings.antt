-- Values that are end to end in bytes, and cuts of the bytes where values end.
use Rattle.std.specs.Prelude.{◌≡◌, ◌≤◌, ℕ, List, length, take, drop, slice_index_or, sum, All}
use Rattle.std.specs.List.{concat}

-- the end of the first `count` values
abbrev pub end_of : List ℕ → ℕ → ℕ
end_of lengths count = sum (take count lengths)

-- the value at an index
abbrev pub value_in : List ℕ → List ℕ → ℕ → List ℕ
value_in bytes lengths i = take (slice_index_or lengths i 0) (drop (end_of lengths i) bytes)

-- a value ends at this offset
pub record IsValueEnd (lengths : List ℕ) (place : ℕ) : Type 0 where
  pub count : ℕ
  pub ends : place ≡ end_of lengths count

-- The bytes, cut where values end, into buffers within the limit.
pub record IsCutting (bytes lengths : List ℕ) (limit : ℕ) (buffers : List (List ℕ)) : Type 0 where
  pub whole : concat buffers ≡ bytes
  pub ends : (count : ℕ) → IsValueEnd lengths (length (concat (take count buffers)))
  pub within : All (λ buffer. length buffer ≤ limit) buffers

-- A cutting that has no more buffers than any other.
pub record IsFewest (bytes lengths : List ℕ) (limit : ℕ) (buffers : List (List ℕ)) : Type 0 where
  pub cutting : IsCutting bytes lengths limit buffers
  pub least : (others : List (List ℕ)) → IsCutting bytes lengths limit others →
      length buffers ≤ length others
