-- How the piece of a LIKE pattern before its first % meets a string.
use Rattle.std.specs.Prelude.{◌≡◌, ◌<◌, ◌≤◌, ℕ, List, [], ◌∷◌, if◌then◌else◌, length, take, ◌==◌, true, false}
use Rattle.std.specs.Prelude.{Option, Some, None}
use denote.Ref.{Bor}
use Rattle.memchr.specs.Find.{Nowhere, Passes, is_byte2}
use Rattle.vortex_model_table.specs.Like.{some_end}
use Rattle.vortex_stats_match.specs.Bytes.{byte_matches}
use Rattle.vortex_stats_match.specs.declared.matching.Piece.{Piece}
use Rattle.vortex_stats_match.specs.declared.matching.Piece.TheVariants.{Differs, IsWhole, Wildcard}

-- the pattern after its first % (37), empty where there is none
abbrev pub behind_any : List ℕ → List ℕ
behind_any [] = []
behind_any (a ∷ form) = if a == 37 then form else behind_any form

-- the pattern after the _ (95) that it begins with
abbrev pub behind_ones : List ℕ → List ℕ
behind_ones [] = []
behind_ones (a ∷ form) = if a == 95 then behind_ones form else a ∷ form

-- the pattern before its first sign, % or _: all of it where it has none
pub record IsLiteralPrefix (form prefix : List ℕ) : Type 0 where
  pub begins : prefix ≡ take (length prefix) form
  pub within : length prefix ≤ length form
  pub plain : Nowhere (Passes (is_byte2 37 95) form) 0 (length prefix)
  pub ends : length prefix < length form → Passes (is_byte2 37 95) form (length prefix)

-- A % ends the piece. The string matches the pattern exactly where some end of what is left matches
-- the pattern after the %, and a later position of the piece brings nothing more.
pub record IsWildcard (form value behind left : List ℕ) : Type 0 where
  pub here : byte_matches form value ≡ some_end (byte_matches behind) left
  pub later : some_end (byte_matches form) value ≡ some_end (byte_matches behind) left
  pub shorter : length behind < length form
  pub is : behind ≡ behind_any form

-- what it means that a pattern and a string meet so
abbrev pub Meets : List ℕ → List ℕ → Piece → Type 0
Meets form value Differs = byte_matches form value ≡ false
Meets form value IsWhole = byte_matches form value ≡ true
Meets form value (Wildcard behind left) = IsWildcard form value behind.now left.now

-- As IsWildcard, where the piece may begin at any position: some end of the string matches the
-- pattern exactly where some end of what is left matches the pattern after the %.
pub record IsLater (form value behind left : List ℕ) : Type 0 where
  pub ends : some_end (byte_matches form) value ≡ some_end (byte_matches behind) left
  pub shorter : length behind < length form

-- what it means that a pattern meets a string so at some position
abbrev pub MeetsLater : List ℕ → List ℕ → Piece → Type 0
MeetsLater form value Differs = some_end (byte_matches form) value ≡ false
MeetsLater form value IsWhole = some_end (byte_matches form) value ≡ true
MeetsLater form value (Wildcard behind left) = IsLater form value behind.now left.now

-- an end of the string matches the form exactly where one of what is left does, and none does where
-- nothing is left
pub record IsPlace (form value left : List ℕ) : Type 0 where
  pub ends : some_end (byte_matches form) value ≡ some_end (byte_matches form) left
  pub no_longer : length left ≤ length value

abbrev pub GoesOn : List ℕ → List ℕ → Option (Bor (List ℕ)) → Type 0
GoesOn form value None = some_end (byte_matches form) value ≡ false
GoesOn form value (Some left) = IsPlace form value left.now

-- Some end of the string matches a _ and the pattern after it exactly where some end of what is
-- left matches the latter; none does where nothing is left.
abbrev pub TakesOne : List ℕ → List ℕ → Option (Bor (List ℕ)) → Type 0
TakesOne behind value None = some_end (byte_matches (95 ∷ behind)) value ≡ false
TakesOne behind value (Some left) =
    some_end (byte_matches (95 ∷ behind)) value ≡ some_end (byte_matches behind) left.now

-- TakesOne, where each _ that the form begins with takes a character
abbrev pub TakesOnes : List ℕ → List ℕ → Option (Bor (List ℕ)) → Type 0
TakesOnes form value None = some_end (byte_matches form) value ≡ false
TakesOnes form value (Some left) =
    some_end (byte_matches form) value ≡ some_end (byte_matches (behind_ones form)) left.now
