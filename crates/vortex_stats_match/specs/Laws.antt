-- Laws of LIKE patterns over bytes.
use Rattle.std.specs.Prelude.{◌≡◌, ℕ, List, IsUtf8}
use Rattle.vortex_model_table.specs.Like.{is_like}
use Rattle.vortex_stats_match.specs.Bytes.{byte_matches}

abbrev pub BytesMatchAsCharacters : Type 0
BytesMatchAsCharacters = (form value : List ℕ) → IsUtf8 form → IsUtf8 value →
    byte_matches form value ≡ is_like form value
