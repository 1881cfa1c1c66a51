-- Laws of heads: what the first bytes of views show is so of their values.
use Rattle.std.specs.Prelude.{◌≡◌, ℕ, List}
use Rattle.vortex_model.specs.Order.{bytes_cmp}
use Rattle.vortex_arrays_view.specs.Views.{value_of, HasValue}
use Rattle.vortex_stats_match.specs.Bytes.{byte_matches}
use Rattle.vortex_stats_match.specs.Fronts.{match_by_head}
use Rattle.vortex_stats_match.specs.Heads.{HasHead, cmp_by_head}

abbrev pub ViewsHaveHeads : Type 0
ViewsHaveHeads = (v : List ℕ) (buffers : List (List ℕ)) → HasValue v buffers → HasHead v buffers

abbrev pub HeadsTellOrder : Type 0
HeadsTellOrder = (v : List ℕ) (buffers : List (List ℕ)) (text : List ℕ) → HasHead v buffers →
    cmp_by_head v buffers text ≡ bytes_cmp (value_of v buffers) text

abbrev pub HeadsMissNoMatch : Type 0
HeadsMissNoMatch = (form v : List ℕ) (buffers : List (List ℕ)) → HasHead v buffers →
    match_by_head form v buffers ≡ byte_matches form (value_of v buffers)
