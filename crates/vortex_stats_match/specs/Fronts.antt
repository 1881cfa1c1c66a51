-- The bytes with which a LIKE pattern begins, and which views may begin with them.
use Rattle.std.specs.Prelude.{ℕ, List, length, take, cond, leb, not, ◌==◌, ◌&&◌, Bool, true, slice_index_or}
use Rattle.std.specs.List.{list_all}
use Rattle.vortex_arrays_view.specs.Views.{value_of}
use Rattle.vortex_arrays_view.specs.Made.{prefix_in, order_prefix_in, order_prefix_of}
use Rattle.vortex_stats_match.specs.Bytes.{byte_matches}

-- the byte matches itself: it is neither % (37) nor _ (95)
abbrev pub is_plain : ℕ → Bool
is_plain b = not (b == 37) && not (b == 95)

-- the pattern begins with n of those
abbrev pub begins_plain : ℕ → List ℕ → Bool
begins_plain n form = leb n (length form) && list_all is_plain (take n form)

-- The first bytes of a view may be those of a match: the first four, where the pattern begins with
-- four plain bytes, and else the first, where it begins with one.
abbrev pub admits : List ℕ → List ℕ → Bool
admits form v = cond (begins_plain 4 form) (order_prefix_in v == order_prefix_of form)
    (cond (begins_plain 1 form) (slice_index_or (prefix_in v) 0 0 == slice_index_or form 0 0) true)

-- the first bytes of the view admit a match, and the value matches
abbrev pub match_by_head : List ℕ → List ℕ → List (List ℕ) → Bool
match_by_head form v buffers = admits form v && byte_matches form (value_of v buffers)
