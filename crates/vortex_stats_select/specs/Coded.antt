-- Rows by codes.
use Rattle.std.specs.Prelude.{pos, List, Bool, false, slice_index_or}
use Rattle.vortex_model.specs.Content.{Content, null, integer}

-- the value of a code, and null where there is none
abbrev pub value_of_code : List Content → Content → Content
value_of_code values (integer (pos j)) = slice_index_or values j null
value_of_code values c = null

-- whether a mask of the values has that of the code
abbrev pub is_marked : List Bool → Content → Bool
is_marked mask (integer (pos j)) = slice_index_or mask j false
is_marked mask c = false
