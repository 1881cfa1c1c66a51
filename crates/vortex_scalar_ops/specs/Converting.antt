-- Forms of casts, by the source type.
use Rattle.std.specs.Prelude.{ℕ, Bool, true, false, ◌==◌}
use Rattle.vortex_model.specs.LogicalType.{LogicalType, fixed_list, mapping, union, variant, extension}
use Rattle.vortex_model.specs.Content.{Raw, raw_tuple}

-- values of the type convert to their own type alone, up to outer nullability
abbrev pub is_identity_cast : LogicalType → Bool
is_identity_cast (mapping k v s n) = true
is_identity_cast (union vs n) = true
is_identity_cast (variant n) = true
is_identity_cast (extension id meta k) = true
is_identity_cast k = false

-- the value is that of a list, a map or a struct
abbrev pub is_tuple : Raw → Bool
is_tuple (raw_tuple rs) = true
is_tuple r = false

-- lists of the type may have c elements
abbrev pub takes_length : LogicalType → ℕ → Bool
takes_length (fixed_list k m n) c = c == m
takes_length k c = true
