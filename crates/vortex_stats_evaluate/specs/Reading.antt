-- What is known about a statistic, read as one of its type and as a native value.
use Rattle.std.specs.Prelude.{Bool, true, false, ◌&&◌, Option}
use Rattle.std.specs.Option.{option_map_or}
use Rattle.vortex_model.specs.LogicalType.{LogicalType}
use Rattle.vortex_model.specs.Content.{Content, Raw, content_of}
use Rattle.vortex_model.specs.Valid.{valid}
use Rattle.vortex_model_table.specs.Statistics.{Precision, exact, inexact, absent}
use Rattle.vortex_scalar_core.specs.Scalar.{scalar_type, scalar_content}
use Rattle.vortex_scalar_core.specs.declared.scalar.Scalar.{Scalar}
use Rattle.vortex_stats_bound.specs.Precision.{precision_map}

-- the content of the value, as precise
abbrev pub said : Precision Raw → Precision Content
said p = precision_map content_of p

-- the type has the value, and it is read
abbrev pub is_read : (LogicalType → Content → Bool) → LogicalType → Raw → Bool
is_read reads k r = valid k r && reads k (content_of r)

-- there is a type, it has the value, if there is one, and it is read
abbrev pub is_read_at : (LogicalType → Content → Bool) → Option LogicalType → Precision Raw → Bool
is_read_at reads k (exact r) = option_map_or (λ l. is_read reads l r) k false
is_read_at reads k (inexact r) = option_map_or (λ l. is_read reads l r) k false
is_read_at reads k absent = true

-- the value, if there is one, is read at its type
abbrev pub is_value_read : (LogicalType → Content → Bool) → Precision Scalar → Bool
is_value_read reads (exact s) = reads (scalar_type s) (scalar_content s)
is_value_read reads (inexact s) = reads (scalar_type s) (scalar_content s)
is_value_read reads absent = true
