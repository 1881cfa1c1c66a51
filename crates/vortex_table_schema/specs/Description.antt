-- The model's zone map of a column's description.
use Rattle.std.specs.Prelude.{◌≡◌, pos}
use Rattle.vortex_model.specs.LogicalType.{LogicalType}
use Rattle.vortex_model.specs.Content.{Content, Raw, integer, boolean}
use Rattle.vortex_model_table.specs.Statistics.{Precision, exact}
use Rattle.vortex_model_table.specs.ZoneMap.{ZoneMap}
use Rattle.vortex_scalar_core.specs.Scalar.{scalar_content}
use Rattle.vortex_scalar_core.specs.declared.scalar.Scalar.{Scalar}
use Rattle.vortex_stats_bound.specs.Precision.{precision_of, precision_map}
use Rattle.vortex_stats_bound.specs.declared.precision.Precision as declared
use Rattle.vortex_table_schema.specs.Answer.{typed_raw}
use Rattle.vortex_table_schema.specs.declared.description.Description.{Description}

-- the content that is known, as precise
abbrev pub known_content : declared.Precision Scalar → Precision Content
known_content p = precision_map scalar_content (precision_of p)

-- Each precision has the content of the zone map's: the bounds, the number of nulls and the sum as
-- numbers, and the constancy as a boolean.
pub record IsDescription (d : Description) (z : ZoneMap) : Type 0 where
  pub min : known_content d.min ≡ z.low
  pub max : known_content d.max ≡ z.high
  pub null_count : known_content d.null_count ≡ exact (integer (pos z.nulls))
  pub sum : known_content d.sum ≡ precision_map integer z.total
  pub constant : known_content d.constant ≡ precision_map boolean z.constant

-- the value that is known with its type, as precise
abbrev pub known_raw : declared.Precision Scalar → Precision (LogicalType × Raw)
known_raw p = precision_map typed_raw (precision_of p)

-- both say the same
pub record IsSameDescription (old new : Description) : Type 0 where
  pub min : known_raw new.min ≡ known_raw old.min
  pub max : known_raw new.max ≡ known_raw old.max
  pub null_count : known_raw new.null_count ≡ known_raw old.null_count
  pub sum : known_raw new.sum ≡ known_raw old.sum
  pub constant : known_raw new.constant ≡ known_raw old.constant
