-- The type of a zone.
use Rattle.std.specs.Prelude.{Bool, true, false, codes}
use Rattle.vortex_model.specs.LogicalType.{LogicalType, integer_type, u64, struct, Fields, no_fields, field, nullable, non_nullable, with_nullability}

-- the type of a column's null count, or else of a bound of its values
abbrev pub leaf_known : Bool → LogicalType → LogicalType
leaf_known true k = integer_type u64 nullable
leaf_known false k = with_nullability nullable k

-- the type of statistics of each column, in records as the rows are
abbrev mutual
  pub known_type : Bool → LogicalType → LogicalType
  known_type counts (struct fs n) = struct (known_fields counts fs) non_nullable
  known_type counts k = leaf_known counts k

  pub known_fields : Bool → Fields → Fields
  known_fields counts no_fields = no_fields
  known_fields counts (field x k fs) = field x (known_type counts k) (known_fields counts fs)

-- the number of rows, the lower and the upper bounds, and the null counts
abbrev pub zone_type : LogicalType → LogicalType
zone_type k = struct (field (codes "rows") (integer_type u64 non_nullable)
    (field (codes "lower") (known_type false k) (field (codes "upper") (known_type false k)
    (field (codes "nulls") (known_type true k) no_fields)))) non_nullable
