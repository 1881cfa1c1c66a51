-- The test whether a type has a plain layout.
use Rattle.std.specs.Prelude.{Bool, true, false, ◌&&◌}
use Rattle.vortex_model.specs.LogicalType.{LogicalType, boolean_type, integer_type, utf8, binary, list, fixed_list, struct, Fields, no_fields, field}

-- It passes exactly where `HasPlain` holds.
abbrev mutual
  pub has_plain : LogicalType → Bool
  has_plain (boolean_type n) = true
  has_plain (integer_type i n) = true
  has_plain (utf8 n) = true
  has_plain (binary n) = true
  has_plain (list k n) = has_plain k
  has_plain (fixed_list k m n) = has_plain k
  has_plain (struct fs n) = have_plain fs
  has_plain k = false

  pub have_plain : Fields → Bool
  have_plain no_fields = true
  have_plain (field x k fs) = has_plain k && have_plain fs
