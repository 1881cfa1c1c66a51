use Rattle.std.proofs.Common.{drop}
use Rattle.vortex_dtype_core.specs.View.{type_of, fields_of}
use Rattle.vortex_dtype_core.proofs.Sizes.{type_size, fields_size}
use Rattle.vortex_table_zones.proofs.TypeLemmas.{AreFields}
use Rattle.vortex_table_zones.proofs.types.+known.Given as goal

abbrev pub decreases-known_dtype : goal.decreases-known_dtype
decreases-known_dtype l = type_size (type_of l.dtype.now)

abbrev pub decreases-known_fields : goal.decreases-known_fields
decreases-known_fields l = fields_size (fields_of l.fields.now)

-- the fields so far and those of the rest are all
abbrev pub invariant-known_fields-loop-field : goal.invariant-known_fields-loop-field
invariant-known_fields-loop-field l = AreFields l.counts l.known.items (drop l.field-index l.fields) l.fields
