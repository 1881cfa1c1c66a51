use Rattle.std.proofs.Common.{◌≡◌, drop}
use Rattle.std.specs.List.{fold}
use Rattle.vortex_dtype_core.specs.View.{type_of, fields_of, variants_of}
use Rattle.vortex_dtype_fields.specs.Hashing.{fields_writes, variants_writes}
use Rattle.vortex_dtype_core.proofs.Sizes.{type_size, fields_size, variants_size}
use Rattle.vortex_dtype_fields.proofs.hash.+hash.Given as goal

abbrev pub decreases-hash_type : goal.decreases-hash_type
decreases-hash_type g l = type_size (type_of l.dtype.now)

abbrev pub decreases-hash_fields : goal.decreases-hash_fields
decreases-hash_fields g l = fields_size (fields_of l.fields.now)

abbrev pub decreases-hash_variants : goal.decreases-hash_variants
decreases-hash_variants g l = variants_size (variants_of l.variants.now)

abbrev pub invariant-hash_fields-loop-field : goal.invariant-hash_fields-loop-field
invariant-hash_fields-loop-field g l = fold g.H.Hasher.write l.state (fields_writes (fields_of (drop l.field-index l.fields))) ≡ fold g.H.Hasher.write l.initial.state (fields_writes (fields_of l.fields))

abbrev pub invariant-hash_variants-loop-variant : goal.invariant-hash_variants-loop-variant
invariant-hash_variants-loop-variant g l = fold g.H.Hasher.write l.state (variants_writes (variants_of (drop l.variant-index l.variants))) ≡ fold g.H.Hasher.write l.initial.state (variants_writes (variants_of l.variants))
