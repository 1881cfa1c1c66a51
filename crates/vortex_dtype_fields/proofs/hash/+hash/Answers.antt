use Rattle.std.proofs.Common.{◌≡◌, ◌<◌, ◌∙◌, ap, arith, rules}
use Rattle.std.specs.List.{fold}
use Rattle.std.specs.Hash as fed
use Rattle.std.proofs.lemmas.Grind.{common_steps}
use Rattle.vortex_dtype_core.specs.View.{type_of, fields_of, variants_of}
use Rattle.vortex_dtype_core.proofs.Sizes.{type_size, fields_size, variants_size, field_smaller, choice_smaller}
use Rattle.vortex_dtype_fields.proofs.Hashed.{field_fed, choice_fed, writes}
use borrow.Author.Differences.{ints}
use borrow.Author.Rules.{get_or_read}
use Rattle.vortex_dtype_fields.proofs.hash.+hash.Goals as goal

pub hash_fields-hash_type-requires : goal.hash_fields-hash_type-requires
hash_fields-hash_type-requires g t c κs within =
    let e : type_size (type_of c.field-item.result.dtype) < fields_size (fields_of c.args.fields.now) = field_smaller c.args.fields.now c.loop-field.field-index c.field-item.result c.loop-field-test.true c.field-item.is in
    let d : fields_size (fields_of c.args.fields.now) ≡ t = c.decreases in
    (omega (arith, e, d), within)

pub hash_fields-loop-field-preserved : goal.hash_fields-loop-field-preserved
hash_fields-loop-field-preserved g t c =
    field_fed g.H.Hasher.write c.args.fields.now c.loop-field.field-index c.field-item.result c.loop-field.state c.hash.new.state c.hash_type.new.state
    c.loop-field-test.true c.field-item.is (c.hash.ensures ∙ ap (λ n. fold g.H.Hasher.write c.loop-field.state (fed.str n)) c.as_str.ensures) c.hash_type.ensures
    ∙ c.loop-field.invariant

pub hash_variants-hash_type-requires : goal.hash_variants-hash_type-requires
hash_variants-hash_type-requires g t c κs within =
    let e : type_size (type_of c.variant-item.result.dtype) < variants_size (variants_of c.args.variants.now) = choice_smaller c.args.variants.now c.loop-variant.variant-index c.variant-item.result c.loop-variant-test.true c.variant-item.is in
    let d : variants_size (variants_of c.args.variants.now) ≡ t = c.decreases in
    (omega (arith, e, d), within)

pub hash_variants-loop-variant-preserved : goal.hash_variants-loop-variant-preserved
hash_variants-loop-variant-preserved g t c =
    choice_fed g.H.Hasher.write c.args.variants.now c.loop-variant.variant-index c.variant-item.result c.loop-variant.state c.hash.new.state c.write_i8.new.self c.hash_type.new.state
    c.loop-variant-test.true c.variant-item.is (c.hash.ensures ∙ ap (λ n. fold g.H.Hasher.write c.loop-variant.state (fed.str n)) c.as_str.ensures) (search rules) c.hash_type.ensures
    ∙ c.loop-variant.invariant

pub hash_fields-loop-field-init : goal.hash_fields-loop-field-init
hash_fields-loop-field-init t c = grind (arith, writes)

pub hash_type-hash_type-requires-in-Map : goal.hash_type-hash_type-requires-in-Map
hash_type-hash_type-requires-in-Map t c κs within = grind (ints, arith, writes, get_or_read)

pub hash_type-returns-in-Primitive : goal.hash_type-returns-in-Primitive
hash_type-returns-in-Primitive t c = grind (ints, arith, writes)

pub hash_type-returns-in-FixedSizeList : goal.hash_type-returns-in-FixedSizeList
hash_type-returns-in-FixedSizeList t c = grind (ints, arith, writes, get_or_read)

pub hash_type-returns-in-Extension : goal.hash_type-returns-in-Extension
hash_type-returns-in-Extension t c = grind (ints, arith, writes, get_or_read)

pub hash_type-hash_type-requires-in-FixedSizeList : goal.hash_type-hash_type-requires-in-FixedSizeList
hash_type-hash_type-requires-in-FixedSizeList t c κs within = grind (ints, arith, writes, get_or_read)

pub hash_variants-loop-variant-init : goal.hash_variants-loop-variant-init
hash_variants-loop-variant-init t c = grind (ints, arith, writes)

pub hash_type-hash_type-requires : goal.hash_type-hash_type-requires
hash_type-hash_type-requires t c κs within = grind (ints, arith, writes, get_or_read)

pub hash_type-hash_type-requires-in-Extension : goal.hash_type-hash_type-requires-in-Extension
hash_type-hash_type-requires-in-Extension t c κs within = grind (ints, arith, writes, get_or_read)

pub hash_type-returns-in-Union : goal.hash_type-returns-in-Union
hash_type-returns-in-Union t c = grind (ints, arith, writes)

pub hash_variants-offset_bounds-variants-variant-index : goal.hash_variants-offset_bounds-variants-variant-index
hash_variants-offset_bounds-variants-variant-index t c = grind (ints, arith, writes)

pub hash_fields-offset_bounds-fields-field-index : goal.hash_fields-offset_bounds-fields-field-index
hash_fields-offset_bounds-fields-field-index t c = grind (arith, writes)

pub hash_type-hash_variants-requires : goal.hash_type-hash_variants-requires
hash_type-hash_variants-requires t c κs within = grind (ints, arith, writes)

pub hash_type-returns-in-Map : goal.hash_type-returns-in-Map
hash_type-returns-in-Map t c = grind (ints, arith, writes, get_or_read)

pub hash_type-hash_fields-requires : goal.hash_type-hash_fields-requires
hash_type-hash_fields-requires t c κs within = grind (ints, arith, writes)

pub hash_type-returns-in-Struct : goal.hash_type-returns-in-Struct
hash_type-returns-in-Struct t c = grind (ints, arith, writes)

pub hash_type-returns-in-List : goal.hash_type-returns-in-List
hash_type-returns-in-List t c = grind (ints, arith, writes, get_or_read)

pub hash_fields-returns : goal.hash_fields-returns
hash_fields-returns t c = grind (arith, common_steps)

pub hash_fields-loop-field-smaller : goal.hash_fields-loop-field-smaller
hash_fields-loop-field-smaller t c = grind (arith, common_steps)

pub hash_variants-returns : goal.hash_variants-returns
hash_variants-returns t c = grind (ints, arith, common_steps)

pub hash_variants-loop-variant-smaller : goal.hash_variants-loop-variant-smaller
hash_variants-loop-variant-smaller t c = grind (ints, arith, common_steps)
