use Rattle.std.proofs.Common.{◌≡◌, ◌++◌, ◌<◌, ◌∙◌, ap, sym, append-nil, arith}
use Rattle.vortex_dtype_core.specs.View.{type_of, fields_of}
use Rattle.vortex_dtype_core.proofs.Sizes.{type_size, fields_size, field_smaller}
use Rattle.vortex_table_schema.proofs.Places.{no_leaf, one_more_field}
use Rattle.vortex_table_schema.proofs.leaves.+leaves.Goals as goal

pub add_fields-add_leaves-requires : goal.add_fields-add_leaves-requires
add_fields-add_leaves-requires t c =
    let e : type_size (type_of c.index-fields-position.result.dtype) < fields_size (fields_of c.args.fields.now)
    = field_smaller c.args.fields.now c.loop-position.position c.index-fields-position.result c.loop-position-test.true c.index-fields-position.is in
    let d : fields_size (fields_of c.args.fields.now) ≡ t = c.decreases in
    (omega (arith, e, d), tt)

pub add_fields-loop-position-preserved : goal.add_fields-loop-position-preserved
add_fields-loop-position-preserved t c =
    one_more_field c.args.here.now c.in_ok-there.there.items c.args.fields.now c.loop-position.position c.index-fields-position.result c.loop-position-test.true c.index-fields-position.is
    c.in_ok-there.ensures c.loop-position.leaves.items c.add_leaves.new.leaves.items _ c.in_ok-add_leaves.ensures c.loop-position.invariant

pub add_leaves-returns-else-is_leaf : goal.add_leaves-returns-else-is_leaf
add_leaves-returns-else-is_leaf t c =
    let old = c.args.leaves.now.items in
    sym (ap (λ more. old ++ more) (no_leaf c.args.here.items c.args.dtype.now c.in_default.not-Struct (sym c.is_leaf.ensures ∙ c.if-is_leaf.false)) ∙ append-nil old)
