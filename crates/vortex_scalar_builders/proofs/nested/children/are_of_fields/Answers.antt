use Rattle.std.proofs.Common.{◌≡◌, ◌+◌, ◌&&◌, ◌∙◌, drop, map, ap, sym, true, false, arith}
use Rattle.vortex_model.specs.LogicalType.{eq_type}
use Rattle.vortex_dtype_core.specs.View.{type_of, fields_of}
use Rattle.vortex_scalar_core.specs.Scalar.{scalar_type}
use Rattle.vortex_scalar_builders.specs.nested.Children.{are_of_fields}
use Rattle.vortex_scalar_builders.proofs.nested.Types.{field_next}
use Rattle.vortex_scalar_builders.proofs.nested.children.are_of_fields.Goals as goal

pub returns-then-not-is_of : goal.returns-then-not-is_of
returns-then-not-is_of c =
    let i = c.loop-i.i in
    let fields = c.args.fields.now in
    let children = c.args.children.now in
    let old = c.loop-i.invariant in
    let rest = are_of_fields (fields_of (drop (i + 1) fields)) (map scalar_type (drop (i + 1) children)) in
    let here = field_next fields children i c.index-fields-i.result c.index-children-i.result (omega (arith, old.eq_length)) (omega arith) c.index-fields-i.is c.index-children-i.is in
    let not : eq_type (scalar_type c.index-children-i.result) (type_of c.index-fields-i.result.dtype) ≡ false
    = cc (c.index-fields-i.is) in
    sym (sym old.left ∙ here ∙ ap (λ b. b && rest) not)

pub loop-i-preserved : goal.loop-i-preserved
loop-i-preserved c =
    let i = c.loop-i.i in
    let fields = c.args.fields.now in
    let children = c.args.children.now in
    let old = c.loop-i.invariant in
    let rest = are_of_fields (fields_of (drop (i + 1) fields)) (map scalar_type (drop (i + 1) children)) in
    let here = field_next fields children i c.index-fields-i.result c.index-children-i.result (omega (arith, old.eq_length)) (omega arith) c.index-fields-i.is c.index-children-i.is in
    let yes : eq_type (scalar_type c.index-children-i.result) (type_of c.index-fields-i.result.dtype) ≡ true
    = cc (c.index-fields-i.is) in
    record {
      eq_length = old.eq_length;
      left = sym (here ∙ ap (λ b. b && rest) yes) ∙ old.left;
    }
