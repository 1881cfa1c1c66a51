use Rattle.std.proofs.Common.{◌≡◌, ◌<◌, ◌-◌, IsUtf8, arith, refl, sym, ap, subst, ◌∙◌}
use Rattle.vortex_dtype_ptype.specs.View.{nullability_of_flag}
use Rattle.vortex_dtype_core.specs.View.{type_of, fields_of}
use Rattle.vortex_dtype_core.proofs.Sizes.{type_size, fields_size, field_smaller}
use Rattle.vortex_dtype_proto.proofs.Shapings.{fails, goes_on, ends}
use Rattle.vortex_dtype_core.proofs.Views.{type_of-List, type_of-FixedSizeList}
use Rattle.vortex_table_text.specs.Types.{nests_within}
use Rattle.vortex_table_text.proofs.TypeParts.{one_nests, all_nest, more_nest, list_within, fixed_list_within, named_next}
use Rattle.vortex_table_text.proofs.types.+nests.Goals as goal

pub fields_nest_within-nests_within-requires : goal.fields_nest_within-nests_within-requires
fields_nest_within-nests_within-requires t c =
    let e : type_size (type_of c.field-item.result.dtype) < fields_size (fields_of c.args.fields.now) = field_smaller c.args.fields.now c.loop-field.field-index c.field-item.result c.loop-field-test.true c.field-item.is in
    let d : fields_size (fields_of c.args.fields.now) ≡ t = c.decreases in
    (omega (arith, e, d), tt)

pub fields_nest_within-returns-then-not-nests_within-clause-depth : goal.fields_nest_within-returns-then-not-nests_within-clause-depth
fields_nest_within-returns-then-not-nests_within-clause-depth t c =
    fails (one_nests c.args.depth) (all_nest c.args.depth) refl (more_nest c.args.depth) c.args.fields.now c.loop-field.field-index c.field-item.result c.loop-field-test.true c.field-item.is
    (sym c.if-not-nests_within.ensures.depth) c.loop-field.invariant.0

pub fields_nest_within-loop-field-preserved : goal.fields_nest_within-loop-field-preserved
fields_nest_within-loop-field-preserved t c = (
  goes_on (one_nests c.args.depth) (all_nest c.args.depth) refl (more_nest c.args.depth) c.args.fields.now c.loop-field.field-index c.field-item.result c.loop-field-test.true c.field-item.is
      (sym c.if-not-nests_within.ensures.depth) c.loop-field.invariant.0,
  named_next c.args.fields.now c.loop-field.field-index c.field-item.result c.loop-field-test.true c.field-item.is (subst IsUtf8 c.as_str.ensures c.check_name.ensures) (c.if-not-nests_within.ensures.names refl)
      c.loop-field.invariant.1,
)

pub fields_nest_within-returns-clause-depth : goal.fields_nest_within-returns-clause-depth
fields_nest_within-returns-clause-depth t c =
    ends (one_nests c.args.depth) (all_nest c.args.depth) refl (more_nest c.args.depth) c.args.fields.now c.loop-field.field-index (omega arith) c.loop-field.invariant.0

pub nests_within-returns-then-depth-gt0-clause-depth : goal.nests_within-returns-then-depth-gt0-clause-depth
nests_within-returns-then-depth-gt0-clause-depth t c =
    let found = c.in-List in
    c.nests_within.ensures.depth ∙ ap (λ e. nests_within (type_of e) (c.args.depth - 1)) c.deref.ensures
    ∙ list_within (type_of found.element.value) (nullability_of_flag found.field-1) c.args.depth c.if-depth-gt0.true
    ∙ sym (ap (λ k. nests_within k c.args.depth) (ap type_of found.is ∙ type_of-List found.element found.field-1))

pub nests_within-returns-then-depth-gt0-2-clause-depth : goal.nests_within-returns-then-depth-gt0-2-clause-depth
nests_within-returns-then-depth-gt0-2-clause-depth t c =
    let found = c.in-FixedSizeList in
    c.nests_within-then-depth-gt0-2.ensures.depth ∙ ap (λ e. nests_within (type_of e) (c.args.depth - 1)) c.deref-then-depth-gt0-2.ensures
    ∙ fixed_list_within (type_of found.element.value) found.field-1 (nullability_of_flag found.field-2) c.args.depth c.if-depth-gt0-2.true
    ∙ sym (ap (λ k. nests_within k c.args.depth) (ap type_of found.is ∙ type_of-FixedSizeList found.element found.field-1 found.field-2))
