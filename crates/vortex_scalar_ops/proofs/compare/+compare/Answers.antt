use Rattle.std.proofs.Common.{◌≡◌, ◌<◌, ◌∙◌, ◌+◌, ◌*◌, ap, arith, rules, sym, suc, drop, Some}
use Rattle.std.specs.declared.cmp.Ordering.TheVariants.{Equal}
use Rattle.vortex_model.specs.Content.{integer, tuple, content_of, contents_of}
use Rattle.vortex_model.specs.Order.{content_cmp, and_then}
use Rattle.vortex_scalar_value.specs.Numbers.{raw_of_number, integer_of}
use Rattle.vortex_scalar_value.specs.Parts.{as_number, items_in, child_in}
use Rattle.vortex_scalar_value.specs.View.{raw_of, raw_of_union, raw_at, raws_in}
use Rattle.vortex_scalar_value.proofs.Sizes.{raw_size, raws_size, item_smaller, tuple_size, union_size, child_size}
use Rattle.vortex_scalar_value.proofs.Views.{raw_of-Primitive, raw_of-Tuple}
use Rattle.vortex_scalar_ops.proofs.Forms.{number_cmp, tuple_cmp}
use Rattle.vortex_scalar_ops.proofs.Items.{items_cmp, cmp_next, longer, shorter}
use Rattle.vortex_scalar_ops.proofs.compare.+compare.Goals as goal

pub compare_values-compare_present-requires : goal.compare_values-compare_present-requires
compare_values-compare_present-requires t c =
    let e : raw_size (raw_at c.args.left) ≡ raw_size (raw_of c.in-Some-Some.left.now) = ap (λ o. raw_size (raw_at o)) c.in-Some-Some.is-0 in
    let d : 2 * raw_size (raw_at c.args.left) + 1 ≡ t = c.decreases in
    (omega (arith, e, d), tt)

pub compare_present-compare_items-requires : goal.compare_present-compare_items-requires
compare_present-compare_items-requires t c =
    let e : raw_size (raw_of c.args.left.now) ≡ suc (suc (raws_size (raws_in c.as_slice.result.now)))
    = ap (λ v. raw_size (raw_of v)) c.in-Tuple.is ∙ tuple_size c.in-Tuple.items ∙ ap (λ is. suc (suc (raws_size (raws_in is)))) (sym c.as_slice.ensures.value) in
    let d : 2 * raw_size (raw_of c.args.left.now) ≡ t = c.decreases in
    (omega (arith, e, d), tt)

pub compare_present-compare_unions-requires : goal.compare_present-compare_unions-requires
compare_present-compare_unions-requires t c =
    let e : raw_size (raw_of c.args.left.now) ≡ suc (suc (raw_size (child_in (raw_of_union c.in-Union.union))))
    = ap (λ v. raw_size (raw_of v)) c.in-Union.is ∙ union_size c.in-Union.union ∙ child_size c.in-Union.union in
    let d : 2 * raw_size (raw_of c.args.left.now) ≡ t = c.decreases in
    (omega (arith, e, d), tt)

pub compare_unions-compare_values-requires : goal.compare_unions-compare_values-requires
compare_unions-compare_values-requires t c =
    let e : raw_size (raw_at c.child_value.result) ≡ raw_size (child_in (raw_of_union c.args.left.now)) = ap raw_size c.child_value.ensures in
    let d : 2 * raw_size (child_in (raw_of_union c.args.left.now)) + 2 ≡ t = c.decreases in
    (omega (arith, e, d), tt)

pub compare_items-compare_values-found-requires : goal.compare_items-compare_values-found-requires
compare_items-compare_values-found-requires t c =
    let e : raw_size (raw_at c.as_ref.result) < raws_size (raws_in c.args.left.now)
    = item_smaller c.args.left.now c.loop-i.i c.index-left-i.result c.as_ref.result c.loop-i-test.true c.index-left-i.is c.as_ref.ensures.value in
    let d : 2 * raws_size (raws_in c.args.left.now) + 2 ≡ t = c.decreases in
    (omega (arith, e, d), tt)

pub compare_items-returns-then-i-right : goal.compare_items-returns-then-i-right
compare_items-returns-then-i-right t c = sym (longer c.args.left.now c.args.right.now c.loop-i.i c.loop-i-test.true c.if-i-right.true) ∙ c.loop-i.invariant

pub compare_items-loop-i-preserved : goal.compare_items-loop-i-preserved
compare_items-loop-i-preserved t c =
    let rest = items_cmp (drop (c.loop-i.i + 1) c.args.left.now) (drop (c.loop-i.i + 1) c.args.right.now) in
    let tied : c.compare_values-found.result ≡ Some Equal = search rules in
    sym (cmp_next c.args.left.now c.args.right.now c.loop-i.i c.index-left-i.result c.index-right-i.result c.as_ref.result c.as_ref-in-loop-i.result
    c.loop-i-test.true c.if-i-right.false c.index-left-i.is c.index-right-i.is c.as_ref.ensures.value c.as_ref-in-loop-i.ensures.value
    ∙ ap (λ p. and_then p rest) (sym c.compare_values-found.ensures ∙ tied)) ∙ c.loop-i.invariant

pub compare_items-returns-then-left-right : goal.compare_items-returns-then-left-right
compare_items-returns-then-left-right t c =
    sym (shorter c.args.left.now c.args.right.now c.loop-i.i c.loop-i-test.false (omega arith)) ∙ c.loop-i.invariant

pub compare_present-returns-in_ok-as_primitive-in-Primitive : goal.compare_present-returns-in_ok-as_primitive-in-Primitive
compare_present-returns-in_ok-as_primitive-in-Primitive t c =
    let right = raw_of c.args.right.now in
    let left : content_of (raw_of c.args.left.now) ≡ integer (integer_of c.in-Primitive.number) = ap (λ v. content_of (raw_of v)) c.in-Primitive.is ∙ ap content_of (raw_of-Primitive c.in-Primitive.number) in
    let found : Some (raw_of_number c.in_ok-as_primitive-in-Primitive.field-0) ≡ as_number right = search rules in
    ap (λ o. Some o) c.compare.ensures
    ∙ sym (ap (λ x. content_cmp x (content_of right)) left ∙ number_cmp (integer_of c.in-Primitive.number) c.in_ok-as_primitive-in-Primitive.field-0 right found)

pub compare_present-returns-in_ok-as_list-in-Tuple : goal.compare_present-returns-in_ok-as_list-in-Tuple
compare_present-returns-in_ok-as_list-in-Tuple t c =
    let right = raw_of c.args.right.now in
    let items = raws_in c.as_slice.result.now in
    let left : content_of (raw_of c.args.left.now) ≡ tuple (contents_of items)
    = ap (λ v. content_of (raw_of v)) c.in-Tuple.is ∙ ap content_of (raw_of-Tuple c.in-Tuple.items) ∙ ap (λ is. tuple (contents_of (raws_in is))) (sym c.as_slice.ensures.value) in
    let found : Some (raws_in c.in_ok-as_list-in-Tuple.field-0.now) ≡ items_in right = search rules in
    c.compare_items.ensures
    ∙ sym (ap (λ x. content_cmp x (content_of right)) left ∙ tuple_cmp (contents_of items) (raws_in c.in_ok-as_list-in-Tuple.field-0.now) right found)
