use Rattle.std.proofs.Common.{arith, ◌≡◌, ◌∙◌, ◌<◌, ◌≤◌, ◌+◌, true, length, map, get_or, sym, ap, subst}
use Rattle.std.specs.List.{flat_map, All}
use Rattle.vortex_model.specs.LogicalType.{list, fixed_list, nullable}
use Rattle.vortex_dtype_ptype.specs.View.{nullability_of_flag}
use Rattle.vortex_dtype_core.specs.View.{type_of, fields_of}
use Rattle.vortex_dtype_core.proofs.Views.{type_of-List, type_of-FixedSizeList}
use Rattle.vortex_dtype_core.proofs.Sizes.{type_size, fields_size, field_smaller}
use Rattle.vortex_scalar_value.specs.View.{raw_at, content_at}
use Rattle.vortex_arrays_builder.specs.Items.{raw_items, fixed_items}
use Rattle.vortex_arrays_builder.specs.Types.{HasPlain}
use Rattle.vortex_arrays_builder.specs.Plain.{is_held, parts_at, IsPlain, IsPlainFault}
use Rattle.vortex_arrays_builder.specs.TooLarge.{parts_of, AreTooLarge}
use Rattle.vortex_arrays_builder.proofs.FixedLemmas.{all_items_held}
use Rattle.vortex_arrays_builder.proofs.PlainLemmas.{items_held}
use Rattle.vortex_arrays_builder.proofs.TooLargeLemmas.{list_rows, fixed_rows, column_rows, list_fault, fixed_fault, field_fault, none_more, none_too_large}
use Rattle.vortex_arrays_builder.proofs.RecordLemmas.{first_more, first_all, kind_held, parts_held}
use Rattle.vortex_arrays_builder.proofs.plain.+plain.Goals as goal

pub field_arrays-plain_of-requires : goal.field_arrays-plain_of-requires
field_arrays-plain_of-requires t c =
    let fs = c.args.fields.now in
    let i = c.loop-i.i in
    let f = c.index-fields-i.result in
    let is : f ≡ get_or fs i f = c.index-fields-i.is in
    let e : type_size (type_of (get_or fs i f).dtype) < fields_size (fields_of fs) =
    subst (λ g. type_size (type_of g.dtype) < fields_size (fields_of fs)) is (field_smaller fs i f c.loop-i-test.true is) in
    let d : fields_size (fields_of fs) ≡ t = c.decreases in
    let column : map raw_at c.as_slice.result.now ≡ parts_at i (map raw_at c.args.values.now) = ap (map raw_at) c.as_slice.ensures.value ∙ c.in_ok-column.ensures in (
      omega (arith, e, d),
      (
        subst (λ g. HasPlain (type_of g.dtype)) is (kind_held fs i f c.requires.kinds c.loop-i-test.true is),
        subst (λ g. All (λ r. is_held (type_of g.dtype) r ≡ true) (map raw_at c.as_slice.result.now)) is
            (subst (All (λ r. is_held (type_of f.dtype) r ≡ true)) (sym column) (parts_held fs nullable (map raw_at c.args.values.now) i f c.requires.held c.loop-i-test.true is)),
      ),
    )

pub field_arrays-returns-in_err-plain_of-clause-refused :
    goal.field_arrays-returns-in_err-plain_of-clause-refused
field_arrays-returns-in_err-plain_of-clause-refused t c =
    let rows = column_rows c.loop-i.i c.as_slice.result.now c.args.values.now (ap (map raw_at) c.as_slice.ensures.value ∙ c.in_ok-column.ensures) in
    grind (arith, field_fault)

pub field_arrays-loop-i-preserved : goal.field_arrays-loop-i-preserved
field_arrays-loop-i-preserved t c =
    let fs = c.args.fields.now in
    let i = c.loop-i.i in
    let f = c.index-fields-i.result in
    let vs = c.args.values.now in
    let column : map raw_at c.as_slice.result.now ≡ parts_at i (map raw_at vs) = ap (map raw_at) c.as_slice.ensures.value ∙ c.in_ok-column.ensures in
    let plain : IsPlain (type_of f.dtype) (map raw_at c.as_slice.result.now) c.in_ok-plain_of.field-0 =
    subst (λ g. IsPlain (type_of g.dtype) (map raw_at c.as_slice.result.now) c.in_ok-plain_of.field-0) (sym c.index-fields-i.is) c.in_ok-plain_of.ensures.plain in
    let fits : ¬ AreTooLarge (type_of f.dtype) (map content_at c.as_slice.result.now) =
    subst (λ g. ¬ AreTooLarge (type_of g.dtype) (map content_at c.as_slice.result.now)) (sym c.index-fields-i.is) c.in_ok-plain_of.ensures.accepted in (
      first_more fs i (map raw_at vs) c.loop-i.arrays.items c.push.new.self.items f c.in_ok-plain_of.field-0 c.loop-i.invariant.0 c.loop-i-test.true c.index-fields-i.is
          (subst (λ rs. IsPlain (type_of f.dtype) rs c.in_ok-plain_of.field-0) column plain) c.in_ok-push.ensures.items,
      none_more fs i f (map content_at vs) c.loop-i.invariant.1 c.loop-i-test.true c.index-fields-i.is
          (subst (λ rows. ¬ AreTooLarge (type_of f.dtype) rows) (column_rows i c.as_slice.result.now vs column) fits),
    )

pub field_arrays-returns-clause-plain : goal.field_arrays-returns-clause-plain
field_arrays-returns-clause-plain t c =
    first_all c.args.fields.now c.loop-i.i (map raw_at c.args.values.now) c.loop-i.arrays.items c.loop-i.invariant.0 (omega (arith, c.loop-i-test.false, c.loop-i.auto.i-end))

pub plain_of-plain_of-requires : goal.plain_of-plain_of-requires
plain_of-plain_of-requires t c =
    let rs = map raw_at c.args.values.now in
    let k = type_of c.in-List.element.value in
    let whole : type_of c.args.dtype.now ≡ list k (nullability_of_flag c.in-List.nullability) = ap type_of c.in-List.is ∙ type_of-List c.in-List.element c.in-List.nullability in
    let e = ap type_size whole in
    let f = ap (λ x. type_size (type_of x)) c.deref.ensures in
    let d : type_size (type_of c.args.dtype.now) ≡ t = c.decreases in
    let items : map raw_at c.as_slice.result.now ≡ flat_map raw_items rs = ap (map raw_at) c.as_slice.ensures.value ∙ c.in_ok-lists-in-List.ensures.items in (
      omega (arith, e, f, d),
      (
        subst (λ x. HasPlain (type_of x)) (sym c.deref.ensures) (subst HasPlain whole c.requires.kind),
        subst (λ x. All (λ r. is_held (type_of x) r ≡ true) (map raw_at c.as_slice.result.now)) (sym c.deref.ensures)
            (subst (All (λ r. is_held k r ≡ true)) (sym items) (items_held k (nullability_of_flag c.in-List.nullability) rs (subst (λ x. All (λ r. is_held x r ≡ true) rs) whole c.requires.held))),
      ),
    )

pub plain_of-plain_of-requires-in-FixedSizeList : goal.plain_of-plain_of-requires-in-FixedSizeList
plain_of-plain_of-requires-in-FixedSizeList t c =
    let rs = map raw_at c.args.values.now in
    let k = type_of c.in-FixedSizeList.element.value in
    let m = c.in-FixedSizeList.size in
    let n = nullability_of_flag c.in-FixedSizeList.nullability in
    let whole : type_of c.args.dtype.now ≡ fixed_list k m n = ap type_of c.in-FixedSizeList.is ∙ type_of-FixedSizeList c.in-FixedSizeList.element m c.in-FixedSizeList.nullability in
    let e = ap type_size whole in
    let f = ap (λ x. type_size (type_of x)) c.deref-in-FixedSizeList.ensures in
    let d : type_size (type_of c.args.dtype.now) ≡ t = c.decreases in
    let items : map raw_at c.as_slice-in-FixedSizeList.result.now ≡ flat_map (fixed_items m) rs = ap (map raw_at) c.as_slice-in-FixedSizeList.ensures.value ∙ c.in_ok-items-in-FixedSizeList.ensures in (
      omega (arith, e, f, d),
      (
        subst (λ x. HasPlain (type_of x)) (sym c.deref-in-FixedSizeList.ensures) (subst HasPlain whole c.requires.kind),
        subst (λ x. All (λ r. is_held (type_of x) r ≡ true) (map raw_at c.as_slice-in-FixedSizeList.result.now)) (sym c.deref-in-FixedSizeList.ensures)
            (subst (All (λ r. is_held k r ≡ true)) (sym items) (all_items_held k m n rs (subst (λ x. All (λ r. is_held x r ≡ true) rs) whole c.requires.held))),
      ),
    )

pub plain_of-returns-in_err-elements-in-FixedSizeList-clause-refused :
    goal.plain_of-returns-in_err-elements-in-FixedSizeList-clause-refused
plain_of-returns-in_err-elements-in-FixedSizeList-clause-refused t c =
    let vs = c.args.values.now in
    let k = type_of c.in-FixedSizeList.element.value in
    let m = c.in-FixedSizeList.size in
    let n = nullability_of_flag c.in-FixedSizeList.nullability in
    let e = c.in_err-elements-in-FixedSizeList.field-0.0 in
    let whole : type_of c.args.dtype.now ≡ fixed_list k m n = ap type_of c.in-FixedSizeList.is ∙ type_of-FixedSizeList c.in-FixedSizeList.element m c.in-FixedSizeList.nullability in
    let items = c.as_slice-in-FixedSizeList.result.now in
    let rows = fixed_rows m items vs (ap (map raw_at) c.as_slice-in-FixedSizeList.ensures.value ∙ c.in_ok-items-in-FixedSizeList.ensures) in
    let inside : IsPlainFault e k (map content_at items) =
    subst (λ x. IsPlainFault e (type_of x) (map content_at items)) c.deref-in-FixedSizeList.ensures c.in_err-elements-in-FixedSizeList.ensures.refused in
    let fault : IsPlainFault e (type_of c.args.dtype.now) (map content_at vs) =
    subst (λ x. IsPlainFault e x (map content_at vs)) (sym whole) (fixed_fault e k m n (map content_at vs) (subst (IsPlainFault e k) rows inside)) in
    grind (arith, fault)

pub plain_of-returns-in_ok-of_fixed_lists-in-FixedSizeList-clause-accepted :
    goal.plain_of-returns-in_ok-of_fixed_lists-in-FixedSizeList-clause-accepted
plain_of-returns-in_ok-of_fixed_lists-in-FixedSizeList-clause-accepted t c =
    let vs = c.args.values.now in
    let k = type_of c.in-FixedSizeList.element.value in
    let m = c.in-FixedSizeList.size in
    let whole : type_of c.args.dtype.now ≡ fixed_list k m (nullability_of_flag c.in-FixedSizeList.nullability) = ap type_of c.in-FixedSizeList.is ∙ type_of-FixedSizeList c.in-FixedSizeList.element m c.in-FixedSizeList.nullability in
    let items = c.as_slice-in-FixedSizeList.result.now in
    let rows = fixed_rows m items vs (ap (map raw_at) c.as_slice-in-FixedSizeList.ensures.value ∙ c.in_ok-items-in-FixedSizeList.ensures) in
    let fits : ¬ AreTooLarge k (map content_at items) =
    subst (λ x. ¬ AreTooLarge (type_of x) (map content_at items)) c.deref-in-FixedSizeList.ensures c.in_ok-elements-in-FixedSizeList.ensures.accepted in
    subst (λ x. ¬ AreTooLarge x (map content_at vs)) (sym whole) (subst (λ cs. ¬ AreTooLarge k cs) rows fits)

pub plain_of-returns-in_err-elements-in-List-clause-refused :
    goal.plain_of-returns-in_err-elements-in-List-clause-refused
plain_of-returns-in_err-elements-in-List-clause-refused t c =
    let vs = c.args.values.now in
    let k = type_of c.in-List.element.value in
    let n = nullability_of_flag c.in-List.nullability in
    let e = c.in_err-elements-in-List.field-0.0 in
    let whole : type_of c.args.dtype.now ≡ list k n = ap type_of c.in-List.is ∙ type_of-List c.in-List.element c.in-List.nullability in
    let items = c.as_slice.result.now in
    let rows = list_rows items vs (ap (map raw_at) c.as_slice.ensures.value ∙ c.in_ok-lists-in-List.ensures.items) in
    let inside : IsPlainFault e k (map content_at items) =
    subst (λ x. IsPlainFault e (type_of x) (map content_at items)) c.deref.ensures c.in_err-elements-in-List.ensures.refused in
    let fault : IsPlainFault e (type_of c.args.dtype.now) (map content_at vs) =
    subst (λ x. IsPlainFault e x (map content_at vs)) (sym whole) (list_fault e k n (map content_at vs) (subst (IsPlainFault e k) rows inside)) in
    grind (arith, fault)

pub plain_of-returns-in_ok-of_lists-in-List-clause-accepted :
    goal.plain_of-returns-in_ok-of_lists-in-List-clause-accepted
plain_of-returns-in_ok-of_lists-in-List-clause-accepted t c =
    let vs = c.args.values.now in
    let k = type_of c.in-List.element.value in
    let whole : type_of c.args.dtype.now ≡ list k (nullability_of_flag c.in-List.nullability) = ap type_of c.in-List.is ∙ type_of-List c.in-List.element c.in-List.nullability in
    let items = c.as_slice.result.now in
    let rows = list_rows items vs (ap (map raw_at) c.as_slice.ensures.value ∙ c.in_ok-lists-in-List.ensures.items) in
    let fits : ¬ AreTooLarge k (map content_at items) =
    subst (λ x. ¬ AreTooLarge (type_of x) (map content_at items)) c.deref.ensures c.in_ok-elements-in-List.ensures.accepted in
    subst (λ x. ¬ AreTooLarge x (map content_at vs)) (sym whole) (subst (λ cs. ¬ AreTooLarge k cs) rows fits)

pub field_arrays-returns-clause-accepted : goal.field_arrays-returns-clause-accepted
field_arrays-returns-clause-accepted t c =
    let rows = map content_at c.args.values.now in
    let all : length c.args.fields.now ≤ c.loop-i.i = omega (arith, c.loop-i-test.false, c.loop-i.auto.i-end) in
    none_too_large c.args.fields.now 0 rows (λ j f l e. subst (λ n. ¬ AreTooLarge (type_of f.dtype) (parts_of n rows)) (let s : j ≡ 0 + j = omega arith in s) (c.loop-i.invariant.1 j f (omega (arith, all, l)) e))
