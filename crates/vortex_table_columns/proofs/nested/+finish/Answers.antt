use Rattle.std.proofs.Common.{◌≡◌, ◌<◌, List, [], length, get_or, map, is_some, refl, sym, subst, ap, ◌∙◌, arith}
use Rattle.std.proofs.lemmas.Result.{IfOk-weaker}
use Rattle.std.proofs.lemmas.List.{nil_from_length}
use Rattle.std.specs.Vec.Iter.{into_iter_items}
use Rattle.vortex_model.specs.LogicalType.{list, fixed_list, struct}
use Rattle.vortex_model.specs.Content.{Raw}
use Rattle.vortex_dtype_ptype.specs.View.{nullability_of_flag}
use Rattle.vortex_dtype_core.specs.View.{type_of, fields_in}
use Rattle.vortex_dtype_core.proofs.Views.{type_of-Struct, type_of-List, type_of-FixedSizeList}
use Rattle.vortex_table_columns.specs.Nested.{columns_of, HaveFields, AreArrays, HaveInside, AreLists, AreSizedLists}
use Rattle.vortex_table_columns.specs.declared.nested.NestedBuilder as nested
use Rattle.vortex_table_columns.proofs.InsideLemmas.{ArraysLeft, arrays_none, next_is_of, array_made, arrays_all, leaf_finished, record_fields, record_inside, list_items, list_inside, sized_items, sized_inside, same_of, same_becomes, record_becomes, list_becomes, sized_becomes}
use Rattle.vortex_table_columns.proofs.nested.+finish.Goals as goal

pub NestedBuilder::finish_deep-finish_all-requires :
    goal.NestedBuilder::finish_deep-finish_all-requires
NestedBuilder::finish_deep-finish_all-requires t c =
    let p = c.in-Records.present in
    let cs = c.in-Records.columns in
    let fs = fields_in c.in-Struct.fields in
    let n = nullability_of_flag c.in-Struct.nullability in
    let kind : type_of c.args.dtype.now ≡ struct fs n = ap type_of c.in-Struct.is ∙ type_of-Struct c.in-Struct.fields c.in-Struct.nullability in
    let inner = record_fields p cs fs n (same_of c.args.self (nested.Records p cs) (type_of c.args.dtype.now) (struct fs n) c.in-Records.is kind c.requires) in
    (omega (arith, c.if-depth-eq0.false, c.decreases), (inner.0, subst (λ gs. HaveFields (columns_of cs.items) gs inner.0) (sym c.as_slice.ensures.fields) inner.1))

pub NestedBuilder::finish_deep-of_records-requires :
    goal.NestedBuilder::finish_deep-of_records-requires
NestedBuilder::finish_deep-of_records-requires t c =
    let p = c.in-Records.present in
    let cs = c.in-Records.columns in
    let fs = fields_in c.in-Struct.fields in
    let n = nullability_of_flag c.in-Struct.nullability in
    let arrays = c.in_ok-arrays-in-Records.arrays.items in
    let kind : type_of c.args.dtype.now ≡ struct fs n = ap type_of c.in-Struct.is ∙ type_of-Struct c.in-Struct.fields c.in-Struct.nullability in
    let of = same_of c.args.self (nested.Records p cs) (type_of c.args.dtype.now) (struct fs n) c.in-Records.is kind c.requires in
    let made : (rows : List (List Raw)) → HaveFields (columns_of cs.items) fs rows → AreArrays fs rows arrays =
    subst (λ gs. (rows : List (List Raw)) → HaveFields (columns_of cs.items) gs rows → AreArrays gs rows arrays) c.as_slice.ensures.fields c.in_ok-arrays-in-Records.ensures in
    let x = record_inside p cs fs n arrays made of.0 of.1 in
    (x.0, subst (λ ps. HaveInside fs (map is_some ps) arrays x.0) (sym c.as_slice-in-Records.ensures.value) x.1)

pub NestedBuilder::finish_deep-of_lists-requires :
    goal.NestedBuilder::finish_deep-of_lists-requires
NestedBuilder::finish_deep-of_lists-requires t c =
    let s = c.in-Lists.sizes in
    let inner = c.in-Lists.items in
    let k = type_of c.in-List.element.value in
    let n = nullability_of_flag c.in-List.nullability in
    let e = c.in_ok-items-in-Lists.items in
    let kind : type_of c.args.dtype.now ≡ list k n = ap type_of c.in-List.is ∙ type_of-List c.in-List.element c.in-List.nullability in
    let of = same_of c.args.self (nested.Lists s inner) (type_of c.args.dtype.now) (list k n) c.in-Lists.is kind c.requires in
    let made = same_becomes c.into_inner.result inner.value (type_of c.deref.result.now) k e c.into_inner.ensures (ap type_of c.deref.ensures) c.in_ok-items-in-Lists.ensures in
    let x = list_inside s inner k n e made of.0 of.1 in
    (x.0, subst (λ xs. AreLists xs e x.0) (sym c.as_slice-in-Lists.ensures.value) x.1)

pub NestedBuilder::finish_deep-of_fixed_lists-requires :
    goal.NestedBuilder::finish_deep-of_fixed_lists-requires
NestedBuilder::finish_deep-of_fixed_lists-requires t c =
    let m = c.in-FixedLists.size in
    let p = c.in-FixedLists.present in
    let inner = c.in-FixedLists.items in
    let k = type_of c.in-FixedSizeList.element.value in
    let size = c.in-FixedSizeList._size in
    let n = nullability_of_flag c.in-FixedSizeList.nullability in
    let e = c.in_ok-items-in-FixedLists.items in
    let kind : type_of c.args.dtype.now ≡ fixed_list k size n = ap type_of c.in-FixedSizeList.is ∙ type_of-FixedSizeList c.in-FixedSizeList.element size c.in-FixedSizeList.nullability in
    let of = same_of c.args.self (nested.FixedLists m p inner) (type_of c.args.dtype.now) (fixed_list k size n) c.in-FixedLists.is kind c.requires in
    let made = same_becomes c.into_inner-in-FixedLists.result inner.value (type_of c.deref-in-FixedLists.result.now) k e c.into_inner-in-FixedLists.ensures (ap type_of c.deref-in-FixedLists.ensures) c.in_ok-items-in-FixedLists.ensures in
    let x = sized_inside m p inner k size n e made of.0 of.1 in
    (x.0, subst (λ ps. AreSizedLists m (map is_some ps) e x.0) (sym c.as_slice-in-FixedLists.ensures.value) x.1)

pub NestedBuilder::finish_deep-finish_deep-requires :
    goal.NestedBuilder::finish_deep-finish_deep-requires
NestedBuilder::finish_deep-finish_deep-requires t c =
    let s = c.in-Lists.sizes in
    let inner = c.in-Lists.items in
    let k = type_of c.in-List.element.value in
    let n = nullability_of_flag c.in-List.nullability in
    let kind : type_of c.args.dtype.now ≡ list k n = ap type_of c.in-List.is ∙ type_of-List c.in-List.element c.in-List.nullability in
    let of = same_of c.args.self (nested.Lists s inner) (type_of c.args.dtype.now) (list k n) c.in-Lists.is kind c.requires in
    (omega (arith, c.if-depth-eq0.false, c.decreases), same_of inner.value c.into_inner.result k (type_of c.deref.result.now) (sym c.into_inner.ensures) (ap type_of (sym c.deref.ensures)) (list_items s inner k n of))

pub NestedBuilder::finish_deep-finish_deep-requires-in-FixedLists :
    goal.NestedBuilder::finish_deep-finish_deep-requires-in-FixedLists
NestedBuilder::finish_deep-finish_deep-requires-in-FixedLists t c =
    let m = c.in-FixedLists.size in
    let p = c.in-FixedLists.present in
    let inner = c.in-FixedLists.items in
    let k = type_of c.in-FixedSizeList.element.value in
    let size = c.in-FixedSizeList._size in
    let n = nullability_of_flag c.in-FixedSizeList.nullability in
    let kind : type_of c.args.dtype.now ≡ fixed_list k size n = ap type_of c.in-FixedSizeList.is ∙ type_of-FixedSizeList c.in-FixedSizeList.element size c.in-FixedSizeList.nullability in
    let of = same_of c.args.self (nested.FixedLists m p inner) (type_of c.args.dtype.now) (fixed_list k size n) c.in-FixedLists.is kind c.requires in
    (omega (arith, c.if-depth-eq0.false, c.decreases), same_of inner.value c.into_inner-in-FixedLists.result k (type_of c.deref-in-FixedLists.result.now) (sym c.into_inner-in-FixedLists.ensures) (ap type_of (sym c.deref-in-FixedLists.ensures)) (sized_items m p inner k size n of))

pub NestedBuilder::finish_deep-returns-in-Leaf :
    goal.NestedBuilder::finish_deep-returns-in-Leaf
NestedBuilder::finish_deep-returns-in-Leaf t c =
    let k = type_of c.args.dtype.now in
    IfOk-weaker c.finish.result _ _ (λ a is. same_becomes (nested.Leaf c.in-Leaf.column) c.args.self k k a (sym c.in-Leaf.is) refl (leaf_finished c.in-Leaf.column k a is)) c.finish.ensures

pub NestedBuilder::finish_deep-returns-in_ok-arrays-in-Records :
    goal.NestedBuilder::finish_deep-returns-in_ok-arrays-in-Records
NestedBuilder::finish_deep-returns-in_ok-arrays-in-Records t c =
    let p = c.in-Records.present in
    let cs = c.in-Records.columns in
    let fs = fields_in c.in-Struct.fields in
    let n = nullability_of_flag c.in-Struct.nullability in
    let arrays = c.in_ok-arrays-in-Records.arrays.items in
    let kind : type_of c.args.dtype.now ≡ struct fs n = ap type_of c.in-Struct.is ∙ type_of-Struct c.in-Struct.fields c.in-Struct.nullability in
    let made : (rows : List (List Raw)) → HaveFields (columns_of cs.items) fs rows → AreArrays fs rows arrays =
    subst (λ gs. (rows : List (List Raw)) → HaveFields (columns_of cs.items) gs rows → AreArrays gs rows arrays) c.as_slice.ensures.fields c.in_ok-arrays-in-Records.ensures in
    let same = c.as_slice-in-Records.ensures.value in
    IfOk-weaker c.of_records.result _ _ (λ a h.
    same_becomes (nested.Records p cs) c.args.self (struct fs n) (type_of c.args.dtype.now) a (sym c.in-Records.is) (sym kind)
    (record_becomes p cs fs n arrays a made (λ rows x. h rows (subst (λ ps. HaveInside fs (map is_some ps) arrays rows) (sym same) x)))) c.of_records.ensures

pub NestedBuilder::finish_deep-returns-in_ok-items-in-Lists :
    goal.NestedBuilder::finish_deep-returns-in_ok-items-in-Lists
NestedBuilder::finish_deep-returns-in_ok-items-in-Lists t c =
    let s = c.in-Lists.sizes in
    let inner = c.in-Lists.items in
    let k = type_of c.in-List.element.value in
    let n = nullability_of_flag c.in-List.nullability in
    let e = c.in_ok-items-in-Lists.items in
    let kind : type_of c.args.dtype.now ≡ list k n = ap type_of c.in-List.is ∙ type_of-List c.in-List.element c.in-List.nullability in
    let made = same_becomes c.into_inner.result inner.value (type_of c.deref.result.now) k e c.into_inner.ensures (ap type_of c.deref.ensures) c.in_ok-items-in-Lists.ensures in
    let same = c.as_slice-in-Lists.ensures.value in
    IfOk-weaker c.of_lists.result _ _ (λ a h.
    same_becomes (nested.Lists s inner) c.args.self (list k n) (type_of c.args.dtype.now) a (sym c.in-Lists.is) (sym kind)
    (list_becomes s inner k n e a made (λ rows x. h rows (subst (λ xs. AreLists xs e rows) (sym same) x)))) c.of_lists.ensures

pub NestedBuilder::finish_deep-returns-in_ok-items-in-FixedLists :
    goal.NestedBuilder::finish_deep-returns-in_ok-items-in-FixedLists
NestedBuilder::finish_deep-returns-in_ok-items-in-FixedLists t c =
    let m = c.in-FixedLists.size in
    let p = c.in-FixedLists.present in
    let inner = c.in-FixedLists.items in
    let k = type_of c.in-FixedSizeList.element.value in
    let size = c.in-FixedSizeList._size in
    let n = nullability_of_flag c.in-FixedSizeList.nullability in
    let e = c.in_ok-items-in-FixedLists.items in
    let kind : type_of c.args.dtype.now ≡ fixed_list k size n = ap type_of c.in-FixedSizeList.is ∙ type_of-FixedSizeList c.in-FixedSizeList.element size c.in-FixedSizeList.nullability in
    let made = same_becomes c.into_inner-in-FixedLists.result inner.value (type_of c.deref-in-FixedLists.result.now) k e c.into_inner-in-FixedLists.ensures (ap type_of c.deref-in-FixedLists.ensures) c.in_ok-items-in-FixedLists.ensures in
    let same = c.as_slice-in-FixedLists.ensures.value in
    IfOk-weaker c.of_fixed_lists.result _ _ (λ a h.
    same_becomes (nested.FixedLists m p inner) c.args.self (fixed_list k size n) (type_of c.args.dtype.now) a (sym c.in-FixedLists.is) (sym kind)
    (sized_becomes m p inner k size n e a made (λ rows x. h rows (subst (λ ps. AreSizedLists m (map is_some ps) e rows) (sym same) x)))) c.of_fixed_lists.ensures

pub finish_all-loop-column-init : goal.finish_all-loop-column-init
finish_all-loop-column-init t c =
    let all = c.args.columns.items in
    let fs = c.args.fields.now in
    let it = c.into_iter-column-iterator in
    subst (ArraysLeft all fs (into_iter_items it.result)) (sym c.in_ok-arrays.ensures.items) (subst (λ cs. ArraysLeft all fs cs []) (sym it.ensures.into_iter_gives.0) (arrays_none all fs))

pub finish_all-finish_deep-requires : goal.finish_all-finish_deep-requires
finish_all-finish_deep-requires t c =
    let l = c.loop-column in
    let all = c.args.columns.items in
    let fs = c.args.fields.now in
    let f = c.in-Some-get.field.now in
    let left = into_iter_items c.next.new.self in
    let at : c.len-in-loop-column.result ≡ length l.arrays.items = (let len = c.len-in-loop-column.ensures in let same = l.arrays.ok.0 in omega (arith, len, same)) in
    let within : length l.arrays.items < length fs = subst (λ i. i < length fs) at c.in-Some-get.ensures.lookup.3.0 in
    let is : f ≡ get_or fs (length l.arrays.items) f = subst (λ i. f ≡ get_or fs i f) at c.in-Some-get.ensures.lookup.1 in
    let opened = subst (λ cs. ArraysLeft all fs cs l.arrays.items) c.in-Some.ensures.steps.0 l.invariant in
    (omega (arith, c.if-depth-eq0.false, c.decreases), next_is_of all fs c.in-Some.column left l.arrays.items f opened within is c.requires.0 c.requires.1)

pub finish_all-loop-column-preserved : goal.finish_all-loop-column-preserved
finish_all-loop-column-preserved t c =
    let l = c.loop-column in
    let all = c.args.columns.items in
    let fs = c.args.fields.now in
    let f = c.in-Some-get.field.now in
    let left = into_iter_items c.next.new.self in
    let at : c.len-in-loop-column.result ≡ length l.arrays.items = (let len = c.len-in-loop-column.ensures in let same = l.arrays.ok.0 in omega (arith, len, same)) in
    let within : length l.arrays.items < length fs = subst (λ i. i < length fs) at c.in-Some-get.ensures.lookup.3.0 in
    let is : f ≡ get_or fs (length l.arrays.items) f = subst (λ i. f ≡ get_or fs i f) at c.in-Some-get.ensures.lookup.1 in
    let opened = subst (λ cs. ArraysLeft all fs cs l.arrays.items) c.in-Some.ensures.steps.0 l.invariant in
    array_made all fs c.in-Some.column left l.arrays.items c.push.new.self.items c.in_ok-array.array f opened within is c.in_ok-push.ensures.items c.in_ok-array.ensures

pub finish_all-returns : goal.finish_all-returns
finish_all-returns t c =
    let it = c.loop-column.column-iterator in
    let left = into_iter_items it in
    let arrays = c.loop-column.arrays.items in
    let none : length left ≡ 0 = omega (arith, it.rest.ok.0, c.in-None.ensures.steps.0) in
    arrays_all c.args.columns.items c.args.fields.now arrays (subst (λ cs. ArraysLeft c.args.columns.items c.args.fields.now cs arrays) (nil_from_length left none) c.loop-column.invariant)
