use Rattle.std.proofs.Common.{◌≡◌, ◌<◌, length, map, get_or, IfSome, refl, sym, ap, subst, ◌∙◌, rules, arith}
use Rattle.std.specs.List.{All}
use Rattle.std.proofs.lemmas.Result.{IfOk-weaker}
use Rattle.std.proofs.lemmas.Option.{IfSome_then}
use Rattle.vortex_dtype_core.specs.View.{type_of, fields_of}
use Rattle.vortex_dtype_core.proofs.Sizes.{type_size, fields_size, field_smaller}
use Rattle.vortex_arrays_model.specs.Layout.{records}
use Rattle.vortex_arrays_model.specs.Parts.{columns_of}
use Rattle.vortex_arrays_core.specs.LayoutOf.{valid_of}
use Rattle.vortex_arrays_concat.specs.EndToEnd.{IsEndToEnd, rows_in_all}
use Rattle.vortex_arrays_concat.specs.Columns.{AreFields, IsJoined, HaveField, fields_at, validities}
use Rattle.vortex_arrays_concat.specs.PlainParts.{ArePlainParts}
use Rattle.vortex_arrays_concat.proofs.PlainLemmas.{parts_count, parts_joined, parts_some}
use Rattle.vortex_arrays_concat.specs.FixedLists.{AreFixedLists, elements_in}
use Rattle.vortex_arrays_concat.proofs.FixedLemmas.{lists_joined}
use Rattle.vortex_arrays_concat.specs.Lists.{AreListsOf}
use Rattle.vortex_arrays_concat.proofs.ListLemmas.{views_fit, views_joined}
use Rattle.vortex_arrays_concat.proofs.RecordLemmas.{field_count, all_columns, records_fit, records_joined}
use Rattle.vortex_arrays_concat.proofs.nested.+concat.Goals as goal

pub concat_column-concat_alike-requires-2 : goal.concat_column-concat_alike-requires-2
concat_column-concat_alike-requires-2 t c =
    let k = type_of c.args.dtype.now in
    let falls = c.decreases in
    let parts : ArePlainParts k c.args.arrays.now c.in-Some-2.parts.items = subst (λ o. IfSome o (λ parts. ArePlainParts k c.args.arrays.now parts.items)) c.in-Some-2.is c.in_ok-parts.ensures in (
      omega (arith, falls),
      subst (λ xs. c.args.count ≡ rows_in_all xs) (sym c.as_slice.ensures.value) (parts_count k c.args.arrays.now c.in-Some-2.parts.items c.args.count parts c.requires),
    )

pub concat_column-returns : goal.concat_column-returns
concat_column-returns t c =
    let k = type_of c.args.dtype.now in
    let ls = c.args.arrays.now in
    let xs = c.as_slice.result.now in
    let parts : ArePlainParts k ls c.in-Some-2.parts.items = subst (λ o. IfSome o (λ parts. ArePlainParts k ls parts.items)) c.in-Some-2.is c.in_ok-parts.ensures in
    let lent : ArePlainParts k ls xs = subst (ArePlainParts k ls) (sym c.as_slice.ensures.value) parts in
    IfOk-weaker c.concat_alike-2.result _ _ (λ found h. IfSome_then found h (λ a j. parts_joined k ls xs a lent j)) c.concat_alike-2.ensures

pub concat_fields-concat_column-requires : goal.concat_fields-concat_column-requires
concat_fields-concat_column-requires t c =
    let fs = c.args.types.now in
    let i = c.loop-i.i in
    let f = c.index-types-i.result in
    let falls = c.decreases in
    let smaller : type_size (type_of (get_or fs i f).dtype) < fields_size (fields_of fs) =
    subst (λ g. type_size (type_of g.dtype) < fields_size (fields_of fs)) c.index-types-i.is (field_smaller fs i f c.loop-i-test.true c.index-types-i.is) in
    let have : HaveField c.args.arrays.now i = search rules in
    let made : c.as_slice.result.now ≡ fields_at i c.args.arrays.now = search rules in
    (omega (arith, falls, smaller), field_count i c.args.arrays.now c.as_slice.result.now c.args.count c.requires have made)

pub concat_fields-returns : goal.concat_fields-returns
concat_fields-returns t c =
    let end = c.loop-i.auto.i-end in
    let past = c.loop-i-test.false in
    let all : c.loop-i.i ≡ length c.args.types.now = search rules in
    all_columns c.args.arrays.now (length c.args.types.now) c.loop-i.i c.loop-i.fields.items c.loop-i.invariant all

pub concat_fixed_lists-returns : goal.concat_fixed_lists-returns
concat_fixed_lists-returns t c =
    let s = c.args.size in
    let ls = c.args.arrays.now in
    let xs = c.in-Some.parts.items in
    let e = c.in-Some-2.elements in
    let sized : All (AreFixedLists s) ls = subst (λ o. IfSome o (λ parts. All (AreFixedLists s) ls)) c.in-Some.is c.in_ok-parts.ensures.kinds in
    let gathered : xs ≡ map elements_in ls = subst (λ o. IfSome o (λ parts. parts.items ≡ map elements_in ls)) c.in-Some.is c.in_ok-parts.ensures.parts in
    let lent : IsJoined c.as_slice.result.now e = subst (λ o. IfSome o (λ a. IsJoined c.as_slice.result.now a)) c.in-Some-2.is c.in_ok-elements.ensures in
    let joined : IsJoined xs e = subst (λ ys. IsJoined ys e) c.as_slice.ensures.value lent in
    lists_joined s ls xs e c.args.count (valid_of c.in_ok-validity.validity) c.requires.some sized gathered c.requires.count joined c.in_ok-validity.ensures c.in_ok-array.array c.in_ok-array.ensures

pub concat_records-of_records-requires-clause-sound : goal.concat_records-of_records-requires-clause-sound
concat_records-of_records-requires-clause-sound t c =
    let ls = c.args.arrays.now in
    let own = c.in-Struct.own.items in
    let gs = c.in-Some.fields.items in
    let made : AreFields ls (length c.args.types.now) gs = subst (λ o. IfSome o (λ fields. AreFields ls (length c.args.types.now) fields.items)) c.in-Some.is c.in_ok-fields.ensures in
    let same = c.if-len-types.false in
    let many = c.len.ensures in
    let width : length c.args.types.now ≡ length own = omega (arith, same, many) in
    let fields : AreFields ls (length own) gs = subst (λ n. AreFields ls n gs) width made in
    records_fit ls c.in_ok-clone.field-0.value own gs (valid_of c.in_ok-validity.validity) c.args.count fields c.in_ok-validity.ensures c.requires.count

pub concat_records-returns : goal.concat_records-returns
concat_records-returns t c =
    let ls = c.args.arrays.now in
    let a = c.index-arrays-0.result in
    let names = c.in_ok-clone.field-0.value in
    let own = c.in-Struct.own.items in
    let gs = c.in-Some.fields.items in
    let n = c.in-Struct.field-2 in
    let v = valid_of c.in-Struct.field-3 in
    let made : AreFields ls (length c.args.types.now) gs = subst (λ o. IfSome o (λ fields. AreFields ls (length c.args.types.now) fields.items)) c.in-Some.is c.in_ok-fields.ensures in
    let equal = c.if-len-types.false in
    let many = c.len.ensures in
    let width : length c.args.types.now ≡ length own = omega (arith, equal, many) in
    let fields : AreFields ls (length own) gs = subst (λ m. AreFields ls m gs) width made in
    let same : names ≡ c.in-Struct.names.value = search rules in
    let parts : a ≡ records (columns_of c.in-Struct.names.value own) n v = search rules in
    records_joined ls a names own gs n v (valid_of c.in_ok-validity.validity) c.args.count c.in_ok-array.array
    c.requires.some c.index-arrays-0.is (parts ∙ ap (λ xs. records (columns_of xs own) n v) (sym same)) (c.if-not-are_records.ensures refl) fields c.in_ok-validity.ensures c.requires.count c.in_ok-array.ensures

pub concat_lists-concat_validity-requires-clause-count : goal.concat_lists-concat_validity-requires-clause-count
concat_lists-concat_validity-requires-clause-count t c =
    let k = type_of c.args.dtype.now in
    let ls = c.args.arrays.now in
    let xs = c.in-Some.parts.items in
    let parts : ArePlainParts k ls xs = subst (λ o. IfSome o (λ parts. ArePlainParts k ls parts.items)) c.in-Some.is c.in_ok-parts.ensures in
    subst (λ ys. c.args.count ≡ rows_in_all ys) (sym c.as_slice-3.ensures.value) (parts_count k ls xs c.args.count parts c.requires)

pub concat_lists-of_lists-requires : goal.concat_lists-of_lists-requires
concat_lists-of_lists-requires t c =
    let k = type_of c.args.dtype.now in
    let ls = c.args.arrays.now in
    let xs = c.in-Some.parts.items in
    let parts : ArePlainParts k ls xs = subst (λ o. IfSome o (λ parts. ArePlainParts k ls parts.items)) c.in-Some.is c.in_ok-parts.ensures in
    let es = c.in-Some-2.lists.elements.items in
    let os = c.in-Some-2.lists.offsets.items in
    let ss = c.in-Some-2.lists.sizes.items in
    let total = c.in-Some-2.lists.total in
    let e = c.in-Some-3.joined in
    let v = valid_of c.in_ok-validity.validity in
    let ys = c.as_slice.result.now in
    let lent : AreListsOf ys es os ss total = subst (λ o. IfSome o (λ lists. AreListsOf ys lists.elements.items lists.offsets.items lists.sizes.items lists.total)) c.in-Some-2.is c.in_ok-lists.ensures in
    let lists : AreListsOf xs es os ss total = subst (λ zs. AreListsOf zs es os ss total) c.as_slice.ensures.value lent in
    let lent_elements : IsJoined c.as_slice-2.result.now e = subst (λ o. IfSome o (λ a. IsJoined c.as_slice-2.result.now a)) c.in-Some-3.is c.in_ok-joined.ensures in
    let joined : IsJoined es e = subst (λ zs. IsJoined zs e) c.as_slice-2.ensures.value lent_elements in
    let made : IsEndToEnd (validities xs) v = subst (λ zs. IsEndToEnd (validities zs) v) c.as_slice-3.ensures.value c.in_ok-validity.ensures in
    let some : 0 < length xs = parts_some k ls xs parts in
    λ held_offsets held_sizes sound. views_fit xs es os ss total e v some lists parts.plain joined made k parts.kinds held_offsets held_sizes sound

pub concat_lists-returns : goal.concat_lists-returns
concat_lists-returns t c =
    let k = type_of c.args.dtype.now in
    let ls = c.args.arrays.now in
    let xs = c.in-Some.parts.items in
    let parts : ArePlainParts k ls xs = subst (λ o. IfSome o (λ parts. ArePlainParts k ls parts.items)) c.in-Some.is c.in_ok-parts.ensures in
    let es = c.in-Some-2.lists.elements.items in
    let os = c.in-Some-2.lists.offsets.items in
    let ss = c.in-Some-2.lists.sizes.items in
    let total = c.in-Some-2.lists.total in
    let e = c.in-Some-3.joined in
    let v = valid_of c.in_ok-validity.validity in
    let ys = c.as_slice.result.now in
    let lent : AreListsOf ys es os ss total = subst (λ o. IfSome o (λ lists. AreListsOf ys lists.elements.items lists.offsets.items lists.sizes.items lists.total)) c.in-Some-2.is c.in_ok-lists.ensures in
    let lists : AreListsOf xs es os ss total = subst (λ zs. AreListsOf zs es os ss total) c.as_slice.ensures.value lent in
    let lent_elements : IsJoined c.as_slice-2.result.now e = subst (λ o. IfSome o (λ a. IsJoined c.as_slice-2.result.now a)) c.in-Some-3.is c.in_ok-joined.ensures in
    let joined : IsJoined es e = subst (λ zs. IsJoined zs e) c.as_slice-2.ensures.value lent_elements in
    let made : IsEndToEnd (validities xs) v = subst (λ zs. IsEndToEnd (validities zs) v) c.as_slice-3.ensures.value c.in_ok-validity.ensures in
    let some : 0 < length xs = parts_some k ls xs parts in
    let new = c.in_ok-array.array in
    parts_joined k ls xs new parts (views_joined xs es os ss total e v some lists parts.plain joined made new c.in_ok-array.ensures)
