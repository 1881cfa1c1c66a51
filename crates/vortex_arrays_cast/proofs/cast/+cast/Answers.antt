use Rattle.std.proofs.Common.{◌≡◌, ◌∙◌, ◌<◌, ◌+◌, get_or, refl, ap, sym, subst, length, IfSome, arith, true}
use Rattle.std.proofs.lemmas.Result.{IfOk-weaker}
use Rattle.vortex_model.specs.LogicalType.{list, fixed_list, struct}
use Rattle.vortex_dtype_ptype.specs.View.{nullability_of_flag}
use Rattle.vortex_dtype_core.specs.View.{type_of, fields_of, fields_in}
use Rattle.vortex_dtype_core.proofs.Views.{type_of-List, type_of-FixedSizeList, type_of-Struct}
use Rattle.vortex_dtype_fields.specs.Records.{names_of}
use Rattle.vortex_arrays_model.specs.Layout.{fixed_lists, list_views, records, len_of, size_of, row_at, IsSound}
use Rattle.vortex_arrays_model.specs.Parts.{columns_of}
use Rattle.vortex_arrays_model.proofs.PicksLemmas.{field_size}
use Rattle.vortex_model.specs.Content.{tuple}
use Rattle.vortex_arrays_core.specs.LayoutOf.{valid_of, layout_of}
use Rattle.vortex_arrays_validity.specs.Validities.{IsRecast}
use Rattle.vortex_arrays_cast.specs.Cast.{IsCast, AreCast}
use Rattle.vortex_arrays_cast.proofs.CastLemmas.{cast_fields_of, cast_records, first_named, first_fit}
use Rattle.vortex_arrays_cast.proofs.DictionaryLemmas.{unflagged, unflagged_range}
use Rattle.vortex_arrays_cast.proofs.EvenLemmas.{made_sound, made_back, some_weaker}
use Rattle.vortex_arrays_cast.proofs.ListLemmas.{cast_fixed_lists, cast_list_views}
use Rattle.vortex_arrays_cast.specs.Ranges.{AreRangesOf, LieIn}
use Rattle.vortex_arrays_cast.proofs.RangeLemmas.{field_ranges}
use Rattle.vortex_arrays_cast.proofs.cast.+cast.Goals as goal

pub cast_part-cast_numbers-requires-clause-range : goal.cast_part-cast_numbers-requires-clause-range
cast_part-cast_numbers-requires-clause-range t c =
    subst (LieIn c.own_range.result) (sym c.layout.ensures.layout ∙ ap layout_of c.in-Primitive.is) (c.own_range.ensures c.args.array.now c.requires)

pub cast_part-cast_records-requires : goal.cast_part-cast_records-requires
cast_part-cast_records-requires t c =
    let fs = c.in-Struct.fields.items in let n = c.in-Struct.len in let v = valid_of c.in-Struct.validity in
    let same : c.args.array.now ≡ records (columns_of c.deref.result.now fs) n v
    = sym c.layout.ensures.layout ∙ ap layout_of c.in-Struct.is ∙ ap (λ xs. records (columns_of xs fs) n v) (sym c.deref.ensures) in
    let size = ap size_of same in let falls = c.decreases in
    let sound : IsSound (records (columns_of c.deref.result.now fs) n v) = subst IsSound (c.layout.ensures.layout ∙ same) c.layout.ensures.sound in (
      omega (arith, falls, size),
      (sound.0, (sound.1, subst (λ a. AreRangesOf c.args.depth a c.args.ranges.now) same c.requires)),
    )

pub cast_part-cast_dictionary-requires-clause-sound : goal.cast_part-cast_dictionary-requires-clause-sound
cast_part-cast_dictionary-requires-clause-sound t c =
    unflagged c.in-Dict.codes c.in-Dict.values c.in-Dict.field-2 (subst IsSound (ap layout_of c.in-Dict.is) c.layout.ensures.sound)

pub cast_part-cast_dictionary-requires-clause-range : goal.cast_part-cast_dictionary-requires-clause-range
cast_part-cast_dictionary-requires-clause-range t c =
    unflagged_range c.in-Dict.codes c.in-Dict.values c.in-Dict.field-2 c.own_range-in-Dict.result
    (subst (LieIn c.own_range-in-Dict.result) (sym c.layout.ensures.layout ∙ ap layout_of c.in-Dict.is) (c.own_range-in-Dict.ensures c.args.array.now c.requires))

pub cast_fields-cast_part-requires : goal.cast_fields-cast_part-requires
cast_fields-cast_part-requires t c =
    let xs = c.args.names.now in let fs = c.args.fields.now.items in let i = c.loop-i.i in let a = c.index.result.now in
    let test = c.loop-i-test.true in let end = c.loop-i.auto.i-end in let count = c.len-i-end.ensures in let falls = c.decreases in
    let here : a ≡ get_or fs i a = c.index.ensures in
    let inside : i < length fs = grind (arith, test, end, count) in
    let smaller = field_size xs fs i a here inside in
    let below : c.in-Some.below ≡ c.args.depth + 1 = c.in-Some.ensures.1 in (
      omega (arith, falls, smaller),
      subst (λ d. AreRangesOf d a c.in_field-own.result.now) (sym below) (field_ranges (c.args.depth + 1) c.args.len i xs fs a c.in_field-own.result.now c.requires.fit inside here
          (c.in_field-own.ensures.field c.args.len (λ k. tuple (row_at (columns_of xs fs) k)) c.requires.ranges)),
    )

pub cast_fields-returns-clause-named : goal.cast_fields-returns-clause-named
cast_fields-returns-clause-named t c =
    let ts = c.args.targets.now in let fs = c.args.fields.now.items in
    let test = c.loop-i-test.false in let before = c.loop-i.auto.i-end in let count = c.len-i-end.ensures in let same = c.if-len-targets.false in let first = c.len.ensures in
    let all : c.loop-i.i ≡ length fs = grind (arith, test, before, count) in
    let many : length ts ≡ length fs = grind (arith, same, first) in
    first_named ts fs c.loop-i.i c.loop-i.columns.items c.loop-i.invariant.0 all many

pub cast_fields-returns-clause-fit : goal.cast_fields-returns-clause-fit
cast_fields-returns-clause-fit t c =
    let ts = c.args.targets.now in let fs = c.args.fields.now.items in
    let test = c.loop-i-test.false in let before = c.loop-i.auto.i-end in let count = c.len-i-end.ensures in let same = c.if-len-targets.false in let first = c.len.ensures in
    let all : c.loop-i.i ≡ length fs = grind (arith, test, before, count) in
    let many : length ts ≡ length fs = grind (arith, same, first) in
    first_fit c.args.names.now ts fs c.loop-i.i c.args.len c.loop-i.columns.items c.loop-i.invariant.0 all many c.requires.fit

pub cast_fixed_lists-returns : goal.cast_fixed_lists-returns
cast_fixed_lists-returns t c =
    let e = c.args.elements.now in let s = c.args.size in let n = c.args.len in let v = valid_of c.args.validity.now in
    let element = c.in-FixedSizeList.element in let k = type_of element.value in let m = nullability_of_flag c.in-FixedSizeList.nullability in
    let d = c.in-Some-2.elements in let w = valid_of c.in-Some.validity in let r = c.in_ok-cast.cast in
    let whole : type_of c.args.target.now ≡ fixed_list k c.in-FixedSizeList.wanted m = ap type_of c.in-FixedSizeList.is ∙ type_of-FixedSizeList element c.in-FixedSizeList.wanted c.in-FixedSizeList.nullability in
    let other = c.if-wanted-size.false in
    let same : c.in-FixedSizeList.wanted ≡ s = grind (arith, other) in
    let recast : IsRecast v w m n = subst (λ o. IfSome o (λ u. IsRecast v (valid_of u) m n)) c.in-Some.is c.in_ok-validity.ensures in
    let inside : IsCast (type_of c.deref.result.now) e d = subst (λ o. IfSome o (IsCast (type_of c.deref.result.now) e)) c.in-Some-2.is c.in_ok-elements.ensures in
    let cast : IsCast k e d = subst (λ x. IsCast (type_of x) e d) c.deref.ensures inside in
    subst (λ j. IsCast j (fixed_lists e s n v) r) (sym (whole ∙ ap (λ x. fixed_list k x m) same))
    (subst (IsCast (fixed_list k s m) (fixed_lists e s n v)) (sym c.in_ok-cast.ensures) (cast_fixed_lists k e d s n v w m cast c.requires recast))

pub cast_lists-returns : goal.cast_lists-returns
cast_lists-returns t c =
    let e = c.args.elements.now in let o = c.args.offsets.now in let s = c.args.sizes.now in let f = c.args.follow in let v = valid_of c.args.validity.now in
    let element = c.in-List.element in let k = type_of element.value in let m = nullability_of_flag c.in-List.nullability in
    let d = c.in-Some-2.elements in let w = valid_of c.in-Some.validity in let r = c.in_ok-cast.cast in
    let whole : type_of c.args.target.now ≡ list k m = ap type_of c.in-List.is ∙ type_of-List element c.in-List.nullability in
    let counted : IsRecast v w m c.len.result = subst (λ q. IfSome q (λ u. IsRecast v (valid_of u) m c.len.result)) c.in-Some.is c.in_ok-validity.ensures in
    let recast : IsRecast v w m (len_of o) = subst (IsRecast v w m) c.len.ensures.count counted in
    let inside : IsCast (type_of c.deref.result.now) e d = subst (λ q. IfSome q (IsCast (type_of c.deref.result.now) e)) c.in-Some-2.is c.in_ok-elements.ensures in
    let cast : IsCast k e d = subst (λ x. IsCast (type_of x) e d) c.deref.ensures inside in
    let made : r ≡ list_views d o s f w = c.in_ok-cast.ensures ∙ (λ i. list_views d (c.in_ok-offsets.ensures.cases i) (c.in_ok-sizes.ensures.cases i) f w) in
    subst (λ j. IsCast j (list_views e o s f v) r) (sym whole)
    (subst (IsCast (list k m) (list_views e o s f v)) (sym made) (cast_list_views k e d o s f v w m cast c.requires recast (c.if-not-are_laid_out.ensures refl)))

pub cast_records-of_columns-requires-clause-dtype : goal.cast_records-of_columns-requires-clause-dtype
cast_records-of_columns-requires-clause-dtype t c =
    let n = c.args.len in let v = valid_of c.args.validity.now in let w = valid_of c.in-Some.validity in let m = nullability_of_flag c.in-Struct.nullability in
    let recast : IsRecast v w m n = subst (λ o. IfSome o (λ u. IsRecast v (valid_of u) m n)) c.in-Some.is c.in_ok-validity.ensures in
    ap type_of c.in-Struct.is ∙ type_of-Struct c.in-Struct.targets c.in-Struct.nullability ∙ ap (struct (fields_in c.in-Struct.targets)) (sym recast.nullability)

pub cast_records-of_columns-requires-clause-typed : goal.cast_records-of_columns-requires-clause-typed
cast_records-of_columns-requires-clause-typed t c =
    let cs = columns_of c.args.names.now c.args.fields.now.items in let gs = fields_in c.in-Struct.targets in let xs = c.in-Some-2.columns.items in
    let inside : AreCast (fields_of c.as_slice.result.now) cs (columns_of (names_of (fields_of c.as_slice.result.now)) xs)
    = subst (λ o. IfSome o (λ columns. AreCast (fields_of c.as_slice.result.now) cs (columns_of (names_of (fields_of c.as_slice.result.now)) columns.items))) c.in-Some-2.is c.in_ok-columns.ensures.cast in
    cast_fields_of gs cs (columns_of (names_of gs) xs) (subst (λ fs. AreCast fs cs (columns_of (names_of fs) xs)) c.as_slice.ensures.fields inside)

pub cast_records-returns : goal.cast_records-returns
cast_records-returns t c =
    let cs = columns_of c.args.names.now c.args.fields.now.items in let n = c.args.len in let v = valid_of c.args.validity.now in
    let gs = fields_in c.in-Struct.targets in let m = nullability_of_flag c.in-Struct.nullability in
    let w = valid_of c.in-Some.validity in let r = c.in_ok-cast.cast in let xs = c.in-Some-2.columns.items in
    let whole : type_of c.args.target.now ≡ struct gs m = ap type_of c.in-Struct.is ∙ type_of-Struct c.in-Struct.targets c.in-Struct.nullability in
    let recast : IsRecast v w m n = subst (λ o. IfSome o (λ u. IsRecast v (valid_of u) m n)) c.in-Some.is c.in_ok-validity.ensures in
    let inside : AreCast (fields_of c.as_slice.result.now) cs (columns_of (names_of (fields_of c.as_slice.result.now)) xs)
    = subst (λ o. IfSome o (λ columns. AreCast (fields_of c.as_slice.result.now) cs (columns_of (names_of (fields_of c.as_slice.result.now)) columns.items))) c.in-Some-2.is c.in_ok-columns.ensures.cast in
    let cast : AreCast gs cs (columns_of (names_of gs) xs) = subst (λ fs. AreCast fs cs (columns_of (names_of fs) xs)) c.as_slice.ensures.fields inside in
    subst (λ j. IsCast j (records cs n v) r) (sym whole)
    (subst (IsCast (struct gs m) (records cs n v)) (sym c.in_ok-cast.ensures) (cast_records gs cs (columns_of (names_of gs) xs) n v w m cast c.requires.fit recast))

pub cast_any_fixed_lists-cast_lists-requires : goal.cast_any_fixed_lists-cast_lists-requires
cast_any_fixed_lists-cast_lists-requires t c = (
  omega (arith, c.decreases),
  made_sound c.args.elements.now c.in_ok-offsets.offsets c.in_ok-sizes.sizes c.args.size c.args.len (valid_of c.args.validity.now)
      c.in_ok-offsets.ensures c.in_ok-sizes.ensures c.requires c.len.ensures.sound c.len-2.ensures.sound,
)

pub cast_any_fixed_lists-returns : goal.cast_any_fixed_lists-returns
cast_any_fixed_lists-returns t c =
    let e = c.args.elements.now in let o = c.in_ok-offsets.offsets in let z = c.in_ok-sizes.sizes in let s = c.args.size in let n = c.args.len in let v = valid_of c.args.validity.now in
    let k = type_of c.args.target.now in
    IfOk-weaker c.cast_lists.result _ _ (λ cast found. some_weaker cast (IsCast k (list_views e o z true v)) (IsCast k (fixed_lists e s n v))
    (λ r. made_back e o z s n v c.in_ok-offsets.ensures c.in_ok-sizes.ensures c.requires k r) found) c.cast_lists.ensures
