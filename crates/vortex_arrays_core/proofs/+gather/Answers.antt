use Rattle.std.below.core.proofs.iter.Serving.{as_err}
use Rattle.std.proofs.lemmas.Grind.{common_steps}
use Rattle.std.proofs.Common.{◌≡◌, ◌<◌, sym, ◌∙◌, subst, arith, get_or, length}
use Rattle.std.specs.List.{All}
use Rattle.vortex_arrays_model.proofs.PicksLemmas.{field_length, field_size, picks_columns, fields_read}
use Rattle.vortex_arrays_core.proofs.Gathered.{arms}
use borrow.Author.Rules.{get_or_read}
use Rattle.vortex_arrays_core.proofs.+gather.Goals as goal

pub gather::gather_fields-gather-requires : goal.gather::gather_fields-gather-requires
gather::gather_fields-gather-requires t c =
    let e = c.deref-field-items.ensures.value in
    let here : c.field-item.result ≡ get_or c.args.fields.now.items c.loop-field.field-index c.field-item.result = rw (← e) c.field-item.is in
    let inside : c.loop-field.field-index < length c.args.fields.now.items = rw (← e) c.loop-field-test.true in (
      omega (arith, field_size c.args.names.now c.args.fields.now.items c.loop-field.field-index c.field-item.result here inside),
      subst (λ n. All (λ i. i < n) c.args.positions.now) (sym (field_length c.args.names.now c.args.fields.now.items c.args.len c.loop-field.field-index c.field-item.result c.requires.fit here inside)) c.requires.within,
    )

pub gather::gather_fields-returns-clause-parts : goal.gather::gather_fields-returns-clause-parts
gather::gather_fields-returns-clause-parts t c =
    let e = c.deref-field-items.ensures.value in
    let all : c.loop-field.field-index ≡ length c.args.fields.now.items = rw (← e) (omega arith) in
    picks_columns c.args.names.now c.args.fields.now.items c.loop-field.parts.items (length c.args.positions.now) (λ i. get_or c.args.positions.now i 0) (c.loop-field.invariant.many ∙ all) (λ k d h. c.loop-field.invariant.each k d (omega (arith, all)))

pub array::ArrayRef::gather-gather_bools-requires-clause-within : goal.array::ArrayRef::gather-gather_bools-requires-clause-within
array::ArrayRef::gather-gather_bools-requires-clause-within t c κs = grind (arith, common_steps)

pub array::ArrayRef::gather-gather_numbers-requires-clause-within : goal.array::ArrayRef::gather-gather_numbers-requires-clause-within
array::ArrayRef::gather-gather_numbers-requires-clause-within t c κs = grind (arith, common_steps)

pub array::ArrayRef::gather-gather_strings-requires-clause-within : goal.array::ArrayRef::gather-gather_strings-requires-clause-within
array::ArrayRef::gather-gather_strings-requires-clause-within t c κs = grind (arith, common_steps)

pub array::ArrayRef::gather-returns-in_err-clone-in-Constant : goal.array::ArrayRef::gather-returns-in_err-clone-in-Constant
array::ArrayRef::gather-returns-in_err-clone-in-Constant t c = grind (arith, (as_err c.from_residual.ensures.0).1)

pub array::ArrayRef::gather-returns-in_err-codes-in-Dict : goal.array::ArrayRef::gather-returns-in_err-codes-in-Dict
array::ArrayRef::gather-returns-in_err-codes-in-Dict t c = grind (arith, (as_err c.from_residual-in_err-codes-in-Dict.ensures.0).1)

pub array::ArrayRef::gather-returns-in_err-clone-in-Dict : goal.array::ArrayRef::gather-returns-in_err-clone-in-Dict
array::ArrayRef::gather-returns-in_err-clone-in-Dict t c = grind (arith, (as_err c.from_residual-in_err-clone-in-Dict.ensures.0).1)

pub array::ArrayRef::gather-same-of_dict : goal.array::ArrayRef::gather-same-of_dict
array::ArrayRef::gather-same-of_dict t c = grind (arith, common_steps)

pub array::ArrayRef::gather-dictionary_at-requires : goal.array::ArrayRef::gather-dictionary_at-requires
array::ArrayRef::gather-dictionary_at-requires t c κs = grind (arith, common_steps)

pub array::ArrayRef::gather-gather-requires-in-ListView-clause-within : goal.array::ArrayRef::gather-gather-requires-in-ListView-clause-within
array::ArrayRef::gather-gather-requires-in-ListView-clause-within t c κs = grind (arith, common_steps)

pub array::ArrayRef::gather-returns-in_err-validity-in-ListView : goal.array::ArrayRef::gather-returns-in_err-validity-in-ListView
array::ArrayRef::gather-returns-in_err-validity-in-ListView t c = grind (arith, (as_err c.from_residual-in_err-validity-in-ListView.ensures.0).1)

pub array::ArrayRef::gather-returns-in_err-offsets-in-ListView : goal.array::ArrayRef::gather-returns-in_err-offsets-in-ListView
array::ArrayRef::gather-returns-in_err-offsets-in-ListView t c = grind (arith, (as_err c.from_residual-in_err-offsets-in-ListView.ensures.0).1)

pub array::ArrayRef::gather-returns-in_err-sizes-in-ListView : goal.array::ArrayRef::gather-returns-in_err-sizes-in-ListView
array::ArrayRef::gather-returns-in_err-sizes-in-ListView t c = grind (arith, (as_err c.from_residual-in_err-sizes-in-ListView.ensures.0).1)

pub array::ArrayRef::gather-returns-in_err-clone-in-ListView : goal.array::ArrayRef::gather-returns-in_err-clone-in-ListView
array::ArrayRef::gather-returns-in_err-clone-in-ListView t c = grind (arith, (as_err c.from_residual-in_err-clone-in-ListView.ensures.0).1)

pub array::ArrayRef::gather-same-offsets : goal.array::ArrayRef::gather-same-offsets
array::ArrayRef::gather-same-offsets t c = grind (arith, common_steps)

pub array::ArrayRef::gather-same-sizes : goal.array::ArrayRef::gather-same-sizes
array::ArrayRef::gather-same-sizes t c = grind (arith, common_steps)

pub array::ArrayRef::gather-gather-requires-in-Struct-clause-within : goal.array::ArrayRef::gather-gather-requires-in-Struct-clause-within
array::ArrayRef::gather-gather-requires-in-Struct-clause-within t c κs = grind (arith, common_steps)

pub array::ArrayRef::gather-returns-in_err-validity-in-Struct : goal.array::ArrayRef::gather-returns-in_err-validity-in-Struct
array::ArrayRef::gather-returns-in_err-validity-in-Struct t c = grind (arith, (as_err c.from_residual-in_err-validity-in-Struct.ensures.0).1)

pub array::ArrayRef::gather-returns-in_err-fields-in-Struct : goal.array::ArrayRef::gather-returns-in_err-fields-in-Struct
array::ArrayRef::gather-returns-in_err-fields-in-Struct t c = grind (arith, (as_err c.from_residual-in_err-fields-in-Struct.ensures.0).1)

pub array::ArrayRef::gather-returns-in_err-clone-in-Struct : goal.array::ArrayRef::gather-returns-in_err-clone-in-Struct
array::ArrayRef::gather-returns-in_err-clone-in-Struct t c = grind (arith, (as_err c.from_residual-in_err-clone-in-Struct.ensures.0).1)

pub array::ArrayRef::gather-returns-in-Bool : goal.array::ArrayRef::gather-returns-in-Bool
array::ArrayRef::gather-returns-in-Bool t c = grind (arith, arms, get_or_read)

pub array::ArrayRef::gather-returns-in-Primitive : goal.array::ArrayRef::gather-returns-in-Primitive
array::ArrayRef::gather-returns-in-Primitive t c = grind (arith, arms, get_or_read)

pub array::ArrayRef::gather-returns-in-VarBinView : goal.array::ArrayRef::gather-returns-in-VarBinView
array::ArrayRef::gather-returns-in-VarBinView t c = grind (arith, arms, get_or_read)

pub array::ArrayRef::gather-returns-in_ok-clone-in-Constant : goal.array::ArrayRef::gather-returns-in_ok-clone-in-Constant
array::ArrayRef::gather-returns-in_ok-clone-in-Constant t c = grind (arith, arms, get_or_read)

pub array::ArrayRef::gather-returns-in_ok-clone-in-Dict : goal.array::ArrayRef::gather-returns-in_ok-clone-in-Dict
array::ArrayRef::gather-returns-in_ok-clone-in-Dict t c = grind (arith, arms, get_or_read)

pub array::ArrayRef::gather-returns-in-FixedSizeList : goal.array::ArrayRef::gather-returns-in-FixedSizeList
array::ArrayRef::gather-returns-in-FixedSizeList t c = grind (arith, arms, get_or_read)

pub array::ArrayRef::gather-returns-in_ok-clone-in-ListView : goal.array::ArrayRef::gather-returns-in_ok-clone-in-ListView
array::ArrayRef::gather-returns-in_ok-clone-in-ListView t c = grind (arith, arms, get_or_read)

pub array::ArrayRef::gather-returns-in_ok-clone-in-Struct : goal.array::ArrayRef::gather-returns-in_ok-clone-in-Struct
array::ArrayRef::gather-returns-in_ok-clone-in-Struct t c = grind (arith, arms, get_or_read)

pub gather::gather_fields-returns-in_err-parts-clause-parts : goal.gather::gather_fields-returns-in_err-parts-clause-parts
gather::gather_fields-returns-in_err-parts-clause-parts t c = grind (arith, (as_err c.from_residual.ensures.0).1)

pub gather::gather_fields-returns-in_err-parts-clause-count : goal.gather::gather_fields-returns-in_err-parts-clause-count
gather::gather_fields-returns-in_err-parts-clause-count t c = grind (arith, (as_err c.from_residual.ensures.0).1)

pub gather::gather_fields-loop-field-init : goal.gather::gather_fields-loop-field-init
gather::gather_fields-loop-field-init t c = grind (arith, fields_read)

pub gather::gather_fields-offset_bounds-field-items-field-index : goal.gather::gather_fields-offset_bounds-field-items-field-index
gather::gather_fields-offset_bounds-field-items-field-index t c = grind (arith, fields_read, c.well_formed, c.ranges)

pub gather::gather_fields-returns-in_err-part-clause-parts : goal.gather::gather_fields-returns-in_err-part-clause-parts
gather::gather_fields-returns-in_err-part-clause-parts t c = grind (arith, (as_err c.from_residual-in_err-part.ensures.0).1)

pub gather::gather_fields-returns-in_err-part-clause-count : goal.gather::gather_fields-returns-in_err-part-clause-count
gather::gather_fields-returns-in_err-part-clause-count t c = grind (arith, (as_err c.from_residual-in_err-part.ensures.0).1)

pub gather::gather_fields-returns-in_err-push-clause-parts : goal.gather::gather_fields-returns-in_err-push-clause-parts
gather::gather_fields-returns-in_err-push-clause-parts t c = grind (arith, (as_err c.from_residual-in_err-push.ensures.0).1)

pub gather::gather_fields-returns-in_err-push-clause-count : goal.gather::gather_fields-returns-in_err-push-clause-count
gather::gather_fields-returns-in_err-push-clause-count t c = grind (arith, (as_err c.from_residual-in_err-push.ensures.0).1)

pub gather::gather_fields-loop-field-smaller : goal.gather::gather_fields-loop-field-smaller
gather::gather_fields-loop-field-smaller t c = grind (arith, fields_read, get_or_read, c.well_formed, c.ranges, c.loop-field.invariant, c.loop-field.far-field-index, c.loop-field-test.true)

pub gather::gather_fields-loop-field-preserved : goal.gather::gather_fields-loop-field-preserved
gather::gather_fields-loop-field-preserved t c = grind (arith, fields_read, get_or_read, c.well_formed, c.ranges, c.loop-field.invariant, c.loop-field.far-field-index, c.loop-field-test.true)

pub gather::gather_fields-returns-clause-count : goal.gather::gather_fields-returns-clause-count
gather::gather_fields-returns-clause-count t c = grind (arith, fields_read, c.well_formed, c.ranges)
