use Rattle.std.proofs.Common.{◌≡◌, [], ◌∷◌, ℕ, List, length, get_or, ap, ◌∙◌, arith, rules}
use Rattle.std.specs.Vec.Iter.{into_iter_items}
use Rattle.vortex_model.proofs.Lists.{none_left}
use Rattle.vortex_dtype_core.specs.View.{fields_from}
use Rattle.vortex_dtype_core.specs.declared.dtype.DType.{DType}
use Rattle.vortex_dtype_core.specs.declared.struct_fields.StructField.{StructField}
use Rattle.vortex_dtype_core.proofs.Loops.{one_more, one_more_field, no_more_fields}
use Rattle.vortex_dtype_core.proofs.Views.{built}
use Rattle.vortex_dtype_core.proofs.struct_fields.StructFields.new.Goals as goal

pub loop-dtype-init : goal.loop-dtype-init
loop-dtype-init c = grind (arith, built)

pub offset_bounds-as_slice-len : goal.offset_bounds-as_slice-len
offset_bounds-as_slice-len c = grind (arith, built)

pub bounds-as_slice-len : goal.bounds-as_slice-len
bounds-as_slice-len c = grind (arith, built)

pub loop-dtype-preserved : goal.loop-dtype-preserved
loop-dtype-preserved c =
    let names : List (List ℕ) = c.args.names in
    let before : List StructField = c.loop-dtype.fields.items in
    let left : List DType = into_iter_items c.loop-dtype.dtype-iterator in
    let after : List DType = into_iter_items c.next.new.self in
    let f : StructField = record { name = c.in_ok-name.name; dtype = c.in-Some.dtype } in
    let e : left ≡ f.dtype ∷ after = search rules in
    let is : f.name ≡ get_or names (length before) f.name = grind arith in
    rw c.in_ok-push.ensures.items (record {
      many = one_more before f f.dtype left after _ e c.loop-dtype.invariant.many;
      all = one_more_field names before f left after _ (omega (arith, ap length e)) is e c.loop-dtype.invariant.all;
    })

pub returns : goal.returns
returns c =
    let it = c.loop-dtype.dtype-iterator in
    let left : List DType = into_iter_items it in
    let n : length left ≡ 0 = omega (arith, it.rest.ok.0, c.in-None.ensures.steps.0) in
    c.in_ok-all.ensures ∙ ap fields_from (no_more_fields c.args.names c.loop-dtype.fields.items left _ (none_left left n) c.loop-dtype.invariant.all)
