use Rattle.std.proofs.Common.{◌<◌, length, refl, sym, ap, ◌∙◌, arith}
use Rattle.vortex_dtype_core.specs.View.{type_of}
use Rattle.std.proofs.lemmas.Bool.{false≢true}
use Rattle.vortex_arrays_parts.proofs.TypedLemmas.{left_step, left_ends}
use Rattle.vortex_arrays_parts.proofs.struct_array_ext.are_of_types.Goals as goal

pub returns-then-not-is_of_type : goal.returns-then-not-is_of_type
returns-then-not-is_of_type c =
    let fields : c.loop-i.i < length c.args.fields.now = omega (arith, c.loop-i-test.true, c.min-i-end.ensures) in
    let stated : c.loop-i.i < length c.args.stated.now = omega (arith, c.loop-i-test.true, c.min-i-end.ensures) in
    let step = left_step c.args.stated.now c.args.fields.now c.loop-i.i c.index-stated-i.result c.index-fields-i.result stated fields c.index-stated-i.is c.index-fields-i.is in
    ((λ t. absurd (false≢true t)), (λ h. let now = step.0 (c.loop-i.invariant.of_all h) in absurd (false≢true (sym c.if-not-is_of_type.true ∙ c.is_of_type.ensures.1 (now.0 ∙ ap (λ g. type_of g.dtype) c.index-stated-i.is)))))

pub loop-i-preserved : goal.loop-i-preserved
loop-i-preserved c =
    let fields : c.loop-i.i < length c.args.fields.now = omega (arith, c.loop-i-test.true, c.min-i-end.ensures) in
    let stated : c.loop-i.i < length c.args.stated.now = omega (arith, c.loop-i-test.true, c.min-i-end.ensures) in
    let step = left_step c.args.stated.now c.args.fields.now c.loop-i.i c.index-stated-i.result c.index-fields-i.result stated fields c.index-stated-i.is c.index-fields-i.is in
    record {
      in_all = λ h. c.loop-i.invariant.in_all (step.1 (c.is_of_type.ensures.0 c.if-not-is_of_type.false ∙ sym (ap (λ g. type_of g.dtype) c.index-stated-i.is)) h);
      of_all = λ h. (step.0 (c.loop-i.invariant.of_all h)).1;
    }

pub returns : goal.returns
returns c =
    let ends = left_ends c.args.stated.now c.args.fields.now c.loop-i.i (omega (arith, c.loop-i-test.false, c.min-i-end.ensures)) in
    ((λ t. c.loop-i.invariant.in_all ends), (λ h. refl))
