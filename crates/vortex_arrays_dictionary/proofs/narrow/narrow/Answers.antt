use Rattle.std.proofs.Common.{rules, ◌≡◌, ◌∙◌, ap, subst, FitsSigned}
use Rattle.std.specs.Int.{w128}
use Rattle.std.proofs.lemmas.Int.{to_z-of_z}
use Rattle.vortex_dtype_ptype.specs.View.{number_kind_of}
use Rattle.vortex_arrays_model.specs.Layout.{IsSound}
use Rattle.vortex_arrays_core.specs.LayoutOf.{valid_of}
use Rattle.vortex_arrays_buffer.specs.PrimitiveBuffers.{kind_of_numbers, integers_of}
use Rattle.vortex_arrays_leaf.specs.Shapes.{IsNumbers}
use Rattle.vortex_arrays_dictionary.proofs.NarrowLemmas.{narrow_same, narrow_other, cast_fits}
use Rattle.vortex_arrays_dictionary.proofs.narrow.narrow.Goals as goal

pub returns-then-eq : goal.returns-then-eq
returns-then-eq c =
    let layout : IsNumbers c.args.array.now = subst IsNumbers c.as_array.ensures.array c.as_array.ensures.layout in
    let same : c.narrowest-ptype.result ≡ c.ptype-2.result = search rules in
    let low : FitsSigned w128 c.in_ok-least.least = search rules in
    let high : FitsSigned w128 c.in_ok-least.greatest = search rules in
    narrow_same c.args.array.now c.in_ok-same.same (number_kind_of c.ptype.result) (number_kind_of c.narrowest-ptype.result) (kind_of_numbers c.in_ok-numbers.numbers) (integers_of c.in_ok-numbers.numbers) (valid_of c.in_ok-validity.validity) _ _
    layout c.in_ok-numbers.ensures.kind c.in_ok-numbers.ensures.integers c.in_ok-validity.ensures c.ptype.ensures.kind (ap number_kind_of same ∙ c.ptype-2.ensures.kind) c.narrowest-ptype.ensures (rw (to_z-of_z w128 c.in_ok-least.least low, to_z-of_z w128 c.in_ok-least.greatest high) c.in_ok-least.ensures) c.in_ok-same.ensures.cases

pub new_unchecked-requires : goal.new_unchecked-requires
new_unchecked-requires c =
    let layout : IsNumbers c.args.array.now = subst IsNumbers c.as_array.ensures.array c.as_array.ensures.layout in
    let sound : IsSound c.args.array.now = subst IsSound c.as_array.ensures.array c.len-rows.ensures.sound in
    cast_fits c.args.array.now (kind_of_numbers c.in_ok-cast.cast) (integers_of c.in_ok-numbers.numbers) (integers_of c.in_ok-cast.cast) (valid_of c.in_ok-validity.validity) layout sound c.in_ok-numbers.ensures.integers c.in_ok-validity.ensures c.in_ok-cast.ensures.integers

pub returns : goal.returns
returns c =
    let layout : IsNumbers c.args.array.now = subst IsNumbers c.as_array.ensures.array c.as_array.ensures.layout in
    let low : FitsSigned w128 c.in_ok-least.least = search rules in
    let high : FitsSigned w128 c.in_ok-least.greatest = search rules in
    narrow_other c.args.array.now c.in_ok-narrowed.narrowed (number_kind_of c.ptype.result) (number_kind_of c.narrowest-ptype.result) (kind_of_numbers c.in_ok-numbers.numbers) (kind_of_numbers c.in_ok-cast.cast) (integers_of c.in_ok-numbers.numbers) (integers_of c.in_ok-cast.cast) (valid_of c.in_ok-validity.validity) _ _
    layout c.in_ok-numbers.ensures.kind c.in_ok-numbers.ensures.integers c.in_ok-validity.ensures c.ptype.ensures.kind c.in_ok-cast.ensures.kind c.narrowest-ptype.ensures (rw (to_z-of_z w128 c.in_ok-least.least low, to_z-of_z w128 c.in_ok-least.greatest high) c.in_ok-least.ensures) c.in_ok-narrowed.ensures c.in_ok-cast.ensures.integers
