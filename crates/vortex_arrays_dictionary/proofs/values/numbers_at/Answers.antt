use Rattle.std.proofs.lemmas.Result.{IfOk-weaker}
use Rattle.vortex_arrays_buffer.specs.PrimitiveBuffers.{kind_of_numbers, integers_of}
use Rattle.vortex_arrays_core.specs.LayoutOf.{valid_of}
use Rattle.vortex_arrays_dictionary.proofs.ValueLemmas.{numbers_there}
use Rattle.vortex_arrays_dictionary.proofs.values.numbers_at.Goals as goal

pub returns-clause-rows : goal.returns-clause-rows
returns-clause-rows c =
    let items = c.args.items.now in
    let chosen = c.in_ok-chosen.chosen in
    IfOk-weaker c.of_numbers.result _ _
    (λ r made. numbers_there (kind_of_numbers items) (kind_of_numbers chosen) (integers_of items) (integers_of chosen) (valid_of c.args.validity.now) (valid_of c.without_nulls.result) c.args.places.now r made
    c.requires.sound c.requires.within c.in_ok-chosen.ensures.kind c.in_ok-chosen.ensures.numbers c.without_nulls.ensures.fits c.without_nulls.ensures.nullability c.without_nulls.ensures.valid c.requires.there) c.of_numbers.ensures
