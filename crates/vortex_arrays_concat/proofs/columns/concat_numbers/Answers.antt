use Rattle.std.proofs.Common.{◌≡◌, flat_map, rules}
use Rattle.std.specs.List.{All}
use Rattle.vortex_arrays_core.specs.LayoutOf.{valid_of}
use Rattle.vortex_arrays_buffer.specs.PrimitiveBuffers.{kind_of_numbers, integers_of}
use Rattle.vortex_arrays_concat.specs.Columns.{numbers_in, AreNumbers}
use Rattle.vortex_arrays_concat.proofs.ColumnLemmas.{numbers_fit, column_of_numbers}
use Rattle.vortex_arrays_concat.proofs.columns.concat_numbers.Goals as goal

pub of_numbers-requires : goal.of_numbers-requires
of_numbers-requires c =
    let items = c.in-Some.items in
    let kinds : All (AreNumbers (kind_of_numbers items)) c.args.arrays.now = search rules in
    let numbers : integers_of items ≡ flat_map numbers_in c.args.arrays.now = search rules in
    numbers_fit c.args.arrays.now (kind_of_numbers items) (integers_of items) (valid_of c.in_ok-validity.validity) kinds numbers c.in_ok-validity.ensures

pub returns : goal.returns
returns c =
    let items = c.in-Some.items in
    let kinds : All (AreNumbers (kind_of_numbers items)) c.args.arrays.now = search rules in
    let numbers : integers_of items ≡ flat_map numbers_in c.args.arrays.now = search rules in
    column_of_numbers c.args.arrays.now (kind_of_numbers items) (integers_of items) (valid_of c.in_ok-validity.validity) c.in_ok-array.array c.requires.some kinds numbers c.in_ok-validity.ensures c.in_ok-array.ensures
