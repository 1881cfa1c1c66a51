use Rattle.std.proofs.Common.{◌≡◌, flat_map, rules}
use Rattle.std.specs.List.{All}
use Rattle.vortex_arrays_core.specs.LayoutOf.{valid_of}
use Rattle.vortex_arrays_concat.specs.Columns.{bits_in, AreBools}
use Rattle.vortex_arrays_concat.proofs.ColumnLemmas.{column_of_bits}
use Rattle.vortex_arrays_concat.proofs.columns.concat_bools.Goals as goal

pub returns : goal.returns
returns c =
    let kinds : All AreBools c.args.arrays.now = search rules in
    let bits : c.in_ok-bits-2.bits ≡ flat_map bits_in c.args.arrays.now = search rules in
    column_of_bits c.args.arrays.now c.in_ok-bits-2.bits (valid_of c.in_ok-validity.validity) c.in_ok-array.array c.requires.some kinds bits c.in_ok-validity.ensures c.in_ok-array.ensures
