use Rattle.std.proofs.Common.{◌≡◌, rules}
use Rattle.vortex_dtype_core.specs.View.{type_of}
use Rattle.vortex_arrays_concat.specs.EndToEnd.{AreOfType}
use Rattle.vortex_arrays_concat.specs.Columns.{IsJoined}
use Rattle.vortex_arrays_concat.proofs.RecordLemmas.{joined_made}
use Rattle.vortex_arrays_concat.proofs.struct_array_concat.concat.Goals as goal

pub returns-then-have_room-clause-made : goal.returns-then-have_room-clause-made
returns-then-have_room-clause-made c =
    let ls = c.args.arrays.now in
    let shared = c.as_slice.result.now in
    let k = type_of c.in-Some.dtype.now in
    let kinds : AreOfType ls k = search rules in
    let same : shared ≡ ls = search rules in
    let joined : IsJoined shared c.in-Some-2.array = search rules in
    joined_made ls shared k c.in-Some-2.array kinds same joined
