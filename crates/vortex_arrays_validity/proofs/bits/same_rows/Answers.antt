use Rattle.std.proofs.Common.{rules, ◌≡◌}
use Rattle.vortex_arrays_model.specs.Layout.{bools, required, by_array}
use Rattle.vortex_arrays_core.specs.LayoutOf.{valid_of}
use Rattle.vortex_arrays_validity.proofs.Rows.{same_bits}
use Rattle.vortex_arrays_validity.proofs.bits.same_rows.Goals as goal

pub returns-in-Some-Some : goal.returns-in-Some-Some
returns-in-Some-Some c =
    let ours = c.in-Some-Some.ours.now in
    let others = c.in-Some-Some.others.now in
    let mine : valid_of c.args.mine.now ≡ by_array (bools ours required) = search rules in
    let theirs : valid_of c.args.theirs.now ≡ by_array (bools others required) = search rules in
    same_bits (valid_of c.args.mine.now) (valid_of c.args.theirs.now) ours others c.args.len
    c.are_same.result c.requires.mine mine theirs c.are_same.ensures
