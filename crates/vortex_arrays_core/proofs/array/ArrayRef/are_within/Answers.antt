use Rattle.std.proofs.Common.{rules, ◌≡◌}
use Rattle.vortex_arrays_model.specs.Layout.{numbers}
use Rattle.vortex_arrays_buffer.specs.PrimitiveBuffers.{kind_of_numbers, integers_of}
use Rattle.vortex_arrays_core.specs.LayoutOf.{valid_of}
use Rattle.vortex_arrays_core.proofs.Picked.{within_where}
use Rattle.vortex_arrays_core.proofs.array.ArrayRef.are_within.Goals as goal

pub returns-in-Some : goal.returns-in-Some
returns-in-Some c =
    let items = c.in-Primitive.items in
    let mine : c.args.self.now ≡ numbers (kind_of_numbers items) (integers_of items) (valid_of c.in-Primitive.validity) = search rules in
    within_where c.args.self.now (kind_of_numbers items) (integers_of items) (valid_of c.in-Primitive.validity) c.in-Some.bits.now c.args.count c.are_within_where.result mine c.in-Some.ensures.bits c.are_within_where.ensures
