-- The fields of a dropped struct array are smaller than it, in the measure of a cycle of four
-- functions.
use Rattle.std.proofs.Common.{rules, ◌≡◌, ◌<◌, ◌≤◌, ◌+◌, ◌*◌, ap, arith}
use denote.Param.Weighed.{most}
use Rattle.vortex_arrays_core.specs.declared.array.ArrayRef.{ArrayRef}
use Rattle.vortex_arrays_core.specs.declared.array.ArrayRef.TheView.{size}
use Rattle.vortex_arrays_core.specs.declared.array.ArrayRef.TheDeep.{size-ArrayRef, deep-ArrayLayout}
use Rattle.vortex_arrays_core.specs.declared.array.ArrayRef.TheShapes.{weighed-ArrayLayout-Struct-1}
use Rattle.vortex_arrays_core.specs.declared.array.ArrayLayout.TheVariants.{Struct}
use Rattle.vortex_arrays_core.proofs.Sizes.{most_fourfold}
use Rattle.vortex_arrays_core.proofs.+drop_array.Goals as goal

pub array::ArrayLayout::drop-drop-fields-requires : goal.array::ArrayLayout::drop-drop-fields-requires
array::ArrayLayout::drop-drop-fields-requires t c κs =
    let fields = c.in-Struct._fields in
    let whole : deep-ArrayLayout c.args.self ≡ deep-ArrayLayout (Struct c.in-Struct._names fields c.in-Struct.field-2 c.in-Struct._validity) = ap deep-ArrayLayout c.in-Struct.is in
    let below : most size-ArrayRef fields.items ≤ 4 * weighed-ArrayLayout-Struct-1.weight ArrayRef (λ y. size y + 1) fields = most_fourfold (λ y. size y + 1) fields.items in
    let smaller : most size-ArrayRef fields.items < t = omega (arith, c.decreases, whole, below) in
    search (rules, smaller)
