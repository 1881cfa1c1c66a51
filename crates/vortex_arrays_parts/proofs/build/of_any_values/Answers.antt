use Rattle.std.proofs.Common.{rules, IsTrue, ◌≡◌, not, map}
use Rattle.vortex_model.specs.LogicalType.{nullability_of}
use Rattle.vortex_dtype_ptype.specs.View.{nullability_of_flag}
use Rattle.vortex_dtype_core.specs.View.{type_of}
use Rattle.vortex_arrays_model.specs.Layout.{type_of_strings}
use Rattle.vortex_arrays_core.specs.LayoutOf.{strings_of}
use Rattle.vortex_arrays_parts.specs.Values.{lent, HaveNulls}
use Rattle.vortex_arrays_parts.proofs.FaultLemmas.{no_text}
use Rattle.vortex_arrays_parts.proofs.build.of_any_values.Goals as goal

pub returns-then-not-are_held-clause-refused : goal.returns-then-not-are_held-clause-refused
returns-then-not-are_held-clause-refused c =
    let k = type_of c.args.dtype.now in
    let vs = map lent c.args.values.now in
    let n = nullability_of_flag c.nullability.result in
    let is : k ≡ type_of_strings (strings_of c.in-Some.kind) (nullability_of k) = search rules in
    let same : n ≡ nullability_of k = search rules in
    let nulls : HaveNulls n vs = search rules in
    let yes : IsTrue (not c.are_held.result) = search rules in
    no_text k (strings_of c.in-Some.kind) n vs c.in_ok-buffers.buffers.items c.in_ok-buffers.views.items is same nulls c.in_ok-buffers.ensures.views (c.are_held.ensures.kind yes) (c.are_held.ensures.other yes)
