use Rattle.std.proofs.Common.{◌≡◌, map, ap}
use Rattle.vortex_dtype_ptype.specs.View.{nullability_of_flag}
use Rattle.vortex_scalar_value.specs.View.{raw_at}
use Rattle.vortex_arrays_core.specs.LayoutOf.{valid_of, strings_of}
use Rattle.vortex_arrays_builder.proofs.StringLemmas.{plain_strings}
use Rattle.vortex_arrays_builder.proofs.strings.of_strings.Goals as goal

pub of_strings-requires : goal.of_strings-requires
of_strings-requires c =
    let views : c.in_ok-views.views ≡ c.in_ok-buffers.views.items = c.in_ok-views.ensures in
    let buffers : c.in_ok-buffers-2.buffers.value.items ≡ c.in_ok-buffers.buffers.items = ap (λ v. v.items) c.in_ok-buffers-2.ensures.ok in
    let made = plain_strings (strings_of c.args.kind) (nullability_of_flag c.args.nullability) (map raw_at c.args.values.now) (valid_of c.in_ok-validity.validity) c.in_ok-buffers.views.items c.in_ok-buffers.buffers.items c.requires c.in_ok-buffers.ensures.views c.in_ok-validity.ensures in
    rw (views, buffers) made.sound
