use Rattle.std.below.core.proofs.iter.Serving.{as_err}
use Rattle.std.proofs.Common.{[], get_or, cond, sym, ap, subst, ◌∙◌, arith}
use Rattle.std.proofs.lemmas.Option.{get_or_from_slice_get}
use Rattle.vortex_model.specs.Content.{raw_null}
use Rattle.vortex_arrays_view.specs.Views.{value_of}
use Rattle.vortex_arrays_model.specs.Layout.{IsString}
use Rattle.vortex_arrays_core.specs.LayoutOf.{strings_of}
use Rattle.vortex_arrays_core.specs.RawRows.{raw_string}
use Rattle.vortex_scalar_value.proofs.Views.{one_level}
use Rattle.vortex_arrays_core.proofs.scalar.string_value.Goals as goal

pub of_bytes-requires : goal.of_bytes-requires
of_bytes-requires c =
    let view = get_or_from_slice_get c.args.views.now c.args.i c.get.result [] c.get.ensures in
    let held = c.requires.sound.0 c.args.i c.requires.within (sym c.is_valid.ensures ∙ c.if-is_valid.true) in
    subst (IsString (strings_of c.args.kind)) (ap (λ b. value_of b c.args.buffers.now) view ∙ sym c.in_ok-bytes.ensures) held.1

pub returns-in_ok-bytes : goal.returns-in_ok-bytes
returns-in_ok-bytes c =
    let view = get_or_from_slice_get c.args.views.now c.args.i c.get.result [] c.get.ensures in
    let value = raw_string (strings_of c.args.kind) (value_of (get_or c.args.views.now c.args.i []) c.args.buffers.now) in
    c.of_bytes.ensures
    ∙ ap (raw_string (strings_of c.args.kind)) (c.in_ok-bytes.ensures ∙ ap (λ b. value_of b c.args.buffers.now) (sym view))
    ∙ ap (λ b. cond b value raw_null) (sym c.if-is_valid.true ∙ c.is_valid.ensures)

pub returns-in_err-bytes : goal.returns-in_err-bytes
returns-in_err-bytes c = grind (arith, (as_err c.from_residual.ensures.0).1)

pub returns-else-is_valid : goal.returns-else-is_valid
returns-else-is_valid c = grind (arith, one_level)
