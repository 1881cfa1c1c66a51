use Rattle.std.proofs.Common.{length, subst}
use Rattle.vortex_arrays_model.specs.Column.{IsValidInBoth}
use Rattle.vortex_arrays_core.specs.LayoutOf.{valid_of, strings_of}
use Rattle.vortex_arrays_struct.proofs.Pushes.{strings_pushed}
use Rattle.vortex_arrays_struct.proofs.mask.push_into_strings.Goals as goal

pub of_strings-requires : goal.of_strings-requires
of_strings-requires c =
    let met : IsValidInBoth (valid_of c.args.validity.now) (valid_of c.args.own.now) (valid_of c.in_ok-both.both) (length c.args.views.now) = subst (IsValidInBoth (valid_of c.args.validity.now) (valid_of c.args.own.now) (valid_of c.in_ok-both.both)) c.len.ensures c.in_ok-both.ensures in
    rw (c.in_ok-clone.ensures.cases, c.in_ok-clone-2.ensures.cases) (strings_pushed (strings_of c.args.kind) c.args.views.now c.args.buffers.now.value.items (valid_of c.args.validity.now) (valid_of c.args.own.now) (valid_of c.in_ok-both.both) c.requires.sound met)
