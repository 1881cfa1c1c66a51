use Rattle.std.proofs.Common.{rules, ◌≡◌, length}
use Rattle.vortex_arrays_core.specs.LayoutOf.{valid_of}
use Rattle.vortex_arrays_struct.proofs.PushedLemmas.{all_masked}
use Rattle.vortex_arrays_struct.proofs.push.masked_fields.Goals as goal

pub returns-clause-masked : goal.returns-clause-masked
returns-clause-masked c =
    let all : c.loop-field.field-index ≡ length c.args.fields.now = search rules in
    (all_masked (valid_of c.args.validity.now) c.args.names.now c.args.fields.now c.loop-field.masked.items c.args.len c.loop-field.field-index c.requires.named c.requires.fit c.loop-field.invariant all).0

pub returns-clause-fit : goal.returns-clause-fit
returns-clause-fit c =
    let all : c.loop-field.field-index ≡ length c.args.fields.now = search rules in
    (all_masked (valid_of c.args.validity.now) c.args.names.now c.args.fields.now c.loop-field.masked.items c.args.len c.loop-field.field-index c.requires.named c.requires.fit c.loop-field.invariant all).1
