use Rattle.std.proofs.Common.{ap, ◌∙◌}
use Rattle.vortex_scalar_value.specs.View.{raw_in}
use Rattle.vortex_scalar_value.proofs.Items.{nth_there, nth_past}
use Rattle.vortex_scalar_value.proofs.Sizes.{raw_at-copied}
use Rattle.vortex_scalar_value.proofs.parts.item_at.Goals as goal

pub returns-in-Some : goal.returns-in-Some
returns-in-Some c =
    let found = c.in-Some.ensures.lookup in
    raw_at-copied c.as_ref.result ∙ ap raw_in c.as_ref.ensures.value ∙ nth_there c.args.items.now c.args.index c.in-Some.item.now found.1 found.3.0

pub returns-in-None : goal.returns-in-None
returns-in-None c = let past = c.in-None.ensures.lookup in nth_past c.args.items.now c.args.index past.3
