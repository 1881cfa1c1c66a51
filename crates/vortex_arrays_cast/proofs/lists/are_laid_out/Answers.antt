use Rattle.std.proofs.Common.{subst}
use Rattle.vortex_arrays_model.specs.Layout.{AreEndToEnd}
use Rattle.vortex_arrays_model.specs.Canonical.{counts}
use Rattle.vortex_arrays_cast.proofs.lists.are_laid_out.Goals as goal

pub take_all-requires-clause-follow : goal.take_all-requires-clause-follow
take_all-requires-clause-follow c =
    subst (λ s. AreEndToEnd (counts c.in-Some.offsets.now) s) c.in-Some-counts_in.ensures
    (subst (λ o. AreEndToEnd o c.args.sizes.now) c.in-Some.ensures (c.requires.8 c.if-follow.true))
