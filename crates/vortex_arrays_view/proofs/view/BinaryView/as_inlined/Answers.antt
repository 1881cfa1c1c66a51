use Rattle.std.proofs.Common.{◌∙◌, ap, drop, arith, length-drop}
use Rattle.std.proofs.lemmas.List.{take_all}
use Rattle.vortex_arrays_view.proofs.view.BinaryView.as_inlined.Goals as goal

pub returns-clause-twelve : goal.returns-clause-twelve
returns-clause-twelve c =
    c.copy_from_slice.ensures.after
    ∙ take_all 12 (drop 4 c.self.inside.bytes) (omega (arith, length-drop 4 c.self.inside.bytes, c.self.invariant))
    ∙ ap (drop 4) c.self.view_is
