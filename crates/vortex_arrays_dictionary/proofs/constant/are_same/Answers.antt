use Rattle.std.proofs.Common.{◌∙◌}
use Rattle.vortex_arrays_dictionary.proofs.ConstantLemmas.{both_present}
use Rattle.vortex_arrays_dictionary.proofs.constant.are_same.Goals as goal

pub returns-then-present-j : goal.returns-then-present-j
returns-then-present-j g c =
    λ cs t. c.eq.ensures ∙ both_present g.K.PartialEq.eq c.args.keys.now c.args.present.now cs t c.args.i c.args.j c.index-keys-i.result c.index-keys-j.result
    c.requires.one c.requires.other c.index-keys-i.is c.index-keys-j.is c.if-present-i.true c.if-present-j.true
