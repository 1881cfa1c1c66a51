use Rattle.std.proofs.Common.{get_or, false, refl, ◌∙◌}
use Rattle.std.specs.HashMap.{get}
use Rattle.std.proofs.lemmas.List.{length-set}
use Rattle.vortex_arrays_dictionary.proofs.FirstLemmas.{numbered_row}
use Rattle.vortex_arrays_dictionary.proofs.firsts.number_keys.Goals as goal

pub loop-i-preserved : goal.loop-i-preserved
loop-i-preserved g c =
    let eq = g.K.PartialEq.eq in
    let keys = c.args.keys.now in
    let present = c.args.present.now in
    let ns = c.loop-i.numbers.items in
    let i = c.loop-i.i in
    let n = c.in_ok-numbers-2.field-0 in
    let row = numbered_row eq g.met.K.Eq.laws (get eq c.loop-i.codes) (get eq c.number_or_zero.new.codes) keys present c.index-keys-i.result (get_or present i false) i c.loop-i.places.items c.number_or_zero.new.places.items ns n
    c.loop-i-test.true c.loop-i.invariant.many c.index-keys-i.is refl c.in_ok-numbers-2.ensures c.loop-i.invariant.known c.loop-i.invariant.numbered in
    record { many = length-set ns i n ∙ c.loop-i.invariant.many; known = row.0; numbered = row.1 }
