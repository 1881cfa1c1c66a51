use Rattle.std.proofs.Common.{◌≡◌, List, length}
use Rattle.std.specs.HashMap.{get}
use Rattle.vortex_model.specs.Content.{Content}
use Rattle.vortex_arrays_dictionary.specs.Firsts.{AreKeysOf, AreFirsts, Knows}
use Rattle.vortex_arrays_dictionary.proofs.firsts.number_keys.Given as goal

abbrev pub invariant-loop-i : goal.invariant-loop-i
invariant-loop-i g l = record {
  many : length l.numbers.items ≡ length l.keys;
  known : Knows g.K.PartialEq.eq (get g.K.PartialEq.eq l.codes) l.keys l.places.items;
  numbered : (cs : List Content) → AreKeysOf g.K.PartialEq.eq l.keys l.present cs → AreFirsts cs l.i l.places.items l.numbers.items;
}
