use Rattle.std.proofs.Common.{◌≡◌, true, List, take, get_or}
use Rattle.std.specs.List.{list_all}
use Rattle.vortex_model.specs.Content.{Content, null, equal_content}
use Rattle.vortex_arrays_dictionary.specs.Firsts.{AreKeysOf}
use Rattle.vortex_arrays_dictionary.proofs.constant.all_equal.Given as goal

abbrev pub invariant-loop-i : goal.invariant-loop-i
invariant-loop-i g l = (cs : List Content) → AreKeysOf g.K.PartialEq.eq l.keys l.present cs → list_all (equal_content (get_or cs 0 null)) (take l.i cs) ≡ true
