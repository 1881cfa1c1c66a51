-- Arrays with nulls pushed into them are sound.
use Rattle.std.proofs.Common.{Bool, false, List, ℕ, length}
use Rattle.vortex_arrays_model.specs.Layout.{Layout, Strings, strings, dictionary, Valid, IsSound}
use Rattle.vortex_arrays_model.specs.Column.{IsMasked, IsValidInBoth}
use Rattle.vortex_arrays_model.proofs.PushLemmas.{pushes_strings, pushes_dictionary}

pub strings_pushed : (s : Strings) (xs bs : List (List ℕ)) (v w u : Valid) → IsSound (strings s xs bs w) → IsValidInBoth v w u (length xs) → IsSound (strings s xs bs u)
strings_pushed s xs bs v w u h m = (pushes_strings s xs bs v w u h m).sound

pub dictionary_pushed : (c d x : Layout) (f : Bool) (v : Valid) → IsSound (dictionary c x f) → IsMasked v c d → IsSound (dictionary d x false)
dictionary_pushed c d x f v s p = (pushes_dictionary c d x f v s p).sound

pub ruleset into_strings = (strings_pushed, pushes_strings)

pub ruleset into_layouts = (dictionary_pushed, pushes_dictionary)
