-- Laws of wanted truths.
use Rattle.std.specs.Prelude.{◌≡◌, Bool, false, not}
use Rattle.vortex_model.specs.Content.{Content}
use Rattle.vortex_model_table.specs.Expression.{Comparison}
use Rattle.vortex_model_table.specs.Truth.{compared, kleene_and, kleene_or, kleene_not, is_true}
use Rattle.vortex_stats_mask.specs.Wanted.{is_wanted, joined_by, negated, swapped}

abbrev pub AndJoins : Type 0
AndJoins = (want : Bool) (c d : Content) →
    is_wanted want (kleene_and c d) ≡ joined_by want (is_wanted want c) (is_wanted want d)

abbrev pub OrJoins : Type 0
OrJoins = (want : Bool) (c d : Content) →
    is_wanted want (kleene_or c d) ≡ joined_by (not want) (is_wanted want c) (is_wanted want d)

abbrev pub NotTurns : Type 0
NotTurns = (want : Bool) (c : Content) →
    is_wanted want (kleene_not c) ≡ is_wanted (not want) c

abbrev pub FalseIsNegated : Type 0
FalseIsNegated = (op : Comparison) (c d : Content) →
    is_wanted false (compared op c d) ≡ is_true (compared (negated op) c d)

abbrev pub SidesSwap : Type 0
SidesSwap = (op : Comparison) (c d : Content) → compared op c d ≡ compared (swapped op) d c
