-- Truths of three values by two of two.
use Rattle.std.specs.Prelude.{Bool, true, false, Option, Some, None}

-- the truth, by whether something is true and whether it is false
abbrev pub truth_by : Bool → Bool → Option Bool
truth_by true b = Some true
truth_by false true = Some false
truth_by false false = None
