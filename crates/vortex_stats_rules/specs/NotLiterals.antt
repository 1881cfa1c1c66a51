-- NOTs of truth literals.
use Rattle.std.specs.Prelude.{Bool, Option, Some, None}
use Rattle.vortex_model.specs.Content.{Content, boolean}
use Rattle.vortex_model_table.specs.Expression.{Expression, literal, negation}

abbrev pub truth_in : Content → Option Bool
truth_in (boolean b) = Some b
truth_in c = None

-- the boolean of a literal
abbrev pub literal_truth : Expression → Option Bool
literal_truth (literal l c) = truth_in c
literal_truth e = None

-- the boolean of the literal of which an expression is the NOT
abbrev pub negated_truth : Expression → Option Bool
negated_truth (negation x) = literal_truth x
negated_truth e = None
