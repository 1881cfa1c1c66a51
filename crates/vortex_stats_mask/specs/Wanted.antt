-- The rows of which a predicate has the truth that is wanted.
use Rattle.std.specs.Prelude.{Bool, true, false, not, ◌&&◌, ◌||◌, List, map}
use Rattle.std.specs.List.{zip}
use Rattle.vortex_model.specs.Content.{Content, boolean}
use Rattle.vortex_model_table.specs.Expression.{Comparison, equal, not_equal, greater, at_least, less, at_most}

-- the content is the wanted truth, which neither null nor the other truth is
abbrev pub is_wanted : Bool → Content → Bool
is_wanted true (boolean b) = b
is_wanted false (boolean b) = not b
is_wanted want c = false

-- of AND it is true where both are and false where one is, of OR the other way round
abbrev pub joined_by : Bool → Bool → Bool → Bool
joined_by true a b = a && b
joined_by false a b = a || b

-- the comparison that is true exactly where two values compare and this one is false
abbrev pub negated : Comparison → Comparison
negated equal = not_equal
negated not_equal = equal
negated greater = at_most
negated at_least = less
negated less = at_least
negated at_most = greater

-- the comparison with its sides changed
abbrev pub swapped : Comparison → Comparison
swapped equal = equal
swapped not_equal = not_equal
swapped greater = less
swapped at_least = at_most
swapped less = greater
swapped at_most = at_least
