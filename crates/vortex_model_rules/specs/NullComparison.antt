-- The rule that a comparison with an all-null side selects nothing.
use Rattle.std.specs.Prelude.{◌≡◌, pos, List, length, Option, Some, None, true, if◌then◌else◌}
use Rattle.vortex_model.specs.LogicalType.{LogicalType}
use Rattle.vortex_model.specs.Content.{Content, integer, is_null as is_null_content}
use Rattle.vortex_model_table.specs.Expression.{Expression, literal, compare, is_not_null, null_count}
use Rattle.vortex_model_table.specs.Rewrite.{boolean_literal, falsifier, either_there}
use Rattle.vortex_model_table.specs.Sound.{Placeholders}
use Rattle.vortex_model_rules.specs.Rules.{Meaning, Rule, of_binary, no_proof, answer_of}

-- A proof that the expression is null at each row: the falsifier of IS NOT NULL. For a literal the
-- proof is a literal.
abbrev pub only_nulls : LogicalType → Expression → Option Expression
only_nulls k (literal l c) = if is_null_content c then Some (boolean_literal true) else None
only_nulls k x = falsifier k (is_not_null x)

-- at a comparison, the proof that one of its sides is null at each row
abbrev pub null_side : Meaning
null_side k (compare op x y) = answer_of (either_there (only_nulls k x) (only_nulls k y))
null_side k e = no_proof

abbrev pub null_comparison : Rule
null_comparison = record {
  root = of_binary;
  falsify = null_side;
  satisfy = λ k e. no_proof;
}

-- The expression is null at each of these rows: by its null count, or as a literal.
abbrev pub IsCountedNull : Placeholders → List Content → Expression → Type 0
IsCountedNull given rows (literal l c) = is_null_content c ≡ true
IsCountedNull given rows x = given x null_count ≡ integer (pos (length rows))
