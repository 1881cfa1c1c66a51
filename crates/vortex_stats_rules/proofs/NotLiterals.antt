-- What the rules for NOT answer, by the literal.
use Rattle.std.proofs.Common.{◌≡◌, false, None, refl, ap}
use Rattle.vortex_model.specs.LogicalType.{LogicalType}
use Rattle.vortex_model.specs.Content.{Content, Raw, raw_boolean, content_of}
use Rattle.vortex_model_table.specs.Expression.{literal}
use Rattle.vortex_scalar_value.specs.Parts.{boolean_in}
use Rattle.vortex_stats_bind.specs.Bound.{Bound, fixed, expression_of}
use Rattle.vortex_stats_bind.specs.Truths.{is_literal}
use Rattle.vortex_stats_rules.specs.NotLiterals.{truth_in, literal_truth}

pub truth_said : (r : Raw) → boolean_in r ≡ truth_in (content_of r)
truth_said (raw_boolean b) = refl
truth_said r = refl

-- the truth of a literal that is bound, and none of all else
pub no_literal : (b : Bound) → is_literal b ≡ false → literal_truth (expression_of b) ≡ None
no_literal (fixed k c) h = cc (h)
no_literal b h = refl

pub of_literal : (b : Bound) (k : LogicalType) (c : Content) → b ≡ fixed k c → literal_truth (expression_of b) ≡ truth_in c
of_literal b k c h = ap (λ x. literal_truth (expression_of x)) h

pub ruleset negated_literals = (no_literal, of_literal)
