-- Patterns that are literal strings.
use Rattle.std.proofs.Common.{◌≡◌, Some, None, true, not, refl}
use Rattle.vortex_model.specs.Content.{text}
use Rattle.vortex_model_table.specs.Like.{has_backslash}
use Rattle.vortex_stats_bind.specs.Bound.{Bound, fixed}
use Rattle.vortex_stats_bind.specs.Truths.{is_free_of_backslash, text_in}

pub by_text : (b : Bound) → is_free_of_backslash b ≡ elim (text_in b) [ None ↦ true | Some bs ↦ not (has_backslash bs) ]
by_text (fixed k (text bs)) = refl
by_text b = refl

pub ruleset literal_texts = (by_text)
