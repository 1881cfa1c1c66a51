use Rattle.std.proofs.Common.{◌≡◌, ◌++◌, false, drop}
use Rattle.vortex_model.specs.Content.{contents_of}
use Rattle.vortex_scalar_value.specs.View.{raws_in}
use Rattle.vortex_table_response.specs.Text.{contents_text}
use Rattle.vortex_table_response.proofs.values.+value.Given as goal

-- what is written so far and the JSON of the rest are the JSON of all
abbrev pub invariant-push_values-loop-value : goal.invariant-push_values-loop-value
invariant-push_values-loop-value l =
    l.out.items ++ contents_text l.later (contents_of (raws_in (drop l.value-index l.values))) ≡ l.fn.out.items ++ contents_text false (contents_of (raws_in l.values))
