-- Whether a proof is true of what is provided.
use Rattle.std.specs.Prelude.{Option, Some, None, Bool, false}
use Rattle.vortex_model_table.specs.Truth.{is_true}
use Rattle.vortex_stats_bind.specs.Bound.{Bound, Provided, evaluate_bound}

abbrev pub proved_in : Provided → Option Bound → Bool
proved_in p None = false
proved_in p (Some proof) = is_true (evaluate_bound p proof)
