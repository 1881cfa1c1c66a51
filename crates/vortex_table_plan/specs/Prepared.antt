-- What is made of a scan once, before its chunks.
use Rattle.std.specs.Prelude.{◌≡◌, List, option_map}
use Rattle.vortex_model.specs.LogicalType.{LogicalType}
use Rattle.vortex_model.specs.Path.{Names}
use Rattle.vortex_model_table.specs.Expression.{Expression}
use Rattle.vortex_model_table.specs.Cut.{cut_type}
use Rattle.vortex_dtype_core.specs.View.{type_of}
use Rattle.vortex_stats_bind.specs.Bindings.{IsBound, IsBoundProof}
use Rattle.vortex_stats_bind.specs.Bound.{expression_of}
use Rattle.vortex_table_schema.specs.Cut.{tree_of, kept_by}
use Rattle.vortex_table_plan.specs.declared.plan.ScanPlan.{ScanPlan}

-- What is prepared is what the definitions make of a type, paths and a predicate, with proofs that
-- are bound to rows of the type.
pub record IsPreparedFor (k : LogicalType) (paths : List Names) (e : Expression)
    (made : ScanPlan) : Type 0 where
  pub bound : IsBound k e made.bound
  pub falsifier : IsBoundProof k (option_map expression_of made.falsifier) made.falsifier
  pub satisfier : IsBoundProof k (option_map expression_of made.satisfier) made.satisfier
  pub cut_kind : type_of made.cut.dtype ≡ cut_type paths k
  pub cut_values : tree_of made.cut.projection ≡ kept_by paths k
