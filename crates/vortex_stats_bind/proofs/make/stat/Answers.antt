use Rattle.std.proofs.Common.{◌≡◌, Some, None, option_map, sym, ap, subst}
use Rattle.vortex_model_table.specs.Expression.{statistic}
use Rattle.vortex_model_table.specs.Typing.{type_of_aggregate}
use Rattle.vortex_dtype_core.specs.View.{type_of}
use Rattle.vortex_stats_expr.specs.Aggregate.{aggregate_of}
use Rattle.vortex_stats_bind.specs.Bound.{value_type}
use Rattle.vortex_stats_bind.specs.Bindings.{IsBound}
use Rattle.vortex_stats_bind.proofs.Made.{stat_bound, stat_refused}
use Rattle.vortex_stats_bind.proofs.make.stat.Goals as goal

pub returns-in_ok-bound_stat-in-Some-clause-bound :
    goal.returns-in_ok-bound_stat-in-Some-clause-bound
returns-in_ok-bound_stat-in-Some-clause-bound c =
    let f = aggregate_of c.args.aggregate in
    let some : option_map type_of c.in_ok-dtype-2.field-0 ≡ Some (type_of c.in-Some.dtype) = ap (option_map type_of) c.in-Some.is in
    let t : type_of_aggregate f (value_type c.args.input.value) ≡ Some (type_of c.in-Some.dtype) = cc (c.in_ok-dtype.ensures, c.in_ok-dtype-2.ensures) in
    λ k x h. subst (IsBound k (statistic x f)) (sym c.in_ok-bound_stat-in-Some.ensures) (stat_bound k x c.args.input.value h f (type_of c.in-Some.dtype) t)

pub returns-in-None-clause-bound : goal.returns-in-None-clause-bound
returns-in-None-clause-bound c =
    let f = aggregate_of c.args.aggregate in
    let none : option_map type_of c.in_ok-dtype-2.field-0 ≡ None = ap (option_map type_of) c.in-None.is in
    let t : type_of_aggregate f (value_type c.args.input.value) ≡ None = cc (c.in_ok-dtype.ensures, c.in_ok-dtype-2.ensures) in
    λ k x h. stat_refused k x c.args.input.value h f t
