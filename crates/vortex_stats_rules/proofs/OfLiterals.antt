-- Statistics of a literal, and of all else.
use Rattle.std.proofs.Common.{◌≡◌, refl, sym, ap, ◌∙◌, true, false, if◌then◌else◌, Some, None}
use Rattle.vortex_model.specs.LogicalType.{LogicalType}
use Rattle.vortex_model.specs.Content.{Content, is_null}
use Rattle.vortex_model_table.specs.Expression.{Aggregate, null_count, nan_count}
use Rattle.vortex_stats_bind.specs.Bound.{Bound, fixed}
use Rattle.vortex_stats_bind.specs.Truths.{is_literal}
use Rattle.vortex_stats_rules.specs.Table.{fixed_truth, fixed_count, stat_of, end_of_values, nulls_of, nans_of, only_nulls, joined_proofs, only_null}

pub end_of_other : (a : Aggregate) (x : Bound) → is_literal x ≡ false → end_of_values a x ≡ stat_of a x
end_of_other a (fixed k c) h = cc (h)
end_of_other a x h = refl

pub nulls_of_other : (x : Bound) → is_literal x ≡ false → nulls_of x ≡ stat_of null_count x
nulls_of_other (fixed k c) h = cc (h)
nulls_of_other x h = refl

pub nans_of_other : (x : Bound) → is_literal x ≡ false → nans_of x ≡ stat_of nan_count x
nans_of_other (fixed k c) h = cc (h)
nans_of_other x h = refl

pub only_null_of_other : (x : Bound) → is_literal x ≡ false → only_null x ≡ joined_proofs (only_nulls x)
only_null_of_other (fixed k c) h = cc (h)
only_null_of_other x h = refl

-- of a literal
pub end_of_literal : (a : Aggregate) (x : Bound) (k : LogicalType) (c : Content) → x ≡ fixed k c → end_of_values a x ≡ x
end_of_literal a x k c h = ap (end_of_values a) h ∙ sym h

pub nulls_of_literal : (x : Bound) (k : LogicalType) (c : Content) → x ≡ fixed k c → nulls_of x ≡ fixed_count (if is_null c then 1 else 0)
nulls_of_literal x k c h = ap nulls_of h

pub nans_of_literal : (x : Bound) (k : LogicalType) (c : Content) → x ≡ fixed k c → nans_of x ≡ fixed_count 0
nans_of_literal x k c h = ap nans_of h

pub only_null_of_literal : (x : Bound) (k : LogicalType) (c : Content) → x ≡ fixed k c → only_null x ≡ (if is_null c then Some (fixed_truth true) else None)
only_null_of_literal x k c h = ap only_null h

pub ruleset ends = (end_of_other, end_of_literal)

pub ruleset null_counts = (nulls_of_other, nulls_of_literal)

pub ruleset nan_counts = (nans_of_other, nans_of_literal)

pub ruleset null_sides = (only_null_of_other, only_null_of_literal)
