-- Unions and intersections of precisions, as raw values.
use Rattle.std.proofs.Common.{◌≡◌, Some, option_map, option_and_then, sym, ap, ◌∙◌}
use Rattle.vortex_model_table.specs.Statistics.{Precision}
use Rattle.vortex_scalar_value.specs.View.{raw_of}
use Rattle.vortex_scalar_value.specs.declared.scalar_value.ScalarValue.{ScalarValue}
use Rattle.vortex_stats_bound.specs.Precision.{precision_map}
use Rattle.vortex_stats_bound.specs.declared.intersection.IntersectionResult.TheVariants.{Value}
use Rattle.vortex_stats_bound.specs.Bounds.{union_lower, union_upper, intersection_lower, intersection_upper, intersection_plain, common_value}
use Rattle.vortex_stats_bound.specs.ValueOrder.{value_order}
use Rattle.vortex_stats_set.specs.Merge.{raw_order}
use Rattle.vortex_stats_set.proofs.Natural.{map_common, union_lower-seen, union_upper-seen, intersection_lower-seen, intersection_upper-seen, intersection_plain-seen}

pub lower_values : (p q : Precision ScalarValue) → option_map (precision_map raw_of) (union_lower value_order p q) ≡ union_lower raw_order (precision_map raw_of p) (precision_map raw_of q)
lower_values p q = union_lower-seen raw_of raw_order p q

pub upper_values : (p q : Precision ScalarValue) → option_map (precision_map raw_of) (union_upper value_order p q) ≡ union_upper raw_order (precision_map raw_of p) (precision_map raw_of q)
upper_values p q = union_upper-seen raw_of raw_order p q

pub lower_in_common : (p q : Precision ScalarValue) → map_common raw_of (intersection_lower value_order p q) ≡ intersection_lower raw_order (precision_map raw_of p) (precision_map raw_of q)
lower_in_common p q = intersection_lower-seen raw_of raw_order p q

pub upper_in_common : (p q : Precision ScalarValue) → map_common raw_of (intersection_upper value_order p q) ≡ intersection_upper raw_order (precision_map raw_of p) (precision_map raw_of q)
upper_in_common p q = intersection_upper-seen raw_of raw_order p q

pub plain_in_common : (p q : Precision ScalarValue) → map_common raw_of (intersection_plain value_order p q) ≡ intersection_plain raw_order (precision_map raw_of p) (precision_map raw_of q)
plain_in_common p q = intersection_plain-seen raw_of raw_order p q

pub lower_shared : (p q r : Precision ScalarValue) → intersection_lower value_order p q ≡ Some (Value r) → Some (precision_map raw_of r) ≡ option_and_then common_value (intersection_lower raw_order (precision_map raw_of p) (precision_map raw_of q))
lower_shared p q r e = ap (λ m. option_and_then common_value (map_common raw_of m)) (sym e) ∙ ap (λ m. option_and_then common_value m) (lower_in_common p q)

pub upper_shared : (p q r : Precision ScalarValue) → intersection_upper value_order p q ≡ Some (Value r) → Some (precision_map raw_of r) ≡ option_and_then common_value (intersection_upper raw_order (precision_map raw_of p) (precision_map raw_of q))
upper_shared p q r e = ap (λ m. option_and_then common_value (map_common raw_of m)) (sym e) ∙ ap (λ m. option_and_then common_value m) (upper_in_common p q)

pub plain_shared : (p q r : Precision ScalarValue) → intersection_plain value_order p q ≡ Some (Value r) → Some (precision_map raw_of r) ≡ option_and_then common_value (intersection_plain raw_order (precision_map raw_of p) (precision_map raw_of q))
plain_shared p q r e = ap (λ m. option_and_then common_value (map_common raw_of m)) (sym e) ∙ ap (λ m. option_and_then common_value m) (plain_in_common p q)

pub ruleset unions = (lower_values, upper_values)

pub ruleset intersections = (lower_in_common, upper_in_common, plain_in_common)
