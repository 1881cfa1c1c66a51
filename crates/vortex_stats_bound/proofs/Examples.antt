-- The tables, with examples.
use Rattle.std.proofs.Common.{◌≡◌, refl, ℕ, Some, None}
use Rattle.std.specs.Ordering.{nat_cmp, as_partial_cmp}
use Rattle.std.specs.declared.cmp.Ordering.TheVariants.{Equal, Greater}
use Rattle.vortex_model_table.specs.Statistics.{Precision, exact, inexact, absent}
use Rattle.vortex_stats_bound.specs.Order.{Comparison}
use Rattle.vortex_stats_bound.specs.Precision.{precision_zip}
use Rattle.vortex_stats_bound.specs.Bounds.{Union, Intersection, union_lower, union_upper, union_plain, intersection_lower, intersection_upper, intersection_plain, cmp_lower, cmp_upper}
use Rattle.vortex_stats_bound.specs.declared.intersection.IntersectionResult.TheVariants.{Value, Empty}

abbrev by_number : Comparison ℕ
by_number = as_partial_cmp nat_cmp

abbrev low : Union ℕ
low = union_lower by_number

abbrev high : Union ℕ
high = union_upper by_number

abbrev plain : Union ℕ
plain = union_plain by_number

low_takes_the_lesser : low (exact 12) (exact 10) ≡ Some (exact 10)
low_takes_the_lesser = refl

low_is_inexact : low (exact 12) (inexact 10) ≡ Some (inexact 10)
low_is_inexact = refl

low_is_exact : low (inexact 12) (exact 10) ≡ Some (exact 10)
low_is_exact = refl

low_of_equal_is_exact : low (inexact 10) (exact 10) ≡ Some (exact 10)
low_of_equal_is_exact = refl

high_takes_the_greater : high (exact 12) (exact 10) ≡ Some (exact 12)
high_takes_the_greater = refl

high_is_inexact : high (inexact 12) (exact 10) ≡ Some (inexact 12)
high_is_inexact = refl

high_of_equal_is_exact : high (inexact 10) (exact 10) ≡ Some (exact 10)
high_of_equal_is_exact = refl

absent_has_no_union : low absent (exact 10) ≡ None
absent_has_no_union = refl

plain_is_inexact : plain (exact 10) (inexact 12) ≡ Some (inexact 10)
plain_is_inexact = refl

abbrev pair : Precision ℕ → Precision ℕ → Precision (ℕ × ℕ)
pair = precision_zip

zipped : pair (exact 10) (inexact 12) ≡ inexact (10, 12)
zipped = refl

abbrev low_common : Intersection ℕ
low_common = intersection_lower by_number

abbrev high_common : Intersection ℕ
high_common = intersection_upper by_number

abbrev common : Intersection ℕ
common = intersection_plain by_number

exact_above_a_lower_bound : low_common (exact 12) (inexact 10) ≡ Some (Value (exact 12))
exact_above_a_lower_bound = refl

exact_below_a_lower_bound : low_common (exact 12) (inexact 13) ≡ Some Empty
exact_below_a_lower_bound = refl

two_lower_bounds : low_common (inexact 10) (inexact 12) ≡ Some (Value (inexact 12))
two_lower_bounds = refl

exact_below_an_upper_bound : high_common (exact 10) (inexact 12) ≡ Some (Value (exact 10))
exact_below_an_upper_bound = refl

exact_above_an_upper_bound : high_common (exact 13) (inexact 12) ≡ Some Empty
exact_above_an_upper_bound = refl

two_upper_bounds : high_common (inexact 10) (inexact 12) ≡ Some (Value (inexact 10))
two_upper_bounds = refl

exact_below_inexact : common (exact 10) (inexact 12) ≡ Some (Value (inexact 10))
exact_below_inexact = refl

nothing_with_absent : common (exact 10) absent ≡ Some Empty
nothing_with_absent = refl

above_an_inexact_lower_bound : cmp_lower by_number (inexact 5) 4 ≡ Some Greater
above_an_inexact_lower_bound = refl

at_an_inexact_lower_bound : cmp_lower by_number (inexact 5) 5 ≡ Some Equal
at_an_inexact_lower_bound = refl

below_an_inexact_lower_bound : cmp_lower by_number (inexact 5) 6 ≡ None
below_an_inexact_lower_bound = refl

above_an_inexact_upper_bound : cmp_upper by_number (inexact 5) 4 ≡ None
above_an_inexact_upper_bound = refl
