-- Sums with one more value at the start.
use Rattle.std.proofs.Common.{◌≡◌, refl, sym, ap, ℕ, ℤ, pos, ◌-ℤ◌, ◌+◌, ◌^◌, ◌≤◌, false, Option, Some, None, if◌then◌else◌, arith}
use Rattle.vortex_model.specs.LogicalType.{IntKind}
use Rattle.vortex_model_table.specs.Statistics.{exact, absent}
use Rattle.vortex_model.specs.Valid.{in_range}
use Rattle.vortex_model.proofs.Ranges.{not_below, not_above}
use Rattle.vortex_model_table.specs.ZoneMap.{sum_in}
use Rattle.vortex_dtype_ptype.specs.Numbers.{NumberKind, integral, floating, int_kind_in}
use Rattle.vortex_scalar_value.specs.Numbers.{holds_number}
use Rattle.vortex_stats_array.specs.declared.running_sum.RunningSum.{RunningSum}
use Rattle.vortex_stats_array.specs.Sums.{sum_in_parts, FitsSum}

pub ruleset numbers = (not_below, not_above)

-- the sum in a type, if it fits
pub held_sum : (k : NumberKind) (z : ℤ) → sum_in (int_kind_in k) z ≡ (if holds_number k z then exact z else absent)
held_sum (integral i) z = refl
held_sum (floating f) z = refl

pub nothing_added : (s : RunningSum) → s.above ≡ 0 → s.below ≡ 0 → sum_in_parts s ≡ pos 0
nothing_added s a b = (λ i. pos (a i) -ℤ pos (b i))

pub none_fits : (s : RunningSum) → s.above ≡ 0 → s.below ≡ 0 → FitsSum s 0
none_fits s a b = record {
  above = omega (arith, a);
  below = omega (arith, b);
}

pub one_more_fits : (old new : RunningSum) (n : ℕ) → new.above ≤ old.above + 2 ^ 64 → new.below ≤ old.below + 2 ^ 64 → FitsSum old n → FitsSum new (n + 1)
one_more_fits old new n above below h =
    let ha = h.above in let hb = h.below in
    record {
      above = omega (arith, above, ha);
      below = omega (arith, below, hb);
    }

pub no_more_fits : (s : RunningSum) (n : ℕ) → FitsSum s n → FitsSum s (n + 1)
no_more_fits s n h =
    let ha = h.above in let hb = h.below in
    record {
      above = omega (arith, ha);
      below = omega (arith, hb);
    }

-- a sum that fits in no type
pub not_held : (o : Option IntKind) (z : ℤ) → ((i : IntKind) → in_range i z ≡ false) → absent ≡ sum_in o z
not_held None z h = refl
not_held (Some i) z h = sym (ap (λ b. if b then exact z else absent) (h i))
