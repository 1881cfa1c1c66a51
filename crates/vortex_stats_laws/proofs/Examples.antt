-- Why the laws need their premises.
use Rattle.std.proofs.Common.{◌≡◌, refl, pos, negsuc, [], ◌∷◌, true, false}
use Rattle.vortex_model.specs.LogicalType.{i32, i64}
use Rattle.vortex_model.specs.Content.{null, integer, raw_boolean, raw_number}
use Rattle.vortex_model_table.specs.Statistics.{exact, absent, null_count_of, is_constant}
use Rattle.vortex_stats_expr.specs.declared.stat.Stat.TheVariants as stat
use Rattle.vortex_stats_set.specs.Pairs.{Pairs}
use Rattle.vortex_stats_set.specs.Merge.{merged_ordered}
use Rattle.vortex_stats_set.specs.Combine.{combined_in_turn}
use Rattle.vortex_stats_set.specs.Said.{statistics_in}

-- A negative null count is absent for no rows, 1 is right for one null, and 0 is wrong for both.
below_zero : Pairs
below_zero = (stat.NullCount, exact (raw_number i64 (negsuc 0))) ∷ []

one_null : Pairs
one_null = (stat.NullCount, exact (raw_number i64 (pos 1))) ∷ []

nothing_said : (statistics_in below_zero).nulls ≡ absent
unfolding below_zero
nothing_said = refl

one_said : (statistics_in one_null).nulls ≡ exact (null_count_of (null ∷ []))
unfolding one_null
one_said = refl

none_said : (statistics_in (merged_ordered true below_zero one_null)).nulls ≡ exact 0
unfolding below_zero one_null
none_said = refl

-- A second value of a statistic is not read from a list, but a combination takes it.
sum_twice : Pairs
sum_twice = (stat.Sum, absent) ∷ (stat.Sum, exact (raw_number i64 (pos 7))) ∷ []

no_sum_said : (statistics_in sum_twice).total ≡ absent
unfolding sum_twice
no_sum_said = refl

wrong_sum_taken : (statistics_in (combined_in_turn true [] sum_twice).0).total ≡ exact (pos 7)
unfolding sum_twice
wrong_sum_taken = refl

-- The merge of columns of two types reports the rows as not constant, even if their contents are
-- equal.
ones : Pairs
ones = (stat.IsConstant, exact (raw_boolean true)) ∷ (stat.Min, exact (raw_number i32 (pos 1))) ∷ []

not_constant_said : (statistics_in (merged_ordered false ones ones)).constant ≡ exact false
unfolding ones
not_constant_said = refl

constant_contents : is_constant (integer (pos 1) ∷ integer (pos 1) ∷ []) ≡ true
constant_contents = refl
