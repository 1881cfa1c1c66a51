-- Statistics in bits, evaluated.
use Rattle.std.proofs.Common.{◌≡◌, ℕ, List, [], ◌∷◌, Some, None, map, refl}
use Rattle.vortex_model.specs.LogicalType.{null_only, boolean_type, integer_type, float, nullable, non_nullable, i8, i64, u64, f32, f64}
use Rattle.vortex_stats_expr.specs.declared.bitset.TheConstants.{PRUNING_STATS}
use Rattle.vortex_stats_expr.specs.declared.stat.Stat.TheVariants as stat
use Rattle.vortex_stats_expr.specs.Stats.{number_of_stat, all_stats, pruning_stats, stat_type}
use Rattle.vortex_stats_expr.specs.Bitsets.{has_bit, has_number, stats_in, distinct_by_number}

abbrev sixteen : List ℕ
sixteen = 0 ∷ 1 ∷ 2 ∷ 3 ∷ 4 ∷ 5 ∷ 6 ∷ 7 ∷ 8 ∷ 9 ∷ 10 ∷ 11 ∷ 12 ∷ 13 ∷ 14 ∷ 15 ∷ []

by_number : map number_of_stat all_stats ≡ 0 ∷ 1 ∷ 2 ∷ 3 ∷ 4 ∷ 5 ∷ 6 ∷ 7 ∷ 8 ∷ []
by_number = refl

-- 78 01 in hexadecimal
pruning_bits : map (has_bit (120 ∷ 1 ∷ [])) sixteen ≡ map (has_number pruning_stats) sixteen
pruning_bits = refl

pruning_constant : PRUNING_STATS.now ≡ pruning_stats
pruning_constant = refl

-- 18 00
bound_bits : map (has_bit (24 ∷ 0 ∷ [])) sixteen ≡ map (has_number (stat.Max ∷ stat.Min ∷ [])) sixteen
bound_bits = refl

-- bits that no statistic has are passed over, in a third byte too
later_bits : stats_in (24 ∷ 255 ∷ 255 ∷ []) ≡ stat.Max ∷ stat.Min ∷ stat.NaNCount ∷ []
later_bits = refl

one_byte : stats_in (129 ∷ []) ≡ stat.IsConstant ∷ stat.UncompressedSizeInBytes ∷ []
one_byte = refl

twice : distinct_by_number (stat.Min ∷ stat.Max ∷ stat.Min ∷ []) ≡ stat.Max ∷ stat.Min ∷ []
twice = refl

types_of_i8 : map (λ s. stat_type s (integer_type i8 nullable)) (stat.IsSorted ∷ stat.Max ∷ stat.Sum ∷ stat.NullCount ∷ stat.NaNCount ∷ [])
    ≡ Some (boolean_type non_nullable) ∷ Some (integer_type i8 nullable) ∷ Some (integer_type i64 nullable) ∷ Some (integer_type u64 non_nullable) ∷ None ∷ []
types_of_i8 = refl

types_of_f32 : map (λ s. stat_type s (float f32 non_nullable)) (stat.Min ∷ stat.Sum ∷ stat.NaNCount ∷ [])
    ≡ Some (float f32 non_nullable) ∷ Some (float f64 nullable) ∷ Some (integer_type u64 non_nullable) ∷ []
types_of_f32 = refl

types_of_null : map (λ s. stat_type s null_only) (stat.IsConstant ∷ stat.Max ∷ stat.Min ∷ stat.Sum ∷ stat.UncompressedSizeInBytes ∷ [])
    ≡ Some (boolean_type non_nullable) ∷ None ∷ None ∷ None ∷ Some (integer_type u64 non_nullable) ∷ []
types_of_null = refl
