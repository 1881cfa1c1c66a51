-- Statistics of a dictionary by its codes and values, and of an array without counts.
use Rattle.std.proofs.Common.{◌≡◌, refl, Option, Some, None}
use Rattle.std.specs.Prelude.{MatchOption, IfSome}
use Rattle.vortex_model.specs.LogicalType.{LogicalType, Nullability, null_only, boolean_type, integer_type, float, decimal, utf8, binary, list, fixed_list, mapping, struct, union, variant, extension, with_nullability}
use Rattle.vortex_model.specs.Kept.{is_leaf}
use Rattle.vortex_stats_array.specs.declared.array_stats.ArrayStats.{ArrayStats}

-- a type is a leaf's whatever its nullability
pub leaf_kept : (n : Nullability) (k : LogicalType) → is_leaf (with_nullability n k) ≡ is_leaf k
leaf_kept n null_only = refl
leaf_kept n (boolean_type m) = refl
leaf_kept n (integer_type i m) = refl
leaf_kept n (float f m) = refl
leaf_kept n (decimal p s m) = refl
leaf_kept n (utf8 m) = refl
leaf_kept n (binary m) = refl
leaf_kept n (list k m) = refl
leaf_kept n (fixed_list k j m) = refl
leaf_kept n (mapping k v s m) = refl
leaf_kept n (struct fs m) = refl
leaf_kept n (union vs m) = refl
leaf_kept n (variant m) = refl
leaf_kept n (extension a b k) = refl

-- what holds of statistics implies something else of them
pub told_of : (found : Option ArrayStats) (P : Type 0) (Q R : ArrayStats → Type 0) → MatchOption found P Q → ((stats : ArrayStats) → Q stats → R stats) → MatchOption found P R
told_of None P Q R h f = h
told_of (Some stats) P Q R h f = f stats h

pub of_found : (found : Option ArrayStats) (P : Type 0) (Q R : ArrayStats → Type 0) → MatchOption found P Q → ((stats : ArrayStats) → Q stats → R stats) → IfSome found R
of_found None P Q R h f = tt
of_found (Some stats) P Q R h f = f stats h
