-- The rows of a leaf column compare, and integers are of their type.
use Rattle.std.proofs.Common.{◌≡◌, true, refl}
use Rattle.std.proofs.lemmas.List.Elements.{recursion_from_All}
use Rattle.vortex_model.specs.LogicalType.{Nullability}
use Rattle.vortex_model.specs.Kept.{is_leaf}
use Rattle.vortex_model.specs.Valid.{IsContent}
use Rattle.vortex_model_laws.proofs.LeafOrder.{leaves_compare}
use Rattle.vortex_dtype_ptype.specs.Numbers.{NumberKind, integral, floating, type_of_numbers}
use Rattle.vortex_dtype_core.proofs.Views.{one_level}
use Rattle.vortex_arrays_model.specs.Layout.{Layout, array_type_of, rows_of, IsSound}
use Rattle.vortex_arrays_model.proofs.ValidRows.{rows_are_contents}
use Rattle.vortex_stats_array.specs.Arrays.{IsOfKind}
use Rattle.vortex_stats_array.specs.Running.{DoCompare}

pub leaf_rows_compare : (a : Layout) → IsSound a → is_leaf (array_type_of a) ≡ true → DoCompare (rows_of a)
leaf_rows_compare a s h = leaves_compare (array_type_of a) (rows_of a) h (recursion_from_All (IsContent (array_type_of a)) (rows_of a) (rows_are_contents a s))

pub of_its_kind : (k : NumberKind) (n : Nullability) → IsOfKind k (type_of_numbers k n)
of_its_kind (integral i) n = refl
of_its_kind (floating f) n = refl

pub ruleset of_kinds = (of_its_kind)

pub ruleset of_any = (one_level, of_its_kind)
