-- Arrays whose struct types have columns.
use Rattle.std.proofs.Common.{◌≡◌, ◌<◌, ◌+◌, ℕ, zero, suc, false, ◌&&◌, List, [], ◌∷◌, length, drop, get_or, refl, sym, ap, ◌∙◌, arith}
use Rattle.std.specs.List.{list_all}
use Rattle.vortex_model.specs.LogicalType.{Nullability}
use Rattle.vortex_dtype_core.specs.Parts.{is_struct_type}
use Rattle.vortex_arrays_model.specs.Layout.{Layout, Strings, texts, byte_strings, type_of_strings}
use Rattle.vortex_arrays_model.specs.Parts.{columns_of}
use Rattle.vortex_arrays_model.proofs.PicksLemmas.{field_size}
use Rattle.vortex_table_layout.specs.Kept.{has_record_columns, have_record_columns}

pub strings_are_no_records : (s : Strings) (n : Nullability) → is_struct_type (type_of_strings s n) ≡ false
strings_are_no_records texts n = refl
strings_are_no_records byte_strings n = refl

pub all_columns : (ns : List (List ℕ)) (fs : List Layout) → list_all has_record_columns fs ≡ have_record_columns (columns_of ns fs)
all_columns [] [] = refl
all_columns (x ∷ ns) [] = refl
all_columns [] (a ∷ fs) = ap (λ b. has_record_columns a && b) (all_columns [] fs)
all_columns (x ∷ ns) (a ∷ fs) = ap (λ b. has_record_columns a && b) (all_columns ns fs)

pub ruleset records = (strings_are_no_records, all_columns)

-- the column at an index goes before the others
pub column_left : (fs : List Layout) (i : ℕ) (a : Layout) → i < length fs → a ≡ get_or fs i a → list_all has_record_columns (drop i fs) ≡ (has_record_columns a && list_all has_record_columns (drop (i + 1) fs))
column_left [] i a l e = absurd (omega arith)
column_left (x ∷ fs) zero a l e = ap (λ y. has_record_columns y && list_all has_record_columns fs) (sym e)
column_left (x ∷ fs) (suc i) a l e = column_left fs i a (omega (arith, l)) e ∙ ap (λ n. has_record_columns a && list_all has_record_columns (drop n (x ∷ fs))) (let s : suc (i + 1) ≡ suc i + 1 = omega arith in s)

pub ruleset fields = (column_left, field_size)
