-- Which rows of an array are null.
use Rattle.std.proofs.Common.{◌≡◌, ◌<◌, ℕ, Bool, true, false, not, cond, List, length, get_or, refl, sym, ap, subst, ◌∙◌, arith}
use Rattle.vortex_model.specs.LogicalType.{LogicalType, Nullability, nullable, non_nullable, nullability_of, IsNullable, stored, extension}
use Rattle.vortex_model.specs.Content.{Content, null, boolean, integer, text, byte_string, tuple, is_null}
use Rattle.vortex_model.specs.Valid.{IsContent}
use Rattle.vortex_arrays_model.specs.Layout.{Layout, bools, numbers, strings, constant, dictionary, fixed_lists, list_views, records, Strings, texts, byte_strings, type_of_strings, Valid, required, by_array, len_of, array_type_of, nullability_by, content_at, is_valid, is_truth, IsSound, HasLength}
use Rattle.vortex_arrays_model.specs.Parts.{valid_in}
use Rattle.vortex_arrays_model.proofs.ValidRows.{rows_valid}
use Rattle.vortex_arrays_model.proofs.RowsLemmas.{string_there}
use Rattle.vortex_arrays_parts.specs.Nulls.{HasValidity, TellsNullsOf}

-- a value that is not null makes the row valid exactly where its bit is true
shown : (b : Bool) (c : Content) → is_null c ≡ false → b ≡ not (is_null (cond b c null))
shown true c h = ap not (sym h)
shown false c h = refl

string_null : (s : Strings) (n : Nullability) → n ≡ nullability_of (type_of_strings s n)
string_null texts n = refl
string_null byte_strings n = refl

own_nulls : (a : Layout) → IsSound a → HasValidity a → TellsNullsOf a (valid_in a)
own_nulls (bools bs v) s h = record { fits = s; nullability = refl; rows = λ i l. shown (is_valid v i) _ refl }
own_nulls (numbers k zs v) s h = record { fits = s.1; nullability = refl; rows = λ i l. shown (is_valid v i) _ refl }
own_nulls (strings t vs bs v) s h = record { fits = s.1; nullability = string_null t (nullability_by v); rows = λ i l. shown (is_valid v i) _ (string_there t _) }
own_nulls (fixed_lists e m n v) s h = record { fits = s.2; nullability = refl; rows = λ i l. shown (is_valid v i) _ refl }
own_nulls (list_views e o z f v) s h = record { fits = s.6; nullability = refl; rows = λ i l. shown (is_valid v i) _ refl }
own_nulls (records cs n v) s h = record { fits = s.1; nullability = refl; rows = λ i l. shown (is_valid v i) _ refl }
own_nulls (constant k r n) s h = absurd h
own_nulls (dictionary c v f) s h = absurd h

pub told_own : (a : Layout) (v : Valid) → IsSound a → HasValidity a → v ≡ valid_in a → TellsNullsOf a v
told_own a v s h e = subst (TellsNullsOf a) (sym e) (own_nulls a s h)

-- the type of an extension is nullable where its storage type is
stored_null : (k : LogicalType) → nullability_of (stored k) ≡ nullability_of k
stored_null (extension id meta k) = stored_null k
stored_null k = refl

never_null : (k : LogicalType) (c : Content) → IsContent k c → nullability_of k ≡ non_nullable → is_null c ≡ false
never_null k null h e = absurd (subst IsNullable (stored_null k ∙ e) h)
never_null k c h e = refl

pub told_required : (a : Layout) → IsSound a → nullability_of (array_type_of a) ≡ non_nullable → TellsNullsOf a required
told_required a s e = record {
  fits = tt;
  nullability = sym e;
  rows = λ i l. ap not (sym (never_null (array_type_of a) (content_at a i) (rows_valid a s i l) e));
}

pub ruleset told = (told_own, told_required)

-- a bit for each row
pub looked_up : (a : Layout) (bits : List Bool) → length bits ≡ len_of a → nullability_of (array_type_of a) ≡ nullable → ((i : ℕ) → i < len_of a → get_or bits i false ≡ not (is_null (content_at a i))) → TellsNullsOf a (by_array (bools bits required))
looked_up a bits many e h = record {
  fits = (tt, many, refl);
  nullability = sym e;
  rows = λ i l. h i l;
}

pub ruleset looked = (looked_up)
