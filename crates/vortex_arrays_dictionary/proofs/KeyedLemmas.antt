-- Rows by their keys.
use Rattle.std.proofs.Common.{◌≡◌, ◌<◌, ℕ, Bool, true, false, cond, List, [], get_or, refl, ap, subst, ◌∙◌, pos}
use Rattle.std.specs.List.{All}
use Rattle.vortex_model.specs.Content.{Content, null, boolean, integer}
use Rattle.vortex_scalar_ops.specs.Equality.{holds_variant}
use Rattle.vortex_arrays_view.specs.Views.{value_of}
use Rattle.vortex_arrays_model.specs.Layout.{Strings, texts, byte_strings, Layout, bools, numbers, strings, Valid, content_at, is_valid, rows_of, string_content}
use Rattle.vortex_arrays_model.proofs.RowsLemmas.{row_at_position, row_count}
use Rattle.vortex_model.specs.LogicalType.{IntKind}
use Rattle.std.specs.Prelude.{ℤ}
use Rattle.vortex_arrays_builder.specs.Fits.{fits_constant}
use Rattle.vortex_arrays_dictionary.specs.Firsts.{AreNumbered}
use Rattle.vortex_arrays_dictionary.specs.declared.keyed.KeyedRows.{KeyedRows}
use Rattle.vortex_arrays_dictionary.specs.Keyed.{AreKeyed, AreAsMany}

-- ---- contents of leaves

or_null : (b : Bool) (c : Content) → holds_variant c ≡ false → holds_variant (cond b c null) ≡ false
or_null true c h = h
or_null false c h = refl

string_so : (s : Strings) (bs : List ℕ) → holds_variant (string_content s bs) ≡ false
string_so texts bs = refl
string_so byte_strings bs = refl

leaves_in : (a : Layout) → ((i : ℕ) → holds_variant (content_at a i) ≡ false) → All (λ c. holds_variant c ≡ false) (rows_of a)
leaves_in a h = λ i d l. ap holds_variant (row_at_position a i d (subst (λ n. i < n) (row_count a) l)) ∙ h i

pub truths_are_leaves : (bs : List Bool) (v : Valid) → All (λ c. holds_variant c ≡ false) (rows_of (bools bs v))
truths_are_leaves bs v = leaves_in (bools bs v) (λ i. or_null (is_valid v i) (boolean (get_or bs i false)) refl)

pub numbers_are_leaves : (k : IntKind) (zs : List ℤ) (v : Valid) → All (λ c. holds_variant c ≡ false) (rows_of (numbers k zs v))
numbers_are_leaves k zs v = leaves_in (numbers k zs v) (λ i. or_null (is_valid v i) (integer (get_or zs i (pos 0))) refl)

pub strings_are_leaves : (s : Strings) (vs bs : List (List ℕ)) (v : Valid) → All (λ c. holds_variant c ≡ false) (rows_of (strings s vs bs v))
strings_are_leaves s vs bs v = leaves_in (strings s vs bs v) (λ i. or_null (is_valid v i) (string_content s (value_of (get_or vs i []) bs)) (string_so s (value_of (get_or vs i []) bs)))

-- ---- a statement about all contents with these keys holds for the rows

pub as_many : (rows : KeyedRows) (cs : List Content) → AreKeyed rows cs → AreAsMany rows
as_many rows cs t = t.many

pub numbered_told : (rows : KeyedRows) (cs : List Content) (firsts ns : List ℕ) → ((ds : List Content) → AreKeyed rows ds → AreNumbered ds firsts ns) → AreKeyed rows cs → AreNumbered cs firsts ns
numbered_told rows cs firsts ns h t = h cs t

pub equal_told : (rows : KeyedRows) (cs : List Content) (b : Bool) → ((ds : List Content) → AreKeyed rows ds → b ≡ fits_constant ds) → AreKeyed rows cs → b ≡ fits_constant cs
equal_told rows cs b h t = h cs t

pub ruleset told = (as_many, numbered_told, equal_told)
