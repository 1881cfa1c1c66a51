-- What is kept of columns and of records, row by row.
use Rattle.std.proofs.Common.{◌≡◌, refl, sym, ap, ◌∙◌, ℕ, zero, suc, ℤ, pos, ◌+◌, ◌<◌, ◌≤◌, List, [], ◌∷◌, ◌++◌, length, map, take, get_or, cond, Bool, true, false, Option, arith, rules, Vec, Global}
use Rattle.std.specs.List.{All}
use Rattle.std.proofs.lemmas.List.{take_more, map-append}
use Rattle.vortex_model.specs.LogicalType.{IntKind, stored}
use Rattle.vortex_model.specs.Content.{Raw, raw_null, raw_boolean, raw_number, raw_tuple, Raws}
use Rattle.vortex_model.specs.Valid.{valid}
use Rattle.vortex_scalar_value.specs.Parts.{raw_nth}
use Rattle.vortex_scalar_value.specs.View.{raw_in, content_in, raws_from}
use Rattle.vortex_scalar_value.specs.declared.scalar_value.ScalarValue.{ScalarValue}
use Rattle.vortex_scalar_convert.proofs.Told.{told}
use Rattle.vortex_arrays_view.specs.Views.{value_of}
use Rattle.vortex_arrays_model.specs.Layout.{Layout, bools, numbers, strings, records, Strings, texts, byte_strings, Valid, len_of, array_type_of, content_at, is_valid, IsSound, HaveLength}
use Rattle.vortex_arrays_model.specs.Parts.{columns_of}
use Rattle.vortex_arrays_core.specs.RawRows.{raw_row, raw_string, raw_fields}
use Rattle.vortex_arrays_core.proofs.Constructors.{valid_so}
use Rattle.vortex_arrays_core.proofs.RawRowsLemmas.{says, raw_valid, raws_from-fields, fields_within}
use Rattle.vortex_table_schema.specs.Cut.{Tree, whole, parts, KeptPart, parts_from, tree_of, part_of_field, raw_cut, raws_cut, cut_part}
use Rattle.vortex_table_schema.specs.declared.projection.Projection as projection
use Rattle.vortex_table_schema.specs.declared.projection.ProjectedField.{ProjectedField}
use Rattle.vortex_table_schema.proofs.Projections.{tree_of-Fields, part_of_field-parts, cut_null, each_part}
use Rattle.vortex_table_select.specs.Lists.{cut_values, fields_at, with_each, cut_lists, record_values}
use Rattle.vortex_table_select.proofs.Lists.{all_grown, records_mapped}

-- ---- one value

-- the value that is read at a row is the raw value there
pub row_is : (a : Layout) (i : ℕ) (v : Option ScalarValue) → IsSound a → i < len_of a → content_in v ≡ content_at a i → valid (array_type_of a) (raw_in v) ≡ true → raw_in v ≡ raw_row a i
row_is a i v s l e h = told (stored (array_type_of a)) (raw_in v) (raw_row a i) (valid_so (array_type_of a) (raw_in v) h) (raw_valid a s i l) (e ∙ sym (says a i))

-- and what is kept of it
pub kept_row : (t : Tree) (a : Layout) (i : ℕ) (v kept : Option ScalarValue) → IsSound a → i < len_of a → content_in v ≡ content_at a i → valid (array_type_of a) (raw_in v) ≡ true → raw_in kept ≡ raw_cut t (raw_in v) → raw_in kept ≡ raw_cut t (raw_row a i)
kept_row t a i v kept s l e h is = is ∙ ap (raw_cut t) (row_is a i v s l e h)

-- of what is no record all is kept
abbrev IsKept : Raw → Type 0
IsKept r = (t : Tree) → raw_cut t r ≡ r

null_kept : IsKept raw_null
null_kept whole = refl
null_kept (parts ps) = refl

boolean_kept : (b : Bool) → IsKept (raw_boolean b)
boolean_kept b whole = refl
boolean_kept b (parts ps) = refl

number_kept : (k : IntKind) (z : ℤ) → IsKept (raw_number k z)
number_kept k z whole = refl
number_kept k z (parts ps) = refl

string_kept : (s : Strings) (bs : List ℕ) → IsKept (raw_string s bs)
string_kept texts bs whole = refl
string_kept texts bs (parts ps) = refl
string_kept byte_strings bs whole = refl
string_kept byte_strings bs (parts ps) = refl

kept_if : (b : Bool) (r : Raw) → IsKept r → IsKept (cond b r raw_null)
kept_if true r h = h
kept_if false r h = null_kept

pub cut_bools : (t : Tree) (bs : List Bool) (v : Valid) (rows : List ℕ) → cut_values t (bools bs v) rows ≡ map (raw_row (bools bs v)) rows
cut_bools t bs v rows = λ j. map (λ i. kept_if (is_valid v i) (raw_boolean (get_or bs i false)) (boolean_kept (get_or bs i false)) t j) rows

pub cut_numbers : (t : Tree) (k : IntKind) (zs : List ℤ) (v : Valid) (rows : List ℕ) → cut_values t (numbers k zs v) rows ≡ map (raw_row (numbers k zs v)) rows
cut_numbers t k zs v rows = λ j. map (λ i. kept_if (is_valid v i) (raw_number k (get_or zs i (pos 0))) (number_kept k (get_or zs i (pos 0))) t j) rows

pub cut_strings : (t : Tree) (s : Strings) (vs bs : List (List ℕ)) (v : Valid) (rows : List ℕ) → cut_values t (strings s vs bs v) rows ≡ map (raw_row (strings s vs bs v)) rows
cut_strings t s vs bs v rows = λ j. map (λ i. kept_if (is_valid v i) (raw_string s (value_of (get_or vs i []) bs)) (string_kept s (value_of (get_or vs i []) bs)) t j) rows

-- ---- the lists of records

tree_of-Whole : tree_of projection.Whole ≡ whole
tree_of-Whole = search (rules, projection.the_lemmas)

nth_field : (columns : List Layout) (i p : ℕ) (a : Layout) → p < length columns → a ≡ get_or columns p a → raw_nth (raws_from (fields_at columns i)) p ≡ raw_row a i
nth_field [] i p a l e = absurd (omega (arith, l))
nth_field (b ∷ columns) i zero a l e = ap (λ x. raw_row x i) (sym e)
nth_field (b ∷ columns) i (suc p) a l e = nth_field columns i p a (omega (arith, l)) e

no_field : (columns : List Layout) (i p : ℕ) → length columns ≤ p → raw_nth (raws_from (fields_at columns i)) p ≡ raw_null
no_field [] i p l = refl
no_field (b ∷ columns) i zero l = absurd (omega (arith, l))
no_field (b ∷ columns) i (suc p) l = no_field columns i p (omega (arith, l))

-- what is kept of one column
module _ (columns : List Layout) (field : ProjectedField) (rows : List ℕ) where
  abbrev part_values : List Raw
  part_values = map (λ i. cut_part (raws_from (fields_at columns i)) (part_of_field field)) rows

  one_part : (i : ℕ) → cut_part (raws_from (fields_at columns i)) (part_of_field field) ≡ raw_cut (tree_of field.projection) (raw_nth (raws_from (fields_at columns i)) field.position)
  one_part i = ap (cut_part (raws_from (fields_at columns i))) (part_of_field-parts field)

  pub field_there : (a : Layout) → field.position < length columns → a ≡ get_or columns field.position a → cut_values (tree_of field.projection) a rows ≡ part_values
  field_there a l e = λ j. map (λ i. (sym (one_part i ∙ ap (raw_cut (tree_of field.projection)) (nth_field columns i field.position a l e))) j) rows

  pub field_past : length columns ≤ field.position → map (λ i. raw_null) rows ≡ part_values
  field_past l = λ j. map (λ i. (sym (one_part i ∙ ap (raw_cut (tree_of field.projection)) (no_field columns i field.position l) ∙ cut_null (tree_of field.projection))) j) rows

-- one column more
pub whole_grown : (columns : List Layout) (k : ℕ) (a : Layout) (rows : List ℕ) (old new : List (List Raw)) → k < length columns → a ≡ get_or columns k a → old ≡ map (fields_at (take k columns)) rows →
    new ≡ with_each old (cut_values (tree_of projection.Whole) a rows) → new ≡ map (fields_at (take (k + 1) columns)) rows
whole_grown columns k a rows old new l is e made =
    all_grown (fields_at (take k columns)) (fields_at (take (k + 1) columns)) (raw_row a) rows old new e (made ∙ ap (λ t. with_each old (cut_values t a rows)) tree_of-Whole) (λ i.
    ap (λ x. fields_at (take k columns) i ++ raw_row x i ∷ []) is ∙ sym (map-append (λ x. raw_row x i) (take k columns) (get_or columns k a ∷ [])) ∙ ap (λ cs. fields_at cs i) (sym (take_more columns k a l)))

pub kept_grown : (columns : List Layout) (fields : List ProjectedField) (k : ℕ) (f : ProjectedField) (rows : List ℕ) (old new : List (List Raw)) → k < length fields → f ≡ get_or fields k f →
    old ≡ map (cut_lists columns (map part_of_field (take k fields))) rows →
    new ≡ with_each old (map (λ i. cut_part (raws_from (fields_at columns i)) (part_of_field f)) rows) → new ≡ map (cut_lists columns (map part_of_field (take (k + 1) fields))) rows
kept_grown columns fields k f rows old new l is e made =
    let now = map part_of_field (take k fields) in
    let longer : map part_of_field (take (k + 1) fields) ≡ now ++ part_of_field f ∷ []
    = ap (map part_of_field) (take_more fields k f l) ∙ map-append part_of_field (take k fields) (get_or fields k f ∷ []) ∙ ap (λ x. now ++ part_of_field x ∷ []) (sym is) in
    all_grown (cut_lists columns now) (cut_lists columns (map part_of_field (take (k + 1) fields))) (λ i. cut_part (raws_from (fields_at columns i)) (part_of_field f)) rows old new e made (λ i.
    sym (map-append (cut_part (raws_from (fields_at columns i))) now (part_of_field f ∷ [])) ∙ ap (λ ps. cut_lists columns ps i) (sym longer))

-- ---- records

cut_if : (ps : List KeptPart) (b : Bool) (rs : Raws) → cond b (raw_tuple (raws_cut (parts_from ps) rs)) raw_null ≡ raw_cut (parts (parts_from ps)) (cond b (raw_tuple rs) raw_null)
cut_if ps true rs = refl
cut_if ps false rs = refl

-- all columns have the rows of the records
pub columns_within : (xs : List (List ℕ)) (columns : List Layout) (n : ℕ) (rows : List ℕ) → HaveLength (columns_of xs columns) n → All (λ i. i < n) rows → All (λ a. All (λ i. i < len_of a) rows) columns
columns_within xs columns n rows h w k d b j e c = fields_within xs columns n (get_or rows j e) h (w j e c) k d b

pub whole_records : (xs : List (List ℕ)) (columns : List Layout) (n : ℕ) (v : Valid) (rows : List ℕ) (ls : List (List Raw)) → ls ≡ map (fields_at columns) rows →
    record_values v ls rows ≡ cut_values (tree_of projection.Whole) (records (columns_of xs columns) n v) rows
whole_records xs columns n v rows ls e =
    ap (λ x. record_values v x rows) e ∙ records_mapped v (fields_at columns) rows
    ∙ (λ j. map (λ i. cond (is_valid v i) (raw_tuple (raws_from-fields xs columns i j)) raw_null) rows)
    ∙ ap (λ t. cut_values t (records (columns_of xs columns) n v) rows) (sym tree_of-Whole)

pub kept_records : (xs : List (List ℕ)) (columns : List Layout) (n : ℕ) (v : Valid) (rows : List ℕ) (fields : Vec ProjectedField Global) (ls : List (List Raw)) → ls ≡ map (cut_lists columns (map part_of_field fields.items)) rows →
    record_values v ls rows ≡ cut_values (tree_of (projection.Fields fields)) (records (columns_of xs columns) n v) rows
kept_records xs columns n v rows fields ls e =
    let ps = map part_of_field fields.items in
    ap (λ x. record_values v x rows) e ∙ records_mapped v (cut_lists columns ps) rows
    ∙ (λ j. map (λ i. (ap (λ rs. cond (is_valid v i) (raw_tuple rs) raw_null) (each_part (raws_from (fields_at columns i)) ps ∙ ap (raws_cut (parts_from ps)) (raws_from-fields xs columns i))
    ∙ cut_if ps (is_valid v i) (raw_fields (columns_of xs columns) i)) j) rows)
    ∙ ap (λ t. cut_values t (records (columns_of xs columns) n v) rows) (sym (tree_of-Fields fields))
