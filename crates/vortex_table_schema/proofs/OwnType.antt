-- Rows of a type that tables hold: none is null, and each converts to that type.
use Rattle.std.proofs.Common.{◌≡◌, refl, sym, ◌∙◌, ap, ℕ, suc, List, [], ◌∷◌, ◌++◌, map, Bool, true, false, ◌&&◌, Option, Some, None, if◌then◌else◌}
use Rattle.std.specs.Prelude.{◌==◌}
use Rattle.std.specs.List.{list_all}
use Rattle.std.proofs.lemmas.List.{map-append}
use Rattle.std.specs.Cmp.{first_so, second_so}
use Rattle.vortex_model.specs.LogicalType.{LogicalType, boolean_type, integer_type, utf8, binary, list, fixed_list, struct, Fields, no_fields, field, non_nullable, eq_int_kind}
use Rattle.vortex_model.specs.Content.{Content, Raw, raw_null, raw_boolean, raw_number, raw_text, raw_byte_string, raw_tuple, raw_count, Raws, no_raws, raw_first, content_of, contents_of}
use Rattle.vortex_model.specs.Convert.{converts, all_convert, fields_convert}
use Rattle.vortex_model.specs.Kept.{names_distinct, part_fault, fields_fault, type_fault}
use Rattle.vortex_model.specs.Refusal.{Refusal, repeated_name, invalid_value, not_convertible}
use Rattle.vortex_model.specs.Valid.{valid, all_have, fields_have, in_range}
use Rattle.vortex_model.proofs.Refusals.{first_none, second_none}
use Rattle.vortex_model.proofs.Contents.{eq_count}
use Rattle.vortex_model_table.specs.Command.{first_invalid, first_unconvertible}
use Rattle.vortex_scalar_value.specs.View.{raw_of, raw_in}
use Rattle.vortex_scalar_value.specs.declared.scalar_value.ScalarValue.{ScalarValue}
use Rattle.vortex_table_schema.specs.Rows.{row_content}
use Rattle.vortex_table_schema.proofs.Appends.{said, first_valid, rest_valid, row_moved, no_fault_first, no_fault_behind}

no_field_fault : (b : Bool) (o : Option Refusal) → (if b then o else Some repeated_name) ≡ None → o ≡ None
no_field_fault true o f = f
no_field_fault false o f = absurd (cc (f))

mutual
  pub part_converts : (k : LogicalType) (r : Raw) → part_fault k ≡ None → valid k r ≡ true → converts k k (content_of r) ≡ true
  part_converts (boolean_type n) raw_null f e = e
  part_converts (boolean_type n) (raw_boolean b) f e = refl
  part_converts (boolean_type n) r f e = absurd (cc (e))
  part_converts (integer_type i n) raw_null f e = e
  part_converts (integer_type i n) (raw_number j z) f e = second_so (eq_int_kind j i) (in_range i z) e
  part_converts (integer_type i n) r f e = absurd (cc (e))
  part_converts (utf8 n) raw_null f e = e
  part_converts (utf8 n) (raw_text bs) f e = refl
  part_converts (utf8 n) r f e = absurd (cc (e))
  part_converts (binary n) raw_null f e = e
  part_converts (binary n) (raw_byte_string bs) f e = refl
  part_converts (binary n) r f e = absurd (cc (e))
  part_converts (list k n) raw_null f e = e
  part_converts (list k n) (raw_tuple rs) f e = items_convert k rs f e
  part_converts (list k n) r f e = absurd (cc (e))
  part_converts (fixed_list k m n) raw_null f e = e
  part_converts (fixed_list k m n) (raw_tuple rs) f e =
      λ i. (ap (λ j. j == m) (eq_count rs) ∙ first_so (raw_count rs == m) (all_have k rs) e) i && items_convert k rs f (second_so (raw_count rs == m) (all_have k rs) e) i
  part_converts (fixed_list k m n) r f e = absurd (cc (e))
  part_converts (struct fs n) raw_null f e = e
  part_converts (struct fs n) (raw_tuple rs) f e = parts_convert fs rs (no_field_fault (names_distinct fs) (fields_fault fs) f) e
  part_converts (struct fs n) r f e = absurd (cc (e))
  part_converts k r f e = absurd (cc (f))

  items_convert : (k : LogicalType) (rs : Raws) → part_fault k ≡ None → all_have k rs ≡ true → all_convert k k (contents_of rs) ≡ true
  items_convert k no_raws f e = refl
  items_convert k (raw_first r rs) f e = λ i. part_converts k r f (first_so (valid k r) (all_have k rs) e) i && items_convert k rs f (second_so (valid k r) (all_have k rs) e) i

  parts_convert : (fs : Fields) (rs : Raws) → fields_fault fs ≡ None → fields_have fs rs ≡ true → fields_convert fs fs (contents_of rs) ≡ true
  parts_convert no_fields no_raws f e = refl
  parts_convert (field x k fs) (raw_first r rs) f e = λ i.
      part_converts k r (first_none (part_fault k) (fields_fault fs) f) (first_so (valid k r) (fields_have fs rs) e) i
      && parts_convert fs rs (second_none (part_fault k) (fields_fault fs) f) (second_so (valid k r) (fields_have fs rs) e) i
  parts_convert fs rs f e = absurd (cc (e))

pub kept_part : (k : LogicalType) → type_fault k ≡ None → part_fault k ≡ None
kept_part (struct fs non_nullable) f = f
kept_part k f = absurd (cc (f))

-- ---- rows of which none is invalid

pub rows_convert : (n m : ℕ) (k : LogicalType) (rs : List Raw) → type_fault k ≡ None → first_invalid n k rs ≡ None → first_unconvertible m k k (map content_of rs) ≡ None
rows_convert n m k [] kept e = refl
rows_convert n m k (r ∷ rs) kept e =
    ap (λ b. if b then first_unconvertible (suc m) k k (map content_of rs) else Some (not_convertible m))
    (part_converts k r (kept_part k kept) (no_fault_first (valid k r) (invalid_value n) (first_invalid (suc n) k rs) e))
    ∙ rows_convert (suc n) (suc m) k rs kept (no_fault_behind (valid k r) (invalid_value n) (first_invalid (suc n) k rs) e)

-- rows of equal types
pub rows_of_one_type : (s t : LogicalType) (rs : List Raw) → s ≡ t → type_fault t ≡ None → first_invalid 0 s rs ≡ None → first_unconvertible 0 s t (map content_of rs) ≡ None
rows_of_one_type s t rs same kept e =
    ap (λ k. first_unconvertible 0 k t (map content_of rs)) same
    ∙ rows_convert 0 0 t rs kept (sym (ap (λ k. first_invalid 0 k rs) same) ∙ e)

-- ---- rows that are kept one by one

still_valid : (k : LogicalType) (rows : List ScalarValue) (row : ScalarValue) → list_all (λ r. valid k (raw_of r)) rows ≡ true → valid k (raw_of row) ≡ true
    → list_all (λ r. valid k (raw_of r)) (rows ++ row ∷ []) ≡ true
still_valid k [] row before here = ap (λ b. b && true) here
still_valid k (r ∷ rows) row before here = λ i.
    first_so (valid k (raw_of r)) (list_all (λ r. valid k (raw_of r)) rows) before i
    && still_valid k rows row (second_so (valid k (raw_of r)) (list_all (λ r. valid k (raw_of r)) rows) before) here i

-- a row is kept, of which the values left are the first
module _ (k : LogicalType) (rows more : List ScalarValue) (row : ScalarValue) (left behind : List (Option ScalarValue)) (made : more ≡ rows ++ row ∷ []) (next : left ≡ Some row ∷ behind) where
  pub content_kept : (all : List Content) → map row_content rows ++ said left ≡ all → map row_content more ++ said behind ≡ all
  content_kept all before =
      row_moved k k rows (Some row) behind (row_content row) refl more (ap (map row_content) made ∙ map-append row_content rows (row ∷ [])) all
      (ap (λ vs. map row_content rows ++ said vs) (sym next) ∙ before)

  none_is_invalid : first_invalid 0 k (map raw_in left) ≡ None → first_invalid 0 k (map raw_in (Some row ∷ behind)) ≡ None
  none_is_invalid none = ap (λ vs. first_invalid 0 k (map raw_in vs)) (sym next) ∙ none

  pub left_valid : first_invalid 0 k (map raw_in left) ≡ None → first_invalid 0 k (map raw_in behind) ≡ None
  left_valid none = rest_valid k (Some row) behind (none_is_invalid none)

  pub kept_valid : first_invalid 0 k (map raw_in left) ≡ None → list_all (λ r. valid k (raw_of r)) rows ≡ true → list_all (λ r. valid k (raw_of r)) more ≡ true
  kept_valid none before = ap (λ vs. list_all (λ r. valid k (raw_of r)) vs) made ∙ still_valid k rows row before (first_valid k (Some row) behind (none_is_invalid none))
