-- The column of a field, and the nulls of a struct array pushed into it.
use Rattle.std.proofs.Common.{◌≡◌, ◌<◌, ℕ, zero, suc, Bool, true, false, cond, List, [], ◌∷◌, length, get_or, map, Option, Some, None, option_map, option_and_then, refl, sym, ap, subst, ◌∙◌}
use Rattle.std.proofs.lemmas.List.{get_or-map, length-map}
use Rattle.vortex_model.specs.LogicalType.{Nullability, non_nullable, nullable, LogicalType, null_only, boolean_type, integer_type, float, decimal, utf8, binary, list, fixed_list, mapping, struct, union, variant, extension, nullability_of, either_nullable, with_nullability, nullable_inside}
use Rattle.vortex_model.specs.Content.{Content, null, tuple, nth}
use Rattle.vortex_model.specs.Path.{Names, Positions, position_named, field_at, part_at, type_at, at, positions, column as column_value}
use Rattle.vortex_model.proofs.Paths.{at_null}
use Rattle.vortex_arrays_model.specs.Layout.{Layout, records, Valid, Columns, no_columns, column, len_of, array_type_of, fields_of, nullability_by, content_at, is_valid, row_at, rows_of, IsSound, HaveLength}
use Rattle.vortex_arrays_model.specs.Column.{IsColumn, IsPart, array_at, IsMasked}
use Rattle.vortex_arrays_model.proofs.RowsLemmas.{row_at_position, row_count, rows_by_position}
use Rattle.vortex_arrays_model.proofs.SomeLemmas.{last_nullability}

-- The column at a position.
pub type_of_array : (cs : Columns) (k : ℕ) (b : Layout) → array_at cs k ≡ Some b → field_at (fields_of cs) k ≡ Some (array_type_of b)
type_of_array no_columns k b e = cc
type_of_array (column x a cs) zero b e = ap (option_map array_type_of) e
type_of_array (column x a cs) (suc k) b e = type_of_array cs k b e

abbrev or_layout : Layout → Option Layout → Layout
or_layout a None = a
or_layout a (Some b) = b

pub array_content : (cs : Columns) (i k : ℕ) (b : Layout) → array_at cs k ≡ Some b → nth (row_at cs i) k ≡ content_at b i
array_content no_columns i k b e = cc
array_content (column x a cs) i zero b e = ap (λ o. content_at (or_layout a o) i) e
array_content (column x a cs) i (suc k) b e = array_content cs i k b e

pub array_sound : (cs : Columns) (n k : ℕ) (b : Layout) → HaveLength cs n → array_at cs k ≡ Some b → IsSound b
array_sound no_columns n k b h e = cc
array_sound (column x a cs) n zero b h e = subst (λ o. IsSound (or_layout a o)) e h.0
array_sound (column x a cs) n (suc k) b h e = array_sound cs n k b h.2 e

pub array_len : (cs : Columns) (n k : ℕ) (b : Layout) → HaveLength cs n → array_at cs k ≡ Some b → len_of b ≡ n
array_len no_columns n k b h e = cc
array_len (column x a cs) n zero b h e = subst (λ o. len_of (or_layout a o) ≡ n) e h.1
array_len (column x a cs) n (suc k) b h e = array_len cs n k b h.2 e

-- a field of a row
at_row : (b : Bool) (cs : Columns) (i k : ℕ) (is : Positions) (a : Layout) → array_at cs k ≡ Some a → at (cond b (tuple (row_at cs i)) null) (k ∷ is) ≡ cond b (at (content_at a i) is) null
at_row true cs i k is a e = ap (λ c. at c is) (array_content cs i k a e)
at_row false cs i k is a e = at_null is

type_step : (cs : Columns) (n : Nullability) (k : ℕ) (is : Positions) (b : Layout) → array_at cs k ≡ Some b → type_at (struct (fields_of cs) n) (k ∷ is) ≡ option_map (nullable_inside n) (type_at (array_type_of b) is)
type_step cs n k is b e = ap (λ o. option_map (nullable_inside n) (option_and_then (λ part. type_at part is) o)) (type_of_array cs k b e)

-- The array itself, and one step down: a deeper part of the field, with the nulls of the struct
-- array.
pub part_root : (a : Layout) → IsSound a → IsPart a [] a
part_root a s = record { sound = s; len = refl; kind = refl; content = λ i l. refl }

pub part_step : (cs : Columns) (n : ℕ) (v : Valid) (k : ℕ) (is : Positions) (b t r : Layout) → IsSound (records cs n v) → array_at cs k ≡ Some b → IsPart b is t → IsMasked v t r → IsPart (records cs n v) (k ∷ is) r
part_step cs n v k is b t r s e p q =
    let size : len_of b ≡ n = array_len cs n k b s.0 e in
    record {
      sound = q.sound;
      len = q.len ∙ p.len ∙ size;
      kind = type_step cs (nullability_by v) k is b e ∙ ap (option_map (nullable_inside (nullability_by v))) p.kind ∙ ap (λ t. Some t) (sym q.kind);
      content = λ i l.
          let small : i < len_of b = subst (λ m. i < m) (sym size) l in
          q.content i (subst (λ m. i < m) (sym p.len) small) ∙ ap (λ c. cond (is_valid v i) c null) (p.content i small) ∙ sym (at_row (is_valid v i) cs i k is b e);
    }

-- a field's part, with the nulls pushed first
part_within : (k : LogicalType) (i : ℕ) → part_at (with_nullability nullable k) i ≡ part_at k i
part_within null_only i = refl
part_within (boolean_type n) i = refl
part_within (integer_type k n) i = refl
part_within (float f n) i = refl
part_within (decimal p s n) i = refl
part_within (utf8 n) i = refl
part_within (binary n) i = refl
part_within (list k n) i = refl
part_within (fixed_list k s n) i = refl
part_within (mapping k v s n) i = refl
part_within (struct fs n) i = refl
part_within (union vs n) i = refl
part_within (variant n) i = refl
part_within (extension x m k) i = refl

now_nullable : (k : LogicalType) → nullability_of (with_nullability nullable k) ≡ nullable
now_nullable null_only = refl
now_nullable (boolean_type n) = refl
now_nullable (integer_type k n) = refl
now_nullable (float f n) = refl
now_nullable (decimal p s n) = refl
now_nullable (utf8 n) = refl
now_nullable (binary n) = refl
now_nullable (list k n) = refl
now_nullable (fixed_list k s n) = refl
now_nullable (mapping k v s n) = refl
now_nullable (struct fs n) = refl
now_nullable (union vs n) = refl
now_nullable (variant n) = refl
now_nullable (extension x m k) = now_nullable k

pub nullability_within : (n : Nullability) (k : LogicalType) → nullability_of (nullable_inside n k) ≡ either_nullable n (nullability_of k)
nullability_within non_nullable k = refl
nullability_within nullable k = now_nullable k

nullable_over : (n : Nullability) (k : LogicalType) → with_nullability nullable (nullable_inside n k) ≡ with_nullability nullable k
nullable_over non_nullable k = refl
nullable_over nullable k = last_nullability nullable nullable k

both_within : (n : Nullability) (o : Option LogicalType) → option_map (with_nullability nullable) (option_map (nullable_inside n) o) ≡ option_map (with_nullability nullable) o
both_within n None = refl
both_within n (Some k) = ap (λ t. Some t) (nullable_over n k)

unchanged : (o : Option LogicalType) → o ≡ option_map (nullable_inside non_nullable) o
unchanged None = refl
unchanged (Some k) = refl

pub type_at_within : (n : Nullability) (k : LogicalType) (is : Positions) → type_at (nullable_inside n k) is ≡ option_map (nullable_inside n) (type_at k is)
type_at_within n k [] = refl
type_at_within non_nullable k (i ∷ is) = unchanged (type_at k (i ∷ is))
type_at_within nullable k (i ∷ is) =
    (λ j. option_map (nullable_inside (now_nullable k j)) (option_and_then (λ part. type_at part is) (part_within k i j)))
    ∙ sym (both_within (nullability_of k) (option_and_then (λ part. type_at part is) (part_at k i)))

-- The indices of names.
read_at : (k : LogicalType) (xs : Names) (is : Positions) (c : Content) → positions k xs ≡ Some is → column_value k xs c ≡ at c is
read_at k xs is c e = ap (λ (o : Option Positions). elim o as (λ _. Content) [ None ↦ null | Some js ↦ at c js ]) e

pub part_named : (a : Layout) (xs : Names) (is : Positions) (r : Layout) → positions (array_type_of a) xs ≡ Some is → IsPart a is r → IsColumn a xs r
part_named a xs is r e p = record {
  sound = p.sound;
  kind = ap (λ o. option_and_then (type_at (array_type_of a)) o) e ∙ p.kind;
  rows = rows_by_position r (map (column_value (array_type_of a) xs) (rows_of a)) (length-map (rows_of a) (column_value (array_type_of a) xs) ∙ row_count a ∙ sym p.len) (λ i l.
      let small : i < len_of a = subst (λ m. i < m) p.len l in
      let w : i < length (rows_of a) = subst (λ m. i < m) (sym (row_count a)) small in
      get_or-map (column_value (array_type_of a) xs) (rows_of a) i null null w
      ∙ ap (column_value (array_type_of a) xs) (row_at_position a i null small)
      ∙ read_at (array_type_of a) xs is (content_at a i) e
      ∙ sym (p.content i small));
}

abbrev no_kind : Option LogicalType
no_kind = None

none_some : (k : LogicalType) → no_kind ≡ Some k → ⊥
none_some k e = cc

found : (a : Layout) (xs : Names) (r : Layout) (o : Option Positions) → positions (array_type_of a) xs ≡ o → IsColumn a xs r → (is : Positions) × (positions (array_type_of a) xs ≡ Some is) × IsPart a is r
found a xs r None e h = absurd (none_some (array_type_of r) (sym (ap (λ o. option_and_then (type_at (array_type_of a)) o) e) ∙ h.kind))
found a xs r (Some is) e h =
    let many : len_of r ≡ len_of a = sym (row_count r) ∙ ap length h.rows ∙ length-map (rows_of a) (column_value (array_type_of a) xs) ∙ row_count a in (
      is,
      e,
      record {
        sound = h.sound;
        len = many;
        kind = sym (ap (λ o. option_and_then (type_at (array_type_of a)) o) e) ∙ h.kind;
        content = λ i l.
            let there : i < len_of r = subst (λ m. i < m) (sym many) l in
            let w : i < length (rows_of a) = subst (λ m. i < m) (sym (row_count a)) l in
            sym (row_at_position r i null there)
            ∙ ap (λ rows. get_or rows i null) h.rows
            ∙ get_or-map (column_value (array_type_of a) xs) (rows_of a) i null null w
            ∙ ap (column_value (array_type_of a) xs) (row_at_position a i null l)
            ∙ read_at (array_type_of a) xs is (content_at a i) e;
      },
    )

-- a column at a path of names is one at a path of positions
pub column_part : (a : Layout) (xs : Names) (r : Layout) → IsColumn a xs r → (is : Positions) × (positions (array_type_of a) xs ≡ Some is) × IsPart a is r
column_part a xs r h = found a xs r (positions (array_type_of a) xs) refl h

pub column_root : (a : Layout) → IsSound a → IsColumn a [] a
column_root a s = part_named a [] [] a refl (part_root a s)

positions_step : (cs : Columns) (n : Nullability) (x : List ℕ) (xs : Names) (k : ℕ) (b : Layout) (is : Positions) → position_named (fields_of cs) x ≡ Some k → array_at cs k ≡ Some b → positions (array_type_of b) xs ≡ Some is → positions (struct (fields_of cs) n) (x ∷ xs) ≡ Some (k ∷ is)
positions_step cs n x xs k b is e f g =
    ap (λ o. option_and_then (λ i. option_and_then (λ part. option_map (λ js. i ∷ js) (positions part xs)) (field_at (fields_of cs) i)) o) e
    ∙ ap (λ o. option_and_then (λ part. option_map (λ js. k ∷ js) (positions part xs)) o) (type_of_array cs k b f)
    ∙ ap (λ o. option_map (λ js. k ∷ js) o) g

-- one step down, by the field's name
pub column_step : (cs : Columns) (n : ℕ) (v : Valid) (x : List ℕ) (xs : Names) (k : ℕ) (b t r : Layout) → IsSound (records cs n v) → position_named (fields_of cs) x ≡ Some k → array_at cs k ≡ Some b → IsColumn b xs t → IsMasked v t r → IsColumn (records cs n v) (x ∷ xs) r
column_step cs n v x xs k b t r s e f h q =
    let p = column_part b xs t h in
    part_named (records cs n v) (x ∷ xs) (k ∷ p.0) r (positions_step cs (nullability_by v) x xs k b p.0 e f p.1) (part_step cs n v k p.0 b t r s f p.2 q)

pub ruleset columns = (column_root, column_step, part_root, part_step, part_named)
