-- Arrays of cells.
use Rattle.std.proofs.Common.{◌≡◌, ◌<◌, ◌≤◌, ◌+◌, ℕ, ℤ, pos, Bool, true, false, cond, List, [], ◌∷◌, ◌++◌, length, get_or, take, map, Option, Some, None, is_some, unwrap_or, option_map, refl, sym, ap, subst, ◌∙◌}
use Rattle.std.specs.List.{All}
use Rattle.std.proofs.lemmas.List.{length-map, get_or-map, take_more, take_all}
use Rattle.std.proofs.lemmas.List.Elements.{All-nil, All-cons, All-append}
use Rattle.vortex_model.specs.LogicalType.{Nullability, non_nullable, nullable, boolean_type, integer_type, IntKind}
use Rattle.vortex_model.specs.Content.{Raw, raw_null, raw_boolean, raw_number}
use Rattle.vortex_model.specs.Valid.{InRange}
use Rattle.vortex_arrays_model.specs.Layout.{bools, numbers, Valid, required, all_valid, by_array, is_valid, HasLength}
use Rattle.vortex_table_columns.specs.Cells.{cell_raw, MarksCells, IsColumn}
use Rattle.vortex_table_columns.specs.Numbers.{cells_by}

-- ---- which cells are null

module _ {A : Type 0} where
  pub present_more : (cells : List (Option A)) (i : ℕ) (c : Option A) → All (λ x. is_some x ≡ true) (take i cells) → i < length cells → c ≡ get_or cells i c → is_some c ≡ true
      → All (λ x. is_some x ≡ true) (take (i + 1) cells)
  present_more cells i c h l e t =
      subst (All (λ x. is_some x ≡ true)) (sym (take_more cells i c l ∙ ap (λ y. take i cells ++ y ∷ []) (sym e)))
      (All-append (λ x. is_some x ≡ true) (take i cells) (c ∷ []) h (All-cons (λ x. is_some x ≡ true) c [] t (All-nil (λ x. is_some x ≡ true))))

  pub present_none : (cells : List (Option A)) → All (λ x. is_some x ≡ true) (take 0 cells)
  present_none cells = All-nil (λ x. is_some x ≡ true)

  pub present_all : (cells : List (Option A)) (i : ℕ) → length cells ≤ i → All (λ x. is_some x ≡ true) (take i cells) → All (λ x. is_some x ≡ true) cells
  present_all cells i l h = subst (All (λ x. is_some x ≡ true)) (take_all i cells l) h

  pub marks_required : (cells : List (Option A)) → All (λ x. is_some x ≡ true) cells → MarksCells non_nullable cells required
  marks_required cells h = record { fits = tt; nullability = refl; bits = λ i l. sym (h i None l) }

  pub marks_all : (cells : List (Option A)) → All (λ x. is_some x ≡ true) cells → MarksCells nullable cells all_valid
  marks_all cells h = record { fits = tt; nullability = refl; bits = λ i l. sym (h i None l) }

  pub marks_bits : (cells : List (Option A)) (bits : List Bool) → bits ≡ map is_some cells → MarksCells nullable cells (by_array (bools bits required))
  marks_bits cells bits e = record {
    fits = (tt, ap length e ∙ length-map cells is_some, refl);
    nullability = refl;
    bits = λ i l. ap (λ ys. get_or ys i false) e ∙ get_or-map is_some cells i None false l;
  }

pub ruleset present = (present_more, present_none, present_all)

pub ruleset nulls = (marks_required, marks_all, marks_bits)

-- ---- rows

cell_row : {A : Type 0} (f : A → Raw) (d : A) (c : Option A) → cond (is_some c) (f (unwrap_or c d)) raw_null ≡ cell_raw f c
cell_row f d None = refl
cell_row f d (Some a) = refl

-- the row of a value, or of the replacement of a null, is the cell
pub cell_at : {A : Type 0} (f : A → Raw) (d e : A) (cells : List (Option A)) (xs : List A) (v : Valid) (n : Nullability) → xs ≡ map (λ c. unwrap_or c d) cells → MarksCells n cells v → (i : ℕ) → i < length cells
    → cond (is_valid v i) (f (get_or xs i e)) raw_null ≡ get_or (map (cell_raw f) cells) i raw_null
cell_at f d e cells xs v n same marks i l =
    ap (λ (b : Bool). cond b (f (get_or xs i e)) raw_null) (marks.bits i l)
    ∙ ap (λ x. cond (is_some (get_or cells i None)) (f x) raw_null) (ap (λ ys. get_or ys i e) same ∙ get_or-map (λ c. unwrap_or c d) cells i None e l)
    ∙ cell_row f d (get_or cells i None)
    ∙ sym (get_or-map (cell_raw f) cells i None raw_null l)

as_many : {A X : Type 0} (f : Option A → X) (cells : List (Option A)) (xs : List X) → xs ≡ map f cells → length xs ≡ length cells
as_many f cells xs e = ap length e ∙ length-map cells f

-- as many rows as cells
within : {A : Type 0} (f : A → Raw) (cells : List (Option A)) (i : ℕ) → i < length (map (cell_raw f) cells) → i < length cells
within f cells i l = subst (λ n. i < n) (length-map cells (cell_raw f)) l

pub column_booleans : (n : Nullability) (cells : List (Option Bool)) (bits : List Bool) (v : Valid) (d : Bool) → bits ≡ map (λ c. unwrap_or c d) cells → MarksCells n cells v
    → IsColumn (boolean_type n) (map (cell_raw raw_boolean) cells) (bools bits v)
column_booleans n cells bits v d e marks = record {
  sound = subst (HasLength v) (sym (as_many (λ c. unwrap_or c d) cells bits e)) marks.fits;
  kind = ap boolean_type marks.nullability;
  len = as_many (λ c. unwrap_or c d) cells bits e ∙ sym (length-map cells (cell_raw raw_boolean));
  rows = λ i l. cell_at raw_boolean d false cells bits v n e marks i (within raw_boolean cells i l);
}

-- integers of one type as integers
numbers_or : {A : Type 0} (f : A → ℤ) (d : A) (cells : List (Option A)) → map f (map (λ c. unwrap_or c d) cells) ≡ map (λ c. unwrap_or c (f d)) (cells_by f cells)
numbers_or f d [] = refl
numbers_or f d (None ∷ cells) = ap (λ zs. f d ∷ zs) (numbers_or f d cells)
numbers_or f d (Some a ∷ cells) = ap (λ zs. f a ∷ zs) (numbers_or f d cells)

is_some-by : {A : Type 0} (f : A → ℤ) (c : Option A) → is_some c ≡ is_some (option_map f c)
is_some-by f None = refl
is_some-by f (Some a) = refl

marks_by : {A : Type 0} (f : A → ℤ) (n : Nullability) (cells : List (Option A)) (v : Valid) → MarksCells n cells v → MarksCells n (cells_by f cells) v
marks_by f n cells v h = record {
  fits = subst (HasLength v) (sym (length-map cells (option_map f))) h.fits;
  nullability = h.nullability;
  bits = λ i l.
      let within : i < length cells = subst (λ m. i < m) (length-map cells (option_map f)) l in
      h.bits i within ∙ is_some-by f (get_or cells i None) ∙ sym (ap is_some (get_or-map (option_map f) cells i None None within));
}

column_numbers : (k : IntKind) (n : Nullability) (cells : List (Option ℤ)) (zs : List ℤ) (v : Valid) → All (InRange k) zs → zs ≡ map (λ c. unwrap_or c (pos 0)) cells → MarksCells n cells v
    → IsColumn (integer_type k n) (map (cell_raw (raw_number k)) cells) (numbers k zs v)
column_numbers k n cells zs v fit e marks = record {
  sound = (fit, subst (HasLength v) (sym (as_many (λ c. unwrap_or c (pos 0)) cells zs e)) marks.fits);
  kind = ap (integer_type k) marks.nullability;
  len = as_many (λ c. unwrap_or c (pos 0)) cells zs e ∙ sym (length-map cells (cell_raw (raw_number k)));
  rows = λ i l. cell_at (raw_number k) (pos 0) (pos 0) cells zs v n e marks i (within (raw_number k) cells i l);
}

pub column_integers : {A : Type 0} (f : A → ℤ) (d : A) (k t : IntKind) (n : Nullability) (cells : List (Option A)) (xs : List A) (zs : List ℤ) (v : Valid) → k ≡ t → f d ≡ pos 0 → xs ≡ map (λ c. unwrap_or c d) cells → zs ≡ map f xs
    → All (InRange k) zs → MarksCells n cells v → IsColumn (integer_type t n) (map (cell_raw (raw_number t)) (cells_by f cells)) (numbers k zs v)
column_integers f d k t n cells xs zs v same zero items is fit marks =
    let all : zs ≡ map (λ c. unwrap_or c (pos 0)) (cells_by f cells) = is ∙ ap (map f) items ∙ numbers_or f d cells ∙ ap (λ z. map (λ c. unwrap_or c z) (cells_by f cells)) zero in
    subst (λ j. IsColumn (integer_type j n) (map (cell_raw (raw_number j)) (cells_by f cells)) (numbers k zs v)) same (column_numbers k n (cells_by f cells) zs v fit all (marks_by f n cells v marks))
