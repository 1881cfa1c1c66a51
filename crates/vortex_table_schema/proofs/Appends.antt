-- Rows that are judged and converted, one by one.
use Rattle.std.proofs.Common.{◌≡◌, refl, sym, ◌∙◌, ap, subst, ℕ, suc, ◌+◌, ◌<◌, List, [], ◌∷◌, ◌++◌, length, drop, get_or, map, Bool, true, false, Option, Some, None, if◌then◌else◌, add-one}
use Rattle.std.proofs.lemmas.List.{append_assoc, drop_more, length-map, length_push}
use Rattle.vortex_model.specs.LogicalType.{LogicalType}
use Rattle.vortex_model.specs.Content.{Content, content_of, Raw}
use Rattle.vortex_model.specs.Valid.{valid}
use Rattle.vortex_model.specs.Convert.{converts}
use Rattle.vortex_model.specs.Refusal.{Refusal, invalid_value, not_convertible, or_else}
use Rattle.vortex_model_table.specs.Command.{unless, first_invalid, first_unconvertible}
use Rattle.vortex_scalar_value.specs.View.{raw_in, content_in}
use Rattle.vortex_scalar_value.specs.declared.scalar_value.ScalarValue.{ScalarValue}
use Rattle.vortex_table_schema.specs.Rows.{row_content}
use Rattle.vortex_table_schema.specs.Error.{Explains}
use Rattle.vortex_table_schema.specs.declared.error.TableError.{TableError}
use Rattle.vortex_table_schema.proofs.Explained.{explained_first}

-- the contents of the values
abbrev pub said : List (Option ScalarValue) → List Content
said vs = map content_of (map raw_in vs)

pub judged : (b : Bool) (r : Refusal) (q : Option Refusal) → or_else (unless b r) q ≡ (if b then q else Some r)
judged true r q = refl
judged false r q = refl

-- the value at this index, and those after it
pub next_is : (vs : List (Option ScalarValue)) (i : ℕ) (v : Option ScalarValue) → i < length vs → v ≡ get_or vs i v → drop i vs ≡ v ∷ drop (i + 1) vs
next_is vs i v inside is = drop_more vs i v inside ∙ ap (λ u. u ∷ drop (i + 1) vs) (sym is)

-- the same, where the value is read of a list that is equal
pub next_of : (vs us : List (Option ScalarValue)) (i : ℕ) (v : Option ScalarValue) → us ≡ vs → i < length vs → v ≡ get_or us i v → drop i vs ≡ v ∷ drop (i + 1) vs
next_of vs us i v e inside is = next_is vs i v inside (subst (λ (ws : List (Option ScalarValue)). v ≡ get_or ws i v) e is)

-- the row at this index
module _ (k : LogicalType) (vs : List (Option ScalarValue)) (i : ℕ) (v : Option ScalarValue) (inside : i < length vs) (is : v ≡ get_or vs i v) where
  first_here : first_invalid i k (map raw_in (drop i vs)) ≡ (if valid k (raw_in v) then first_invalid (i + 1) k (map raw_in (drop (i + 1) vs)) else Some (invalid_value i))
  first_here =
      ap (λ us. first_invalid i k (map raw_in us)) (next_is vs i v inside is)
      ∙ ap (λ n. if valid k (raw_in v) then first_invalid n k (map raw_in (drop (i + 1) vs)) else Some (invalid_value i)) (sym (add-one i))

  pub invalid_here : valid k (raw_in v) ≡ false → first_invalid i k (map raw_in (drop i vs)) ≡ Some (invalid_value i)
  invalid_here fails = first_here ∙ ap (λ b. if b then first_invalid (i + 1) k (map raw_in (drop (i + 1) vs)) else Some (invalid_value i)) fails

  pub valid_here : valid k (raw_in v) ≡ true → first_invalid i k (map raw_in (drop i vs)) ≡ first_invalid (i + 1) k (map raw_in (drop (i + 1) vs))
  valid_here holds = first_here ∙ ap (λ b. if b then first_invalid (i + 1) k (map raw_in (drop (i + 1) vs)) else Some (invalid_value i)) holds

-- ---- rows of which none is invalid

pub no_fault_first : (b : Bool) (r : Refusal) (q : Option Refusal) → (if b then q else Some r) ≡ None → b ≡ true
no_fault_first true r q e = refl
no_fault_first false r q e = absurd (cc (e))

pub no_fault_behind : (b : Bool) (r : Refusal) (q : Option Refusal) → (if b then q else Some r) ≡ None → q ≡ None
no_fault_behind true r q e = e
no_fault_behind false r q e = absurd (cc (e))

-- wherever the count begins, none is invalid
counted_from : (i j : ℕ) (k : LogicalType) (rs : List Raw) → first_invalid i k rs ≡ None → first_invalid j k rs ≡ None
counted_from i j k [] e = refl
counted_from i j k (r ∷ rs) e =
    (λ t. if no_fault_first (valid k r) (invalid_value i) (first_invalid (suc i) k rs) e t then first_invalid (suc j) k rs else Some (invalid_value j))
    ∙ counted_from (suc i) (suc j) k rs (no_fault_behind (valid k r) (invalid_value i) (first_invalid (suc i) k rs) e)

module _ (k : LogicalType) (v : Option ScalarValue) (behind : List (Option ScalarValue)) (none : first_invalid 0 k (map raw_in (v ∷ behind)) ≡ None) where
  pub first_valid : valid k (raw_in v) ≡ true
  first_valid = no_fault_first (valid k (raw_in v)) (invalid_value 0) (first_invalid 1 k (map raw_in behind)) none

  pub rest_valid : first_invalid 0 k (map raw_in behind) ≡ None
  rest_valid = counted_from 1 0 k (map raw_in behind) (no_fault_behind (valid k (raw_in v)) (invalid_value 0) (first_invalid 1 k (map raw_in behind)) none)

-- The value after these rows, and the values after it. Once it is converted, the rows are `more`.
module _ (s t : LogicalType) (rows : List ScalarValue) (v : Option ScalarValue) (behind : List (Option ScalarValue)) where
  from_here : first_unconvertible (length rows) s t (said (v ∷ behind))
      ≡ or_else (unless (converts s t (content_in v)) (not_convertible (length rows))) (first_unconvertible (length rows + 1) s t (said behind))
  from_here =
      ap (λ n. if converts s t (content_in v) then first_unconvertible n s t (said behind) else Some (not_convertible (length rows))) (sym (add-one (length rows)))
      ∙ sym (judged (converts s t (content_in v)) (not_convertible (length rows)) (first_unconvertible (length rows + 1) s t (said behind)))

  -- the value that doesn't convert is at fault
  pub refused_here : (c : Content) (all : Option Refusal) (e : TableError) → c ≡ content_in v → first_unconvertible (length rows) s t (said (v ∷ behind)) ≡ all →
      Explains ⊥ (unless (converts s t c) (not_convertible (length rows))) e → Explains ⊥ all e
  refused_here c all e same left why =
      subst (λ fault. Explains ⊥ fault e) (sym from_here ∙ left)
      (explained_first ⊥ (unless (converts s t (content_in v)) (not_convertible (length rows))) (first_unconvertible (length rows + 1) s t (said behind)) e
      (subst (λ d. Explains ⊥ (unless (converts s t d) (not_convertible (length rows))) e) same why))

  module _ (c : Content) (same : c ≡ content_in v) (more : List ScalarValue) (made : map row_content more ≡ map row_content rows ++ c ∷ []) where
    counted : length more ≡ length rows + 1
    counted = sym (length-map more row_content) ∙ ap length made ∙ length_push (map row_content rows) c ∙ ap (λ n. n + 1) (length-map rows row_content)

    -- what is left after a value that converts
    pub left_behind : (all : Option Refusal) → converts s t c ≡ true → first_unconvertible (length rows) s t (said (v ∷ behind)) ≡ all →
        first_unconvertible (length more) s t (said behind) ≡ all
    left_behind all does left =
        ap (λ n. first_unconvertible n s t (said behind)) counted
        ∙ ap (λ b. or_else (unless b (not_convertible (length rows))) (first_unconvertible (length rows + 1) s t (said behind))) (sym does ∙ ap (converts s t) same)
        ∙ sym from_here ∙ left

    -- the row has the content of its value
    pub row_moved : (all : List Content) → map row_content rows ++ said (v ∷ behind) ≡ all → map row_content more ++ said behind ≡ all
    row_moved all before =
        ap (λ cs. cs ++ said behind) made ∙ append_assoc (map row_content rows) (c ∷ []) (said behind)
        ∙ ap (λ d. map row_content rows ++ d ∷ said behind) same ∙ before
