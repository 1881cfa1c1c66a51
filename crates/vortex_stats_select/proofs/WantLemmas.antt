-- The wanted truths of predicates by those of their parts.
use Rattle.std.proofs.Common.{◌≡◌, refl, sym, ap, ◌∙◌, ℕ, Bool, true, false, not, List, length, map, replicate, Some}
use Rattle.std.specs.List.{zip}
use Rattle.vortex_model.specs.Content.{Content, boolean, text, is_null}
use Rattle.std.proofs.lemmas.List.{length-map}
use Rattle.vortex_model.specs.Path.{Positions}
use Rattle.vortex_model.proofs.Lists.{map_twice}
use Rattle.vortex_model_table.specs.Expression.{Comparison, equal}
use Rattle.vortex_model_table.specs.Truth.{compared}
use Rattle.vortex_stats_bind.specs.Bound.{Bound, fixed, place, opposite, value_test, place_of, Provided}
use Rattle.vortex_stats_bind.specs.Truths.{text_in}
use Rattle.vortex_stats_mask.specs.Wanted.{is_wanted}
use Rattle.vortex_stats_mask.proofs.Truths.{wanted_of_not}
use Rattle.vortex_stats_select.specs.Wants.{value_at, values_in, wanted_rows}
use Rattle.vortex_stats_select.proofs.PairLemmas.{paired, beside}

-- ---- leaves

-- a column is what the row has at its positions
pub at_place : (b : Bound) (is : Positions) → place_of b ≡ Some is → (row : Provided) → row.columns is ≡ value_at b row
at_place (place xs js k) is h row = ap (λ js. row.columns js) (sym (told h))
  where
    told : {us vs : Positions} → Some us ≡ Some vs → us ≡ vs
    told e = cc e
at_place b is h row = absurd (cc h)

-- and a literal string that string
pub text_said : (b : Bound) (t : List ℕ) → text_in b ≡ Some t → (row : Provided) → text t ≡ value_at b row
text_said (fixed k (text u)) t h row = ap text (sym (told h))
  where
    told : {us vs : List ℕ} → Some us ≡ Some vs → us ≡ vs
    told e = cc e
text_said b t h row = absurd (cc h)

-- ---- connectives

pub not_turned : (want : Bool) (x : Bound) (rows : List Provided) → wanted_rows (not want) x rows ≡ wanted_rows want (opposite x) rows
not_turned want x rows = λ i. map (λ row. sym (wanted_of_not want (value_at x row)) i) rows

-- ---- tests

denied : (want b : Bool) → is_wanted (not want) (boolean b) ≡ is_wanted want (boolean (not b))
denied true true = refl
denied true false = refl
denied false true = refl
denied false false = refl

pub value_tested : (want : Bool) (x : Bound) (rows : List Provided) → map (λ row. is_wanted (not want) (boolean (is_null (value_at x row)))) rows ≡ wanted_rows want (value_test x) rows
value_tested want x rows = λ i. map (λ row. denied want (is_null (value_at x row)) i) rows

-- a boolean is the wanted one where it is equal to it
pub equal_to_wanted : (want : Bool) (c : Content) → is_wanted true (compared equal c (boolean want)) ≡ is_wanted want c
equal_to_wanted true (boolean true) = refl
equal_to_wanted true (boolean false) = refl
equal_to_wanted false (boolean true) = refl
equal_to_wanted false (boolean false) = refl
equal_to_wanted true c = refl
equal_to_wanted false c = refl

-- ---- predicates over operands, whose rows are the values of their expressions

module _ (rows : List Provided) (n : ℕ) (count : n ≡ length rows) where
  pub many_rows : (e : Bound) (cs : List Content) → cs ≡ map (value_at e) rows → length cs ≡ n
  many_rows e cs h = ap length h ∙ length-map rows (value_at e) ∙ sym count

  pub truths_wanted : (want : Bool) (e : Bound) (cs : List Content) → cs ≡ map (value_at e) rows → map (λ p. is_wanted true (compared equal p.0 p.1)) (zip cs (replicate n (boolean want))) ≡ wanted_rows want e rows
  truths_wanted want e cs h =
      beside (λ c d. is_wanted true (compared equal c d)) cs (boolean want) n (many_rows e cs h)
      ∙ ap (map (λ c. is_wanted true (compared equal c (boolean want)))) h
      ∙ map_twice (λ c. is_wanted true (compared equal c (boolean want))) (value_at e) rows
      ∙ (λ i. map (λ row. equal_to_wanted want (value_at e row) i) rows)

pub comparisons_wanted : (want : Bool) (op : Comparison) (x y : Bound) (rows : List Provided) (cs ds : List Content) → cs ≡ map (value_at x) rows → ds ≡ map (value_at y) rows →
    map (λ p. is_wanted want (compared op p.0 p.1)) (zip cs ds) ≡ map (λ row. is_wanted want (compared op (value_at x row) (value_at y row))) rows
comparisons_wanted want op x y rows cs ds h k =
    (λ i. map (λ p. is_wanted want (compared op p.0 p.1)) (zip (h i) (k i)))
    ∙ paired (λ c d. is_wanted want (compared op c d)) (value_at x) (value_at y) rows

pub nulls_wanted : (want : Bool) (x : Bound) (is : Positions) (rows : List Provided) (cs : List Content) → place_of x ≡ Some is → cs ≡ values_in is rows →
    map (λ c. is_wanted want (boolean (is_null c))) cs ≡ map (λ row. is_wanted want (boolean (is_null (value_at x row)))) rows
nulls_wanted want x is rows cs p h =
    ap (map (λ c. is_wanted want (boolean (is_null c)))) h ∙ map_twice (λ c. is_wanted want (boolean (is_null c))) (λ (row : Provided). row.columns is) rows
    ∙ (λ i. map (λ row. is_wanted want (boolean (is_null (at_place x is p row i)))) rows)
