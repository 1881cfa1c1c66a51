-- A predicate by the values at the indices of its array.
use Rattle.std.proofs.Common.{◌≡◌, refl, ap, ◌∙◌, ℕ, zero, suc, ◌<◌, ◌≤◌, Option, Some, None, option_and_then, arith}
use Rattle.serde_json.specs.Data.{Data, null, boolean, number, string, array, object, Items, no_items, item, depth, items_depth}
use Rattle.serde_json.specs.Find.{at, get_item}
use Rattle.vortex_model_table.specs.Expression.{Expression}
use Rattle.vortex_table_request.specs.FormNames.{form_in}
use Rattle.vortex_table_request.specs.Where.{leaf_in, unary_in, binary_in, between_in, operand, predicate_of, predicate_in, predicates_in}
use Rattle.vortex_table_request.specs.declared.forms.Form.{Form}
use Rattle.vortex_table_request.specs.declared.forms.Form.TheVariants as form

-- the predicate at this index of an array
abbrev pub predicate_at : ℕ → Data → Option Expression
predicate_at i d = option_and_then predicate_in (at i d)

-- an array of this form
abbrev pub predicate_with : Form → Data → Option Expression
predicate_with (form.Leaf l) d = leaf_in l d
predicate_with (form.Unary u) d = option_and_then (λ x. unary_in u x d) (predicate_at 1 d)
predicate_with (form.Binary b) d =
    option_and_then (λ x. option_and_then (λ y. binary_in b x y d) (predicate_at 2 d)) (predicate_at 1 d)
predicate_with form.Between d =
    option_and_then (λ x. option_and_then (λ lo. option_and_then (λ hi. between_in x lo hi d) (predicate_at 3 d)) (predicate_at 2 d)) (predicate_at 1 d)

operand_at : (i : ℕ) (ds : Items) → operand i (predicates_in ds) ≡ option_and_then predicate_in (get_item i ds)
operand_at i no_items = refl
operand_at zero (item d ds) = refl
operand_at (suc i) (item d ds) = operand_at i ds

same_with : (f : Form) (ds : Items) → predicate_of f (array ds) (predicates_in ds) ≡ predicate_with f (array ds)
same_with (form.Leaf l) ds = refl
same_with (form.Unary u) ds = ap (option_and_then (λ x. unary_in u x (array ds))) (operand_at 1 ds)
same_with (form.Binary b) ds =
    ap (λ o. option_and_then (λ x. option_and_then (λ y. binary_in b x y (array ds)) o) (operand 1 (predicates_in ds))) (operand_at 2 ds)
    ∙ ap (option_and_then (λ x. option_and_then (λ y. binary_in b x y (array ds)) (predicate_at 2 (array ds)))) (operand_at 1 ds)
same_with form.Between ds =
    ap (λ o. option_and_then (λ x. option_and_then (λ lo. option_and_then (λ hi. between_in x lo hi (array ds)) o) (operand 2 (predicates_in ds))) (operand 1 (predicates_in ds))) (operand_at 3 ds)
    ∙ ap (λ o. option_and_then (λ x. option_and_then (λ lo. option_and_then (λ hi. between_in x lo hi (array ds)) (predicate_at 3 (array ds))) o) (operand 1 (predicates_in ds))) (operand_at 2 ds)
    ∙ ap (option_and_then (λ x. option_and_then (λ lo. option_and_then (λ hi. between_in x lo hi (array ds)) (predicate_at 3 (array ds))) (predicate_at 2 (array ds)))) (operand_at 1 ds)

by_form : (o : Option Form) (ds : Items)
    → option_and_then (λ f. predicate_of f (array ds) (predicates_in ds)) o ≡ option_and_then (λ f. predicate_with f (array ds)) o
by_form None ds = refl
by_form (Some f) ds = same_with f ds

-- a predicate by its form, whatever the value
pub predicate_parts : (d : Data) → predicate_in d ≡ option_and_then (λ f. predicate_with f d) (form_in d)
predicate_parts null = refl
predicate_parts (boolean b) = refl
predicate_parts (number n) = refl
predicate_parts (string s) = refl
predicate_parts (array ds) = by_form (form_in (array ds)) ds
predicate_parts (object ms) = refl

abbrev depth_of_some : Option Data → ℕ
depth_of_some None = 0
depth_of_some (Some d) = depth d

get_item_depth : (i : ℕ) (ds : Items) (e : Data) → get_item i ds ≡ Some e → depth e ≤ items_depth ds
get_item_depth i no_items e is = absurd (cc)
get_item_depth zero (item d ds) e is = let k : depth d ≡ depth e = ap depth_of_some is in omega arith
get_item_depth (suc i) (item d ds) e is = let k = get_item_depth i ds e is in omega arith

-- an item of an array nests less deep than the array
pub at_depth : (i : ℕ) (d e : Data) → at i d ≡ Some e → depth e < depth d
at_depth i null e is = absurd (cc)
at_depth i (boolean b) e is = absurd (cc)
at_depth i (number n) e is = absurd (cc)
at_depth i (string s) e is = absurd (cc)
at_depth i (array ds) e is = let h = get_item_depth i ds e is in omega (arith, h)
at_depth i (object ms) e is = absurd (cc)
