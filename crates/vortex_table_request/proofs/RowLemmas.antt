-- Rows with fewer items than fields, and fields one by one.
use Rattle.std.proofs.Common.{Some, map, append_assoc, option_and_then, ◌≡◌, ◌==◌, ◌≤◌, ℕ, Bool, false, List, [], ◌∷◌, ◌++◌, length, Option, None, option_map, refl, sym, ap, ◌∙◌, arith, true≢false}
use Rattle.std.proofs.lemmas.List.{map-append}
use Rattle.serde_json.specs.Data.{Items, no_items}
use Rattle.serde_json.specs.View.{view, items_view}
use Rattle.serde_json.specs.declared.value.Value.{Value}
use Rattle.vortex_model.specs.Content.{Raw}
use Rattle.vortex_model.specs.LogicalType.{LogicalType}
use Rattle.vortex_dtype_core.specs.View.{type_of, fields_of}
use Rattle.vortex_dtype_core.specs.declared.struct_fields.StructField.{StructField}
use Rattle.vortex_dtype_core.proofs.Sizes.{fields_size}
use Rattle.vortex_dtype_core.proofs.Views.{field_of-parts}
use Rattle.vortex_scalar_value.specs.View.{raw_in}
use Rattle.vortex_scalar_value.specs.declared.scalar_value.ScalarValue.{ScalarValue}
use Rattle.vortex_table_request.specs.Rows.{reading, readings, element_readings}

pub too_few : (rs : List Raw) (fs : List StructField) (ds : Items) (b : Bool) (all : Option (List Raw)) → ds ≡ no_items → b ≡ (length fs == 0) → b ≡ false
    → option_map (λ (ks : List Raw). rs ++ ks) (readings (fields_of fs) ds) ≡ all → all ≡ None
too_few rs [] ds b all d e f g = absurd (true≢false (sym e ∙ f))
too_few rs (x ∷ fs) ds b all d e f g = sym g ∙ ap (λ (d : Items). option_map (λ (ks : List Raw). rs ++ ks) (readings (fields_of (x ∷ fs)) d)) d

no_larger : (f : StructField) (fs : List StructField) → fields_size (fields_of fs) ≤ fields_size (fields_of (f ∷ fs))
no_larger f fs = omega arith

-- the fields after the first are no larger
pub rest_fits : (all rest : List StructField) (f : StructField) (n : ℕ) → all ≡ f ∷ rest → fields_size (fields_of all) ≤ n → fields_size (fields_of rest) ≤ n
rest_fits all rest f n e h =
    let s : fields_size (fields_of all) ≡ fields_size (fields_of (f ∷ rest)) = ap (λ fs. fields_size (fields_of fs)) e in
    omega (arith, no_larger f rest, s)

-- items put before the readings that are left
abbrev pub front_and : List Raw → Option (List Raw) → Option (List Raw)
front_and rs left = option_map (λ (ks : List Raw). rs ++ ks) left

shift : (rs : List Raw) (r : Raw) (left : Option (List Raw)) → front_and rs (option_map (λ ks. r ∷ ks) left) ≡ front_and (rs ++ r ∷ []) left
shift rs r None = refl
shift rs r (Some ks) = ap Some (sym (append_assoc rs (r ∷ []) ks))

-- a field and an item are read
pub one_read : (built new : List (Option ScalarValue)) (x : Option ScalarValue) (fs gs : List StructField) (f : StructField) (vs ws : List Value) (v : Value) (all : Option (List Raw))
    → new ≡ built ++ x ∷ [] → fs ≡ f ∷ gs → vs ≡ v ∷ ws → reading (type_of f.dtype) (view v) ≡ Some (raw_in x)
    → front_and (map raw_in built) (readings (fields_of fs) (items_view vs)) ≡ all → front_and (map raw_in new) (readings (fields_of gs) (items_view ws)) ≡ all
one_read built new x fs gs f vs ws v all e g h r is =
    let left : Option (List Raw) = readings (fields_of gs) (items_view ws) in
    ap (λ (ys : List (Option ScalarValue)). front_and (map raw_in ys) left) e
    ∙ ap (λ (ys : List Raw). front_and ys left) (map-append raw_in built (x ∷ []))
    ∙ sym (shift (map raw_in built) (raw_in x) left)
    ∙ ap (λ (o : Option Raw). front_and (map raw_in built) (option_and_then (λ y. option_map (λ ys. y ∷ ys) left) o)) (sym r)
    ∙ ap (λ (p : _). front_and (map raw_in built) (option_and_then (λ y. option_map (λ ys. y ∷ ys) left) (reading p.1 (view v)))) (sym (field_of-parts f))
    ∙ ap (λ (ys : List Value). front_and (map raw_in built) (readings (fields_of (f ∷ gs)) (items_view ys))) (sym h)
    ∙ ap (λ (ys : List StructField). front_and (map raw_in built) (readings (fields_of ys) (items_view vs))) (sym g)
    ∙ is

-- an item of a list is read
pub item_read : (built new : List (Option ScalarValue)) (x : Option ScalarValue) (k : LogicalType) (vs ws : List Value) (v : Value) (all : Option (List Raw))
    → new ≡ built ++ x ∷ [] → vs ≡ v ∷ ws → reading k (view v) ≡ Some (raw_in x)
    → front_and (map raw_in built) (element_readings k (items_view vs)) ≡ all → front_and (map raw_in new) (element_readings k (items_view ws)) ≡ all
item_read built new x k vs ws v all e h r is =
    let left : Option (List Raw) = element_readings k (items_view ws) in
    ap (λ (ys : List (Option ScalarValue)). front_and (map raw_in ys) left) e
    ∙ ap (λ (ys : List Raw). front_and ys left) (map-append raw_in built (x ∷ []))
    ∙ sym (shift (map raw_in built) (raw_in x) left)
    ∙ ap (λ (o : Option Raw). front_and (map raw_in built) (option_and_then (λ y. option_map (λ ys. y ∷ ys) left) o)) (sym r)
    ∙ ap (λ (ys : List Value). front_and (map raw_in built) (element_readings k (items_view ys))) (sym h)
    ∙ is
