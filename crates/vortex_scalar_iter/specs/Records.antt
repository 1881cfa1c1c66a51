-- Fields of structs with their types.
use Rattle.std.specs.Prelude.{◌≡◌, ◌≢◌, ℕ, List, [], ◌∷◌, Bool, true, Option, Some, None, Result, option_map, option_and_then, IfOk, IfErr}
use Rattle.vortex_model.specs.LogicalType.{struct, Fields, field, nullability_of}
use Rattle.vortex_model.specs.Content.{Raw, raw_null, raw_tuple, Raws, no_raws, raw_first}
use Rattle.vortex_model.specs.Path.{position_named}
use Rattle.vortex_model.specs.Valid.{fields_have}
use Rattle.vortex_dtype_fields.specs.Records.{projected}
use Rattle.vortex_scalar_core.specs.declared.scalar.Scalar.{Scalar}
use Rattle.vortex_dtype_core.specs.Parts.{fields_in_type}
use Rattle.vortex_scalar_value.specs.declared.error.ScalarError.{ScalarError}
use Rattle.vortex_scalar_value.specs.declared.error.ScalarError.TheVariants.{Memory, Invalid}
use Rattle.vortex_scalar_views.specs.Forms.{Typed}
use Rattle.vortex_scalar_views.specs.Views.{typed_scalar}
use Rattle.vortex_scalar_nested.specs.Places.{item_at, both}

-- the values of the fields in order, each with its type
abbrev pub each_field : Fields → Raws → List Typed
each_field (field x k fs) (raw_first r rs) = (k, r) ∷ each_field fs rs
each_field fs rs = []

-- the fields of a struct in order; null has none
abbrev pub fields_under : Fields → Raw → Option (List Typed)
fields_under fs (raw_tuple rs) = Some (each_field fs rs)
fields_under fs r = None

abbrev pub fields_of_record : Typed → Option (List Typed)
fields_of_record t = option_and_then (λ fs. fields_under fs t.1) (fields_in_type t.0)

-- the value of the first field with this name
abbrev pub value_named : Fields → Raws → List ℕ → Option Raw
value_named fs rs x = option_and_then (λ i. item_at rs i) (position_named fs x)

-- the value of the first field with each of these names, in their order, and none where a name has
-- no field
abbrev pub values_named : Fields → Raws → List (List ℕ) → Option Raws
values_named fs rs [] = Some no_raws
values_named fs rs (x ∷ xs) =
    option_and_then (λ r. option_map (raw_first r) (values_named fs rs xs)) (value_named fs rs x)

-- the projected value of a struct; null stays null
abbrev pub raw_projected : Fields → Raw → List (List ℕ) → Option Raw
raw_projected fs (raw_tuple rs) xs = option_map raw_tuple (values_named fs rs xs)
raw_projected fs r xs = Some raw_null

-- the struct of the first field with each of these names, in their order, with its type; none where
-- a name has no field
abbrev pub record_projected : Typed → List (List ℕ) → Option Typed
record_projected t xs = option_and_then
    (λ fs. both (option_map (λ gs. struct gs (nullability_of t.0)) (projected fs xs))
    (raw_projected fs t.1 xs)) (fields_in_type t.0)

-- the value of a struct has these fields; any other passes
abbrev pub holds_fields : Fields → Raw → Bool
holds_fields fs (raw_tuple rs) = fields_have fs rs
holds_fields fs r = true

-- the projected struct, or `Invalid` where a name has no field
abbrev pub GivesProjection : Typed → List (List ℕ) → Result Scalar ScalarError → Type 0
GivesProjection t xs result = (IfOk result (λ s. Some (typed_scalar s) ≡ record_projected t xs)) ×
    (IfErr result (λ e. e ≢ Memory → (e ≡ Invalid) × (record_projected t xs ≡ None)))
