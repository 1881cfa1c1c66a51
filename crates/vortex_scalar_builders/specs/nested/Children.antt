-- The types of parts, and the nested value that they make.
use Rattle.std.specs.Prelude.{◌≡◌, ◌≢◌, ℤ, List, [], ◌∷◌, Bool, false, true, ◌&&◌, Result, IfOk, OnOk, IfErr, IsTrue}
use Rattle.std.specs.List.{list_all}
use Rattle.vortex_model.specs.LogicalType.{LogicalType, struct, Fields, no_fields, field, Variants, has_tag, type_tagged, eq_type}
use Rattle.vortex_model.specs.Content.{Raw, raw_tuple, no_raws, raw_first}
use Rattle.vortex_scalar_value.specs.declared.error.ScalarError.{ScalarError}
use Rattle.vortex_scalar_value.specs.declared.error.ScalarError.TheVariants.{Memory, Invalid}

-- each type is k
abbrev pub all_are : LogicalType → List LogicalType → Bool
all_are k ks = list_all (λ l. eq_type l k) ks

-- the types are those of the fields, one by one
abbrev pub are_of_fields : Fields → List LogicalType → Bool
are_of_fields no_fields [] = true
are_of_fields (field x k fs) (l ∷ ls) = eq_type l k && are_of_fields fs ls
are_of_fields fs ls = false

-- the type is a struct with fields of these types
abbrev pub is_record_of : LogicalType → List LogicalType → Bool
is_record_of (struct fs n) ks = are_of_fields fs ks
is_record_of k ks = false

-- each pair has this key type and this value type
abbrev pub all_are_entries : LogicalType → LogicalType → List (LogicalType × LogicalType) → Bool
all_are_entries k v entries = list_all (λ e. eq_type e.0 k && eq_type e.1 v) entries

-- there is a variant with this tag, and the first such has type k
abbrev pub is_choice : Variants → ℤ → LogicalType → Bool
is_choice vs t k = has_tag vs t && eq_type k (type_tagged vs t)

-- a map's entry
abbrev pub raw_entry : Raw → Raw → Raw
raw_entry a b = raw_tuple (raw_first a (raw_first b no_raws))

-- The nested value, where the parts fit, and `Invalid` where they don't. Memory may run out.
abbrev pub GivesNested : {S : Type 0} → (S → LogicalType) → (S → Raw) → LogicalType → Raw → Bool →
    Result S ScalarError → Type 0
GivesNested kind raw k r fit made = (IfOk made (λ s. (kind s ≡ k) × (raw s ≡ r))) ×
    (OnOk made (IsTrue fit)) × (IfErr made (λ e. e ≢ Memory → (e ≡ Invalid) × (fit ≡ false)))
