-- Native values of scalars.
use Rattle.std.specs.Prelude.{◌≡◌, ◌≢◌, ℤ, Bool, if◌then◌else◌, Option, Some, None, option_map, Result, IfOk, IfErr}
use Rattle.vortex_model.specs.LogicalType.{LogicalType, IntKind}
use Rattle.vortex_model.specs.Content.{Raw, raw_null, raw_number}
use Rattle.vortex_model.specs.Valid.{in_range}
use Rattle.vortex_scalar_value.specs.declared.error.ScalarError.{ScalarError}
use Rattle.vortex_scalar_value.specs.declared.error.ScalarError.TheVariants.{Memory, Invalid}
use Rattle.vortex_scalar_core.specs.Scalar.{scalar_type, scalar_raw}
use Rattle.vortex_scalar_core.specs.declared.scalar.Scalar.{Scalar}

-- what is read of the value, where the type is of this kind
abbrev pub read_of : {A : Type 0} → (LogicalType → Bool) → (Raw → Option A) → Scalar → Option A
read_of is_kind read s = if is_kind (scalar_type s) then read (scalar_raw s) else None

-- what is read of a raw value, and for null `None`
abbrev pub or_null : {A : Type 0} → (Raw → Option A) → Raw → Option (Option A)
or_null read raw_null = Some None
or_null read r = option_map (λ a. Some a) (read r)

-- the integer, where type i holds it
abbrev pub whole_within : IntKind → Raw → Option ℤ
whole_within i (raw_number j z) = if in_range i z then Some z else None
whole_within i r = None

-- The value that is read, as seen by `view`, and `Invalid` where there is none. Memory may run out.
abbrev pub GivesCopy : {A B : Type 0} → (A → B) → Option B → Result A ScalarError → Type 0
GivesCopy view part r = (IfOk r (λ a. part ≡ Some (view a))) ×
    (IfErr r (λ e. e ≢ Memory → (e ≡ Invalid) × (part ≡ None)))

-- the scalar has this type and this raw value
abbrev pub IsMadeAs : LogicalType → Raw → Scalar → Type 0
IsMadeAs k r s = (scalar_type s ≡ k) × (scalar_raw s ≡ r)
