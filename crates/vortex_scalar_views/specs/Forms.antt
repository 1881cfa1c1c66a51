-- A type with a value of it, and raw values of one form.
use Rattle.std.specs.Prelude.{◌≡◌, ℕ, List, Bool, ◌&&◌, if◌then◌else◌, Option, Some, None, Result, is_ok, IfOk, IfErr}
use Rattle.vortex_model.specs.LogicalType.{LogicalType}
use Rattle.vortex_model.specs.Content.{Raw, raw_boolean, raw_text, raw_byte_string}
use Rattle.vortex_model.specs.Valid.{valid}
use Rattle.vortex_scalar_value.specs.Numbers.{raw_of_number}
use Rattle.vortex_scalar_value.specs.declared.pvalue.PValue.{PValue}
use Rattle.vortex_scalar_ops.specs.Native.{raw_or_null}
use Rattle.vortex_scalar_value.specs.declared.error.ScalarError.{ScalarError}
use Rattle.vortex_scalar_value.specs.declared.error.ScalarError.TheVariants.{Invalid}

-- a type and a value of it
abbrev pub Typed : Type 0
Typed = LogicalType × Raw

-- the raw value, and null for none
abbrev pub raw_of_boolean : Option Bool → Raw
raw_of_boolean o = raw_or_null raw_boolean o

abbrev pub raw_of_integer : Option PValue → Raw
raw_of_integer o = raw_or_null raw_of_number o

abbrev pub raw_of_text : Option (List ℕ) → Raw
raw_of_text o = raw_or_null raw_text o

abbrev pub raw_of_bytes : Option (List ℕ) → Raw
raw_of_bytes o = raw_or_null raw_byte_string o

-- A view of the value, where the type is of this kind and has the value. `seen` is the view in the
-- model.
abbrev pub GivesView : {V : Type 0} → (V → Typed) → (LogicalType → Bool) → LogicalType → Raw →
    Result V ScalarError → Type 0
GivesView seen is_kind k r result = (is_ok result ≡ (is_kind k && valid k r)) ×
    (IfOk result (λ v. seen v ≡ (k, r))) × (IfErr result (λ e. e ≡ Invalid))

-- the value with its type, where the type is of this kind
abbrev pub viewed : (LogicalType → Bool) → Typed → Option Typed
viewed is_kind t = if is_kind t.0 then Some t else None

-- A view of the value with its type, where the type is of this kind. `seen` is the view in the
-- model.
abbrev pub ViewsTyped : {V : Type 0} → (V → Typed) → (LogicalType → Bool) → Typed →
    Result V ScalarError → Type 0
ViewsTyped seen is_kind t result = (is_ok result ≡ is_kind t.0) × (IfOk result (λ v. seen v ≡ t)) ×
    (IfErr result (λ e. e ≡ Invalid))
