-- Optional native values as raw values.
use Rattle.std.specs.Prelude.{Option, Some, None}
use Rattle.vortex_model.specs.Content.{Raw, raw_null}

-- the raw value by `view`, or null
abbrev pub raw_or_null : {A : Type 0} → (A → Raw) → Option A → Raw
raw_or_null view None = raw_null
raw_or_null view (Some a) = view a
