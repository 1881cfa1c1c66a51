-- Rows with keys.
use Rattle.std.specs.Prelude.{◌≡◌, ℕ, List, length, Bool, false}
use Rattle.std.specs.Bool.{beq}
use Rattle.std.specs.List.{All}
use Rattle.std.specs.Ordering.{int_eq}
use Rattle.std.specs.Str.{bytes_eq}
use Rattle.vortex_model.specs.Content.{Content}
use Rattle.vortex_scalar_ops.specs.Equality.{holds_variant}
use Rattle.vortex_arrays_buffer.specs.PrimitiveBuffers.{integers_of}
use Rattle.vortex_arrays_dictionary.specs.declared.byte_key.ByteKey.{ByteKey}
use Rattle.vortex_arrays_dictionary.specs.declared.keyed.Keys.{Keys}
use Rattle.vortex_arrays_dictionary.specs.declared.keyed.Keys.TheVariants.{Truths, Integers, Bytes}
use Rattle.vortex_arrays_dictionary.specs.declared.keyed.KeyedRows.{KeyedRows}
use Rattle.vortex_arrays_dictionary.specs.Firsts.{AreKeysOf}

abbrev pub same_bytes : ByteKey → ByteKey → Bool
same_bytes x y = bytes_eq x.bytes.now y.bytes.now

abbrev pub key_count : Keys → ℕ
key_count (Truths keys) = length keys.items
key_count (Integers items) = length (integers_of items.now)
key_count (Bytes keys) = length keys.items

-- there is a flag for each key
abbrev pub AreAsMany : KeyedRows → Type 0
AreAsMany rows = length rows.present.items ≡ key_count rows.keys

abbrev pub HaveKeys : Keys → List Bool → List Content → Type 0
HaveKeys (Truths keys) present cs = AreKeysOf beq keys.items present cs
HaveKeys (Integers items) present cs = AreKeysOf int_eq (integers_of items.now) present cs
HaveKeys (Bytes keys) present cs = AreKeysOf same_bytes keys.items present cs

-- the contents are of a leaf type and have these keys and nulls
pub record AreKeyed (rows : KeyedRows) (cs : List Content) : Type 0 where
  pub many : AreAsMany rows
  pub keys : HaveKeys rows.keys rows.present.items cs
  pub leaves : All (λ c. holds_variant c ≡ false) cs
