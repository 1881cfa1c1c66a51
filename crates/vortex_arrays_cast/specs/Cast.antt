-- Arrays cast to another type.
use Rattle.std.specs.Prelude.{◌≡◌, ◌<◌, ◌*◌, ℕ, ℤ, pos, true}
use Rattle.std.specs.Int.{w8, w16, w32, w64}
use Rattle.num_traits.specs.Laws.{wrap_signed, wrap_unsigned}
use Rattle.vortex_model.specs.LogicalType.{LogicalType, Fields, no_fields, field, IntKind, u8, u16, u32, u64, i8, i16, i32, i64}
use Rattle.vortex_model.specs.Content.{integer}
use Rattle.vortex_model.specs.Convert.{converts}
use Rattle.vortex_arrays_model.specs.Layout.{Layout, Columns, no_columns, column, len_of, array_type_of, content_at, IsSound}
use Rattle.vortex_arrays_builder.specs.Types.{IsPlainLayout}

-- r is sound, of the type and in plain layout. It has the rows of a, each of which the type has.
pub record IsCast (k : LogicalType) (a r : Layout) : Type 0 where
  pub sound : IsSound r
  pub len : len_of r ≡ len_of a
  pub kind : array_type_of r ≡ k
  pub content : (i : ℕ) → i < len_of a → content_at r i ≡ content_at a i
  pub held : (i : ℕ) → i < len_of a → converts (array_type_of a) k (content_at a i) ≡ true
  pub layout : IsPlainLayout r

-- by position: a column gets the name and the type of the field, whatever its name was
abbrev pub AreCast : Fields → Columns → Columns → Type 0
AreCast no_fields no_columns no_columns = Unit {0}
AreCast (field x k gs) (column y a cs) (column z r ds) = (z ≡ x) × IsCast k a r × AreCast gs cs ds
AreCast gs cs ds = ⊥

-- the result of Rust's `as`: the integer of the type with the same low bits
abbrev pub low_bits : IntKind → ℤ → ℤ
low_bits u8 z = wrap_unsigned 8 z
low_bits u16 z = wrap_unsigned 16 z
low_bits u32 z = wrap_unsigned 32 z
low_bits u64 z = wrap_unsigned 64 z
low_bits i8 z = wrap_signed w8 z
low_bits i16 z = wrap_signed w16 z
low_bits i32 z = wrap_signed w32 z
low_bits i64 z = wrap_signed w64 z

-- the lists have s elements each, and are end to end over all elements
pub record StandEvenly (elements offsets sizes : Layout) (s : ℕ) : Type 0 where
  pub all : len_of elements ≡ len_of offsets * s
  pub many : len_of sizes ≡ len_of offsets
  pub offset : (i : ℕ) → i < len_of offsets → content_at offsets i ≡ integer (pos (i * s))
  pub size : (i : ℕ) → i < len_of offsets → content_at sizes i ≡ integer (pos s)
