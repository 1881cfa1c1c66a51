-- The type of a list of integers, and the integers.
use Rattle.std.specs.Prelude.{ℤ, pos, List, map}
use Rattle.vortex_model.specs.LogicalType.{IntKind, u8, u16, u32, u64, i8, i16, i32, i64}
use Rattle.vortex_arrays_buffer.specs.declared.primitive_buffer.PrimitiveBuffer.{PrimitiveBuffer}
use Rattle.vortex_arrays_buffer.specs.declared.primitive_buffer.PrimitiveBuffer.TheVariants.{U8, U16, U32, U64, I8, I16, I32, I64}

abbrev pub kind_of_numbers : PrimitiveBuffer → IntKind
kind_of_numbers (U8 xs) = u8
kind_of_numbers (U16 xs) = u16
kind_of_numbers (U32 xs) = u32
kind_of_numbers (U64 xs) = u64
kind_of_numbers (I8 xs) = i8
kind_of_numbers (I16 xs) = i16
kind_of_numbers (I32 xs) = i32
kind_of_numbers (I64 xs) = i64

abbrev pub integers_of : PrimitiveBuffer → List ℤ
integers_of (U8 xs) = map pos xs
integers_of (U16 xs) = map pos xs
integers_of (U32 xs) = map pos xs
integers_of (U64 xs) = map pos xs
integers_of (I8 xs) = xs
integers_of (I16 xs) = xs
integers_of (I32 xs) = xs
integers_of (I64 xs) = xs
