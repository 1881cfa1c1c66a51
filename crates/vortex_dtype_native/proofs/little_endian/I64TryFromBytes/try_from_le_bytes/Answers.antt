use Rattle.std.proofs.Common.{rules, ◌∙◌, ap}
use Rattle.std.proofs.lemmas.Int.{to_z-of_z}
use Rattle.std.specs.Int.{w64, from_le_bytes}
use Rattle.vortex_dtype_native.proofs.Encoded.{bytes_i64}
use Rattle.vortex_dtype_native.proofs.little_endian.I64TryFromBytes.try_from_le_bytes.Goals as goal

pub returns-clause-read : goal.returns-clause-read
returns-clause-read c = bytes_i64 c.args.bytes.now c.from_le_bytes-number.result _ c.in-Ok.ensures.1.long (c.from_le_bytes-number.ensures ∙ ap (from_le_bytes w64) c.in-Ok.ensures.1.same) (search rules) (to_z-of_z w64 c.cast_signed.result (search rules) ∙ c.cast_signed.ensures)
