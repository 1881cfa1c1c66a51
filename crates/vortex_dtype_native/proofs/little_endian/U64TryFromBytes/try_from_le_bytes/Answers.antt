use Rattle.std.proofs.Common.{◌∙◌, ap}
use Rattle.std.specs.Int.{w64, from_le_bytes}
use Rattle.vortex_dtype_native.proofs.Encoded.{bytes_u64}
use Rattle.vortex_dtype_native.proofs.little_endian.U64TryFromBytes.try_from_le_bytes.Goals as goal

pub returns-clause-read : goal.returns-clause-read
returns-clause-read c = bytes_u64 c.args.bytes.now c.from_le_bytes.result c.in-Ok.ensures.1.long (c.from_le_bytes.ensures ∙ ap (from_le_bytes w64) c.in-Ok.ensures.1.same)
