use Rattle.std.proofs.Common.{◌≡◌, ◌++◌, drop}
use Rattle.hex.specs.Hex.{encode_lower}
use Rattle.vortex_table_response.proofs.hexadecimal.push_digits.Given as goal

-- the digits written so far and those of the rest are those of all bytes
abbrev pub invariant-loop-byte : goal.invariant-loop-byte
invariant-loop-byte l = l.out.items ++ encode_lower (drop l.byte-index l.bytes) ≡ l.fn.out.items ++ encode_lower l.bytes
