use Rattle.std.proofs.Common.{◌≡◌, ◌++◌, drop}
use Rattle.json.specs.Print.{escape}
use Rattle.vortex_table_response.proofs.type_texts.quoted.push_escapes.Given as goal

-- what is written so far and the escapes of the rest are the escapes of all bytes
abbrev pub invariant-loop-byte : goal.invariant-loop-byte
invariant-loop-byte l = l.out.items ++ escape (drop l.byte-index l.text) ≡ l.fn.out.items ++ escape l.text
