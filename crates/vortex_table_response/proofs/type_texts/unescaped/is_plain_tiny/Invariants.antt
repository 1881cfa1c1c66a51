use Rattle.json.specs.Written.{PlainBetween}
use Rattle.vortex_table_response.proofs.type_texts.unescaped.is_plain_tiny.Given as goal

abbrev pub invariant-loop-byte : goal.invariant-loop-byte
invariant-loop-byte l = PlainBetween l.text 0 l.byte-index
