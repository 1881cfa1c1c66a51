use Rattle.std.proofs.Common.{◌≡◌, ◌*◌, length, ◌∙◌, arith}
use Rattle.hex.proofs.HexLemmas.{decode_of-ok}
use Rattle.vortex_table_columns.proofs.ByteLemmas.{is_decoded, end_written}
use Rattle.vortex_table_columns.proofs.byte_string.put_digits.Goals as goal

pub returns-in-Ok-clause-put : goal.returns-in-Ok-clause-put
returns-in-Ok-clause-put c =
    let items = c.args.bytes.now.items in
    let out = c.decode_to_slice.new.out in
    let all = c.resize.new.self.items in
    let many : c.args.bytes.now.len ≡ length items = omega (arith, c.args.bytes.now.ok.0) in
    let at : c.len-start.result ≡ length items = c.len-start.ensures ∙ many in
    let whole : c.resize.new.self.len ≡ length all = omega (arith, c.resize.new.self.ok.0) in
    let decoded = is_decoded c.args.digits.now _ c.decode_to_slice.result c.in-Ok.field-0 out c.decode_to_slice.ensures.value c.in-Ok.is in
    let digits : length c.args.digits.now ≡ 2 * length out = (decode_of-ok c.args.digits.now out decoded).2 in (
      out,
      decoded,
      end_written items all c.deref_mut.result.now out c.len-start.result _ _ c.resize.new.self.len at c.in_ok-resize.ensures.items (omega (arith, at)) c.deref_mut.ensures.value (omega (arith, at, many, digits)) whole,
    )
