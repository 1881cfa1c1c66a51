use Rattle.std.proofs.Common.{◌&&◌, true, refl, ap, ◌∙◌}
use Rattle.vortex_table_text.specs.Types.{has_text, nests_within}
use Rattle.vortex_table_text.proofs.WrittenLemmas.{rows_read_back}
use Rattle.vortex_table_text.proofs.written.push_lines.Goals as goal

pub returns-clause-round_trip : goal.returns-clause-round_trip
returns-clause-round_trip c =
    rows_read_back c.args.array.now true (c.if-not-has_text_within.ensures.text ∙ ap (λ k. has_text k && nests_within k 127) c.dtype.ensures) refl c.len-i-end.ensures.sound
