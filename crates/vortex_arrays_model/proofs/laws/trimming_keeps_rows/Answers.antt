use Rattle.vortex_arrays_model.proofs.TrimmedLemmas.{trimmed_rows, trimmed_kind}
use Rattle.vortex_arrays_model.proofs.laws.trimming_keeps_rows.Goals as goal

pub returns : goal.returns
returns c = λ e o s f v r sound h. (trimmed_rows e o s f v r sound h, trimmed_kind e o s f v r sound h)
