use Rattle.std.proofs.Common.{ap, ◌∙◌}
use Rattle.vortex_table_chunk.proofs.zones.carried.carried_to.Goals as goal

pub returns-clause-zone : goal.returns-clause-zone
returns-clause-zone c = λ k part L values zone total i. record {
  low = (c.in_ok-min.ensures.bound ∙ ap (λ z. z.low) zone) i;
  high = (c.in_ok-max.ensures.bound ∙ ap (λ z. z.high) zone) i;
  nulls = ap (λ z. z.nulls) zone i;
  rows = ap (λ z. z.rows) zone i;
  total = total i;
  constant = ap (λ z. z.constant) zone i;
}
