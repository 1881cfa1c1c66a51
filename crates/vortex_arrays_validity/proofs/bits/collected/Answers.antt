use Rattle.std.proofs.Common.{rules, ◌<◌, ◌∙◌, sym, subst}
use Rattle.vortex_arrays_model.specs.Layout.{by_array, len_of}
use Rattle.vortex_arrays_validity.proofs.Rows.{rows_by_bits}
use Rattle.vortex_arrays_validity.proofs.bits.collected.Goals as goal

pub returns : goal.returns
returns c = rows_by_bits (by_array c.args.rows.now) c.in_ok-bits.bits (len_of c.args.rows.now)
    (c.in_ok-bits.ensures.count ∙ c.len.ensures.count)
    (λ i l. search (rules, c.in_ok-bits.ensures.bits i (subst (λ k. i < k) (sym c.len.ensures.count) l)))
