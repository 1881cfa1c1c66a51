use Rattle.std.proofs.Common.{rules, ◌<◌, subst, sym, ◌∙◌}
use Rattle.vortex_arrays_model.specs.Layout.{by_array}
use Rattle.vortex_arrays_parts.specs.Nulls.{TellsNullsOf}
use Rattle.vortex_arrays_parts.proofs.NullLemmas.{looked_up}
use Rattle.vortex_arrays_parts.proofs.array_ref_ext.row_by_row.Goals as goal

pub returns : goal.returns
returns c =
    subst (λ a. TellsNullsOf c.args.array.now (by_array a)) (sym c.in_ok-valid.ensures)
    (looked_up c.args.array.now c.in_ok-bits.bits (c.in_ok-bits.ensures.count ∙ c.len.ensures.count) c.requires (λ i l. search (rules, c.in_ok-bits.ensures.bits i (subst (λ n. i < n) (sym c.len.ensures.count) l))))
