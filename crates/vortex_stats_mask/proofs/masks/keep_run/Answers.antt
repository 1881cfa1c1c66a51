use Rattle.std.proofs.Common.{◌≡◌, ◌≤◌, ◌∙◌, ap, length, arith}
use Rattle.std.specs.List.{list_any, slice_range}
use Rattle.vortex_stats_mask.proofs.Kept.{run_kept}
use Rattle.vortex_stats_mask.proofs.masks.keep_run.Goals as goal

pub returns-else-has_row-clause-rows : goal.returns-else-has_row-clause-rows
returns-else-has_row-clause-rows c = λ all e.
    let vs = c.args.bits.now in let from = c.args.from in let to = c.args.to in
    let within = c.requires.within in let fits = c.requires.beside in
    let beside : to ≤ length vs = omega (arith, within, fits) in
    run_kept vs all c.args.mask.now.items from to c.has_row.result c.requires.order beside e
    (c.has_row.ensures ∙ ap (λ rows. list_any (λ row. row) (slice_range rows from to)) c.deref.ensures.value) c.if-has_row.false
