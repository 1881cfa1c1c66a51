use Rattle.std.proofs.Common.{◌∙◌, ap, sym, map, take, ◌&&◌}
use Rattle.std.specs.List.{zip}
use Rattle.vortex_stats_mask.specs.Columns.{kept}
use Rattle.vortex_stats_mask.specs.Valid.{valid_in}
use Rattle.vortex_stats_mask.proofs.Kept.{kept_beside, swapped_beside}
use Rattle.vortex_stats_mask.proofs.masks.narrow_valid.Goals as goal

pub returns-in-Bits : goal.returns-in-Bits
returns-in-Bits c =
    let ms = c.args.mask.now.items in let vs = c.in-Bits.bits.now in
    c.keep_bits.ensures ∙ ap (λ rows. map (λ p. p.0 && p.1) (zip rows vs)) (c.truncate.ensures.items ∙ ap (λ n. take n ms) c.len.ensures)
    ∙ kept_beside ms vs ∙ ap (λ o. kept (valid_in o) ms) (sym c.in-Bits.is)

pub returns-in-Flags : goal.returns-in-Flags
returns-in-Flags c =
    let ms = c.args.mask.now.items in
    c.keep_flags.ensures ∙ swapped_beside ms c.in-Flags.flags.now ∙ ap (λ o. kept (valid_in o) ms) (sym c.in-Flags.is)
