use Rattle.std.proofs.Common.{rules, arith, ◌≡◌, length, sym}
use Rattle.std.proofs.lemmas.List.{length-take-le}
use Rattle.vortex_scalar_value.proofs.Widths.{at_most_eight}
use Rattle.vortex_arrays_dictionary.proofs.reinterpret.reinterpret_item.Goals as goal

pub slice_bounds-try_from_le_bytes-end : goal.slice_bounds-try_from_le_bytes-end
slice_bounds-try_from_le_bytes-end g c =
    let wide = at_most_eight g.T.Sealed.kind c.to_le_bytes-width.result.1 c.to_le_bytes-width.ensures.width in
    let many : length c.to_le_bytes-width.result.0 ≡ 8 = search rules in
    sym (length-take-le c.to_le_bytes-width.result.1 c.to_le_bytes-width.result.0 (omega (arith, wide, many)))
