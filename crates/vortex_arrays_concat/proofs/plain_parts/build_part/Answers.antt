use Rattle.std.proofs.Common.{◌≡◌, map, true, sym, subst, rules}
use Rattle.std.specs.List.{All}
use Rattle.vortex_model.specs.Valid.{valid}
use Rattle.vortex_dtype_core.specs.View.{type_of}
use Rattle.vortex_scalar_value.specs.View.{raw_at, raw_in}
use Rattle.vortex_arrays_concat.proofs.PlainLemmas.{built_valid}
use Rattle.vortex_arrays_concat.proofs.plain_parts.build_part.Goals as goal

pub build_plain-requires-clause-valid : goal.build_plain-requires-clause-valid
build_plain-requires-clause-valid c =
    let k = type_of c.args.dtype.now in
    let rows = c.in_ok-rows.rows.items in
    let e : map raw_at c.in_ok-lent.lent.items ≡ map raw_in rows = search rules in
    subst (All (λ value. valid k (raw_at value) ≡ true)) (sym c.as_slice-2.ensures.value)
    (built_valid k c.args.array.now rows c.in_ok-lent.lent.items c.requires.own c.in_ok-rows.ensures.valid e)
