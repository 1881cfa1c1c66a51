use Rattle.std.proofs.Common.{◌≡◌, ◌≤◌, ◌-◌, length, sym, subst, arith}
use Rattle.std.specs.List.{All}
use Rattle.vortex_arrays_model.specs.Layout.{HasLength}
use Rattle.vortex_arrays_model.specs.Parts.{valid_in}
use Rattle.vortex_arrays_core.specs.LayoutOf.{valid_of}
use Rattle.vortex_arrays_dictionary.specs.Codes.{AreCodes}
use Rattle.vortex_arrays_dictionary.proofs.ColumnLemmas.{column_small, column_fits, column_sound, column_dictionary}
use Rattle.vortex_arrays_dictionary.proofs.encode.with_codes.Goals as goal

pub codes_of-requires-clause-small : goal.codes_of-requires-clause-small
codes_of-requires-clause-small c =
    let firsts = c.args.firsts.now in
    let many : c.len.result ≡ length firsts.places.items = omega (arith, firsts.places.ok.0) in
    subst (All (λ n. n ≤ c.len.result - 1)) (sym c.as_slice-numbers.ensures.value)
    (column_small c.args.array.now firsts.places.items firsts.numbers.items c.args.values c.requires.numbered c.len.result many)

pub codes_of-requires-clause-fits : goal.codes_of-requires-clause-fits
codes_of-requires-clause-fits c =
    let firsts = c.args.firsts.now in
    subst (λ v. HasLength v (length c.as_slice-numbers.result.now)) (sym c.in_ok-nulls.ensures)
    (subst (λ ns. HasLength (valid_in c.args.array.now) (length ns)) (sym c.as_slice-numbers.ensures.value)
    (column_fits c.args.array.now firsts.places.items firsts.numbers.items c.args.values c.requires.numbered c.len-rows.ensures.sound))

pub of_dict-requires : goal.of_dict-requires
of_dict-requires c =
    let firsts = c.args.firsts.now in
    let codes : AreCodes firsts.numbers.items c.len.result (valid_in c.args.array.now) c.in_ok-codes.codes =
    subst (λ v. AreCodes firsts.numbers.items c.len.result v c.in_ok-codes.codes) c.in_ok-nulls.ensures
    (subst (λ ns. AreCodes ns c.len.result (valid_of c.in_ok-nulls.nulls) c.in_ok-codes.codes) c.as_slice-numbers.ensures.value c.in_ok-codes.ensures) in
    λ s t. column_sound c.args.array.now firsts.places.items firsts.numbers.items c.args.values c.requires.numbered c.len.result c.in_ok-codes.codes codes s t

pub returns : goal.returns
returns c =
    let firsts = c.args.firsts.now in
    let many : c.len.result ≡ length firsts.places.items = omega (arith, firsts.places.ok.0) in
    let codes : AreCodes firsts.numbers.items c.len.result (valid_in c.args.array.now) c.in_ok-codes.codes =
    subst (λ v. AreCodes firsts.numbers.items c.len.result v c.in_ok-codes.codes) c.in_ok-nulls.ensures
    (subst (λ ns. AreCodes ns c.len.result (valid_of c.in_ok-nulls.nulls) c.in_ok-codes.codes) c.as_slice-numbers.ensures.value c.in_ok-codes.ensures) in
    column_dictionary c.args.array.now firsts.places.items firsts.numbers.items c.args.values c.requires.numbered c.len.result c.in_ok-codes.codes c.in_ok-made.made codes many c.requires.plain c.in_ok-made.ensures
