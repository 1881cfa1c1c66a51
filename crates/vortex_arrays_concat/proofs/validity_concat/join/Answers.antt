use Rattle.std.proofs.Common.{◌≡◌, ◌<◌, ◌∙◌, length, sym, arith, rules}
use Rattle.std.proofs.lemmas.List.{length-map}
use Rattle.vortex_arrays_core.specs.LayoutOf.{valid_of}
use Rattle.vortex_arrays_validity.specs.Validities.{rows_of_all}
use Rattle.vortex_arrays_concat.specs.EndToEnd.{parts_of}
use Rattle.vortex_arrays_concat.proofs.ValidityLemmas.{seen, none_null, each_null, by_bits}
use Rattle.vortex_arrays_concat.proofs.validity_concat.join.Goals as goal

pub returns-then-show_no_null : goal.returns-then-show_no_null
returns-then-show_no_null c =
    let some : 0 < length (parts_of c.args.parts.now) = omega (arith, length-map c.args.parts.now seen, c.requires.some) in
    none_null (parts_of c.args.parts.now) (valid_of c.all_valid.result) (sym c.show_no_null.ensures ∙ c.if-show_no_null.true) (c.all_valid.ensures.kind ∙ c.nullability_of.ensures) c.all_valid.ensures.none some

pub returns-then-show_all_null : goal.returns-then-show_all_null
returns-then-show_all_null c =
    each_null (parts_of c.args.parts.now) (sym c.show_no_null.ensures ∙ c.if-show_no_null.false) (sym c.show_all_null.ensures ∙ c.if-show_all_null.true)

pub returns : goal.returns
returns c =
    let e : c.in_ok-bits-2.bits ≡ rows_of_all (parts_of c.args.parts.now) = search rules in
    let made = c.in_ok-joined.ensures in
    by_bits (parts_of c.args.parts.now) (valid_of c.in_ok-joined.joined) c.in_ok-bits-2.bits (sym c.show_no_null.ensures ∙ c.if-show_no_null.false) (sym c.show_all_null.ensures ∙ c.if-show_all_null.false) e made.0 made.1 made.2
