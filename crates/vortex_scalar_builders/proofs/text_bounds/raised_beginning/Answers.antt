use Rattle.std.proofs.Common.{◌≡◌, ◌-◌, ◌∙◌, ap, sym, subst, take, arith, IsUtf8, Some}
use Rattle.std.specs.String.{string_bytes}
use Rattle.std.specs.Prelude.{option_map}
use Rattle.vortex_model_table.specs.Bounds.{IsLongestBeginning, IsRaise}
use Rattle.vortex_scalar_builders.proofs.Beginnings.{cut_longest}
use Rattle.vortex_scalar_builders.proofs.text_bounds.raised_beginning.Goals as goal

pub returns-in-None : goal.returns-in-None
returns-in-None c =
    let v = c.args.value.now in
    let n = c.args.max_length in
    let e = c.floor_char_boundary in
    let all : e.result - 0 ≡ e.result = omega arith in
    let is : c.range-low.result.now ≡ take e.result v = c.range-low.ensures.value ∙ ap (λ k. take k v) all in
    let low = subst (λ p. IsLongestBeginning IsUtf8 v n p) (sym is) (cut_longest v n e.result c.utf8.value e.ensures.boundary e.ensures.bound e.ensures.nearest) in
    (c.range-low.result.now, low, subst (λ o. IsRaise c.range-low.result.now (option_map string_bytes o)) c.in-None.is c.in_ok-raise.ensures)

pub returns-in_ok-high-in-Some : goal.returns-in_ok-high-in-Some
returns-in_ok-high-in-Some c =
    let v = c.args.value.now in
    let n = c.args.max_length in
    let e = c.floor_char_boundary in
    let all : e.result - 0 ≡ e.result = omega arith in
    let is : c.range-low.result.now ≡ take e.result v = c.range-low.ensures.value ∙ ap (λ k. take k v) all in
    let low = subst (λ p. IsLongestBeginning IsUtf8 v n p) (sym is) (cut_longest v n e.result c.utf8.value e.ensures.boundary e.ensures.bound e.ensures.nearest) in
    let raised = subst (λ o. IsRaise c.range-low.result.now (option_map string_bytes o)) c.in-Some.is c.in_ok-raise.ensures in
    (c.range-low.result.now, low, subst (λ s. IsRaise c.range-low.result.now (Some s)) (sym c.in_ok-high-in-Some.ensures) raised)
