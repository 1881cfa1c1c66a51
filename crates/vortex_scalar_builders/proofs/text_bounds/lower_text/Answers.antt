use Rattle.std.proofs.Common.{◌∙◌, sym, ap, subst, take, IsUtf8, rules}
use Rattle.vortex_model_table.specs.Bounds.{IsLongestBeginning}
use Rattle.vortex_scalar_builders.proofs.Beginnings.{cut_longest}
use Rattle.vortex_scalar_builders.proofs.text_bounds.lower_text.Goals as goal

pub returns-clause-bound : goal.returns-clause-bound
returns-clause-bound c =
    let e = c.floor_char_boundary-end in
    let v = c.as_str.result.now in
    let n = c.args.max_length in
    let is = c.first_bytes.ensures ∙ ap (λ t. take e.result t) (sym c.as_str.ensures) in
    subst (λ t. IsLongestBeginning IsUtf8 t n c.first_bytes.result) c.as_str.ensures
    (subst (λ p. IsLongestBeginning IsUtf8 v n p) (sym is) (cut_longest v n e.result c.as_str.utf8 e.ensures.boundary e.ensures.bound e.ensures.nearest))

pub returns-clause-longer : goal.returns-clause-longer
returns-clause-longer c = search rules
