-- Proofs that no value is a string, or begins so.
use Rattle.std.proofs.Common.{◌≡◌, ℕ, List, Option, Some, None, option_map, sym, ap, ◌∙◌, chars, IsUtf8}
use Rattle.std.proofs.lemmas.Str.{encodes-chars}
use Rattle.vortex_model_table.specs.Bounds.{IsRaise, raise}
use Rattle.vortex_model_table.specs.Expression.{greater, at_least}
use Rattle.vortex_model_table.specs.Rewrite.{exact_text, beginning}
use Rattle.vortex_model_laws.proofs.BoundFunctions.{raise_by_function}
use Rattle.vortex_scalar_builders.proofs.Raised.{raise_same}
use Rattle.vortex_stats_bind.specs.Bound.{Bound}
use Rattle.vortex_stats_rules.specs.Table.{shape_proof, outside}

pub outside_text : (x : Bound) (t : List ℕ) → IsUtf8 t → Some (outside x t t greater) ≡ shape_proof x (exact_text (chars t))
outside_text x t u = ap (λ v. Some (outside x v v greater)) (sym (encodes-chars t u))

outside_raised : (x : Bound) (t : List ℕ) (raised : Option (List ℕ)) → IsUtf8 t → IsRaise t raised →
    option_map (λ above. outside x t above at_least) raised ≡ shape_proof x (beginning (chars t))
outside_raised x t raised u h =
    ap (option_map (λ above. outside x t above at_least)) (raise_same t raised (raise t) h (raise_by_function t u))
    ∙ ap (λ v. option_map (λ above. outside x v above at_least) (raise v)) (sym (encodes-chars t u))

pub outside_beginning : (x : Bound) (t above : List ℕ) → IsUtf8 t → IsRaise t (Some above) → Some (outside x t above at_least) ≡ shape_proof x (beginning (chars t))
outside_beginning x t above u h = outside_raised x t (Some above) u h

pub not_raised : (x : Bound) (t : List ℕ) → IsUtf8 t → IsRaise t None → None ≡ shape_proof x (beginning (chars t))
not_raised x t u h = outside_raised x t None u h
