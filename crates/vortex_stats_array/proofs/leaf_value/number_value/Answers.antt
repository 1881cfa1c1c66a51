use Rattle.std.proofs.Common.{◌≡◌, ◌∙◌, subst, IfSome, to_z, of_z, arith}
use Rattle.std.specs.Int.{w128}
use Rattle.std.proofs.lemmas.Int.{ints}
use Rattle.vortex_model.proofs.Ranges.{not_below, not_above}
use Rattle.vortex_dtype_ptype.specs.Numbers.{integral}
use Rattle.vortex_dtype_ptype.specs.View.{number_kind_of}
use Rattle.vortex_scalar_value.specs.Numbers.{integer_of, kind_of_number}
use Rattle.vortex_stats_array.proofs.OwnTypes.{number_valid, kind_is}
use Rattle.vortex_stats_array.proofs.leaf_value.number_value.Goals as goal

pub returns-clause-types : goal.returns-clause-types
returns-clause-types g c k h =
    let v = c.in-Some.value in let i = g.T.Sealed.kind in
    let least = not_below i c.get.result c.get.ensures.held in let greatest = not_above i c.get.result c.get.ensures.held in
    let same : to_z w128 (of_z w128 c.get.result) ≡ c.get.result = omega (arith, ints, least, greatest) in
    let kind = subst (λ o. IfSome o (λ w. integral (kind_of_number w) ≡ number_kind_of c.ptype.result)) c.in-Some.is c.of.ensures.kind in
    let number = subst (λ o. IfSome o (λ w. integer_of w ≡ to_z w128 (of_z w128 c.get.result))) c.in-Some.is c.of.ensures.number in
    number_valid k i v c.get.result h (kind_is i v (number_kind_of c.ptype.result) kind c.ptype.ensures) (number ∙ same) c.get.ensures.held
