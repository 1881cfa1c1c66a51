use Rattle.std.proofs.Common.{◌≡◌, [], ◌∷◌, ◌++◌, length, map, Some, ap, ◌∙◌, arith, rules, to_z, of_z, FitsSigned}
use Rattle.std.specs.Int.{w128}
use Rattle.std.proofs.lemmas.Int.{to_z-of_z}
use Rattle.std.proofs.lemmas.List.{map-append, length-map}
use Rattle.vortex_scalar_value.specs.View.{raw_of, raw_at}
use Rattle.vortex_arrays_dictionary.proofs.NumberLemmas.{placed_last}
use Rattle.vortex_arrays_dictionary.proofs.number.number_of.Goals as goal

pub returns-in_ok-push-clause-known : goal.returns-in_ok-push-clause-known
returns-in_ok-push-clause-known c =
    let items = c.args.distinct.now.items in
    let many : c.len-next.result ≡ length (map raw_at items) = omega (arith, length-map items raw_at, c.args.distinct.now.ok.0) in
    let fits : FitsSigned w128 c.number_in.result = search rules in
    let made : map raw_at c.push.new.self.items ≡ map raw_at items ++ raw_of c.args.value.now ∷ [] = ap (map raw_at) c.in_ok-push.ensures.items ∙ map-append raw_at items (Some c.args.value ∷ []) in
    (placed_last c.args.places.now c.place_of.new.places (map raw_at items) (map raw_at c.push.new.self.items) (raw_of c.args.value.now) (to_z w128 (of_z w128 c.number_in.result), c.bytes_in.result) c.len-next.result c.in_ok-number.number
    c.requires many (to_z-of_z w128 c.number_in.result fits ∙ c.number_in.ensures) c.bytes_in.ensures c.in_ok-number.ensures c.if-number-next.true made).0

pub returns-in_ok-push-clause-number : goal.returns-in_ok-push-clause-number
returns-in_ok-push-clause-number c =
    let items = c.args.distinct.now.items in
    let many : c.len-next.result ≡ length (map raw_at items) = omega (arith, length-map items raw_at, c.args.distinct.now.ok.0) in
    let fits : FitsSigned w128 c.number_in.result = search rules in
    let made : map raw_at c.push.new.self.items ≡ map raw_at items ++ raw_of c.args.value.now ∷ [] = ap (map raw_at) c.in_ok-push.ensures.items ∙ map-append raw_at items (Some c.args.value ∷ []) in (
      (to_z w128 (of_z w128 c.number_in.result), c.bytes_in.result),
      (placed_last c.args.places.now c.place_of.new.places (map raw_at items) (map raw_at c.push.new.self.items) (raw_of c.args.value.now) (to_z w128 (of_z w128 c.number_in.result), c.bytes_in.result) c.len-next.result c.in_ok-number.number
          c.requires many (to_z-of_z w128 c.number_in.result fits ∙ c.number_in.ensures) c.bytes_in.ensures c.in_ok-number.ensures c.if-number-next.true made).1,
    )
