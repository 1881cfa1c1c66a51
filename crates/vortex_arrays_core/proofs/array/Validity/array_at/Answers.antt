use Rattle.std.proofs.Common.{rules, ◌≡◌, ◌<◌, ◌∙◌, sym, subst}
use Rattle.std.proofs.lemmas.Result.{IfOk-weaker}
use Rattle.vortex_model.specs.LogicalType.{nullability_of}
use Rattle.vortex_arrays_buffer.specs.PrimitiveBuffers.{kind_of_numbers, integers_of}
use Rattle.vortex_arrays_model.specs.Layout.{numbers, len_of, array_type_of, content_at}
use Rattle.vortex_arrays_model.specs.Picks.{position_of}
use Rattle.vortex_arrays_core.specs.LayoutOf.{valid_of}
use Rattle.vortex_arrays_core.proofs.Picked.{taken_by_array, taken_by_bits}
use Rattle.vortex_arrays_core.proofs.array.Validity.array_at.Goals as goal

pub returns-in-Some-Primitive : goal.returns-in-Some-Primitive
returns-in-Some-Primitive c =
    let places = c.in-Some-Primitive.places in
    let nulls = c.in-Some-Primitive.nulls in
    let codes : c.args.indices.now ≡ numbers (kind_of_numbers places) (integers_of places) (valid_of nulls) = search rules in
    IfOk-weaker c.and.result _ _ (λ u both. taken_by_bits (valid_of c.args.self.now) c.args.indices.now c.in_ok-rows-2.rows (kind_of_numbers places) (integers_of places) (valid_of nulls) (valid_of u) c.in-Some-Primitive.rows.now c.in_ok-rows.rows c.len.result c.args.len c.in-Some-Primitive.ensures.bits codes c.in_ok-rows-2.ensures c.in_ok-rows.ensures c.len.ensures.count c.requires.within both) c.and.ensures

pub returns : goal.returns
returns c = taken_by_array (valid_of c.args.self.now) (nullability_of (array_type_of c.args.indices.now)) (len_of c.args.indices.now) (λ i. position_of (content_at c.args.indices.now i)) c.in_ok-rows-3.rows c.in_ok-bits.bits c.requires.nullable c.in_ok-rows-3.ensures (c.in_ok-bits.ensures.count ∙ c.len-2.ensures.count)
    (λ i l. search (rules, c.in_ok-bits.ensures.bits i (subst (λ k. i < k) (sym c.len-2.ensures.count) l)))
