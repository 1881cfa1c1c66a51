-- A `ScalarValue` is never null: null is `None` of an `Option`.
use Rattle.std.proofs.Common.{◌≡◌, Bool, false, ap, sym, ◌∙◌, rules}
use Rattle.vortex_model.specs.Content.{content_of, is_null}
use Rattle.vortex_scalar_value.specs.View.{raw_of}
use Rattle.vortex_scalar_value.specs.declared.scalar_value.ScalarValue as value
use Rattle.vortex_scalar_value.specs.declared.scalar_value.ScalarValue.{ScalarValue, out-ScalarValue, roll-ScalarValue, roll-out-ScalarValue}
use Rattle.vortex_scalar_value.specs.declared.scalar_value.ScalarValue.TheOpen.{ScalarValue-F}
use Rattle.vortex_scalar_value.specs.declared.union_value.UnionValue.{UnionValue}
use Rattle.vortex_scalar_value.specs.declared.variant_value.VariantValue.{VariantValue}
use Rattle.vortex_scalar_value.proofs.Views.{one_level, raw_of-Bool, raw_of-Primitive, raw_of-Utf8, raw_of-Binary, raw_of-Tuple, raw_of-Union, raw_of-Variant, raw_of_union-parts, raw_of_variant-parts}

abbrev Opened : Type 0
Opened = ScalarValue-F ScalarValue UnionValue VariantValue

abbrev says_null : ScalarValue → Bool
says_null v = is_null (content_of (raw_of v))

not_null-rolled : (o : Opened) → says_null (roll-ScalarValue o) ≡ false
not_null-rolled (ScalarValue-F.Bool b) =
    let e : roll-ScalarValue (ScalarValue-F.Bool b) ≡ value.Bool b = search (rules, value.the_lemmas) in
    ap says_null e ∙ ap (λ r. is_null (content_of r)) (raw_of-Bool b)
not_null-rolled (ScalarValue-F.Primitive v) =
    let e : roll-ScalarValue (ScalarValue-F.Primitive v) ≡ value.Primitive v = search (rules, value.the_lemmas) in
    ap says_null e ∙ ap (λ r. is_null (content_of r)) (raw_of-Primitive v)
not_null-rolled (ScalarValue-F.Utf8 t) =
    let e : roll-ScalarValue (ScalarValue-F.Utf8 t) ≡ value.Utf8 t = search (rules, value.the_lemmas) in
    ap says_null e ∙ ap (λ r. is_null (content_of r)) (raw_of-Utf8 t)
not_null-rolled (ScalarValue-F.Binary b) =
    let e : roll-ScalarValue (ScalarValue-F.Binary b) ≡ value.Binary b = search (rules, value.the_lemmas) in
    ap says_null e ∙ ap (λ r. is_null (content_of r)) (raw_of-Binary b)
not_null-rolled (ScalarValue-F.Tuple v) =
    let e : roll-ScalarValue (ScalarValue-F.Tuple v) ≡ value.Tuple v = search (rules, value.the_lemmas) in
    ap says_null e ∙ ap (λ r. is_null (content_of r)) (raw_of-Tuple v)
not_null-rolled (ScalarValue-F.Union u) =
    let e : roll-ScalarValue (ScalarValue-F.Union u) ≡ value.Union u = search (rules, value.the_lemmas) in
    ap says_null e ∙ ap (λ r. is_null (content_of r)) (raw_of-Union u ∙ raw_of_union-parts u)
not_null-rolled (ScalarValue-F.Variant v) =
    let e : roll-ScalarValue (ScalarValue-F.Variant v) ≡ value.Variant v = search (rules, value.the_lemmas) in
    ap says_null e ∙ ap (λ r. is_null (content_of r)) (raw_of-Variant v ∙ raw_of_variant-parts v.value)

pub is_null-raw_of : (v : ScalarValue) → is_null (content_of (raw_of v)) ≡ false
is_null-raw_of v = ap says_null (sym (roll-out-ScalarValue v)) ∙ not_null-rolled (out-ScalarValue v)

pub ruleset never_null = (one_level, is_null-raw_of)
