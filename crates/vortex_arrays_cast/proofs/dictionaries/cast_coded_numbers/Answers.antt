use Rattle.std.proofs.Common.{◌≡◌, ◌∙◌, ◌<◌, length, ap, sym, subst, false, IfSome}
use Rattle.std.specs.List.{All}
use Rattle.vortex_model.specs.LogicalType.{integer_type}
use Rattle.vortex_dtype_ptype.specs.Numbers.{integral, type_of_numbers}
use Rattle.vortex_dtype_ptype.specs.View.{number_kind_of, nullability_of_flag}
use Rattle.vortex_dtype_core.specs.View.{type_of}
use Rattle.vortex_dtype_core.proofs.Views.{type_of-Primitive}
use Rattle.vortex_arrays_buffer.specs.PrimitiveBuffers.{kind_of_numbers, integers_of}
use Rattle.vortex_arrays_model.specs.Layout.{numbers, dictionary, len_of}
use Rattle.vortex_arrays_core.specs.LayoutOf.{valid_of}
use Rattle.vortex_arrays_validity.specs.Validities.{IsRecast}
use Rattle.vortex_arrays_cast.specs.Cast.{IsCast}
use Rattle.vortex_arrays_cast.specs.Dictionaries.{places_of, integers_at}
use Rattle.vortex_arrays_cast.specs.Ranges.{Keeps}
use Rattle.vortex_arrays_cast.proofs.DictionaryLemmas.{places_within, IsCoded, coded_numbers_fit, cast_coded_integers}
use Rattle.vortex_arrays_cast.proofs.dictionaries.cast_coded_numbers.Goals as goal

pub of_numbers-requires : goal.of_numbers-requires
of_numbers-requires c =
    let codes = c.args.codes.now in let zs = integers_of c.args.items.now in let ws = integers_of c.in-Some-3.coded in let r = c.args.range in
    let w = valid_of c.in-Some.rows in let u = valid_of c.in-Some-2.rows in let m = nullability_of_flag c.in-Primitive.nullability in
    let counted : IsRecast w u m c.len-2.result = subst (λ o. IfSome o (λ rows. IsRecast w (valid_of rows) m c.len-2.result)) c.in-Some-2.is c.in_ok-rows-2.ensures in
    let recast : IsRecast w u m (len_of codes) = subst (IsRecast w u m) c.len-2.ensures.count counted in
    let there : Keeps r (integers_at zs c.deref.result.now) ws = subst (λ o. IfSome o (λ x. Keeps r (integers_at zs c.deref.result.now) (integers_of x))) c.in-Some-3.is c.in_ok-coded.ensures.integers in
    let kept : Keeps r (integers_at zs (places_of codes)) ws = subst (λ ps. Keeps r (integers_at zs ps) ws) (c.deref.ensures.value ∙ c.in_ok-places.ensures) there in
    coded_numbers_fit codes zs ws w u m r kept recast

pub returns : goal.returns
returns c =
    let codes = c.args.codes.now in let zs = integers_of c.args.items.now in let coded = c.in-Some-3.coded in let ws = integers_of coded in let r = c.args.range in
    let v = valid_of c.args.validity.now in let w = valid_of c.in-Some.rows in let u = valid_of c.in-Some-2.rows in let m = nullability_of_flag c.in-Primitive.nullability in
    let k = kind_of_numbers c.args.items.now in let j = kind_of_numbers coded in
    let p : IsCoded codes v w = subst (λ o. IfSome o (λ rows. IsCoded codes v (valid_of rows))) c.in-Some.is c.in_ok-rows.ensures in
    let counted : IsRecast w u m c.len-2.result = subst (λ o. IfSome o (λ rows. IsRecast w (valid_of rows) m c.len-2.result)) c.in-Some-2.is c.in_ok-rows-2.ensures in
    let recast : IsRecast w u m (len_of codes) = subst (IsRecast w u m) c.len-2.ensures.count counted in
    let there : Keeps r (integers_at zs c.deref.result.now) ws = subst (λ o. IfSome o (λ x. Keeps r (integers_at zs c.deref.result.now) (integers_of x))) c.in-Some-3.is c.in_ok-coded.ensures.integers in
    let kept : Keeps r (integers_at zs (places_of codes)) ws = subst (λ ps. Keeps r (integers_at zs ps) ws) (c.deref.ensures.value ∙ c.in_ok-places.ensures) there in
    let kind : integral j ≡ number_kind_of c.in-Primitive.ptype = subst (λ o. IfSome o (λ x. integral (kind_of_numbers x) ≡ number_kind_of c.in-Primitive.ptype)) c.in-Some-3.is c.in_ok-coded.ensures.kind in
    let whole : type_of c.args.target.now ≡ integer_type j m
    = ap type_of c.in-Primitive.is ∙ type_of-Primitive c.in-Primitive.ptype c.in-Primitive.nullability ∙ ap (λ n. type_of_numbers n m) (sym kind) in
    subst (λ t. IsCast t (dictionary codes (numbers k zs v) false) c.in_ok-cast.cast) (sym whole)
    (subst (IsCast (integer_type j m) (dictionary codes (numbers k zs v) false)) (sym c.in_ok-cast.ensures)
    (cast_coded_integers k j codes zs ws v w u m r kept c.len-count.ensures.held c.requires.range p recast))

pub numbers_at-requires : goal.numbers_at-requires
numbers_at-requires c =
    let n = length (integers_of c.args.items.now) in
    subst (λ ps. All (λ i. i < n) ps) (sym (c.deref.ensures.value ∙ c.in_ok-places.ensures))
    (places_within c.args.codes.now n c.requires.some c.requires.sound.3)
