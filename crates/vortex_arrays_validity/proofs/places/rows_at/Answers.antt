use Rattle.std.proofs.Common.{rules, ◌≡◌, ◌∙◌, false, cond, length, map, get_or, replicate, sym, ap, subst}
use Rattle.std.specs.Result.{IfOk}
use Rattle.std.proofs.lemmas.Result.{IfOk-weaker}
use Rattle.vortex_arrays_buffer.specs.PrimitiveBuffers.{kind_of_numbers, integers_of}
use Rattle.vortex_arrays_model.specs.Layout.{numbers, by_array, is_valid, HasLength}
use Rattle.vortex_arrays_core.specs.LayoutOf.{valid_of}
use Rattle.vortex_arrays_validity.specs.Places.{places_at}
use Rattle.vortex_arrays_validity.proofs.PlaceLemmas.{all_numbers_at, no_numbers_at, some_numbers_at}
use Rattle.vortex_arrays_validity.proofs.places.rows_at.Goals as goal

pub returns-in-NonNullable : goal.returns-in-NonNullable
returns-in-NonNullable c =
    IfOk-weaker c.numbers_at.result _ _ (λ places e.
    all_numbers_at c.args.none (kind_of_numbers c.args.items.now) (integers_of c.args.items.now)
    (valid_of c.args.validity.now) c.args.indices.now places.items
    (λ i. ap (λ v. is_valid (valid_of v) i) c.in-NonNullable.is) e) c.numbers_at.ensures

pub returns-in-AllValid : goal.returns-in-AllValid
returns-in-AllValid c =
    IfOk-weaker c.numbers_at-in-AllValid.result _ _ (λ places e.
    all_numbers_at c.args.none (kind_of_numbers c.args.items.now) (integers_of c.args.items.now)
    (valid_of c.args.validity.now) c.args.indices.now places.items
    (λ i. ap (λ v. is_valid (valid_of v) i) c.in-AllValid.is) e) c.numbers_at-in-AllValid.ensures

pub returns-in-AllInvalid : goal.returns-in-AllInvalid
returns-in-AllInvalid c =
    let k = kind_of_numbers c.args.items.now in
    let zs = integers_of c.args.items.now in
    let is = c.args.indices.now in
    let made : IfOk c.vec.result (λ places. places.items ≡ replicate (length is) c.args.none) =
    search rules in
    IfOk-weaker c.vec.result _ _ (λ places e.
    no_numbers_at c.args.none k zs is places.items e
    ∙ ap (λ v. places_at c.args.none (numbers k zs (valid_of v)) is) (sym c.in-AllInvalid.is)) made

pub returns-in_ok-valid-in-Array : goal.returns-in_ok-valid-in-Array
returns-in_ok-valid-in-Array c =
    let k = kind_of_numbers c.args.items.now in
    let zs = integers_of c.args.items.now in
    let is = c.args.indices.now in
    let rows = c.in-Array.rows in
    let bits = c.in_ok-bits-in-Array.bits in
    let fits : HasLength (by_array rows) (length zs) =
    subst (λ v. HasLength (valid_of v) (length zs)) c.in-Array.is c.requires in
    let valid : c.deref.result.now ≡ map (λ i. cond (get_or bits i false) i (length bits)) is =
    c.deref.ensures.value ∙ c.in_ok-valid-in-Array.ensures in
    IfOk-weaker c.numbers_at-in-Array.result _ _ (λ places e.
    some_numbers_at c.args.none k zs rows bits is c.deref.result.now places.items fits
    c.in_ok-bits-in-Array.ensures valid e
    ∙ ap (λ v. places_at c.args.none (numbers k zs (valid_of v)) is) (sym c.in-Array.is))
    c.numbers_at-in-Array.ensures
