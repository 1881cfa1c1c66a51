use Rattle.std.proofs.Common.{rules, ◌≡◌, ◌∙◌, length, replicate, sym, ap, subst}
use Rattle.std.specs.Result.{IfOk}
use Rattle.std.proofs.lemmas.Result.{IfOk-weaker}
use Rattle.vortex_arrays_buffer.specs.PrimitiveBuffers.{kind_of_numbers, integers_of}
use Rattle.vortex_arrays_model.specs.Layout.{numbers, by_array, is_valid, HasLength}
use Rattle.vortex_arrays_core.specs.LayoutOf.{valid_of}
use Rattle.vortex_arrays_validity.specs.Places.{places_or, numbers_where}
use Rattle.vortex_arrays_validity.proofs.PlaceLemmas.{all_numbers, no_numbers, some_numbers}
use Rattle.vortex_arrays_validity.proofs.places.rows_or.Goals as goal

pub returns-in-NonNullable : goal.returns-in-NonNullable
returns-in-NonNullable c =
    IfOk-weaker c.numbers_or.result _ _ (λ places e.
    all_numbers c.args.none (kind_of_numbers c.args.items.now) (integers_of c.args.items.now)
    (valid_of c.args.validity.now) places.items
    (λ i. ap (λ v. is_valid (valid_of v) i) c.in-NonNullable.is) e) c.numbers_or.ensures

pub returns-in-AllValid : goal.returns-in-AllValid
returns-in-AllValid c =
    IfOk-weaker c.numbers_or-in-AllValid.result _ _ (λ places e.
    all_numbers c.args.none (kind_of_numbers c.args.items.now) (integers_of c.args.items.now)
    (valid_of c.args.validity.now) places.items
    (λ i. ap (λ v. is_valid (valid_of v) i) c.in-AllValid.is) e) c.numbers_or-in-AllValid.ensures

pub returns-in-AllInvalid : goal.returns-in-AllInvalid
returns-in-AllInvalid c =
    let k = kind_of_numbers c.args.items.now in
    let zs = integers_of c.args.items.now in
    let made : IfOk c.vec.result (λ places. places.items ≡ replicate c.len.result c.args.none) =
    search rules in
    IfOk-weaker c.vec.result _ _ (λ places e.
    no_numbers c.args.none k zs places.items
    (e ∙ ap (λ n. replicate n c.args.none) c.len.ensures.count)
    ∙ ap (λ v. places_or c.args.none (numbers k zs (valid_of v))) (sym c.in-AllInvalid.is)) made

pub returns-in_ok-valid-in-Array : goal.returns-in_ok-valid-in-Array
returns-in_ok-valid-in-Array c =
    let k = kind_of_numbers c.args.items.now in
    let zs = integers_of c.args.items.now in
    let rows = c.in-Array.rows in
    let bits = c.in_ok-bits-in-Array.bits in
    let fits : HasLength (by_array rows) (length zs) =
    subst (λ v. HasLength (valid_of v) (length zs)) c.in-Array.is c.requires in
    let valid : c.deref.result.now ≡ bits =
    c.deref.ensures.value ∙ c.in_ok-valid-in-Array.ensures in
    IfOk-weaker c.numbers_where.result _ _ (λ places e.
    some_numbers c.args.none k zs rows bits places.items fits c.in_ok-bits-in-Array.ensures
    (e ∙ ap (numbers_where c.args.none zs) valid)
    ∙ ap (λ v. places_or c.args.none (numbers k zs (valid_of v))) (sym c.in-Array.is))
    c.numbers_where.ensures
