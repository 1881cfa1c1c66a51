use Rattle.std.below.core.proofs.iter.Serving.{as_err}
use Rattle.std.proofs.Common.{length, get_or, sym, subst, arith}
use Rattle.std.proofs.lemmas.Result.{IfOk-weaker}
use Rattle.vortex_arrays_buffer.specs.PrimitiveBuffers.{kind_of_numbers, integers_of}
use Rattle.vortex_arrays_model.specs.Layout.{numbers}
use Rattle.vortex_arrays_model.specs.Picks.{Picks}
use Rattle.vortex_arrays_core.specs.LayoutOf.{valid_of}
use Rattle.vortex_arrays_core.proofs.Gathered.{gathers_numbers}
use Rattle.vortex_arrays_core.proofs.gather.gather_numbers.Goals as goal

pub returns-in_err-chosen : goal.returns-in_err-chosen
returns-in_err-chosen c = grind (arith, (as_err c.from_residual.ensures.0).1)

pub returns-in_err-validity : goal.returns-in_err-validity
returns-in_err-validity c = grind (arith, (as_err c.from_residual-in_err-validity.ensures.0).1)

pub returns : goal.returns
returns c =
    let whole = numbers (kind_of_numbers c.args.items.now) (integers_of c.args.items.now) (valid_of c.args.validity.now) in
    let p = gathers_numbers (kind_of_numbers c.args.items.now) (kind_of_numbers c.in_ok-chosen.chosen) (integers_of c.args.items.now) (integers_of c.in_ok-chosen.chosen) (valid_of c.args.validity.now) (valid_of c.in_ok-validity.validity) c.args.positions.now c.requires.sound c.requires.within c.in_ok-chosen.ensures.kind c.in_ok-chosen.ensures.numbers c.in_ok-validity.ensures in
    IfOk-weaker c.of_numbers.result _ _ (λ r is. subst (λ x. Picks whole x (length c.args.positions.now) (λ i. get_or c.args.positions.now i 0)) (sym is) p) c.of_numbers.ensures
