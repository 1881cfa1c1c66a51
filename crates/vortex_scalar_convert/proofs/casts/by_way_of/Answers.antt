use Rattle.std.proofs.Common.{◌≡◌, ◌≢◌, ◌&&◌, true, false, sym, ap, ◌∙◌, rules}
use Rattle.std.proofs.Math.Bool.{and-false}
use Rattle.vortex_model.specs.Convert.{converts}
use Rattle.vortex_dtype_core.specs.View.{type_of}
use Rattle.vortex_scalar_value.specs.declared.error.ScalarError.TheVariants.{Memory, NotConvertible}
use Rattle.vortex_scalar_core.specs.Scalar.{scalar_type, scalar_content}
use Rattle.vortex_scalar_convert.proofs.Steps.{through, only_memory}
use Rattle.vortex_scalar_convert.proofs.casts.by_way_of.Goals as goal

pub returns-in_err-second-clause-refused : goal.returns-in_err-second-clause-refused
returns-in_err-second-clause-refused c =
    let scalar = c.args.scalar.now in
    let first = c.in_ok-first.first in
    let there = converts (scalar_type scalar) (type_of c.args.middle.now) (scalar_content scalar) in
    let onward = converts (type_of c.args.middle.now) (type_of c.args.target.now) (scalar_content scalar) in
    let same : converts (scalar_type first) (type_of c.args.target.now) (scalar_content first) ≡ onward
    = λ i. converts (c.in_ok-first.ensures.dtype i) (type_of c.args.target.now) (c.in_ok-first.ensures.content i) in
    let why : c.in_err-second.field-0.0 ≢ Memory → (c.in_err-second.field-0.0 ≡ NotConvertible) × ((there && onward) ≡ false)
    = λ h. let fails = c.in_err-second.ensures.refused h in
    (fails.0, ap (λ b. there && b) (sym same ∙ fails.1) ∙ and-false there) in
    let gives = c.from_residual-in_err-second.ensures.1 in
    search (rules, why, gives)

pub returns-in_err-at_once-clause-refused : goal.returns-in_err-at_once-clause-refused
returns-in_err-at_once-clause-refused c =
    let scalar = c.args.scalar.now in
    let first = c.in_ok-first.first in
    let whole = converts (scalar_type scalar) (type_of c.args.target.now) (scalar_content scalar) in
    let at_once : whole ≡ true
    = through c.conversions_compose.ensures c.tests_of_conversion_are_right.ensures (scalar_type scalar) (type_of c.args.middle.now) (scalar_type first) (type_of c.args.target.now)
    (scalar_content scalar) (scalar_content first) c.in_ok-first.ensures.converts c.in_ok-first.ensures.dtype c.in_ok-first.ensures.content c.in_ok-second.ensures.converts in
    let why : c.in_err-at_once.field-0.0 ≡ Memory = only_memory c.in_err-at_once.field-0.0 whole at_once c.in_err-at_once.ensures.refused in
    let gives = c.from_residual-in_err-at_once.ensures.1 in
    search (rules, why, gives)
