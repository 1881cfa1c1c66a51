use Rattle.std.proofs.Common.{◌≡◌, true, subst, rules}
use Rattle.vortex_model.specs.Valid.{valid}
use Rattle.vortex_model.specs.Convert.{converts}
use Rattle.vortex_dtype_core.specs.View.{type_of}
use Rattle.vortex_scalar_value.specs.declared.error.ScalarError.TheVariants.{Memory}
use Rattle.vortex_scalar_core.specs.Scalar.{scalar_type, scalar_raw, scalar_content}
use Rattle.vortex_scalar_convert.proofs.Steps.{returns as has_one_back, only_memory}
use Rattle.vortex_scalar_convert.proofs.casts.there_and_back.Goals as goal

pub returns-in_err-back-clause-refused : goal.returns-in_err-back-clause-refused
returns-in_err-back-clause-refused c =
    let scalar = c.args.scalar.now in
    let made = c.in_ok-there.there in
    let is_there : valid (scalar_type scalar) (scalar_raw scalar) ≡ true = subst (λ r. valid (scalar_type scalar) r ≡ true) c.value.ensures.value c.value.ensures.is_valid in
    let back : converts (scalar_type made) (type_of c.dtype.result.now) (scalar_content made) ≡ true
    = has_one_back c.tests_of_conversion_are_right.ensures (scalar_type scalar) (type_of c.args.target.now) (scalar_type made) (type_of c.dtype.result.now) (scalar_raw scalar) (scalar_content made) is_there
    c.in_ok-there.ensures.converts c.in_ok-there.ensures.dtype c.dtype.ensures c.in_ok-there.ensures.content in
    let why : c.in_err-back.field-0.0 ≡ Memory = only_memory c.in_err-back.field-0.0 (converts (scalar_type made) (type_of c.dtype.result.now) (scalar_content made)) back c.in_err-back.ensures.refused in
    let gives = c.from_residual-in_err-back.ensures.1 in
    search (rules, why, gives)
