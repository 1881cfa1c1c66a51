use Rattle.std.proofs.Common.{◌≡◌, sym, ap, ◌∙◌, false, true}
use Rattle.vortex_model.specs.Valid.{valid}
use Rattle.vortex_dtype_core.specs.View.{type_of}
use Rattle.vortex_scalar_value.specs.View.{raw_in, raw_at}
use Rattle.vortex_table_schema.proofs.Appends.{invalid_here, valid_here}
use Rattle.vortex_table_schema.proofs.Copied.{raw_copied}
use Rattle.vortex_table_schema.proofs.append.first_invalid.Goals as goal

pub returns-then-not-validate : goal.returns-then-not-validate
returns-then-not-validate c =
    let k = type_of c.args.dtype.now in
    let v = c.index-values-index.result in
    let same : raw_at c.as_ref.result ≡ raw_in v = raw_copied c.as_ref.result ∙ ap raw_in c.as_ref.ensures.value in
    let fails : valid k (raw_in v) ≡ false = ap (valid k) (sym same) ∙ sym c.validate.ensures ∙ c.if-not-validate.true in
    sym (invalid_here k c.args.values.now c.loop-index.index v c.loop-index-test.true c.index-values-index.is fails) ∙ c.loop-index.invariant

pub loop-index-preserved : goal.loop-index-preserved
loop-index-preserved c =
    let k = type_of c.args.dtype.now in
    let v = c.index-values-index.result in
    let same : raw_at c.as_ref.result ≡ raw_in v = raw_copied c.as_ref.result ∙ ap raw_in c.as_ref.ensures.value in
    let holds : valid k (raw_in v) ≡ true = ap (valid k) (sym same) ∙ sym c.validate.ensures ∙ c.if-not-validate.false in
    sym (valid_here k c.args.values.now c.loop-index.index v c.loop-index-test.true c.index-values-index.is holds) ∙ c.loop-index.invariant
