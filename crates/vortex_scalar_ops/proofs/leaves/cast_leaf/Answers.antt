use Rattle.std.below.core.proofs.iter.Serving.{as_err}
use Rattle.std.proofs.Common.{arith}
use Rattle.vortex_scalar_value.proofs.Views.{one_level}
use Rattle.vortex_scalar_ops.proofs.leaves.cast_leaf.Goals as goal

pub returns-then-not-converts_boolean-clause-converts : goal.returns-then-not-converts_boolean-clause-converts
returns-then-not-converts_boolean-clause-converts c = grind (arith, one_level)

pub returns-then-not-converts_boolean-clause-content : goal.returns-then-not-converts_boolean-clause-content
returns-then-not-converts_boolean-clause-content c = grind (arith, one_level)

pub returns-then-not-converts_boolean-clause-valid : goal.returns-then-not-converts_boolean-clause-valid
returns-then-not-converts_boolean-clause-valid c = grind (arith, one_level)

pub returns-then-not-converts_boolean-clause-refused : goal.returns-then-not-converts_boolean-clause-refused
returns-then-not-converts_boolean-clause-refused c = grind (arith, one_level)

pub returns-then-not-converts_boolean-clause-invalid : goal.returns-then-not-converts_boolean-clause-invalid
returns-then-not-converts_boolean-clause-invalid c = grind (arith, one_level)

pub returns-in_err-number-in-Primitive-clause-converts : goal.returns-in_err-number-in-Primitive-clause-converts
returns-in_err-number-in-Primitive-clause-converts c = grind (arith, (as_err c.from_residual.ensures.0).1)

pub returns-in_err-number-in-Primitive-clause-content : goal.returns-in_err-number-in-Primitive-clause-content
returns-in_err-number-in-Primitive-clause-content c = grind (arith, (as_err c.from_residual.ensures.0).1)

pub returns-in_err-number-in-Primitive-clause-valid : goal.returns-in_err-number-in-Primitive-clause-valid
returns-in_err-number-in-Primitive-clause-valid c = grind (arith, (as_err c.from_residual.ensures.0).1)

pub returns-in_err-number-in-Primitive-clause-refused : goal.returns-in_err-number-in-Primitive-clause-refused
returns-in_err-number-in-Primitive-clause-refused c = grind (arith, one_level)

pub returns-in_err-number-in-Primitive-clause-invalid : goal.returns-in_err-number-in-Primitive-clause-invalid
returns-in_err-number-in-Primitive-clause-invalid c = grind (arith, (as_err c.from_residual.ensures.0).1)

pub returns-then-not-converts_text-clause-converts : goal.returns-then-not-converts_text-clause-converts
returns-then-not-converts_text-clause-converts c = grind (arith, one_level)

pub returns-then-not-converts_text-clause-content : goal.returns-then-not-converts_text-clause-content
returns-then-not-converts_text-clause-content c = grind (arith, one_level)

pub returns-then-not-converts_text-clause-valid : goal.returns-then-not-converts_text-clause-valid
returns-then-not-converts_text-clause-valid c = grind (arith, one_level)

pub returns-then-not-converts_text-clause-refused : goal.returns-then-not-converts_text-clause-refused
returns-then-not-converts_text-clause-refused c = grind (arith, one_level)

pub returns-then-not-converts_text-clause-invalid : goal.returns-then-not-converts_text-clause-invalid
returns-then-not-converts_text-clause-invalid c = grind (arith, one_level)

pub returns-in_err-text-in-Utf8-clause-converts : goal.returns-in_err-text-in-Utf8-clause-converts
returns-in_err-text-in-Utf8-clause-converts c = grind (arith, (as_err c.from_residual-in_err-text-in-Utf8.ensures.0).1)

pub returns-in_err-text-in-Utf8-clause-content : goal.returns-in_err-text-in-Utf8-clause-content
returns-in_err-text-in-Utf8-clause-content c = grind (arith, (as_err c.from_residual-in_err-text-in-Utf8.ensures.0).1)

pub returns-in_err-text-in-Utf8-clause-valid : goal.returns-in_err-text-in-Utf8-clause-valid
returns-in_err-text-in-Utf8-clause-valid c = grind (arith, (as_err c.from_residual-in_err-text-in-Utf8.ensures.0).1)

pub returns-in_err-text-in-Utf8-clause-refused : goal.returns-in_err-text-in-Utf8-clause-refused
returns-in_err-text-in-Utf8-clause-refused c = grind (arith, (as_err c.from_residual-in_err-text-in-Utf8.ensures.0).1)

pub returns-in_err-text-in-Utf8-clause-invalid : goal.returns-in_err-text-in-Utf8-clause-invalid
returns-in_err-text-in-Utf8-clause-invalid c = grind (arith, (as_err c.from_residual-in_err-text-in-Utf8.ensures.0).1)

pub returns-then-not-converts_bytes-clause-converts : goal.returns-then-not-converts_bytes-clause-converts
returns-then-not-converts_bytes-clause-converts c = grind (arith, one_level)

pub returns-then-not-converts_bytes-clause-content : goal.returns-then-not-converts_bytes-clause-content
returns-then-not-converts_bytes-clause-content c = grind (arith, one_level)

pub returns-then-not-converts_bytes-clause-valid : goal.returns-then-not-converts_bytes-clause-valid
returns-then-not-converts_bytes-clause-valid c = grind (arith, one_level)

pub returns-then-not-converts_bytes-clause-refused : goal.returns-then-not-converts_bytes-clause-refused
returns-then-not-converts_bytes-clause-refused c = grind (arith, one_level)

pub returns-then-not-converts_bytes-clause-invalid : goal.returns-then-not-converts_bytes-clause-invalid
returns-then-not-converts_bytes-clause-invalid c = grind (arith, one_level)

pub returns-in_err-bytes-in-Binary-clause-converts : goal.returns-in_err-bytes-in-Binary-clause-converts
returns-in_err-bytes-in-Binary-clause-converts c = grind (arith, (as_err c.from_residual-in_err-bytes-in-Binary.ensures.0).1)

pub returns-in_err-bytes-in-Binary-clause-content : goal.returns-in_err-bytes-in-Binary-clause-content
returns-in_err-bytes-in-Binary-clause-content c = grind (arith, (as_err c.from_residual-in_err-bytes-in-Binary.ensures.0).1)

pub returns-in_err-bytes-in-Binary-clause-valid : goal.returns-in_err-bytes-in-Binary-clause-valid
returns-in_err-bytes-in-Binary-clause-valid c = grind (arith, (as_err c.from_residual-in_err-bytes-in-Binary.ensures.0).1)

pub returns-in_err-bytes-in-Binary-clause-refused : goal.returns-in_err-bytes-in-Binary-clause-refused
returns-in_err-bytes-in-Binary-clause-refused c = grind (arith, (as_err c.from_residual-in_err-bytes-in-Binary.ensures.0).1)

pub returns-in_err-bytes-in-Binary-clause-invalid : goal.returns-in_err-bytes-in-Binary-clause-invalid
returns-in_err-bytes-in-Binary-clause-invalid c = grind (arith, (as_err c.from_residual-in_err-bytes-in-Binary.ensures.0).1)

pub returns-else-not-converts_boolean-clause-converts : goal.returns-else-not-converts_boolean-clause-converts
returns-else-not-converts_boolean-clause-converts c = grind (arith, one_level)

pub returns-else-not-converts_boolean-clause-content : goal.returns-else-not-converts_boolean-clause-content
returns-else-not-converts_boolean-clause-content c = grind (arith, one_level)

pub returns-else-not-converts_boolean-clause-valid : goal.returns-else-not-converts_boolean-clause-valid
returns-else-not-converts_boolean-clause-valid c = grind (arith, one_level)

pub returns-else-not-converts_boolean-clause-refused : goal.returns-else-not-converts_boolean-clause-refused
returns-else-not-converts_boolean-clause-refused c = grind (arith, one_level)

pub returns-else-not-converts_boolean-clause-invalid : goal.returns-else-not-converts_boolean-clause-invalid
returns-else-not-converts_boolean-clause-invalid c = grind (arith, one_level)

pub returns-in_ok-number-in-Primitive-clause-converts : goal.returns-in_ok-number-in-Primitive-clause-converts
returns-in_ok-number-in-Primitive-clause-converts c = grind (arith, one_level)

pub returns-in_ok-number-in-Primitive-clause-content : goal.returns-in_ok-number-in-Primitive-clause-content
returns-in_ok-number-in-Primitive-clause-content c = grind (arith, one_level)

pub returns-in_ok-number-in-Primitive-clause-valid : goal.returns-in_ok-number-in-Primitive-clause-valid
returns-in_ok-number-in-Primitive-clause-valid c = grind (arith, one_level)

pub returns-in_ok-number-in-Primitive-clause-refused : goal.returns-in_ok-number-in-Primitive-clause-refused
returns-in_ok-number-in-Primitive-clause-refused c = grind (arith, one_level)

pub returns-in_ok-number-in-Primitive-clause-invalid : goal.returns-in_ok-number-in-Primitive-clause-invalid
returns-in_ok-number-in-Primitive-clause-invalid c = grind (arith, one_level)

pub returns-in_ok-text-in-Utf8-clause-converts : goal.returns-in_ok-text-in-Utf8-clause-converts
returns-in_ok-text-in-Utf8-clause-converts c = grind (arith, one_level)

pub returns-in_ok-text-in-Utf8-clause-content : goal.returns-in_ok-text-in-Utf8-clause-content
returns-in_ok-text-in-Utf8-clause-content c = grind (arith, one_level)

pub returns-in_ok-text-in-Utf8-clause-valid : goal.returns-in_ok-text-in-Utf8-clause-valid
returns-in_ok-text-in-Utf8-clause-valid c = grind (arith, one_level)

pub returns-in_ok-text-in-Utf8-clause-refused : goal.returns-in_ok-text-in-Utf8-clause-refused
returns-in_ok-text-in-Utf8-clause-refused c = grind (arith, one_level)

pub returns-in_ok-text-in-Utf8-clause-invalid : goal.returns-in_ok-text-in-Utf8-clause-invalid
returns-in_ok-text-in-Utf8-clause-invalid c = grind (arith, one_level)

pub returns-in_ok-bytes-in-Binary-clause-converts : goal.returns-in_ok-bytes-in-Binary-clause-converts
returns-in_ok-bytes-in-Binary-clause-converts c = grind (arith, one_level)

pub returns-in_ok-bytes-in-Binary-clause-content : goal.returns-in_ok-bytes-in-Binary-clause-content
returns-in_ok-bytes-in-Binary-clause-content c = grind (arith, one_level)

pub returns-in_ok-bytes-in-Binary-clause-valid : goal.returns-in_ok-bytes-in-Binary-clause-valid
returns-in_ok-bytes-in-Binary-clause-valid c = grind (arith, one_level)

pub returns-in_ok-bytes-in-Binary-clause-refused : goal.returns-in_ok-bytes-in-Binary-clause-refused
returns-in_ok-bytes-in-Binary-clause-refused c = grind (arith, one_level)

pub returns-in_ok-bytes-in-Binary-clause-invalid : goal.returns-in_ok-bytes-in-Binary-clause-invalid
returns-in_ok-bytes-in-Binary-clause-invalid c = grind (arith, one_level)

pub returns-in-Tuple-clause-converts : goal.returns-in-Tuple-clause-converts
returns-in-Tuple-clause-converts c = grind (arith, one_level)

pub returns-in-Tuple-clause-content : goal.returns-in-Tuple-clause-content
returns-in-Tuple-clause-content c = grind (arith, one_level)

pub returns-in-Tuple-clause-valid : goal.returns-in-Tuple-clause-valid
returns-in-Tuple-clause-valid c = grind (arith, one_level)

pub returns-in-Tuple-clause-refused : goal.returns-in-Tuple-clause-refused
returns-in-Tuple-clause-refused c = grind (arith, one_level)

pub returns-in-Tuple-clause-invalid : goal.returns-in-Tuple-clause-invalid
returns-in-Tuple-clause-invalid c = grind (arith, one_level)
