use Rattle.std.proofs.Common.{subst, IfSome}
use Rattle.vortex_dtype_core.specs.View.{type_of}
use Rattle.vortex_arrays_concat.specs.PlainParts.{IsPlainPart}
use Rattle.vortex_arrays_concat.proofs.PlainLemmas.{first_more}
use Rattle.vortex_arrays_concat.proofs.plain_parts.plain_parts.Goals as goal

pub loop-array-preserved : goal.loop-array-preserved
loop-array-preserved c =
    let k = type_of c.args.dtype.now in
    let a = c.array-item.result in
    let made : IsPlainPart k a c.in-Some.part = subst (λ o. IfSome o (λ part. IsPlainPart k a part)) c.in-Some.is c.in_ok-part.ensures in
    first_more k c.args.arrays.now c.loop-array.array-index a c.in-Some.part c.loop-array.parts.items c.push.new.self.items
    c.loop-array.invariant c.loop-array-test.true c.array-item.is made c.in_ok-push.ensures.items
