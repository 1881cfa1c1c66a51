use Rattle.std.proofs.Common.{◌∙◌, Err, arith, rules}
use Rattle.vortex_dtype_core.specs.View.{type_of}
use Rattle.vortex_dtype_proto.proofs.Readings.{one_read, one_failed, all_read, moved}
use Rattle.vortex_dtype_proto.proofs.read.+from_proto.Goals as goal

pub returns-in_err-dtype : goal.returns-in_err-dtype
returns-in_err-dtype g t c =
    let why = one_failed _ c.args.message.now c.deref-child-items.result.now c.loop-child.child-index c.child-item.result c.loop-child.children.items c.in_err-dtype.field-0.0
    c.deref-child-items.ensures.value (omega arith) c.child-item.is c.loop-child.invariant c.in_err-dtype.ensures in
    let gives = c.from_residual-in_err-dtype.ensures.1 in
    search (rules, why, gives)

pub loop-child-preserved : goal.loop-child-preserved
loop-child-preserved g t c =
    one_read _ c.deref-child-items.result.now c.loop-child.child-index c.child-item.result c.loop-child.children.items _ c.in_ok-dtype.dtype
    (omega arith) c.child-item.is c.in_ok-dtype.ensures c.in_ok-push.ensures.items c.loop-child.invariant

pub returns-in_err-dtype-2 : goal.returns-in_err-dtype-2
returns-in_err-dtype-2 g t c =
    let read = all_read _ c.args.message.now c.deref-child-items.result.now c.loop-child.child-index c.loop-child.children.items c.deref-child-items.ensures.value (omega arith) c.loop-child.invariant in
    let why = moved type_of (Err c.in_err-dtype-2.field-0.0) _ _ read c.in_err-dtype-2.ensures in
    let gives = c.from_residual-in_err-dtype-2.ensures.1 in
    search (rules, why, gives)

pub returns : goal.returns
returns g t c =
    all_read _ c.args.message.now c.deref-child-items.result.now c.loop-child.child-index c.loop-child.children.items c.deref-child-items.ensures.value (omega arith) c.loop-child.invariant ∙ c.in_ok-dtype-2.ensures
