use Rattle.std.proofs.Common.{sym, ◌∙◌, arith}
use Rattle.vortex_dtype_proto.proofs.Plugins.{found, passed}
use Rattle.vortex_dtype_proto.proofs.session.DTypeSession.find.Goals as goal

pub returns-then-eq : goal.returns-then-eq
returns-then-eq g c =
    found _ _ _ c.deref-plugin-items.result.now c.loop-plugin.plugin-index c.plugin-item.result c.id_of.result.now _ c.deref-plugin-items.ensures.value (omega arith) c.plugin-item.is c.id_of.ensures (sym c.eq.ensures ∙ c.if-eq.true)
    c.loop-plugin.invariant

pub loop-plugin-preserved : goal.loop-plugin-preserved
loop-plugin-preserved g c =
    passed _ _ c.deref-plugin-items.result.now c.loop-plugin.plugin-index c.plugin-item.result c.id_of.result.now c.args.id.now (omega arith) c.plugin-item.is c.id_of.ensures (sym c.eq.ensures ∙ c.if-eq.false) c.loop-plugin.invariant
