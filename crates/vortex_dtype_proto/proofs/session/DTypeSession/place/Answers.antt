use Rattle.std.proofs.Common.{sym, ◌∙◌, arith}
use Rattle.vortex_dtype_proto.proofs.Plugins.{place_found, place_passed}
use Rattle.vortex_dtype_proto.proofs.session.DTypeSession.place.Goals as goal

pub returns-then-eq : goal.returns-then-eq
returns-then-eq g c =
    place_found _ _ c.deref-plugin-items.result.now c.loop-place.place c.plugin-item.result c.id_of.result.now _ c.deref-plugin-items.ensures.value (omega arith) c.plugin-item.is c.id_of.ensures (sym c.eq.ensures ∙ c.if-eq.true)
    c.loop-place.invariant

pub loop-place-preserved : goal.loop-place-preserved
loop-place-preserved g c =
    place_passed _ _ c.deref-plugin-items.result.now c.loop-place.place c.plugin-item.result c.id_of.result.now c.args.id.now c.deref-plugin-items.ensures.value (omega arith) c.plugin-item.is c.id_of.ensures (sym c.eq.ensures ∙ c.if-eq.false)
    c.loop-place.invariant
