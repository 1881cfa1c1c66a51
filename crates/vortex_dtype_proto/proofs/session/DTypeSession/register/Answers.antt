use Rattle.std.proofs.Common.{◌<◌, length, sym, arith}
use Rattle.vortex_dtype_proto.proofs.Plugins.{replaced_by, added_to, place_within}
use Rattle.vortex_dtype_proto.proofs.session.DTypeSession.register.Goals as goal

pub index_mut-requires : goal.index_mut-requires
index_mut-requires g c =
    let within : c.in-Some.place < length c.args.self.now.plugins.items = place_within _ c.args.self.now.plugins.items _ _ (sym c.in-Some.ensures) in
    let many = c.args.self.now.plugins.ok.0 in
    omega (arith, within, many)

pub returns-in-Some-clause-ok : goal.returns-in-Some-clause-ok
returns-in-Some-clause-ok g c = λ x. replaced_by _ _ c.args.self.now.plugins.items c.in-Some.place c.args.plugin c.id_of.result.now x c.id_of.ensures (sym c.in-Some.ensures)

pub returns-in_ok-push-in-None-clause-ok : goal.returns-in_ok-push-in-None-clause-ok
returns-in_ok-push-in-None-clause-ok g c = λ x. added_to _ _ c.args.self.now.plugins.items c.push.new.self.items c.args.plugin c.id_of.result.now x c.id_of.ensures (sym c.in-None.ensures) c.in_ok-push-in-None.ensures.items
