use Rattle.std.proofs.Common.{refl, subst, false}
use Rattle.std.proofs.Math.Seq.{take-length}
use Rattle.std.proofs.lemmas.Result.{on_ok_weaker}
use Rattle.vortex_table_zonemaps.specs.Known.{IsPut}
use Rattle.vortex_table_zonemaps.specs.declared.views.Views.{Views}
use Rattle.vortex_table_zonemaps.proofs.ViewLemmas.{views_kept, no_view_put}
use Rattle.vortex_table_zonemaps.proofs.views.Views.put_null.Goals as goal

pub returns-clause-kept : goal.returns-clause-kept
returns-clause-kept c = λ f cs many is.
    let old = c.args.self.now in let new : Views = record { kind = old.kind; views = c.put.new.self; bytes = old.bytes } in
    views_kept f old new cs c.args.count many (take-length old.bytes.items) is c.put.ensures.kept

pub returns-clause-put : goal.returns-clause-put
returns-clause-put c =
    let old = c.args.self.now in let new : Views = record { kind = old.kind; views = c.put.new.self; bytes = old.bytes } in
    on_ok_weaker c.put.result (λ put. λ f cs many is. no_view_put f old new cs c.args.count many refl is
    (subst (λ v. IsPut c.args.count v false old.views new.views) c.empty_view.ensures put)) c.put.ensures.put
