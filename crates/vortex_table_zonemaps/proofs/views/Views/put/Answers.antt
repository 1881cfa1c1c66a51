use Rattle.std.proofs.Common.{◌∙◌, refl, subst, true}
use Rattle.std.specs.Prelude.{IfSome}
use Rattle.vortex_table_zonemaps.specs.Views.{IsViewIn}
use Rattle.vortex_table_zonemaps.specs.declared.views.Views.{Views}
use Rattle.vortex_table_zonemaps.proofs.ViewLemmas.{views_kept, view_put}
use Rattle.vortex_table_zonemaps.proofs.views.Views.put.Goals as goal

pub returns-in_err-view-clause-kept : goal.returns-in_err-view-clause-kept
returns-in_err-view-clause-kept c = λ f cs many is.
    let old = c.args.self.now in let new : Views = record { kind = old.kind; views = old.views; bytes = c.view_in.new.bytes } in
    views_kept f old new cs c.args.count many c.view_in.ensures.grown is (record { values = λ h. refl; flags = λ h. refl })

pub returns-in_default-clause-kept : goal.returns-in_default-clause-kept
returns-in_default-clause-kept c = λ f cs many is.
    let old = c.args.self.now in let new : Views = record { kind = old.kind; views = old.views; bytes = c.view_in.new.bytes } in
    views_kept f old new cs c.args.count many c.view_in.ensures.grown is (record { values = λ h. refl; flags = λ h. refl })

pub returns-in_err-put-clause-kept : goal.returns-in_err-put-clause-kept
returns-in_err-put-clause-kept c = λ f cs many is.
    let old = c.args.self.now in let new : Views = record { kind = old.kind; views = c.put.new.self; bytes = c.view_in.new.bytes } in
    views_kept f old new cs c.args.count many c.view_in.ensures.grown is c.put.ensures.kept

pub returns-clause-kept : goal.returns-clause-kept
returns-clause-kept c = λ f cs many is.
    let old = c.args.self.now in let new : Views = record { kind = old.kind; views = c.put.new.self; bytes = c.view_in.new.bytes } in
    views_kept f old new cs c.args.count many c.view_in.ensures.grown is c.put.ensures.kept

pub returns-clause-put : goal.returns-clause-put
returns-clause-put c = λ held f cs many is.
    let old = c.args.self.now in let new : Views = record { kind = old.kind; views = c.put.new.self; bytes = c.view_in.new.bytes } in
    let told = subst (λ o. IfSome o (IsViewIn c.view_in.new.bytes.items c.as_slice.result.now)) c.in-Some.is c.in_ok-view.ensures.view in
    view_put f old new cs c.args.count many c.view_in.ensures.grown is c.in-Some.view true (f c.args.value.now) told.0 c.in_ok-put.ensures.put (λ i. f ((told.1 ∙ c.as_slice.ensures) i))
