use Rattle.std.proofs.Common.{◌++◌, ◌∷◌, [], ap, sym, subst}
use Rattle.vortex_arrays_model.specs.Layout.{string_content}
use Rattle.vortex_arrays_core.specs.LayoutOf.{strings_of}
use Rattle.vortex_table_zonemaps.specs.Column.{IsColumnOf}
use Rattle.vortex_table_zonemaps.specs.Views.{AreViewsKnown}
use Rattle.vortex_table_zonemaps.proofs.column.ZoneColumn.put_string.Goals as goal

pub returns-then-branch-clause-put : goal.returns-then-branch-clause-put
returns-then-branch-clause-put c = λ cs many is.
    let was = subst (λ s. IsColumnOf s cs) c.in-Strings.is is in let held = c.if-branch.true in
    let kind = c.args.kind in let own = c.in-Strings.views.kind in let new = c.put.new.self in let value = c.args.value.now in
    let put = c.in_ok-put.ensures.put held (string_content (strings_of own)) cs many was in
    subst (λ k. AreViewsKnown (string_content (strings_of k)) new (cs ++ string_content (strings_of kind) value ∷ [])) (sym c.put.ensures.kind)
    (subst (λ x. AreViewsKnown (string_content (strings_of own)) new (cs ++ x ∷ [])) (ap (λ k. string_content (strings_of k) value) (c.in_ok-put.ensures.alike held)) put)
