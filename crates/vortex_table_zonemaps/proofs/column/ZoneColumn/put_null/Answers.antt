use Rattle.std.proofs.Common.{◌++◌, ◌∷◌, [], refl, sym, subst, false, pos}
use Rattle.std.proofs.lemmas.Result.{on_ok_weaker}
use Rattle.vortex_arrays_model.specs.Layout.{string_content}
use Rattle.vortex_arrays_core.specs.LayoutOf.{strings_of}
use Rattle.vortex_model.specs.Content.{boolean, integer, null}
use Rattle.vortex_table_zonemaps.specs.Column.{IsColumnOf}
use Rattle.vortex_table_zonemaps.specs.Views.{AreViewsKnown}
use Rattle.vortex_table_zonemaps.proofs.Columns.{known_kept, known_put}
use Rattle.vortex_table_zonemaps.proofs.column.ZoneColumn.put_null.Goals as goal

pub returns-in-Bools-clause-kept : goal.returns-in-Bools-clause-kept
returns-in-Bools-clause-kept c = λ cs many is.
    known_kept boolean c.in-Bools.known c.put.new.self cs c.args.count many (subst (λ s. IsColumnOf s cs) c.in-Bools.is is) c.put.ensures.kept

pub returns-in-Bools-clause-put : goal.returns-in-Bools-clause-put
returns-in-Bools-clause-put c = on_ok_weaker c.put.result (λ put. λ cs many is.
    known_put boolean c.in-Bools.known c.put.new.self cs c.args.count many (subst (λ s. IsColumnOf s cs) c.in-Bools.is is) false false null put refl) c.put.ensures.put

pub returns-in-Integers-clause-kept : goal.returns-in-Integers-clause-kept
returns-in-Integers-clause-kept c = λ cs many is.
    known_kept integer c.in-Integers.known c.put-in-Integers.new.self cs c.args.count many (subst (λ s. IsColumnOf s cs) c.in-Integers.is is) c.put-in-Integers.ensures.kept

pub returns-in-Integers-clause-put : goal.returns-in-Integers-clause-put
returns-in-Integers-clause-put c = on_ok_weaker c.put-in-Integers.result (λ put. λ cs many is.
    known_put integer c.in-Integers.known c.put-in-Integers.new.self cs c.args.count many (subst (λ s. IsColumnOf s cs) c.in-Integers.is is) (pos 0) false null put refl)
    c.put-in-Integers.ensures.put

pub returns-in-Strings-clause-put : goal.returns-in-Strings-clause-put
returns-in-Strings-clause-put c = on_ok_weaker c.put_null.result (λ put. λ cs many is.
    let was = subst (λ s. IsColumnOf s cs) c.in-Strings.is is in let new = c.put_null.new.self in
    subst (λ k. AreViewsKnown (string_content (strings_of k)) new (cs ++ null ∷ [])) (sym c.put_null.ensures.kind)
    (put (string_content (strings_of c.in-Strings.views.kind)) cs many was)) c.put_null.ensures.put
