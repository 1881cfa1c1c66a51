use Rattle.std.proofs.Common.{refl, subst, true}
use Rattle.std.proofs.lemmas.Result.{on_ok_weaker}
use Rattle.vortex_model.specs.Content.{boolean}
use Rattle.vortex_table_zonemaps.specs.Column.{IsColumnOf}
use Rattle.vortex_table_zonemaps.proofs.Columns.{known_kept, known_put}
use Rattle.vortex_table_zonemaps.proofs.column.ZoneColumn.put_boolean.Goals as goal

pub returns-in-Bools-clause-kept : goal.returns-in-Bools-clause-kept
returns-in-Bools-clause-kept c = λ cs many is.
    known_kept boolean c.in-Bools.known c.put.new.self cs c.args.count many (subst (λ s. IsColumnOf s cs) c.in-Bools.is is) c.put.ensures.kept

pub returns-in-Bools-clause-put : goal.returns-in-Bools-clause-put
returns-in-Bools-clause-put c = on_ok_weaker c.put.result (λ put. λ cs many is.
    known_put boolean c.in-Bools.known c.put.new.self cs c.args.count many (subst (λ s. IsColumnOf s cs) c.in-Bools.is is) c.args.flag true (boolean c.args.flag) put refl)
    c.put.ensures.put
