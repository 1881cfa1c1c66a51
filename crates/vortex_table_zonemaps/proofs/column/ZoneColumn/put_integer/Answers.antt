use Rattle.std.proofs.Common.{◌∙◌, rules, w64, ap, subst, true}
use Rattle.std.specs.Prelude.{FitsSigned}
use Rattle.std.specs.Int.{w128}
use Rattle.std.proofs.lemmas.Int.{to_z-of_z}
use Rattle.std.proofs.lemmas.Result.{on_ok_weaker}
use Rattle.vortex_model.specs.Content.{integer}
use Rattle.vortex_table_zonemaps.specs.Column.{IsColumnOf}
use Rattle.vortex_table_zonemaps.specs.Known.{IsPut}
use Rattle.vortex_table_zonemaps.proofs.Columns.{known_kept, known_put}
use Rattle.vortex_table_zonemaps.proofs.column.ZoneColumn.put_integer.Goals as goal

pub returns-in-Ok-clause-kept : goal.returns-in-Ok-clause-kept
returns-in-Ok-clause-kept c = λ cs many is.
    known_kept integer c.in-Integers.known c.put.new.self cs c.args.count many (subst (λ s. IsColumnOf s cs) c.in-Integers.is is) c.put.ensures.kept

pub returns-in-Ok-clause-put : goal.returns-in-Ok-clause-put
returns-in-Ok-clause-put c =
    let number = c.in-Ok.number in let known = c.in-Integers.known in let new = c.put.new.self in
    let fits : FitsSigned w64 c.in-Ok.number = search rules in let wide : FitsSigned w128 c.args.number = search rules in
    on_ok_weaker c.put.result (λ put. λ cs many is.
    known_put integer known new cs c.args.count many (subst (λ s. IsColumnOf s cs) c.in-Integers.is is) number true (integer c.args.number)
    (subst (λ z. IsPut c.args.count z true known new) (to_z-of_z w64 number fits) put)
    (ap integer (c.in-Ok.ensures.1 ∙ to_z-of_z w128 c.args.number wide))) c.put.ensures.put
