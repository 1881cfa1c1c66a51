use Rattle.std.proofs.Common.{◌≡◌, ◌∷◌, ◌++◌, [], true, Some, rules}
use Rattle.vortex_model.specs.Valid.{in_range}
use Rattle.vortex_table_columns.specs.Numbers.{kind_in, integers_in}
use Rattle.vortex_table_columns.proofs.ColumnLemmas.{integer_taken}
use Rattle.vortex_table_columns.proofs.column.ColumnBuilder.push_number.Goals as goal

pub returns-in_ok-push-in-Integers : goal.returns-in_ok-push-in-Integers
returns-in_ok-push-in-Integers c =
    let z = c.args.number in
    let old = c.in-Integers.cells in
    let h = c.in_ok-push-in-Integers.ensures in
    let held : in_range (kind_in old) z ≡ true = search (rules, h.1.held) in
    let pushed : integers_in c.push.new.self ≡ integers_in old ++ Some z ∷ [] = search (rules, h.1.pushed) in
    rw c.in-Integers.is (integer_taken c.in-Integers.field-0 old c.push.new.self z (h.0, record { held = held; pushed = pushed }))
