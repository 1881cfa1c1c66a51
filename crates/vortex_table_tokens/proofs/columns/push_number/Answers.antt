use Rattle.std.proofs.Common.{◌≡◌, Some, rules}
use Rattle.vortex_table_columns.specs.Columns.{column_type, number_cell}
use Rattle.vortex_table_tokens.proofs.ColumnLemmas.{number_cell_leaf}
use Rattle.vortex_table_tokens.proofs.columns.push_number.Goals as goal

pub returns : goal.returns
returns c =
    let k = column_type c.args.column.now in
    let z = c.in_ok-number.number in
    let h = c.in_ok-push_number.ensures in
    let is : number_cell k z ≡ Some h.0 = search (rules, h.1) in
    (h.0, h.2, number_cell_leaf k c.args.text.now z h.0 c.in_ok-number.ensures is)
