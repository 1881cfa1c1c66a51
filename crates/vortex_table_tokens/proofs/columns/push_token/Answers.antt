use Rattle.vortex_model.specs.Content.{raw_null}
use Rattle.vortex_table_tokens.proofs.OneToken.{null_leaf}
use Rattle.vortex_table_tokens.proofs.ColumnLemmas.{boolean_cell_leaf, text_cell_leaf}
use Rattle.vortex_table_tokens.proofs.columns.push_token.Goals as goal

pub returns-in_ok-push_null-in-Null : goal.returns-in_ok-push_null-in-Null
returns-in_ok-push_null-in-Null c = rw c.in-Null.is (raw_null, c.in_ok-push_null-in-Null.ensures, null_leaf _)

pub returns-in-Number : goal.returns-in-Number
returns-in-Number c = rw c.in-Number.is c.push_number.ensures

pub returns-in_ok-push_text-in-String : goal.returns-in_ok-push_text-in-String
returns-in_ok-push_text-in-String c =
    let h = c.in_ok-push_text-in-String.ensures in
    rw c.in-String.is (h.0, h.2, text_cell_leaf _ _ h.0 h.1)

pub returns-in_ok-push_boolean-in-Bool : goal.returns-in_ok-push_boolean-in-Bool
returns-in_ok-push_boolean-in-Bool c =
    let h = c.in_ok-push_boolean-in-Bool.ensures in
    rw c.in-Bool.is (h.0, h.2, boolean_cell_leaf _ _ h.0 h.1)
