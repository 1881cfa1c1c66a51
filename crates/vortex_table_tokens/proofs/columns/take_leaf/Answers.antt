use Rattle.std.proofs.lemmas.Result.{IfOk-weaker}
use Rattle.vortex_table_tokens.proofs.ColumnLemmas.{leaf_read}
use Rattle.vortex_table_tokens.proofs.columns.take_leaf.Goals as goal

pub returns : goal.returns
returns c =
    IfOk-weaker c.push_token.result _ _ (λ v x. leaf_read c.args.column.now c.push_token.new.column c.args.reader.now c.next_token.new.reader _ c.in_ok-token.ensures x) c.push_token.ensures
