use Rattle.std.proofs.Common.{sym, ap, ◌∙◌, rules}
use Rattle.vortex_dtype_proto.specs.View.{tree_of}
use Rattle.vortex_table_request.specs.Kinds.{type_read}
use Rattle.vortex_table_request.proofs.Meanings.{reading_without}
use Rattle.vortex_table_request.proofs.messages.meaning_of.Goals as goal

pub returns-in-Ok : goal.returns-in-Ok
returns-in-Ok c = ap type_read (sym (reading_without _ c.empty-session.ensures (tree_of c.args.message.now)) ∙ c.in-Ok.ensures)

pub returns : goal.returns
returns c =
    let same = reading_without _ c.empty-session.ensures (tree_of c.args.message.now) in
    search (rules, same)
