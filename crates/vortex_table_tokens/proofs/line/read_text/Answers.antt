use Rattle.std.proofs.Common.{◌≡◌, [], sym, ◌∙◌, subst, arith}
use Rattle.std.proofs.lemmas.Result.{IfOk-weaker}
use Rattle.json.specs.Lex.{tokens}
use Rattle.serde_json.specs.Data.{object, no_members}
use Rattle.vortex_table_tokens.specs.Begins.{BeginsMembers}
use Rattle.vortex_table_tokens.proofs.Grammar.{begins_object}
use Rattle.vortex_table_tokens.proofs.line.read_text.Goals as goal

pub returns-in-None : goal.returns-in-None
returns-in-None c =
    let h = c.in_ok-line.ensures in
    let end : c.take_members.new.reader ≡ [] = grind arith in
    let begins : BeginsMembers 126 c.take_object.new.reader no_members h.0 [] = subst (λ ts. BeginsMembers 126 c.take_object.new.reader no_members h.0 ts) end h.1 in
    let is = sym c.in_ok-reader.ensures.ok ∙ c.in_ok-take_object.ensures in
    IfOk-weaker c.command_of_members.result _ _ (λ command f. (object h.0, begins_object 127 (tokens c.args.text.now) _ [] h.0 (omega arith) is begins, h.2.whole, f h.0 h.2)) c.command_of_members.ensures
