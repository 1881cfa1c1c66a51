use Rattle.std.proofs.Common.{List, ℕ, refl, subst}
use Rattle.vortex_model_table.specs.Reply.{Answers}
use Rattle.vortex_table_io.specs.Replies.{memory_text, ok_text}
use Rattle.vortex_table_io.specs.Responses.{Says, SaysLine, response_line}
use Rattle.vortex_table_io.specs.declared.line_handler.Response.{Response}
use Rattle.vortex_table_io.specs.declared.line_handler.Response.TheVariants.{Written, Short, Done, NoMemory}
use Rattle.vortex_table_io.proofs.run.decide.Goals as goal

says_line : {S : Type 0} (answers : Answers S (List ℕ)) (old : S) (line : List ℕ) (response : Response) (out : List ℕ) (new : S) → Says answers old line response out new → SaysLine answers old line (response_line response out) new
says_line answers old line Written out new h = h
says_line answers old line (Short text) out new h = (text, h, refl)
says_line answers old line Done out new h = (ok_text, h, refl)
says_line answers old line NoMemory out new h = (memory_text, h, refl)

pub returns-in-Ok : goal.returns-in-Ok
returns-in-Ok g c =
    subst (λ (x : List ℕ). SaysLine g.M.LineHandler.answers (g.M.LineHandler.view c.args.handler.now) x (response_line c.answer.result c.answer.new.out.items) (g.M.LineHandler.view c.answer.new.self)) c.in-Ok.ensures
    (says_line g.M.LineHandler.answers (g.M.LineHandler.view c.args.handler.now) c.in-Ok.line.now c.answer.result c.answer.new.out.items (g.M.LineHandler.view c.answer.new.self) c.answer.ensures)

pub returns-in-Err : goal.returns-in-Err
returns-in-Err g c = (memory_text, g.met.M.LineHandler.may_lack_memory (g.M.LineHandler.view c.args.handler.now) c.args.buffer.now.line.bytes, refl)
