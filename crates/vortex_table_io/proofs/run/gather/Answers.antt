use Rattle.std.proofs.Common.{◌≡◌, List, ℕ, [], ◌∷◌, ◌++◌, refl, sym, ap, ◌∙◌, append_assoc, rules}
use Rattle.std.proofs.lemmas.Result.{err_from_is_err_and}
use Rattle.vortex_table_io.proofs.ReplyLemmas.{FeedOk-none, FeedOk-more, FeedOk-line, FeedErr-line}
use Rattle.vortex_table_io.specs.declared.call.Call.TheVariants.{Failed}
use Rattle.vortex_table_io.proofs.CallLemmas.{passed-none, passed-append, ends-append}
use Rattle.vortex_table_io.proofs.run.gather.Goals as goal

-- what comes before, a line and the rest
seam : (front line after rest piece : List ℕ) → rest ≡ line ++ 10 ∷ after → front ++ rest ≡ piece → (front ++ line) ++ 10 ∷ after ≡ piece
seam front line after rest piece e h = append_assoc front line (10 ∷ after) ∙ ap (λ (x : List ℕ). front ++ x) (sym e) ∙ h

pub loop-line-init : goal.loop-line-init
loop-line-init g c = record { front = []; parts = refl; goes = FeedOk-none refl; fine = passed-none _ }

pub returns-in_err-gather_line-clause-part : goal.returns-in_err-gather_line-clause-part
returns-in_err-gather_line-clause-part g c =
    let failed = err_from_is_err_and c.from_residual.result c.from_residual.ensures.1 in
    let before = c.loop-line.invariant in
    let line = c.in-Some.line.now in
    let after = c.in-Some.after.now in
    let answer = c.in_err-gather_line.ensures.part in
    rw (failed.1) (FeedErr-line {x = g.W.Sink.history c.gather_line.new.writer} _ answer.0 answer.1 after
    (seam before.front line after c.loop-line.rest.now c.args.piece.now c.in-Some.ensures.1 before.parts)
    c.add.new.self.one_line answer.2 answer.3 (FeedOk-more line c.add.ensures before.goes))

pub loop-line-preserved : goal.loop-line-preserved
loop-line-preserved g c =
    let before = c.loop-line.invariant in
    let line = c.in-Some.line.now in
    let after = c.in-Some.after.now in
    let answer = c.in_ok-gather_line.ensures.ok in
    record {
      front = (before.front ++ line) ++ 10 ∷ [];
      parts = append_assoc (before.front ++ line) (10 ∷ []) after
          ∙ seam before.front line after c.loop-line.rest.now c.args.piece.now c.in-Some.ensures.1 before.parts;
      goes = FeedOk-line answer.0 c.add.new.self.one_line c.clear.ensures answer.1 answer.2 (FeedOk-more line c.add.ensures before.goes);
      fine = passed-append _ _ _ before.fine c.in_ok-gather_line.ensures.fine;
    }

pub returns-in_err-gather_line-clause-err : goal.returns-in_err-gather_line-clause-err
returns-in_err-gather_line-clause-err g c =
    let ends = ends-append Failed _ _ _ c.loop-line.invariant.fine c.in_err-gather_line.ensures.err.1 in search (rules, ends)
