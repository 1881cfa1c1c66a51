use Rattle.std.proofs.Common.{◌∙◌, sym, ap, Some, slice_get, length, arith}
use Rattle.std.proofs.lemmas.List.{length-map}
use Rattle.vortex_dtype_path.specs.View.{step_of, steps_of}
use Rattle.vortex_dtype_path.proofs.Nodes.{read_step}
use Rattle.vortex_dtype_path.proofs.Hung.{hung_whole, ok_then, where_so}
use Rattle.vortex_dtype_path.proofs.path_tree.hang.Goals as goal

pub returns-clause-ok : goal.returns-clause-ok
returns-clause-ok c =
    let old = c.args.nodes.now in
    let fs = c.parts.result.now in
    let len = length-map fs step_of in
    let same = ap length c.parts.ensures in
    let read = ap (λ l. slice_get l c.args.taken) (sym c.parts.ensures)
    ∙ read_step fs c.args.taken c.index-parts-taken.result (omega (arith, c.requires.part, len, same)) c.index-parts-taken.is
    ∙ ap Some (sym c.in_ok-step.ensures.cases) in
    hung_whole old.items c.append.new.self.items c.link.new.nodes.items c.reserve.new.self.items c.in_ok-branch.branch.items c.args.at c.len-first.result c.args.taken (step_of c.in_ok-step.step) (steps_of c.args.path)
    c.requires.tree (omega (arith, c.len-first.ensures, old.ok.0)) (omega (arith, c.requires.there, old.ok.0)) c.requires.part c.requires.led c.requires.ends read
    c.in_ok-link.ensures.ok c.in_ok-reserve.ensures.items c.in_ok-branch.ensures.branch
    (where_so _ _ _ _ c.append.ensures.items (ok_then c.append.result (sym c.is_err.ensures.value ∙ c.if-is_err.false)))
