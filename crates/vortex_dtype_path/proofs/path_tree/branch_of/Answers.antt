use Rattle.std.proofs.Common.{◌≡◌, ◌∙◌, ◌+◌, ◌-◌, ◌++◌, ◌∷◌, [], sym, ap, refl, slice_get, drop, None, arith}
use Rattle.std.specs.Vec.{vec_len}
use Rattle.std.below.core.proofs.iter.Serving.{as_err}
use Rattle.std.proofs.lemmas.Grind.{common_steps}
use Rattle.vortex_dtype_path.specs.View.{step_of, steps_of}
use Rattle.vortex_dtype_path.specs.Tree.{nodes_of, branch}
use Rattle.vortex_dtype_path.proofs.Nodes.{read_step}
use Rattle.vortex_dtype_path.proofs.Hung.{branch_more}
use Rattle.vortex_dtype_path.proofs.path_tree.branch_of.Goals as goal

pub loop-i-preserved : goal.loop-i-preserved
loop-i-preserved c =
    let fs = c.parts-steps.result.now in
    let s = step_of c.index-steps-i.result in
    let n = vec_len c.loop-i.nodes in
    let read = ap (λ l. slice_get l c.loop-i.i) (sym c.parts-steps.ensures) ∙ read_step fs c.loop-i.i c.index-steps-i.result c.loop-i-test.true c.index-steps-i.is in
    let number : c.args.first + (c.loop-i.i - c.args.from) + 1 ≡ c.args.first + n + 1 = omega (arith, c.loop-i.invariant.as_many) in
    let edge = c.in_ok-edges.ensures ∙ ap (λ k. (s, k) ∷ []) number in
    let more = branch_more c.loop-i.nodes.items c.push.new.self.items (record { path = None; edges = c.in_ok-edges.edges }) (steps_of c.args.path) c.args.first n c.loop-i.i s _ c.in_ok-push.ensures.items refl edge read c.loop-i.invariant.so_far in
    record {
      so_far = ap (λ m. nodes_of c.push.new.self.items ++ branch (c.args.first + m) (steps_of c.args.path) (drop (c.loop-i.i + 1) (steps_of c.args.path))) c.in_ok-push.ensures.len ∙ more;
      as_many = omega (arith, c.in_ok-push.ensures.len, c.loop-i.invariant.as_many);
    }

pub returns-in_err-push-2-clause-len : goal.returns-in_err-push-2-clause-len
returns-in_err-push-2-clause-len c = grind (arith, (as_err c.from_residual-in_err-push-2.ensures.0).1)

pub overflow_add-first : goal.overflow_add-first
overflow_add-first c = grind (arith, common_steps)

pub overflow_add-first-in-loop-i : goal.overflow_add-first-in-loop-i
overflow_add-first-in-loop-i c = grind (arith, common_steps)

pub overflow_sub-i : goal.overflow_sub-i
overflow_sub-i c = grind (arith, common_steps)

pub loop-i-init : goal.loop-i-init
loop-i-init c = grind (arith, common_steps)

pub bounds-steps-i : goal.bounds-steps-i
bounds-steps-i c = grind (arith, common_steps)

pub returns-in_err-push-2-clause-branch : goal.returns-in_err-push-2-clause-branch
returns-in_err-push-2-clause-branch c = grind (arith, (as_err c.from_residual-in_err-push-2.ensures.0).1)

pub returns-in_err-edges-clause-branch : goal.returns-in_err-edges-clause-branch
returns-in_err-edges-clause-branch c = grind (arith, (as_err c.from_residual.ensures.0).1)

pub returns-clause-branch : goal.returns-clause-branch
returns-clause-branch c = grind (arith, common_steps)

pub returns-in_err-edges-clause-len : goal.returns-in_err-edges-clause-len
returns-in_err-edges-clause-len c = grind (arith, (as_err c.from_residual.ensures.0).1)

pub offset_bounds-steps-i : goal.offset_bounds-steps-i
offset_bounds-steps-i c = grind (arith, common_steps)

pub returns-in_err-push-clause-len : goal.returns-in_err-push-clause-len
returns-in_err-push-clause-len c = grind (arith, (as_err c.from_residual-in_err-push.ensures.0).1)

pub returns-in_err-push-clause-branch : goal.returns-in_err-push-clause-branch
returns-in_err-push-clause-branch c = grind (arith, (as_err c.from_residual-in_err-push.ensures.0).1)

pub returns-clause-len : goal.returns-clause-len
returns-clause-len c = grind (arith, common_steps)
