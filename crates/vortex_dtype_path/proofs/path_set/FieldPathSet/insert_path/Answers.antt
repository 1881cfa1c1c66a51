use Rattle.std.proofs.Common.{◌∙◌, sym, ap, arith}
use Rattle.std.proofs.lemmas.List.{length-map}
use Rattle.std.proofs.lemmas.Bool.{not-false}
use Rattle.vortex_dtype_path.specs.Steps.{is_among}
use Rattle.vortex_dtype_path.specs.View.{steps_of}
use Rattle.vortex_dtype_path.specs.Tree.{nodes_of, node_of, kept_paths}
use Rattle.vortex_dtype_path.proofs.Kept.{no_more}
use Rattle.vortex_dtype_path.proofs.Sets.{inserted_again}
use Rattle.vortex_dtype_path.proofs.Hung.{on_true}
use Rattle.vortex_dtype_path.proofs.path_set.FieldPathSet.insert_path.Goals as goal

pub overflow_add-self : goal.overflow_add-self
overflow_add-self c =
    let adds = on_true _ _ c.in_ok-is_new.ensures.ok c.if-is_new.true in
    let new = c.insert_in.new.nodes in
    omega (arith, adds.counted, no_more (nodes_of new.items), length-map new.items node_of, new.ok.0, new.ok.1, new.small, c.args.self.now.counted)

pub returns-else-is_new-clause-ok : goal.returns-else-is_new-clause-ok
returns-else-is_new-clause-ok c =
    let old = kept_paths (nodes_of c.args.self.now.nodes.items) in
    let kept = c.in_ok-is_new.ensures.same (λ h. absurd (cc (h, c.if-is_new.false))) in
    let there = not-false (is_among old (steps_of c.args.path)) (sym c.in_ok-is_new.ensures.fresh ∙ c.if-is_new.false) in
    λ q. ap (λ ks. is_among ks q) kept ∙ inserted_again old (steps_of c.args.path) q there
