use Rattle.std.proofs.Common.{◌∙◌, sym, ap, subst, map, length, not, is_some, arith}
use Rattle.std.proofs.lemmas.List.{length-map}
use Rattle.vortex_dtype_path.specs.Steps.{is_among}
use Rattle.vortex_dtype_path.specs.View.{step_of, steps_of}
use Rattle.vortex_dtype_path.specs.Tree.{nodes_of, kept_paths, IsTree, reached, path_at}
use Rattle.vortex_dtype_path.proofs.Kept.{found, not_found}
use Rattle.vortex_dtype_path.proofs.Nodes.{stopped, inside_nodes, whole, on_err}
use Rattle.vortex_dtype_path.proofs.path_tree.insert_in.Goals as goal

pub hang-requires-clause-there : goal.hang-requires-clause-there
hang-requires-clause-there c =
    let nodes = c.plant.new.nodes in
    let led = subst (λ ns. IsTree (nodes_of ns)) (sym c.as_slice.ensures.value) c.in_ok-plant.ensures.tree in
    let len = ap length c.as_slice.ensures.value in
    let small = inside_nodes c.as_slice.result.now _ c.walk_down-at.result.0 led (omega (arith, len, nodes.ok.0, c.in_ok-plant.ensures.root)) c.walk_down-at.ensures.led in
    omega (arith, small, len, nodes.ok.0)

pub returns-then-taken-parts-clause-fresh : goal.returns-then-taken-parts-clause-fresh
returns-then-taken-parts-clause-fresh c =
    let nodes = nodes_of c.as_slice.result.now in
    let q = map step_of c.parts.result.now in
    let tree = subst (λ ns. IsTree (nodes_of ns)) (sym c.as_slice.ensures.value) c.in_ok-plant.ensures.tree in
    let one = length-map c.parts.result.now step_of in
    let two = length-map c.parts-2.result.now step_of in
    let same = ap length (c.parts.ensures ∙ sym c.parts-2.ensures) in
    let none = not_found nodes tree q (stopped nodes q c.walk_down-at.result.1 c.walk_down-at.result.0 (omega (arith, one, two, same, c.if-taken-parts.true)) c.walk_down-at.ensures.led c.walk_down-at.ensures.ends) in
    ap not (none ∙ ap (λ p. is_among (kept_paths nodes) p) c.parts.ensures
    ∙ ap (λ ks. is_among ks (steps_of c.args.path)) (ap (λ ns. kept_paths (nodes_of ns)) c.as_slice.ensures.value ∙ c.in_ok-plant.ensures.same))

pub returns-then-keeps-clause-fresh : goal.returns-then-keeps-clause-fresh
returns-then-keeps-clause-fresh c =
    let nodes = nodes_of c.as_slice.result.now in
    let q = map step_of c.parts.result.now in
    let tree = subst (λ ns. IsTree (nodes_of ns)) (sym c.as_slice.ensures.value) c.in_ok-plant.ensures.tree in
    let one = length-map c.parts.result.now step_of in
    let two = length-map c.parts-2.result.now step_of in
    let same = ap length (c.parts.ensures ∙ sym c.parts-2.ensures) in
    let all = whole q c.walk_down-at.result.1 (omega (arith, one, two, same, c.if-taken-parts.false)) in
    let there = found nodes tree q c.walk_down-at.result.0 (ap (reached nodes) (sym all) ∙ c.walk_down-at.ensures.led) in
    let is_at = c.keeps.ensures ∙ ap (λ ns. is_some (path_at (nodes_of ns) c.walk_down-at.result.0)) (c.as_slice-2.ensures.value ∙ sym c.as_slice.ensures.value) ∙ there
    ∙ ap (λ p. is_among (kept_paths nodes) p) c.parts.ensures
    ∙ ap (λ ks. is_among ks (steps_of c.args.path)) (ap (λ ns. kept_paths (nodes_of ns)) c.as_slice.ensures.value ∙ c.in_ok-plant.ensures.same) in
    ap not (sym c.if-keeps.true ∙ is_at)

pub keep-requires-clause-there : goal.keep-requires-clause-there
keep-requires-clause-there c =
    let nodes = c.plant.new.nodes in
    let led = subst (λ ns. IsTree (nodes_of ns)) (sym c.as_slice.ensures.value) c.in_ok-plant.ensures.tree in
    let len = ap length c.as_slice.ensures.value in
    let small = inside_nodes c.as_slice.result.now _ c.walk_down-at.result.0 led (omega (arith, len, nodes.ok.0, c.in_ok-plant.ensures.root)) c.walk_down-at.ensures.led in
    omega (arith, small, len, nodes.ok.0)

pub returns-clause-fresh : goal.returns-clause-fresh
returns-clause-fresh c =
    let nodes = nodes_of c.as_slice.result.now in
    let q = map step_of c.parts.result.now in
    let tree = subst (λ ns. IsTree (nodes_of ns)) (sym c.as_slice.ensures.value) c.in_ok-plant.ensures.tree in
    let one = length-map c.parts.result.now step_of in
    let two = length-map c.parts-2.result.now step_of in
    let same = ap length (c.parts.ensures ∙ sym c.parts-2.ensures) in
    let all = whole q c.walk_down-at.result.1 (omega (arith, one, two, same, c.if-taken-parts.false)) in
    let there = found nodes tree q c.walk_down-at.result.0 (ap (reached nodes) (sym all) ∙ c.walk_down-at.ensures.led) in
    let is_at = c.keeps.ensures ∙ ap (λ ns. is_some (path_at (nodes_of ns) c.walk_down-at.result.0)) (c.as_slice-2.ensures.value ∙ sym c.as_slice.ensures.value) ∙ there
    ∙ ap (λ p. is_among (kept_paths nodes) p) c.parts.ensures
    ∙ ap (λ ks. is_among ks (steps_of c.args.path)) (ap (λ ns. kept_paths (nodes_of ns)) c.as_slice.ensures.value ∙ c.in_ok-plant.ensures.same) in
    ap not (sym c.if-keeps.false ∙ is_at)

pub returns-in_err-hang-clause-refused : goal.returns-in_err-hang-clause-refused
returns-in_err-hang-clause-refused c =
    let nodes = nodes_of c.as_slice.result.now in
    let q = map step_of c.parts.result.now in
    let tree = subst (λ ns. IsTree (nodes_of ns)) (sym c.as_slice.ensures.value) c.in_ok-plant.ensures.tree in
    let one = length-map c.parts.result.now step_of in
    let two = length-map c.parts-2.result.now step_of in
    let same = ap length (c.parts.ensures ∙ sym c.parts-2.ensures) in
    let none = not_found nodes tree q (stopped nodes q c.walk_down-at.result.1 c.walk_down-at.result.0 (omega (arith, one, two, same, c.if-taken-parts.true)) c.walk_down-at.ensures.led c.walk_down-at.ensures.ends) in
    on_err _ _ (sym (none ∙ ap (λ p. is_among (kept_paths nodes) p) c.parts.ensures
    ∙ ap (λ ks. is_among ks (steps_of c.args.path)) (ap (λ ns. kept_paths (nodes_of ns)) c.as_slice.ensures.value ∙ c.in_ok-plant.ensures.same)))
