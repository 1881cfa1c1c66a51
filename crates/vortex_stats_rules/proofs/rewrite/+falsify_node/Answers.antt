use Rattle.std.proofs.Common.{◌≡◌, ◌∙◌, ap, sym, arith, rules as std_rules}
use Rattle.vortex_model_rules.specs.Rules.{fals}
use Rattle.vortex_stats_bind.specs.Bound.{each, some, range_test, expression_of}
use Rattle.vortex_stats_bind.specs.BoundTree.{bound_tree}
use Rattle.vortex_stats_expr.specs.Tree.{is_strict}
use Rattle.vortex_stats_rules.specs.contracts.rewrite.falsify_node as contract
use Rattle.vortex_stats_rules.specs.Meanings.{rules_of, IsJudged}
use Rattle.vortex_stats_rules.specs.Table.{range_of}
use Rattle.vortex_stats_rules.proofs.Joining.{at_error}
use Rattle.vortex_stats_rules.proofs.Nodes.{weight, at_and, at_or, at_between, between_fault, at_alone}
use Rattle.vortex_stats_rules.proofs.rewrite.+falsify_node.Goals as goal

pub returns-in_ok-proofs-in-And-clause-answer : goal.returns-in_ok-proofs-in-And-clause-answer
returns-in_ok-proofs-in-And-clause-answer g t c =
    let x = c.deref.result.now in
    let y = c.deref-in-And.result.now in
    let same : c.args.e.now ≡ each x y = sym c.e.view_is ∙ ap bound_tree c.in-And.is ∙ (λ i. each (sym c.deref.ensures i) (sym c.deref-in-And.ensures i)) in
    λ k h.
    at_and k (rules_of (λ b. ((contract.dyn-1-ghosts g.dyn-1).0.entry b.vtable).1.meaning b.value) c.args.rules.now)
    c.join_answers.result c.args.e.now x y c.in_ok-left-in-And.left c.in_ok-right-in-And.right c.in_ok-built_in-in-And.built_in c.in_ok-proofs-in-And.proofs.items same h
    (c.in_ok-left-in-And.ensures.answer k) (c.in_ok-right-in-And.ensures.answer k) c.in_ok-built_in-in-And.ensures c.in_ok-proofs-in-And.ensures
    (c.join_answers.ensures.answer k h)

pub returns-in_ok-proofs-in-Or-clause-answer : goal.returns-in_ok-proofs-in-Or-clause-answer
returns-in_ok-proofs-in-Or-clause-answer g t c =
    let x = c.deref-in-Or.result.now in
    let y = c.deref-in-Or-2.result.now in
    let same : c.args.e.now ≡ some x y = sym c.e.view_is ∙ ap bound_tree c.in-Or.is ∙ (λ i. some (sym c.deref-in-Or.ensures i) (sym c.deref-in-Or-2.ensures i)) in
    λ k h.
    at_or k (rules_of (λ b. ((contract.dyn-1-ghosts g.dyn-1).0.entry b.vtable).1.meaning b.value) c.args.rules.now)
    c.join_answers-in-Or.result c.args.e.now x y c.in_ok-left-in-Or.left c.in_ok-right-in-Or.right c.in_ok-built_in-in-Or.built_in c.in_ok-proofs-in-Or.proofs.items same h
    (c.in_ok-left-in-Or.ensures.answer k) (c.in_ok-right-in-Or.ensures.answer k) c.in_ok-built_in-in-Or.ensures c.in_ok-proofs-in-Or.ensures
    (c.join_answers-in-Or.ensures.answer k h)

pub returns-in_ok-proofs-in-Between-clause-answer : goal.returns-in_ok-proofs-in-Between-clause-answer
returns-in_ok-proofs-in-Between-clause-answer g t c =
    let x = c.deref-in-Between.result.now in
    let lo = c.deref-in-Between-2.result.now in
    let hi = c.deref-in-Between-3.result.now in
    let range = c.deref-in-Between-4.result.now in
    let from = is_strict c.in-Between.options.lower_strict in
    let to = is_strict c.in-Between.options.upper_strict in
    let same : c.args.e.now ≡ range_test x lo hi from to = sym c.e.view_is ∙ ap bound_tree c.in-Between.is
    ∙ (λ i. range_test (sym c.deref-in-Between.ensures i) (sym c.deref-in-Between-2.ensures i) (sym c.deref-in-Between-3.ensures i) from to) in
    let made : range ≡ range_of x lo hi from to = c.deref-in-Between-4.ensures ∙ c.in_ok-range-in-Between.ensures in
    λ k h.
    at_between k (rules_of (λ b. ((contract.dyn-1-ghosts g.dyn-1).0.entry b.vtable).1.meaning b.value) c.args.rules.now)
    c.join_answers-in-Between.result c.args.e.now x lo hi range from to c.in_ok-built_in-in-Between.built_in c.in_ok-proofs-in-Between.proofs.items same made h
    (c.in_ok-built_in-in-Between.ensures.answer k) c.in_ok-proofs-in-Between.ensures (c.join_answers-in-Between.ensures.answer k h)

pub returns-in_err-built_in-in-Between-clause-answer :
    goal.returns-in_err-built_in-in-Between-clause-answer
returns-in_err-built_in-in-Between-clause-answer g t c =
    let x = c.deref-in-Between.result.now in
    let lo = c.deref-in-Between-2.result.now in
    let hi = c.deref-in-Between-3.result.now in
    let range = c.deref-in-Between-4.result.now in
    let from = is_strict c.in-Between.options.lower_strict in
    let to = is_strict c.in-Between.options.upper_strict in
    let same : c.args.e.now ≡ range_test x lo hi from to = sym c.e.view_is ∙ ap bound_tree c.in-Between.is
    ∙ (λ i. range_test (sym c.deref-in-Between.ensures i) (sym c.deref-in-Between-2.ensures i) (sym c.deref-in-Between-3.ensures i) from to) in
    let made : range ≡ range_of x lo hi from to = c.deref-in-Between-4.ensures ∙ c.in_ok-range-in-Between.ensures in
    let err = c.in_err-built_in-in-Between.field-0.0 in
    λ k h.
    let rules = (rules_of (λ b. ((contract.dyn-1-ghosts g.dyn-1).0.entry b.vtable).1.meaning b.value) c.args.rules.now) in
    at_error c.from_residual-in_err-built_in-in-Between.result err (λ r. IsJudged k r (fals k rules (expression_of c.args.e.now)))
    c.from_residual-in_err-built_in-in-Between.ensures.1
    (between_fault k rules c.args.e.now x lo hi range from to err same made h (c.in_err-built_in-in-Between.ensures.answer k))

pub returns-in_ok-proofs-in-Literal-clause-answer : goal.returns-in_ok-proofs-in-Literal-clause-answer
returns-in_ok-proofs-in-Literal-clause-answer g t c =
    λ k h.
    at_alone k (rules_of (λ b. ((contract.dyn-1-ghosts g.dyn-1).0.entry b.vtable).1.meaning b.value) c.args.rules.now)
    c.join_answers-in-Literal.result c.args.e.now c.in_ok-proofs-in-Literal.proofs.items (search std_rules) h c.in_ok-proofs-in-Literal.ensures
    (c.join_answers-in-Literal.ensures.answer k h)

pub falsify_node-requires-in-Between : goal.falsify_node-requires-in-Between
falsify_node-requires-in-Between g t c =
    let same : weight c.args.e.now ≡ 4 = ap weight (sym c.e.view_is ∙ ap bound_tree c.in-Between.is) in
    let made : weight c.deref-in-Between-4.result.now ≡ 3 = ap weight (c.deref-in-Between-4.ensures ∙ c.in_ok-range-in-Between.ensures) in
    let falls = c.decreases in
    (omega (arith, same, made, falls), tt)
