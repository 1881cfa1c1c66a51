use Rattle.std.proofs.Common.{◌≡◌, ◌∙◌, ap, sym, subst, not, cond}
use Rattle.std.specs.Prelude.{IfOk}
use Rattle.std.proofs.lemmas.Result.{IfOk-weaker}
use Rattle.vortex_stats_bind.specs.Bound.{each, some}
use Rattle.vortex_stats_bind.specs.BoundTree.{bound_tree}
use Rattle.vortex_stats_select.specs.Asked.{seen}
use Rattle.vortex_stats_select.specs.Wants.{wanted_rows}
use Rattle.vortex_stats_select.proofs.AskedLemmas.{joined_rows, first_seen, last_seen, and_wanted, and_turned, or_wanted, or_turned}
use Rattle.vortex_stats_select.proofs.select.+asked.Goals as goal

pub both_parts-returns : goal.both_parts-returns
both_parts-returns g t c =
    let rows = g.S.Columns.rows c.args.columns.now in let want = c.args.want in let join = c.args.join in
    let xs = wanted_rows want c.args.first.now rows in let ys = wanted_rows want c.args.last.now rows in let mask = c.in_ok-mask.mask.items in
    IfOk-weaker c.part_behind.result _ _ (λ all is. ap (seen c.args.asked) is ∙ first_seen c.args.asked join mask xs ys c.in_ok-mask.ensures)
    c.part_behind.ensures

pub part_behind-returns-then-narrow : goal.part_behind-returns-then-narrow
part_behind-returns-then-narrow g t c =
    let rows = g.S.Columns.rows c.args.columns.now in let ms = c.args.mask.items in
    c.narrow.ensures ∙ (λ i. cond (c.if-narrow.true i) (joined_rows c.args.at ms (wanted_rows c.args.want c.args.last.now rows)) ms)

pub part_behind-returns : goal.part_behind-returns
part_behind-returns g t c =
    let rows = g.S.Columns.rows c.args.columns.now in let at = c.args.at in let ms = c.args.mask.items in
    let ys = wanted_rows c.args.want c.args.last.now rows in let behind = c.open_behind-asked.ensures in
    let same = c.narrow.ensures ∙ (λ i. cond (c.if-narrow.false i) (joined_rows at ms ys) ms) in
    let told = c.in_ok-rows.ensures in
    let all = c.in_ok-rows.rows.items in let view = c.deref.ensures.value in
    c.join.ensures ∙ (λ i. joined_rows at (sym view i) (c.deref-2.ensures.value i))
    ∙ last_seen at c.deref.result.now all ys (sym (behind all) ∙ told ∙ behind ys)
    ∙ ap (λ xs. joined_rows at xs ys) (view ∙ same)

pub select_asked-returns-then-is_late : goal.select_asked-returns-then-is_late
select_asked-returns-then-is_late g t c =
    let rows = g.S.Columns.rows c.args.columns.now in let want = c.args.want in
    let x = c.in-And.x.value in let y = c.in-And.y.value in
    let same : c.args.predicate.now ≡ each x y = sym c.predicate.view_is ∙ ap bound_tree c.in-And.is in
    subst (λ rs. IfOk c.both_parts.result (λ mask. seen c.args.asked mask.items ≡ seen c.args.asked rs))
    ((λ i. joined_rows want (wanted_rows want (c.deref-then-is_late.ensures i) rows) (wanted_rows want (c.deref-then-is_late-2.ensures i) rows))
    ∙ and_turned want x y rows ∙ ap (λ b. wanted_rows want b rows) (sym same)) c.both_parts.ensures

pub select_asked-returns-else-is_late : goal.select_asked-returns-else-is_late
select_asked-returns-else-is_late g t c =
    let rows = g.S.Columns.rows c.args.columns.now in let want = c.args.want in
    let x = c.in-And.x.value in let y = c.in-And.y.value in
    let same : c.args.predicate.now ≡ each x y = sym c.predicate.view_is ∙ ap bound_tree c.in-And.is in
    subst (λ rs. IfOk c.both_parts-else-is_late.result (λ mask. seen c.args.asked mask.items ≡ seen c.args.asked rs))
    ((λ i. joined_rows want (wanted_rows want (c.deref-else-is_late.ensures i) rows) (wanted_rows want (c.deref-else-is_late-2.ensures i) rows))
    ∙ and_wanted want x y rows ∙ ap (λ b. wanted_rows want b rows) (sym same)) c.both_parts-else-is_late.ensures

pub select_asked-returns-then-is_late-2 : goal.select_asked-returns-then-is_late-2
select_asked-returns-then-is_late-2 g t c =
    let rows = g.S.Columns.rows c.args.columns.now in let want = c.args.want in
    let x = c.in-Or.x.value in let y = c.in-Or.y.value in
    let same : c.args.predicate.now ≡ some x y = sym c.predicate.view_is ∙ ap bound_tree c.in-Or.is in
    subst (λ rs. IfOk c.both_parts-then-is_late-2.result (λ mask. seen c.args.asked mask.items ≡ seen c.args.asked rs))
    ((λ i. joined_rows (not want) (wanted_rows want (c.deref-then-is_late-2-2.ensures i) rows) (wanted_rows want (c.deref-then-is_late-2-3.ensures i) rows))
    ∙ or_turned want x y rows ∙ ap (λ b. wanted_rows want b rows) (sym same)) c.both_parts-then-is_late-2.ensures

pub select_asked-returns-else-is_late-2 : goal.select_asked-returns-else-is_late-2
select_asked-returns-else-is_late-2 g t c =
    let rows = g.S.Columns.rows c.args.columns.now in let want = c.args.want in
    let x = c.in-Or.x.value in let y = c.in-Or.y.value in
    let same : c.args.predicate.now ≡ some x y = sym c.predicate.view_is ∙ ap bound_tree c.in-Or.is in
    subst (λ rs. IfOk c.both_parts-else-is_late-2.result (λ mask. seen c.args.asked mask.items ≡ seen c.args.asked rs))
    ((λ i. joined_rows (not want) (wanted_rows want (c.deref-else-is_late-2-2.ensures i) rows) (wanted_rows want (c.deref-else-is_late-2-3.ensures i) rows))
    ∙ or_wanted want x y rows ∙ ap (λ b. wanted_rows want b rows) (sym same)) c.both_parts-else-is_late-2.ensures
