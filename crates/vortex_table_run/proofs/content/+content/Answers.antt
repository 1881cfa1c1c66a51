use Rattle.std.proofs.Common.{◌++◌, ap, sym, ◌∙◌, false}
use Rattle.std.proofs.lemmas.Result.{on_ok_weaker}
use Rattle.vortex_arrays_model.specs.Layout.{content_at, span}
use Rattle.vortex_arrays_core.specs.LayoutOf.{layout_of}
use Rattle.vortex_table_response.specs.Text.{contents_text}
use Rattle.vortex_table_run.proofs.Contents.{one_more_row}
use Rattle.vortex_table_run.proofs.content.+content.Goals as goal

pub push_items-returns-in-Primitive : goal.push_items-returns-in-Primitive
push_items-returns-in-Primitive t c =
    on_ok_weaker c.push_integers.result (λ e. e ∙ ap (λ a. c.args.out.now.items ++ contents_text false (span (content_at a) c.args.start c.args.count)) (ap layout_of (sym c.in-Primitive.is) ∙ c.layout.ensures.layout)) c.push_integers.ensures

pub push_items-loop-k-preserved : goal.push_items-loop-k-preserved
push_items-loop-k-preserved t c =
    one_more_row c.loop-k.out.items c.push_comma.new.out.items c.push_content.new.out.items _ c.loop-k.later (content_at c.args.elements.now)
    c.args.start c.loop-k.k c.args.count c.loop-k-test.true c.in_ok-push_comma.ensures c.in_ok-push_content.ensures c.loop-k.invariant
