use Rattle.std.proofs.Common.{◌∙◌, ap, sym, subst, arith}
use Rattle.vortex_table_zonemaps.specs.Views.{IsViewIn}
use Rattle.vortex_table_zonemaps.proofs.ViewLemmas.{view_made}
use Rattle.vortex_table_zonemaps.proofs.views.view_in.Goals.{then-value-gt-MAX_INLINED_SIZE+in_ok-extend_from_slice, else-value-gt-MAX_INLINED_SIZE}
use Rattle.vortex_table_zonemaps.proofs.views.view_in.Goals as goal

pub returns-clause-view : goal.returns-clause-view
returns-clause-view c =
    let old = c.args.bytes.now in let value = c.args.value.now in let bytes = c.if-value-gt-MAX_INLINED_SIZE.bytes.items in let o = c.in-Ok.offset in
    let short = c.if-value.false in let count = c.len.ensures in
    let few = c.in-Ok.ensures.0 in let offset = c.in-Ok.ensures.1 in let ok = old.ok.0 in
    subst (IsViewIn bytes value) (sym c.make_view.ensures)
    (view_made old.items bytes value o (omega (arith, short)) (omega (arith, few, offset)) (omega (arith, offset, count, ok)) (elim c.if-value-gt-MAX_INLINED_SIZE.branch [
      | then-value-gt-MAX_INLINED_SIZE+in_ok-extend_from_slice w ↦ λ long. ap (λ b. b.items) w.bytes-is ∙ w.in_ok-extend_from_slice.ensures.items
      | else-value-gt-MAX_INLINED_SIZE w ↦ λ long. let less = w.if-value-gt-MAX_INLINED_SIZE.false in absurd (omega (arith, long, less))
    ]))
