use Rattle.std.proofs.Common.{rules, ◌≡◌, ◌+◌, ◌-◌, sym, ◌∙◌, subst, ap, arith, length}
use Rattle.std.proofs.lemmas.Result.{IfOk-weaker}
use Rattle.vortex_arrays_model.specs.Layout.{fixed_lists, records}
use Rattle.vortex_arrays_model.specs.Parts.{columns_of}
use Rattle.vortex_arrays_model.specs.Picks.{Picks}
use Rattle.vortex_arrays_model.proofs.PicksLemmas.{picks_columns}
use Rattle.vortex_arrays_core.specs.LayoutOf.{valid_of, layout_of}
use Rattle.vortex_arrays_core.specs.Flags.{flags_of}
use Rattle.vortex_arrays_core.proofs.Picked.{picks_lists_between, records_flagged}
use Rattle.vortex_arrays_core.proofs.+slice.Goals as goal

pub array::ArrayRef::rows_between-returns-in_ok-elements-in-FixedSizeList-clause-rows : goal.array::ArrayRef::rows_between-returns-in_ok-elements-in-FixedSizeList-clause-rows
array::ArrayRef::rows_between-returns-in_ok-elements-in-FixedSizeList-clause-rows t c =
    let whole : c.args.self.now ≡ fixed_lists c.in-FixedSizeList.elements c.in-FixedSizeList.size c.in-FixedSizeList.len (valid_of c.in-FixedSizeList.validity) = sym c.self.view_is ∙ (λ i. layout_of (sym c.deref.ensures i).layout) ∙ ap layout_of c.in-FixedSizeList.is in
    let p = picks_lists_between c.in-FixedSizeList.elements c.in_ok-elements-in-FixedSizeList.elements c.in-FixedSizeList.size c.in-FixedSizeList.len c.args.start c.args.end c.elements_between-range.result.start c.elements_between-range.result.end (valid_of c.in-FixedSizeList.validity) (valid_of c.in_ok-validity-in-FixedSizeList.validity) c.requires.order c.elements_between-range.ensures.start c.elements_between-range.ensures.end c.in_ok-elements-in-FixedSizeList.ensures.rows c.in_ok-validity-in-FixedSizeList.ensures in
    let q : Picks c.args.self.now (fixed_lists c.in_ok-elements-in-FixedSizeList.elements c.in-FixedSizeList.size (c.args.end - c.args.start) (valid_of c.in_ok-validity-in-FixedSizeList.validity)) (c.args.end - c.args.start) (λ i. c.args.start + i) = subst (λ a. Picks a (fixed_lists c.in_ok-elements-in-FixedSizeList.elements c.in-FixedSizeList.size (c.args.end - c.args.start) (valid_of c.in_ok-validity-in-FixedSizeList.validity)) (c.args.end - c.args.start) (λ i. c.args.start + i)) (sym whole) p in
    search (rules, q)

pub array::ArrayRef::rows_between-returns-in_ok-clone-in-Struct-clause-flags : goal.array::ArrayRef::rows_between-returns-in_ok-clone-in-Struct-clause-flags
array::ArrayRef::rows_between-returns-in_ok-clone-in-Struct-clause-flags t c =
    let whole : c.args.self.now ≡ records (columns_of c.in-Struct.names.value c.in-Struct.fields.items) c.in-Struct.len (valid_of c.in-Struct.validity) = sym c.self.view_is ∙ (λ i. layout_of (sym c.deref.ensures i).layout) ∙ ap layout_of c.in-Struct.is in
    let kept = records_flagged c.in-Struct.names.value c.in_ok-clone-in-Struct.field-0.value c.in-Struct.fields.items c.in_ok-fields-in-Struct.fields.items (c.args.end - c.args.start) c.in-Struct.len (valid_of c.in-Struct.validity) (valid_of c.in_ok-validity-in-Struct.validity) c.in_ok-fields-in-Struct.ensures.flags in
    IfOk-weaker c.of_records.result _ _ (λ r is. ap flags_of is ∙ kept ∙ ap flags_of (sym whole)) c.of_records.ensures

pub slice::fields_between-returns-clause-parts : goal.slice::fields_between-returns-clause-parts
slice::fields_between-returns-clause-parts t c =
    let e = c.deref-field-items.ensures.value in
    let all : c.loop-field.field-index ≡ length c.args.fields.now.items = rw (← e) (omega arith) in
    picks_columns c.args.names.now c.args.fields.now.items c.loop-field.parts.items (c.args.end - c.args.start) (λ i. c.args.start + i) (c.loop-field.invariant.many ∙ all) (λ k d h. c.loop-field.invariant.each k d (omega (arith, all)))
