use Rattle.std.proofs.Common.{◌+◌, [], ◌∷◌, Some, refl, arith, ◌∙◌, ap}
use Rattle.std.specs.Prelude.{slice_set}
use Rattle.std.proofs.lemmas.List.{length-append}
use Rattle.vortex_table_columns.specs.Nested.{column_of, tuple_of}
use Rattle.vortex_table_columns.proofs.NestedLemmas.{gains_at, record_moved, empty_list_moved, sized_moved, gained_none, gained_more, gained_all, gains_none, gains_more}
use Rattle.vortex_table_columns.proofs.nested.+fill.Goals as goal

pub fill-returns-in_ok-push-in-Records : goal.fill-returns-in_ok-push-in-Records
fill-returns-in_ok-push-in-Records t c =
    let at = c.in-Records in
    let h = c.in_ok-fill_all-in-Records.ensures in
    (tuple_of h.0, gains_at c.args.column.now _ (tuple_of h.0) _ at.is (record_moved at.present _ c.push.new.self (Some tt) at.columns _ c.fill_all.new.columns h.0 at.present-is at.columns-is h.1 c.in_ok-push-in-Records.ensures.items))

pub fill-returns-in_ok-push-in-Lists : goal.fill-returns-in_ok-push-in-Lists
fill-returns-in_ok-push-in-Lists t c =
    let at = c.in-Lists in
    (tuple_of [], gains_at c.args.column.now _ (tuple_of []) _ at.is (empty_list_moved at.sizes _ c.push-in-Lists.new.self at._items _ at.sizes-is at._items-is c.in_ok-push-in-Lists.ensures.items))

pub fill-returns-in_ok-push-in-FixedLists : goal.fill-returns-in_ok-push-in-FixedLists
fill-returns-in_ok-push-in-FixedLists t c =
    let at = c.in-FixedLists in
    let h = c.in_ok-fill_times-in-FixedLists.ensures in (
      tuple_of h.0,
      gains_at c.args.column.now _ (tuple_of h.0) _ at.is (sized_moved at.size _ at.present _ c.push-in-FixedLists.new.self (Some tt) at.items _ c.deref_mut.result.now c.fill_times.new.column h.0 at.size-is at.present-is at.items-is c.deref_mut.ensures.value
          h.2 h.1 c.in_ok-push-in-FixedLists.ensures.items),
    )

pub fill_all-loop-i-init : goal.fill_all-loop-i-init
fill_all-loop-i-init t c = ([], gained_none c.args.columns.now.items)

pub fill_all-loop-i-preserved : goal.fill_all-loop-i-preserved
fill_all-loop-i-preserved t c =
    let l = c.loop-i in
    let h = c.in_ok-fill.ensures in
    (_, gained_more c.args.columns.now.items l.i l.columns.items (slice_set l.columns.items l.i c.fill.new.column) l.invariant.0 c.index_mut.result.now c.fill.new.column h.0 l.invariant.1 (omega arith) c.index_mut.ensures.value refl h.1)

pub fill_all-returns : goal.fill_all-returns
fill_all-returns t c =
    let l = c.loop-i in
    (l.invariant.0, gained_all c.args.columns.now.items l.i l.columns.items l.invariant.0 l.invariant.1 (omega (arith, l.invariant.1.many)))

pub fill_times-loop-init : goal.fill_times-loop-init
fill_times-loop-init t c = ([], refl, gains_none (column_of c.args.column.now))

pub fill_times-loop-preserved : goal.fill_times-loop-preserved
fill_times-loop-preserved t c =
    let l = c.loop in
    let h = c.in_ok-fill.ensures in
    (_, length-append l.invariant.0 (h.0 ∷ []) ∙ ap (λ n. n + 1) l.invariant.1, gains_more (column_of c.args.column.now) (column_of l.column) (column_of c.fill.new.column) l.invariant.0 h.0 l.invariant.2 h.1)

pub fill_times-returns : goal.fill_times-returns
fill_times-returns t c =
    let l = c.loop in
    (l.invariant.0, l.invariant.1 ∙ (omega (arith, c.loop-test.false, l.auto.counter-end)), l.invariant.2)
