use Rattle.std.proofs.Common.{None}
use Rattle.vortex_model.specs.Content.{raw_null}
use Rattle.vortex_table_columns.proofs.NestedLemmas.{gains_at, record_moved, null_list_moved, sized_moved}
use Rattle.vortex_table_columns.proofs.nested.NestedBuilder.push_null.Goals as goal

pub returns-in_ok-push-in-Records : goal.returns-in_ok-push-in-Records
returns-in_ok-push-in-Records c =
    let at = c.in-Records in
    let h = c.in_ok-fill_all-in-Records.ensures in
    gains_at c.args.self.now _ raw_null _ at.is (record_moved at.present _ c.push.new.self None at.columns _ c.fill_all.new.columns h.0 at.present-is at.columns-is h.1 c.in_ok-push-in-Records.ensures.items)

pub returns-in_ok-push-in-Lists : goal.returns-in_ok-push-in-Lists
returns-in_ok-push-in-Lists c =
    let at = c.in-Lists in
    gains_at c.args.self.now _ raw_null _ at.is (null_list_moved at.sizes _ c.push-in-Lists.new.self at._items _ at.sizes-is at._items-is c.in_ok-push-in-Lists.ensures.items)

pub returns-in_ok-push-in-FixedLists : goal.returns-in_ok-push-in-FixedLists
returns-in_ok-push-in-FixedLists c =
    let at = c.in-FixedLists in
    let h = c.in_ok-fill_times-in-FixedLists.ensures in
    gains_at c.args.self.now _ raw_null _ at.is (sized_moved at.size _ at.present _ c.push-in-FixedLists.new.self None at.items _ c.deref_mut.result.now c.fill_times.new.column h.0 at.size-is at.present-is at.items-is c.deref_mut.ensures.value
    h.2 h.1 c.in_ok-push-in-FixedLists.ensures.items)
