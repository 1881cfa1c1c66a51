use Rattle.std.proofs.Common.{◌≡◌, ◌<◌, ◌∷◌, length, None, OnOk, ap, ◌∙◌, refl, arith, rules}
use Rattle.std.specs.Prelude.{slice_set}
use Rattle.std.proofs.lemmas.Result.{IfOk-weaker}
use Rattle.json.specs.Json.{after_end_array}
use Rattle.json.specs.Reads.{token_of}
use Rattle.vortex_table_columns.specs.Nested.{column_of}
use Rattle.vortex_table_columns.specs.declared.nested.NestedBuilder as nested
use Rattle.vortex_table_tokens.specs.Columns.{TakesValue}
use Rattle.vortex_table_tokens.proofs.ColumnLemmas.{leaf_moved, null_taken, array_taken, takes_at, value_at, record_moved, list_moved, sized_moved, record_left, cell_taken, record_end, list_left, item_taken, list_end}
use Rattle.vortex_table_tokens.proofs.columns.+cell.Goals as goal

pub take_cell-returns-in-Leaf : goal.take_cell-returns-in-Leaf
take_cell-returns-in-Leaf t c =
    let at = c.in-Leaf in
    let depth = c.args.depth in
    let old = c.args.reader.now in
    let new = c.take_leaf.new.reader in
    let held : OnOk c.take_leaf.result (TakesValue depth old (column_of c.args.column.now) (column_of (nested.Leaf c.take_leaf.new.column)) new) =
    IfOk-weaker c.take_leaf.result _ _ (λ _ x. value_at depth old new c.args.column.now _ _ at.is (leaf_moved depth old new at.leaf _ c.take_leaf.new.column at.leaf-is x)) c.take_leaf.ensures in
    search (rules, nested.the_lemmas, held)

pub take_nested-returns-else-depth-eq0 : goal.take_nested-returns-else-depth-eq0
take_nested-returns-else-depth-eq0 t c =
    let is = c.in_ok-token.ensures ∙ ap (λ k. token_of k ∷ c.next_token.new.reader) c.in-BeginArray.is in
    IfOk-weaker c.take_inside.result _ _ (λ v x. array_taken c.args.depth c.args.reader.now _ c.take_inside.new.reader (column_of c.args.column.now) (column_of c.take_inside.new.column) (omega arith) is x) c.take_inside.ensures

pub take_nested-returns-in_ok-push_null-in-Null : goal.take_nested-returns-in_ok-push_null-in-Null
take_nested-returns-in_ok-push_null-in-Null t c =
    let is = c.in_ok-token.ensures ∙ ap (λ k. token_of k ∷ c.next_token.new.reader) c.in-Null.is in
    null_taken c.args.depth c.args.reader.now _ (column_of c.args.column.now) (column_of c.push_null.new.self) is c.in_ok-push_null-in-Null.ensures

pub take_inside-returns-in_ok-push-in-Records : goal.take_inside-returns-in_ok-push-in-Records
take_inside-returns-in_ok-push-in-Records t c =
    let at = c.in-Records in
    let old = c.args.reader.now in
    let new = c.take_fields.new.reader in
    takes_at c.args.depth old new c.args.column.now _ _ at.is
    (record_moved c.args.depth old new at.present _ c.push.new.self at.columns _ c.take_fields.new.columns at.present-is at.columns-is c.in_ok-take_fields-in-Records.ensures c.in_ok-push-in-Records.ensures.items)

pub take_inside-returns-in_ok-push-in-Lists : goal.take_inside-returns-in_ok-push-in-Lists
take_inside-returns-in_ok-push-in-Lists t c =
    let at = c.in-Lists in
    let h = c.in_ok-size-in-Lists.ensures in
    let old = c.args.reader.now in
    let new = c.take_items.new.reader in
    takes_at c.args.depth old new c.args.column.now _ _ at.is
    (list_moved c.args.depth old new at.sizes _ c.push-in-Lists.new.self c.in_ok-size-in-Lists.size at.items _ c.deref_mut.result.now c.take_items.new.column h.0 at.sizes-is at.items-is c.deref_mut.ensures.value h.1 h.2
    c.in_ok-push-in-Lists.ensures.items)

pub take_inside-returns-in_ok-push-in-FixedLists :
    goal.take_inside-returns-in_ok-push-in-FixedLists
take_inside-returns-in_ok-push-in-FixedLists t c =
    let at = c.in-FixedLists in
    let h = c.in_ok-count-in-FixedLists.ensures in
    let old = c.args.reader.now in
    let new = c.take_items-in-FixedLists.new.reader in
    let many : length h.0 ≡ at.size = (let n = h.1 in let f = c.from.ensures in let e = c.if-count-from.false in let z = at.size-is in grind (arith, n, f, e, z)) in
    takes_at c.args.depth old new c.args.column.now _ _ at.is
    (sized_moved c.args.depth old new at.size _ at.present _ c.push-in-FixedLists.new.self at.items _ c.deref_mut-in-FixedLists.result.now c.take_items-in-FixedLists.new.column h.0 at.size-is at.present-is at.items-is
    c.deref_mut-in-FixedLists.ensures.value many h.2 c.in_ok-push-in-FixedLists.ensures.items)

pub take_fields-loop-i-init : goal.take_fields-loop-i-init
take_fields-loop-i-init t c = record_left c.args.depth c.args.reader.now c.args.columns.now.items

pub take_fields-loop-i-preserved : goal.take_fields-loop-i-preserved
take_fields-loop-i-preserved t c =
    let l = c.loop-i in
    cell_taken c.args.depth c.args.reader.now c.args.columns.now.items l.i l.columns.items (slice_set l.columns.items l.i c.take_cell.new.column) l.reader c.take_cell.new.reader c.index_mut.result.now c.take_cell.new.column l.invariant
    (omega arith) c.index_mut.ensures.value refl c.in_ok-take_cell.ensures

pub take_fields-returns : goal.take_fields-returns
take_fields-returns t c =
    let l = c.loop-i in
    IfOk-weaker c.take_array_end.result _ _ (λ v e. record_end c.args.depth c.args.reader.now c.args.columns.now.items l.i l.columns.items l.reader c.take_array_end.new.reader l.invariant (let many = l.invariant.gained.many in omega (arith, many)) e) c.take_array_end.ensures

pub take_items-items-init : goal.take_items-items-init
take_items-items-init t c = list_left c.args.depth c.args.reader.now (column_of c.args.column.now)

pub take_items-items-preserved : goal.take_items-items-preserved
take_items-items-preserved t c =
    let l = c.items in
    let going : (after_end_array l.reader ≡ None) × (c.take_end_array.new.self ≡ l.reader) = grind arith in
    let r = c.take_cell.new.reader in
    let v : TakesValue c.args.depth l.reader (column_of l.column) (column_of c.take_cell.new.column) r = rw (← going.1) c.in_ok-take_cell.ensures in
    item_taken c.args.depth c.args.reader.now (column_of c.args.column.now) l.count c.in_ok-count.count (column_of l.column) (column_of c.take_cell.new.column) l.reader r l.invariant c.in_ok-count.ensures v

pub take_items-items-smaller : goal.take_items-items-smaller
take_items-items-smaller t c =
    let l = c.items in
    let going : (after_end_array l.reader ≡ None) × (c.take_end_array.new.self ≡ l.reader) = grind arith in
    let less : length c.take_cell.new.reader < length l.reader = rw (← going.1) c.in_ok-take_cell.ensures.3 in
    less

pub take_items-returns : goal.take_items-returns
take_items-returns t c =
    let l = c.items in
    list_end c.args.depth c.args.reader.now (column_of c.args.column.now) l.count (column_of l.column) l.reader c.take_end_array.new.self l.invariant (grind arith)
