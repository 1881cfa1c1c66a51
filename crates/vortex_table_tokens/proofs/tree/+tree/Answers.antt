use Rattle.std.proofs.Common.{◌≡◌, ◌∷◌, true, Some, None, refl, sym, ap, ◌∙◌, subst, arith}
use Rattle.std.proofs.lemmas.Result.{IfOk-weaker}
use Rattle.json.specs.Json.{after_end_array, read_key}
use Rattle.json.specs.Reads.{token_of}
use Rattle.serde_json.specs.Data.{no_items, item, no_members}
use Rattle.serde_json.specs.View.{view, items_view, members_view}
use Rattle.serde_json.proofs.Views.{view-Array, view-Object}
use Rattle.vortex_table_request.specs.Parsed.{keeps_whole, items_keep_whole, members_keep_whole}
use Rattle.vortex_table_tokens.specs.Begins.{Begins, BeginsItems, BeginsMembers}
use Rattle.vortex_table_tokens.proofs.Grammar.{begins_array, begins_object, one_item, no_more_items, one_member, no_more_members, items_before, items_before-no_items, items_push}
use Rattle.vortex_table_tokens.proofs.Wholes.{whole_push, whole_put}
use Rattle.vortex_table_tokens.proofs.tree.+tree.Goals as goal

pub read_tree-returns-in_ok-read_items-in-BeginArray-clause-begins : goal.read_tree-returns-in_ok-read_items-in-BeginArray-clause-begins
read_tree-returns-in_ok-read_items-in-BeginArray-clause-begins t c =
    let old = c.args.reader.now in
    let new = c.read_items.new.reader in
    let is = c.in_ok-token.ensures ∙ ap (λ k. token_of k ∷ c.next_token.new.reader) c.in-BeginArray.is in
    let found = c.in_ok-read_items-in-BeginArray in
    subst (λ d. Begins c.args.depth old d new) (sym (view-Array found.field-0)) (begins_array c.args.depth old _ new _ (omega arith) is found.ensures.begins)

pub read_tree-returns-in_ok-read_members-in-BeginObject-clause-begins : goal.read_tree-returns-in_ok-read_members-in-BeginObject-clause-begins
read_tree-returns-in_ok-read_members-in-BeginObject-clause-begins t c =
    let old = c.args.reader.now in
    let new = c.read_members.new.reader in
    let is = c.in_ok-token.ensures ∙ ap (λ k. token_of k ∷ c.next_token.new.reader) c.in-BeginObject.is in
    let found = c.in_ok-read_members-in-BeginObject in
    subst (λ d. Begins c.args.depth old d new) (sym (view-Object found.field-0)) (begins_object c.args.depth old _ new _ (omega arith) is found.ensures.begins)

pub read_tree-returns-in_default-clause-begins : goal.read_tree-returns-in_default-clause-begins
read_tree-returns-in_default-clause-begins t c =
    let new = c.next_token.new.reader in
    IfOk-weaker c.read_one.result _ _ (λ v h. subst (λ ts. Begins c.args.depth ts (view v) new) (sym c.in_ok-token.ensures) (h c.args.depth new)) c.read_one.ensures.value

pub read_items-items-init : goal.read_items-items-init
read_items-items-init t c = (
  λ ds new h. subst (λ vs. BeginsItems c.args.depth c.args.reader.now (items_before vs ds) new) (sym c.new-found.ensures.items) h,
  subst (λ vs. items_keep_whole (items_view vs) ≡ true) (sym c.new-found.ensures.items) refl,
)

pub read_items-items-preserved : goal.read_items-items-preserved
read_items-items-preserved t c =
    let l = c.items in
    let going : (after_end_array l.reader ≡ None) × (c.take_end_array.new.self ≡ l.reader) = grind arith in
    let v = c.in_ok-item.item in
    let r = c.read_tree.new.reader in
    let first : Begins c.args.depth l.reader (view v) r = rw (← going.1) c.in_ok-item.ensures.begins in (
      λ ds new h.
          subst (λ es. BeginsItems c.args.depth c.args.reader.now es new) (items_push l.found.items v ds ∙ ap (λ vs. items_before vs ds) (sym c.in_ok-push.ensures.items))
          (l.invariant.0 (item (view v) ds) new (one_item c.args.depth l.reader r new (view v) ds first h)),
      whole_push l.found.items _ v c.in_ok-push.ensures.items l.invariant.1 c.in_ok-item.ensures.whole,
    )

pub read_items-returns-clause-begins : goal.read_items-returns-clause-begins
read_items-returns-clause-begins t c =
    let l = c.items in
    let r = c.take_end_array.new.self in
    subst (λ es. BeginsItems c.args.depth c.args.reader.now es r) (items_before-no_items l.found.items) (l.invariant.0 no_items r (no_more_items c.args.depth l.reader r (grind arith)))

pub read_members-members-init : goal.read_members-members-init
read_members-members-init t c = (
  λ ms new h.
      subst (λ es. BeginsMembers c.args.depth c.args.reader.now (members_view es) ms new → BeginsMembers c.args.depth c.args.reader.now no_members ms new) (sym c.new-found.ensures.empty) (λ k. k) h,
  subst (λ es. members_keep_whole (members_view es) ≡ true) (sym c.new-found.ensures.empty) refl,
)

pub read_members-members-preserved : goal.read_members-members-preserved
read_members-members-preserved t c =
    let l = c.members in
    let old = members_view l.found.entries in
    let k = c.in-Some.name.now in
    let s = c.next_key.new.self in
    let r = c.read_tree.new.reader in
    let named : read_key l.reader ≡ Some (Some k, s) = grind arith in
    let v = c.in_ok-member.member in
    let first = c.in_ok-member.ensures in (
      λ ms new h. l.invariant.0 ms new (one_member c.args.depth l.reader s r new k (view v) old ms named first.begins (subst (λ es. BeginsMembers c.args.depth r es ms new) c.in_ok-put_value.ensures h)),
      subst (λ es. members_keep_whole es ≡ true) (sym c.in_ok-put_value.ensures) (whole_put k (view v) old first.whole l.invariant.1),
    )

pub read_members-returns-clause-begins : goal.read_members-returns-clause-begins
read_members-returns-clause-begins t c =
    let l = c.members in
    l.invariant.0 (members_view l.found.entries) c.next_key.new.self (no_more_members c.args.depth l.reader c.next_key.new.self (members_view l.found.entries) (grind arith))

pub read_tree-returns-in_ok-read_items-in-BeginArray-clause-whole : goal.read_tree-returns-in_ok-read_items-in-BeginArray-clause-whole
read_tree-returns-in_ok-read_items-in-BeginArray-clause-whole t c =
    let found = c.in_ok-read_items-in-BeginArray in
    ap keeps_whole (view-Array found.field-0) ∙ found.ensures.whole

pub read_tree-returns-in_ok-read_members-in-BeginObject-clause-whole : goal.read_tree-returns-in_ok-read_members-in-BeginObject-clause-whole
read_tree-returns-in_ok-read_members-in-BeginObject-clause-whole t c =
    let found = c.in_ok-read_members-in-BeginObject in
    ap keeps_whole (view-Object found.field-0) ∙ found.ensures.whole
