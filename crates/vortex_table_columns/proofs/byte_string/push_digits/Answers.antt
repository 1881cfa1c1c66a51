use Rattle.std.proofs.Common.{◌≡◌, length, sym, subst, ap, ◌∙◌, arith}
use Rattle.vortex_arrays_model.specs.Layout.{byte_strings}
use Rattle.vortex_table_columns.specs.Views.{values_of, AreValues}
use Rattle.vortex_table_columns.proofs.ViewLemmas.{values_stay}
use Rattle.vortex_table_columns.proofs.ByteLemmas.{kept_front, digits_stay, digits_pushed}
use Rattle.vortex_table_columns.proofs.byte_string.push_digits.Goals as goal

pub returns-in_err-put_digits-clause-values : goal.returns-in_err-put_digits-clause-values
returns-in_err-put_digits-clause-values c = values_stay byte_strings c.args.bytes.now.items c.put_digits.new.bytes.items c.args.views.now.items c.put_digits.ensures.front c.requires

pub returns-in_err-push-clause-values : goal.returns-in_err-push-clause-values
returns-in_err-push-clause-values c =
    let old = c.args.bytes.now.items in
    let put = c.put_digits.new.bytes.items in
    let kept = c.keep_long.new.bytes.items in
    let many : c.args.bytes.now.len ≡ length old = omega (arith, c.args.bytes.now.ok.0) in
    subst (AreValues byte_strings kept) (sym c.in_err-push.ensures.items)
    (values_stay byte_strings old kept c.args.views.now.items (kept_front old put kept c.len-start.result (c.len-start.ensures ∙ many) c.put_digits.ensures.front c.keep_long.ensures.front) c.requires)

pub returns-clause-values : goal.returns-clause-values
returns-clause-values c =
    let old = c.args.bytes.now.items in
    let put = c.put_digits.new.bytes.items in
    let kept = c.keep_long.new.bytes.items in
    let h = c.in_ok-put_digits.ensures in
    let many : c.args.bytes.now.len ≡ length old = omega (arith, c.args.bytes.now.ok.0) in
    let more = digits_stay old put c.deref.result.now kept h.put.0 c.args.digits.now c.make_view-view.result c.args.views.now.items c.len-start.result (c.len-start.ensures ∙ many) h.few h.put.1 h.put.2 c.requires c.keep_long.ensures.front c.keep_long.ensures.long c.deref.ensures.value c.make_view-view.ensures in
    subst (AreValues byte_strings kept) (sym c.in_ok-push.ensures.items) more

pub returns-clause-pushed : goal.returns-clause-pushed
returns-clause-pushed c =
    let old = c.args.bytes.now.items in
    let put = c.put_digits.new.bytes.items in
    let kept = c.keep_long.new.bytes.items in
    let h = c.in_ok-put_digits.ensures in
    let many : c.args.bytes.now.len ≡ length old = omega (arith, c.args.bytes.now.ok.0) in
    let more = digits_pushed old put c.deref.result.now kept h.put.0 c.args.digits.now c.make_view-view.result c.args.views.now.items c.len-start.result (c.len-start.ensures ∙ many) h.few h.put.1 h.put.2 c.requires c.keep_long.ensures.front c.keep_long.ensures.long c.deref.ensures.value c.make_view-view.ensures in
    (h.put.0, h.put.1, ap (values_of kept) c.in_ok-push.ensures.items ∙ more)
