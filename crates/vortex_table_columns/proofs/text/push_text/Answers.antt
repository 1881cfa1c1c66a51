use Rattle.std.proofs.Common.{◌≡◌, ◌<◌, ◌^◌, length, Some, None, sym, subst, ap, ◌∙◌, arith, rules}
use Rattle.std.specs.Prelude.{IsUtf8}
use Rattle.vortex_arrays_view.specs.Made.{view_of}
use Rattle.vortex_arrays_model.specs.Layout.{texts}
use Rattle.vortex_table_columns.specs.Views.{AreValues}
use Rattle.vortex_table_columns.proofs.ViewLemmas.{values_stay, value_stays, value_pushed, same_pushed}
use Rattle.vortex_table_columns.proofs.text.push_text.Goals as goal

pub returns-in_err-put_long-clause-texts : goal.returns-in_err-put_long-clause-texts
returns-in_err-put_long-clause-texts c = values_stay texts c.args.bytes.now.items c.put_long.new.bytes.items c.args.views.now.items c.put_long.ensures.front c.requires

pub returns-in_err-push-clause-texts : goal.returns-in_err-push-clause-texts
returns-in_err-push-clause-texts c =
    subst (AreValues texts c.put_long.new.bytes.items) (sym c.in_err-push.ensures.items)
    (values_stay texts c.args.bytes.now.items c.put_long.new.bytes.items c.args.views.now.items c.put_long.ensures.front c.requires)

pub returns-clause-texts : goal.returns-clause-texts
returns-clause-texts c =
    let value = c.as_bytes-value.result.now in
    let short : length value < 2 ^ 32 = omega (arith, c.if-start-gt-MAX_BUFFER_LEN.false, c.if-value-start.false) in
    let many : c.args.bytes.now.len ≡ length c.args.bytes.now.items = omega (arith, c.args.bytes.now.ok.0) in
    let room : length c.args.bytes.now.items < 2 ^ 32 = omega (arith, c.if-start-gt-MAX_BUFFER_LEN.false, c.len-start.ensures, many) in
    let is : c.make_view.result ≡ view_of value 0 (length c.args.bytes.now.items) = c.make_view.ensures ∙ ap (view_of value 0) (c.len-start.ensures ∙ many) in
    subst (AreValues texts c.put_long.new.bytes.items) (sym c.in_ok-push.ensures.items)
    (value_stays texts c.args.bytes.now.items c.put_long.new.bytes.items value c.make_view.result c.args.views.now.items c.put_long.ensures.front c.in_ok-put_long.ensures.put short room c.as_bytes-value.ensures.utf8 is c.requires)

pub returns-clause-pushed : goal.returns-clause-pushed
returns-clause-pushed c =
    let value = c.as_bytes-value.result.now in
    let short : length value < 2 ^ 32 = omega (arith, c.if-start-gt-MAX_BUFFER_LEN.false, c.if-value-start.false) in
    let many : c.args.bytes.now.len ≡ length c.args.bytes.now.items = omega (arith, c.args.bytes.now.ok.0) in
    let room : length c.args.bytes.now.items < 2 ^ 32 = omega (arith, c.if-start-gt-MAX_BUFFER_LEN.false, c.len-start.ensures, many) in
    let is : c.make_view.result ≡ view_of value 0 (length c.args.bytes.now.items) = c.make_view.ensures ∙ ap (view_of value 0) (c.len-start.ensures ∙ many) in
    same_pushed c.args.bytes.now.items c.put_long.new.bytes.items value c.args.text.now c.args.views.now.items c.push.new.self.items c.make_view.result c.in_ok-push.ensures.items c.as_bytes-value.ensures.value
    (value_pushed texts c.args.bytes.now.items c.put_long.new.bytes.items value c.make_view.result c.args.views.now.items c.put_long.ensures.front c.in_ok-put_long.ensures.put short room is c.requires)
