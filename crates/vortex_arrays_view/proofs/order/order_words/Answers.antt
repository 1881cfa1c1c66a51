use Rattle.std.proofs.Common.{rules, ◌≡◌, ◌∙◌, ap, length}
use Rattle.std.specs.Ordering.{nat_cmp}
use Rattle.vortex_arrays_view.proofs.Digits.{long_words_decide}
use Rattle.vortex_arrays_view.proofs.order.order_words.Goals as goal

pub returns : goal.returns
returns c =
    let m : length c.args.value.now ≡ 8 = search rules in
    let n : length c.args.other.now ≡ 8 = search rules in
    c.cmp.ensures
    ∙ ap (λ k. nat_cmp k c.from_be_bytes-2.result) c.from_be_bytes.ensures
    ∙ ap (nat_cmp _) c.from_be_bytes-2.ensures
    ∙ long_words_decide c.args.value.now c.args.other.now m n c.are_bytes.ensures c.are_bytes-2.ensures
