use Rattle.std.proofs.Common.{rules, ◌≡◌, ◌≤◌, length}
use Rattle.vortex_arrays_view.specs.Views.{size_of}
use Rattle.vortex_stats_match.proofs.HeadLemmas.{words_are}
use Rattle.vortex_stats_match.proofs.order.head_order.Goals as goal

pub returns : goal.returns
returns c =
    let four : 4 ≤ size_of c.args.view.now = search rules in
    let many : length c.prefix-prefix.result ≡ 4 = search rules in
    words_are c.args.view.now c.prefix-prefix.result c.args.text.now c.from_be_bytes.result c.args.order_prefix c.cmp.result
    four c.prefix-prefix.ensures many c.are_bytes.ensures c.are_bytes-2.ensures c.from_be_bytes.ensures c.requires c.cmp.ensures
