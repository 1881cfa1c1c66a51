use Rattle.std.proofs.Common.{ap, refl, ◌∙◌, ◌+◌, ◌++◌, arith}
use Rattle.std.proofs.lemmas.Iterator.{YieldsList-from_range}
use Rattle.std.proofs.lemmas.Iterator.Adapters.{items_from_extend}
use Rattle.std.proofs.lemmas.Result.{on_ok_weaker}
use Rattle.vortex_table_core.proofs.Groups.{numbers_ranged}
use Rattle.vortex_table_core.proofs.run.push_numbers.Goals as goal

pub returns : goal.returns
returns c =
    let i = c.args.first in let n = c.args.count in
    on_ok_weaker c.extend.result (λ held. held.0 ∙ ap (λ ns. c.args.numbers.now.items ++ ns) (numbers_ranged i n))
    (items_from_extend c.extend.result c.extend.ensures.ran (YieldsList-from_range i (i + n) n refl (omega arith)))
