use Rattle.std.proofs.Common.{rules, option_map}
use Rattle.std.proofs.iter.Yields.{fronts}
use Rattle.std.proofs.lemmas.Iterator.{YieldsList-from_slice, YieldsList-from_map_by}
use Rattle.std.proofs.lemmas.Iterator.Consumers.{map_from_collect, YieldsList-at}
use Rattle.vortex_arrays_model.specs.Layout.{texts}
use Rattle.vortex_arrays_parts.specs.Values.{lent, IsHeld}
use Rattle.vortex_arrays_parts.proofs.LentLemmas.{all_lent}
use Rattle.vortex_arrays_parts.proofs.lend.lend_some_texts.Goals as goal

pub returns-clause-values : goal.returns-clause-values
returns-clause-values g c =
    map_from_collect c.collect.result c.collect.ensures.ran
    (YieldsList-from_map_by _ lent (option_map g.T.AsStr.text) (YieldsList-at c.map.ensures.source (YieldsList-from_slice c.args.items.now (search rules))) c.map.ensures.closure (λ x r q k. search rules))

pub returns-clause-held : goal.returns-clause-held
returns-clause-held g c = all_lent fronts c.map.result (IsHeld texts) c.collect.result c.collect.ensures.ran c.map.ensures.closure (λ x r q k. search rules)
