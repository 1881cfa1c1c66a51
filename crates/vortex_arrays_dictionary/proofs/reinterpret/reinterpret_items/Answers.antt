use Rattle.std.proofs.Common.{rules}
use Rattle.std.proofs.lemmas.Iterator.{YieldsList-from_slice}
use Rattle.std.proofs.lemmas.Iterator.Consumers.{YieldsList-at}
use Rattle.std.proofs.lemmas.Result.{IfOk-weaker}
use Rattle.vortex_scalar_value.specs.Numbers.{HaveSameBytes}
use Rattle.vortex_arrays_dictionary.proofs.ReinterpretLemmas.{collected, all_reinterpreted}
use Rattle.vortex_arrays_dictionary.proofs.reinterpret.reinterpret_items.Goals as goal

pub returns : goal.returns
returns g c =
    IfOk-weaker c.collect.result _ _ (λ cast pairs. all_reinterpreted g.T.Sealed.kind g.U.Sealed.kind g.T.Sealed.integer g.U.Sealed.integer c.args.items.now cast.items pairs)
    (collected (λ x y. HaveSameBytes g.T.Sealed.kind (g.T.Sealed.integer x) g.U.Sealed.kind (g.U.Sealed.integer y)) c.collect.result c.collect.ensures.ran
    (YieldsList-at c.map.ensures.source (YieldsList-from_slice c.args.items.now (search rules))) c.map.ensures.closure (λ x r q k. search rules))
