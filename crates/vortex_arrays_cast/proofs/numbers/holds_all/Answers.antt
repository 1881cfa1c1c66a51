use Rattle.std.proofs.Common.{◌∙◌, ◌&&◌, sym, rules, true}
use Rattle.std.proofs.lemmas.Iterator.{YieldsList-from_slice}
use Rattle.std.proofs.lemmas.Iterator.Consumers.{fold_from_yields_List}
use Rattle.std.proofs.lemmas.List.Folds.{list_all-map}
use Rattle.vortex_model.specs.Valid.{in_range}
use Rattle.vortex_arrays_cast.proofs.NumberLemmas.{folded}
use Rattle.vortex_arrays_cast.proofs.numbers.holds_all.Goals as goal

pub returns : goal.returns
returns g c =
    fold_from_yields_List _ (λ b x. b && in_range g.U.Sealed.kind (g.T.Sealed.integer x)) true c.fold.result c.fold.ensures.ran (YieldsList-from_slice c.args.items.now (search rules)) (λ a x b q k. search rules)
    ∙ folded (λ x. in_range g.U.Sealed.kind (g.T.Sealed.integer x)) c.args.items.now
    ∙ sym (list_all-map (in_range g.U.Sealed.kind) g.T.Sealed.integer c.args.items.now)
