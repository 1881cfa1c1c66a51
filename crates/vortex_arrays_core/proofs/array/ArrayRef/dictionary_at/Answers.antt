use Rattle.std.proofs.lemmas.Grind.{common_steps}
use Rattle.std.proofs.Common.{false, length, get_or, sym, subst, arith}
use Rattle.std.proofs.lemmas.Result.{IfOk-weaker}
use Rattle.vortex_arrays_model.specs.Layout.{dictionary}
use Rattle.vortex_arrays_model.specs.Picks.{Picks}
use Rattle.vortex_arrays_core.proofs.Gathered.{names_positions}
use Rattle.vortex_arrays_core.proofs.array.ArrayRef.dictionary_at.Goals as goal

pub of_dict-requires : goal.of_dict-requires
of_dict-requires c =
    let p = names_positions c.args.self.now c.in_ok-codes.codes c.args.positions.now c.in_ok-codes.ensures c.is_sound.ensures c.is_sound-2.ensures c.requires in
    let q : Picks c.args.self.now (dictionary c.in_ok-codes.codes c.in_ok-clone.field-0 false) (length c.args.positions.now) (λ i. get_or c.args.positions.now i 0) = subst (λ v. Picks c.args.self.now (dictionary c.in_ok-codes.codes v false) (length c.args.positions.now) (λ i. get_or c.args.positions.now i 0)) (sym c.in_ok-clone.ensures.cases) p in
    λ _ _. q.sound

pub returns : goal.returns
returns c =
    let p = names_positions c.args.self.now c.in_ok-codes.codes c.args.positions.now c.in_ok-codes.ensures c.is_sound.ensures c.is_sound-2.ensures c.requires in
    let q : Picks c.args.self.now (dictionary c.in_ok-codes.codes c.in_ok-clone.field-0 false) (length c.args.positions.now) (λ i. get_or c.args.positions.now i 0) = subst (λ v. Picks c.args.self.now (dictionary c.in_ok-codes.codes v false) (length c.args.positions.now) (λ i. get_or c.args.positions.now i 0)) (sym c.in_ok-clone.ensures.cases) p in
    IfOk-weaker c.of_dict.result _ _ (λ r is. subst (λ x. Picks c.args.self.now x (length c.args.positions.now) (λ i. get_or c.args.positions.now i 0)) (sym is) q) c.of_dict.ensures

pub same-of_dict : goal.same-of_dict
same-of_dict c = grind (arith, common_steps)
