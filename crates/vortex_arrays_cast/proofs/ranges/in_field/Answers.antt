use Rattle.std.proofs.Common.{sym, subst}
use Rattle.std.specs.List.{All}
use Rattle.std.proofs.lemmas.List.Elements.{All-drop}
use Rattle.vortex_arrays_cast.specs.Ranges.{IsRangeIn}
use Rattle.vortex_arrays_cast.proofs.ranges.in_field.Goals as goal

pub returns-clause-field : goal.returns-clause-field
returns-clause-field c = λ n f h.
    let d = c.args.depth in let rs = c.args.ranges.now in
    c.in_front.ensures.field n f (subst (All (IsRangeIn d n f)) (sym c.split_at.ensures.back) (All-drop (IsRangeIn d n f) c.args.from rs h))
