use Rattle.std.proofs.Common.{◌≡◌, ◌+◌, ◌≤◌, ◌∷◌, length, drop, sym, ap, subst, ◌∙◌, arith}
use Rattle.std.proofs.lemmas.List.{drop_all, drop_more}
use Rattle.vortex_arrays_struct.proofs.Steps.{IsOnTheWay, way_goes_on, way_ends, way_keeps}
use Rattle.vortex_arrays_struct.proofs.column.column_at.Goals as goal

pub loop-name-preserved : goal.loop-name-preserved
loop-name-preserved c =
    let rest = drop (c.loop-name.name-index + 1) c.args.path.now in
    let whole : drop c.loop-name.name-index c.args.path.now ≡ c.name-item.result ∷ rest = drop_more c.args.path.now c.loop-name.name-index c.name-item.result c.loop-name-test.true ∙ ap (λ x. x ∷ rest) (sym c.name-item.is) in
    record {
      way = way_goes_on c.args.array.now c.loop-name.column c.in_ok-column-2.column c.args.path.now c.name-item.result rest (subst (IsOnTheWay c.args.array.now c.args.path.now c.loop-name.column) whole c.loop-name.invariant.way) c.in_ok-column-2.ensures.made c.in_ok-column-2.ensures.flags;
      flag = λ f e. c.in_ok-column-2.ensures.flag f (c.loop-name.invariant.flag f e);
    }

pub returns-clause-made : goal.returns-clause-made
returns-clause-made c =
    let all : length c.args.path.now ≤ c.loop-name.name-index = omega (arith, c.loop-name-test.false) in
    way_ends c.args.array.now c.loop-name.column c.args.path.now (subst (IsOnTheWay c.args.array.now c.args.path.now c.loop-name.column) (drop_all c.loop-name.name-index c.args.path.now all) c.loop-name.invariant.way)

pub returns-clause-flags : goal.returns-clause-flags
returns-clause-flags c =
    let all : length c.args.path.now ≤ c.loop-name.name-index = omega (arith, c.loop-name-test.false) in
    way_keeps c.args.array.now c.loop-name.column c.args.path.now (subst (IsOnTheWay c.args.array.now c.args.path.now c.loop-name.column) (drop_all c.loop-name.name-index c.args.path.now all) c.loop-name.invariant.way)
