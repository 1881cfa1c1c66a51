use Rattle.std.proofs.Common.{rules, IsTrue, map}
use Rattle.vortex_arrays_parts.specs.Values.{lent}
use Rattle.vortex_arrays_parts.proofs.RowLemmas.{marks_all, marks_array}
use Rattle.vortex_arrays_parts.proofs.build.missing_of.Goals as goal

pub returns-then-are_present : goal.returns-then-are_present
returns-then-are_present c =
    let yes : IsTrue c.are_present.result = search rules in
    marks_all (map lent c.args.values.now) (c.are_present.ensures.0 yes)

pub returns : goal.returns
returns c = marks_array (map lent c.args.values.now) c.in_ok-bits.bits c.in_ok-array.array c.in_ok-array.ensures c.in_ok-bits.ensures
