use Rattle.std.proofs.Common.{length, not, sym, ap, ◌∙◌, arith}
use Rattle.vortex_arrays_dictionary.proofs.ConstantLemmas.{one_other, all_or_none}
use Rattle.vortex_arrays_dictionary.proofs.constant.all_equal.Goals as goal

pub returns-then-not-are_same : goal.returns-then-not-are_same
returns-then-not-are_same g c =
    λ cs t h. one_other cs c.loop-i.i (omega (arith, t.many, c.loop-i-test.true, c.loop-i.auto.i-end)) h (sym (c.are_same.ensures cs t) ∙ c.if-not-are_same.true)

pub returns : goal.returns
returns g c =
    λ cs t h. ap not c.is_empty.ensures ∙ all_or_none cs (length c.args.keys.now) c.loop-i.i t.many (omega (arith, c.loop-i-test.false, c.loop-i.auto.i-end)) h (c.loop-i.invariant cs t)
