use Rattle.std.proofs.Common.{◌≡◌, ◌+◌, subst, get_or, IfSome, length, arith}
use Rattle.std.proofs.lemmas.Bool.Decides.{nat_tests}
use Rattle.vortex_arrays_model.specs.Layout.{len_of}
use Rattle.vortex_arrays_cast.proofs.EvenLemmas.{more_even, all_even}
use Rattle.vortex_arrays_cast.proofs.lists.are_even.Goals as goal

pub loop-i-preserved : goal.loop-i-preserved
loop-i-preserved c =
    let os = c.args.offsets.now in let zs = c.args.sizes.now in let at = c.loop-i.i in let end = c.loop-i.end in let next = c.in-Some.next in
    let h : (get_or os at 0 ≡ end) × (get_or zs at 0 ≡ c.args.size) × (next ≡ end + c.args.size)
    = subst (λ o. IfSome o (λ n. (get_or os at 0 ≡ end) × (get_or zs at 0 ≡ c.args.size) × (n ≡ end + c.args.size))) c.in-Some.is c.even_end.ensures in
    more_even os zs c.args.size at end next c.loop-i.invariant h.0 h.1 h.2

pub returns : goal.returns
returns c =
    λ t.
    let done : c.loop-i.i ≡ length c.args.offsets.now = omega (arith, c.loop-i-test.false, c.loop-i.auto.i-end) in
    let count = c.len.ensures.count in
    let last : c.loop-i.end ≡ len_of c.args.elements.now = grind (arith, nat_tests, t, count) in
    all_even c.args.elements.now c.args.offsets.now c.args.sizes.now c.args.size c.loop-i.i c.loop-i.end c.requires done last c.loop-i.invariant
