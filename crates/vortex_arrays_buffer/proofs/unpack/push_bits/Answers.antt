use Rattle.std.proofs.Common.{◌≡◌, ◌-◌, ◌++◌, [], ◌∷◌, ap, ◌∙◌, arith}
use Rattle.vortex_arrays_buffer.specs.Bits.{bits_of}
use Rattle.vortex_arrays_buffer.proofs.ByteLemmas.{none_yet, one_more}
use Rattle.vortex_arrays_buffer.proofs.unpack.push_bits.Goals as goal

pub loop-i-init : goal.loop-i-init
loop-i-init c = none_yet c.args.bits.now.items c.args.bytes.now c.args.start (c.args.start - c.args.start) (omega arith)

pub loop-i-preserved : goal.loop-i-preserved
loop-i-preserved c =
    c.in_ok-push.ensures.items ∙ ap (λ xs. xs ++ c.bit.result ∷ []) c.loop-i.invariant
    ∙ one_more c.args.bits.now.items c.args.bytes.now c.args.start c.loop-i.i c.bit.result (omega arith) c.bit.ensures

pub returns : goal.returns
returns c =
    let all : c.loop-i.i ≡ c.args.end = omega arith in
    c.loop-i.invariant ∙ ap (λ i. c.args.bits.now.items ++ bits_of c.args.bytes.now c.args.start (i - c.args.start)) all
