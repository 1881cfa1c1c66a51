use Rattle.std.proofs.Common.{arith, sym, ◌∙◌}
use Rattle.vortex_dtype_proto.proofs.Parts.{one_more, all_taken, variant_names-variants_of}
use Rattle.vortex_dtype_proto.proofs.write.names_of_variants.Goals as goal

pub loop-variant-preserved : goal.loop-variant-preserved
loop-variant-preserved c =
    one_more (λ v. v.name) c.args.variants.now c.loop-variant.variant-index c.variant-item.result c.loop-variant.names.items _ c.in_ok-name.name (omega arith) c.variant-item.is c.in_ok-push.ensures.items c.in_ok-name.ensures.cases c.loop-variant.invariant

pub returns : goal.returns
returns c = c.new.ensures ∙ c.loop-variant.invariant ∙ all_taken (λ v. v.name) c.args.variants.now c.loop-variant.variant-index (omega arith) ∙ sym (variant_names-variants_of c.args.variants.now)
