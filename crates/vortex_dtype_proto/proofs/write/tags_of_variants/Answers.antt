use Rattle.std.proofs.Common.{arith, sym, ◌∙◌, rules}
use Rattle.std.proofs.lemmas.Int.{to_z-of_z}
use Rattle.vortex_dtype_proto.proofs.Parts.{one_more, all_taken, variant_tags-variants_of}
use Rattle.vortex_dtype_proto.proofs.write.tags_of_variants.Goals as goal

pub loop-variant-preserved : goal.loop-variant-preserved
loop-variant-preserved c =
    one_more (λ v. v.tag) c.args.variants.now c.loop-variant.variant-index c.variant-item.result c.loop-variant.tags.items _ _ (omega arith) c.variant-item.is c.in_ok-push.ensures.items
    (let e = c.from-tag.ensures in search (rules, to_z-of_z)) c.loop-variant.invariant

pub returns : goal.returns
returns c = c.loop-variant.invariant ∙ all_taken (λ v. v.tag) c.args.variants.now c.loop-variant.variant-index (omega arith) ∙ sym (variant_tags-variants_of c.args.variants.now)
