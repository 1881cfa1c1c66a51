use Rattle.std.proofs.Common.{◌≡◌, map, take}
use Rattle.vortex_dtype_proto.proofs.write.tags_of_variants.Given as goal

abbrev pub invariant-loop-variant : goal.invariant-loop-variant
invariant-loop-variant l = l.tags.items ≡ map (λ x. x.tag) (take l.variant-index l.variants)
