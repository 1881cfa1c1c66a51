use Rattle.std.proofs.Common.{◌≡◌, map, take}
use Rattle.vortex_dtype_proto.proofs.write.names_of_variants.Given as goal

abbrev pub invariant-loop-variant : goal.invariant-loop-variant
invariant-loop-variant l = l.names.items ≡ map (λ x. x.name) (take l.variant-index l.variants)
