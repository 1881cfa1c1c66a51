use Rattle.std.proofs.Common.{◌≡◌, ◌+◌, ◌*◌, drop}
use Rattle.std.specs.List.{fold}
use Rattle.vortex_model.specs.Content.{contents_of}
use Rattle.vortex_scalar_value.specs.Parts.{child_in}
use Rattle.vortex_scalar_value.specs.View.{raw_of, raw_of_union, raw_of_variant, raw_at, raws_in}
use Rattle.vortex_scalar_value.proofs.Sizes.{raw_size, raws_size}
use Rattle.vortex_scalar_ops.specs.Hashing.{contents_writes}
use Rattle.vortex_scalar_ops.proofs.hash.+hash.Given as goal

abbrev pub decreases-hash_items : goal.decreases-hash_items
decreases-hash_items g l = 2 * raws_size (raws_in l.items.now) + 2

abbrev pub decreases-hash_present : goal.decreases-hash_present
decreases-hash_present g l = 2 * raw_size (raw_of l.value.now)

abbrev pub decreases-hash_union : goal.decreases-hash_union
decreases-hash_union g l = 2 * raw_size (child_in (raw_of_union l.union.now)) + 2

abbrev pub decreases-hash_value : goal.decreases-hash_value
decreases-hash_value g l = 2 * raw_size (raw_at l.value) + 1

abbrev pub decreases-hash_variant : goal.decreases-hash_variant
decreases-hash_variant g l = 2 * raw_size (child_in (raw_of_variant l.variant.now)) + 2

abbrev pub invariant-hash_items-loop-item : goal.invariant-hash_items-loop-item
invariant-hash_items-loop-item g l = fold g.H.Hasher.write l.state (contents_writes (contents_of (raws_in (drop l.item-index l.items)))) ≡ fold g.H.Hasher.write l.initial.state (contents_writes (contents_of (raws_in l.items)))
