use Rattle.std.proofs.lemmas.Grind.{common_steps}
use Rattle.std.proofs.Common.{◌≡◌, ◌<◌, ◌+◌, ◌*◌, arith}
use Rattle.vortex_scalar_value.specs.View.{raw_at, raws_in}
use Rattle.vortex_scalar_value.proofs.Sizes.{raw_size, raws_size, item_smaller}
use Rattle.vortex_scalar_ops.proofs.Hashed.{writes}
use borrow.Author.Rules.{get_or_read}
use Rattle.vortex_scalar_ops.proofs.hash.+hash.Goals as goal

pub hash_items-hash_value-requires : goal.hash_items-hash_value-requires
hash_items-hash_value-requires g t c κs within =
    let e : raw_size (raw_at c.as_ref.result) < raws_size (raws_in c.args.items.now)
    = item_smaller c.args.items.now c.loop-item.item-index c.item-item.result c.as_ref.result c.loop-item-test.true c.item-item.is c.as_ref.ensures.value in
    let d : 2 * raws_size (raws_in c.args.items.now) + 2 ≡ t = c.decreases in
    (omega (arith, e, d), within)

pub hash_items-loop-item-init : goal.hash_items-loop-item-init
hash_items-loop-item-init t c = grind (arith, writes)

pub hash_items-offset_bounds-items-item-index : goal.hash_items-offset_bounds-items-item-index
hash_items-offset_bounds-items-item-index t c = grind (arith, writes)

pub hash_items-loop-item-smaller : goal.hash_items-loop-item-smaller
hash_items-loop-item-smaller t c = grind (arith, common_steps)

pub hash_items-loop-item-preserved : goal.hash_items-loop-item-preserved
hash_items-loop-item-preserved t c = grind (arith, common_steps)

pub hash_items-returns : goal.hash_items-returns
hash_items-returns t c = grind (arith, common_steps)

pub hash_present-returns-in-Bool : goal.hash_present-returns-in-Bool
hash_present-returns-in-Bool t c = grind (arith, writes)

pub hash_present-returns-in-Primitive : goal.hash_present-returns-in-Primitive
hash_present-returns-in-Primitive t c = grind (arith, writes)

pub hash_present-returns-in-Utf8 : goal.hash_present-returns-in-Utf8
hash_present-returns-in-Utf8 t c = grind (arith, writes)

pub hash_present-returns-in-Binary : goal.hash_present-returns-in-Binary
hash_present-returns-in-Binary t c = grind (arith, writes)

pub hash_present-returns-in-Tuple : goal.hash_present-returns-in-Tuple
hash_present-returns-in-Tuple t c = grind (arith, writes)

pub hash_present-returns-in-Union : goal.hash_present-returns-in-Union
hash_present-returns-in-Union t c = grind (arith, writes)

pub hash_present-returns-in-Variant : goal.hash_present-returns-in-Variant
hash_present-returns-in-Variant t c = grind (arith, writes, get_or_read)

pub hash_value-returns-in-Some : goal.hash_value-returns-in-Some
hash_value-returns-in-Some t c = grind (arith, writes)

pub hash_value-returns-in-None : goal.hash_value-returns-in-None
hash_value-returns-in-None t c = grind (arith, writes)

pub hash_variant-returns : goal.hash_variant-returns
hash_variant-returns t c = grind (arith, writes, get_or_read)
