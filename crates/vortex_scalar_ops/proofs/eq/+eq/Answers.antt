use Rattle.std.proofs.lemmas.Grind.{common_steps}
use Rattle.std.proofs.Common.{◌≡◌, ◌<◌, ◌+◌, ◌*◌, arith, sym}
use Rattle.vortex_scalar_value.specs.View.{raw_at, raws_in}
use Rattle.vortex_scalar_value.proofs.Sizes.{raw_size, raws_size, item_smaller}
use Rattle.vortex_scalar_ops.proofs.Items.{unequal}
use Rattle.vortex_scalar_ops.proofs.Forms.{tests, apart}
use borrow.Author.Rules.{get_or_read}
use borrow.Author.Differences.{ints}
use Rattle.vortex_scalar_ops.proofs.eq.+eq.Goals as goal

pub eq_items-returns-then-left-right : goal.eq_items-returns-then-left-right
eq_items-returns-then-left-right t c = sym (unequal c.args.left.now c.args.right.now c.if-left-right.true)

pub eq_items-eq_values-requires : goal.eq_items-eq_values-requires
eq_items-eq_values-requires t c =
    let e : raw_size (raw_at c.as_ref.result) < raws_size (raws_in c.args.left.now)
    = item_smaller c.args.left.now c.loop-i.i c.index-left-i.result c.as_ref.result c.loop-i-test.true c.index-left-i.is c.as_ref.ensures.value in
    let d : 2 * raws_size (raws_in c.args.left.now) + 2 ≡ t = c.decreases in
    (omega (arith, e, d), tt)

pub eq_items-loop-i-init : goal.eq_items-loop-i-init
eq_items-loop-i-init t c = grind (arith, common_steps)

pub eq_items-offset_bounds-left-i : goal.eq_items-offset_bounds-left-i
eq_items-offset_bounds-left-i t c = grind (arith, common_steps)

pub eq_items-bounds-left-i : goal.eq_items-bounds-left-i
eq_items-bounds-left-i t c = grind (arith, common_steps)

pub eq_items-offset_bounds-right-i : goal.eq_items-offset_bounds-right-i
eq_items-offset_bounds-right-i t c = grind (arith, common_steps)

pub eq_items-bounds-right-i : goal.eq_items-bounds-right-i
eq_items-bounds-right-i t c = grind (arith, common_steps)

pub eq_items-returns-then-not-eq_values : goal.eq_items-returns-then-not-eq_values
eq_items-returns-then-not-eq_values t c = grind (arith, common_steps)

pub eq_items-loop-i-smaller : goal.eq_items-loop-i-smaller
eq_items-loop-i-smaller t c = grind (arith, common_steps)

pub eq_items-loop-i-preserved : goal.eq_items-loop-i-preserved
eq_items-loop-i-preserved t c = grind (arith, common_steps)

pub eq_items-returns : goal.eq_items-returns
eq_items-returns t c = grind (arith, common_steps)

pub eq_present-returns-in-Some : goal.eq_present-returns-in-Some
eq_present-returns-in-Some t c = grind (arith, tests)

pub eq_present-returns-in-None : goal.eq_present-returns-in-None
eq_present-returns-in-None t c = grind (arith, tests)

pub eq_present-returns-in-Some-as_primitive : goal.eq_present-returns-in-Some-as_primitive
eq_present-returns-in-Some-as_primitive t c = grind (arith, tests)

pub eq_present-returns-in-None-as_primitive : goal.eq_present-returns-in-None-as_primitive
eq_present-returns-in-None-as_primitive t c = grind (arith, tests)

pub eq_present-returns-in-Some-as_utf8 : goal.eq_present-returns-in-Some-as_utf8
eq_present-returns-in-Some-as_utf8 t c = grind (arith, tests, get_or_read)

pub eq_present-returns-in-None-as_utf8 : goal.eq_present-returns-in-None-as_utf8
eq_present-returns-in-None-as_utf8 t c = grind (arith, tests, get_or_read)

pub eq_present-returns-in-Some-as_binary : goal.eq_present-returns-in-Some-as_binary
eq_present-returns-in-Some-as_binary t c = grind (arith, tests, get_or_read)

pub eq_present-returns-in-None-as_binary : goal.eq_present-returns-in-None-as_binary
eq_present-returns-in-None-as_binary t c = grind (arith, tests, get_or_read)

pub eq_present-returns-in-Some-as_list : goal.eq_present-returns-in-Some-as_list
eq_present-returns-in-Some-as_list t c = grind (arith, tests, get_or_read)

pub eq_present-returns-in-None-as_list : goal.eq_present-returns-in-None-as_list
eq_present-returns-in-None-as_list t c = grind (arith, tests, get_or_read)

pub eq_present-returns-in-Some-as_union : goal.eq_present-returns-in-Some-as_union
eq_present-returns-in-Some-as_union t c = grind (arith, tests, get_or_read)

pub eq_present-returns-in-None-as_union : goal.eq_present-returns-in-None-as_union
eq_present-returns-in-None-as_union t c = grind (arith, tests, get_or_read)

pub eq_present-returns-in-Some-as_variant : goal.eq_present-returns-in-Some-as_variant
eq_present-returns-in-Some-as_variant t c = grind (arith, tests, get_or_read)

pub eq_present-returns-in-None-as_variant : goal.eq_present-returns-in-None-as_variant
eq_present-returns-in-None-as_variant t c = grind (arith, tests, get_or_read)

pub eq_unions-returns-then-type_id : goal.eq_unions-returns-then-type_id
eq_unions-returns-then-type_id t c = grind (ints, arith, tests, get_or_read, c.type_id-2.ensures, c.type_id.ensures)

pub eq_unions-returns-else-type_id : goal.eq_unions-returns-else-type_id
eq_unions-returns-else-type_id t c = grind (ints, arith, tests, c.type_id-2.ensures, c.type_id.ensures)

pub eq_values-returns-in-None-None : goal.eq_values-returns-in-None-None
eq_values-returns-in-None-None t c = grind (arith, apart)

pub eq_values-returns-in-None-Some : goal.eq_values-returns-in-None-Some
eq_values-returns-in-None-Some t c = grind (arith, apart)

pub eq_values-returns-in-Some-Some : goal.eq_values-returns-in-Some-Some
eq_values-returns-in-Some-Some t c = grind (arith, apart)

pub eq_values-returns-in-Some-None : goal.eq_values-returns-in-Some-None
eq_values-returns-in-Some-None t c = grind (arith, apart)

pub eq_variants-returns-then-eq_ignore_nullability : goal.eq_variants-returns-then-eq_ignore_nullability
eq_variants-returns-then-eq_ignore_nullability t c = grind (arith, tests, get_or_read)

pub eq_variants-returns-else-eq_ignore_nullability : goal.eq_variants-returns-else-eq_ignore_nullability
eq_variants-returns-else-eq_ignore_nullability t c = grind (arith, tests, get_or_read)
