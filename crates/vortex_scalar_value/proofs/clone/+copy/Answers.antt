use Rattle.std.proofs.Common.{arith}
use Rattle.std.below.core.proofs.iter.Serving.{as_err}
use Rattle.std.proofs.lemmas.Grind.{common_steps}
use Rattle.vortex_scalar_value.proofs.Views.{one_level}
use borrow.Author.Rules.{get_or_read}
use Rattle.vortex_scalar_value.proofs.clone.+copy.Goals as goal

pub copy_of-returns-in_ok-new-in-Variant : goal.copy_of-returns-in_ok-new-in-Variant
copy_of-returns-in_ok-new-in-Variant t c = grind (arith, one_level, get_or_read)

pub copy_items-returns-in_err-push-in-None : goal.copy_items-returns-in_err-push-in-None
copy_items-returns-in_err-push-in-None t c = grind (arith, (as_err c.from_residual-in_err-push-in-None.ensures.0).1)

pub copy_items-bounds-item-items-item-index : goal.copy_items-bounds-item-items-item-index
copy_items-bounds-item-items-item-index t c = grind (arith, one_level, get_or_read, c.well_formed)

pub copy_of-returns-in_ok-copy_union-in-Union : goal.copy_of-returns-in_ok-copy_union-in-Union
copy_of-returns-in_ok-copy_union-in-Union t c = grind (arith, one_level)

pub copy_of-returns-in_ok-copy_items-in-Tuple : goal.copy_of-returns-in_ok-copy_items-in-Tuple
copy_of-returns-in_ok-copy_items-in-Tuple t c = grind (arith, one_level)

pub copy_union-returns-in_err-child-in-Some : goal.copy_union-returns-in_err-child-in-Some
copy_union-returns-in_err-child-in-Some t c = grind (arith, (as_err c.from_residual-in_err-child-in-Some.ensures.0).1)

pub copy_of-returns-in_err-copy-in-Variant : goal.copy_of-returns-in_err-copy-in-Variant
copy_of-returns-in_err-copy-in-Variant t c = grind (arith, (as_err c.from_residual-in_err-copy-in-Variant.ensures.0).1)

pub copy_items-returns-in_err-push-in-Some : goal.copy_items-returns-in_err-push-in-Some
copy_items-returns-in_err-push-in-Some t c = grind (arith, (as_err c.from_residual-in_err-push-in-Some.ensures.0).1)

pub copy_union-returns-in-None : goal.copy_union-returns-in-None
copy_union-returns-in-None t c = grind (arith, one_level)

pub copy_of-returns-in_err-copy_union-in-Union : goal.copy_of-returns-in_err-copy_union-in-Union
copy_of-returns-in_err-copy_union-in-Union t c = grind (arith, (as_err c.from_residual-in_err-copy_union-in-Union.ensures.0).1)

pub copy_of-returns-in_err-clone-in-Binary : goal.copy_of-returns-in_err-clone-in-Binary
copy_of-returns-in_err-clone-in-Binary t c = grind (arith, (as_err c.from_residual-in_err-clone-in-Binary.ensures.0).1)

pub copy_of-returns-in_ok-clone-in-Binary : goal.copy_of-returns-in_ok-clone-in-Binary
copy_of-returns-in_ok-clone-in-Binary t c = grind (arith, one_level)

pub copy_union-returns-in_ok-child-in-Some : goal.copy_union-returns-in_ok-child-in-Some
copy_union-returns-in_ok-child-in-Some t c = grind (arith, one_level, get_or_read)

pub copy_of-returns-in-Bool : goal.copy_of-returns-in-Bool
copy_of-returns-in-Bool t c = grind (arith, one_level)

pub copy_items-loop-item-smaller : goal.copy_items-loop-item-smaller
copy_items-loop-item-smaller t c = grind (arith, one_level, get_or_read, c.well_formed)

pub copy_of-returns-in_ok-clone-in-Utf8 : goal.copy_of-returns-in_ok-clone-in-Utf8
copy_of-returns-in_ok-clone-in-Utf8 t c = grind (arith, one_level)

pub copy_items-returns-in_err-copy_of-in-Some : goal.copy_items-returns-in_err-copy_of-in-Some
copy_items-returns-in_err-copy_of-in-Some t c = grind (arith, (as_err c.from_residual-in_err-copy_of-in-Some.ensures.0).1)

pub copy_variant-returns-in_err-dtype : goal.copy_variant-returns-in_err-dtype
copy_variant-returns-in_err-dtype t c = grind (arith, (as_err c.from_residual.ensures.0).1)

pub copy_items-offset_bounds-item-items-item-index : goal.copy_items-offset_bounds-item-items-item-index
copy_items-offset_bounds-item-items-item-index t c = grind (arith, one_level, c.well_formed)

pub copy_of-returns-in_err-copy_items-in-Tuple : goal.copy_of-returns-in_err-copy_items-in-Tuple
copy_of-returns-in_err-copy_items-in-Tuple t c = grind (arith, (as_err c.from_residual-in_err-copy_items-in-Tuple.ensures.0).1)

pub copy_union-returns-in_err-copy-in-Some : goal.copy_union-returns-in_err-copy-in-Some
copy_union-returns-in_err-copy-in-Some t c = grind (arith, (as_err c.from_residual.ensures.0).1)

pub copy_of-returns-in_err-clone-in-Utf8 : goal.copy_of-returns-in_err-clone-in-Utf8
copy_of-returns-in_err-clone-in-Utf8 t c = grind (arith, (as_err c.from_residual.ensures.0).1)

pub copy_of-returns-in_err-new-in-Variant : goal.copy_of-returns-in_err-new-in-Variant
copy_of-returns-in_err-new-in-Variant t c = grind (arith, (as_err c.from_residual-in_err-new-in-Variant.ensures.0).1)

pub copy_variant-returns-in_ok-copy-in-Some : goal.copy_variant-returns-in_ok-copy-in-Some
copy_variant-returns-in_ok-copy-in-Some t c = grind (arith, one_level)

pub copy_variant-returns-in-None : goal.copy_variant-returns-in-None
copy_variant-returns-in-None t c = grind (arith, one_level)

pub copy_of-returns-in-Primitive : goal.copy_of-returns-in-Primitive
copy_of-returns-in-Primitive t c = grind (arith, one_level)

pub copy_items-loop-item-init : goal.copy_items-loop-item-init
copy_items-loop-item-init t c = grind (arith, one_level, get_or_read)

pub copy_variant-returns-in_err-copy-in-Some : goal.copy_variant-returns-in_err-copy-in-Some
copy_variant-returns-in_err-copy-in-Some t c = grind (arith, (as_err c.from_residual-in_err-copy-in-Some.ensures.0).1)

pub copy_items-returns-in_err-copies : goal.copy_items-returns-in_err-copies
copy_items-returns-in_err-copies t c = grind (arith, (as_err c.from_residual.ensures.0).1)

pub copy_items-returns : goal.copy_items-returns
copy_items-returns t c = grind (arith, common_steps)

pub copy_items-loop-item-preserved : goal.copy_items-loop-item-preserved
copy_items-loop-item-preserved t c = grind (arith, common_steps)
