use Rattle.std.below.core.proofs.iter.Serving.{as_err}
use Rattle.std.proofs.Common.{◌≡◌, ◌<◌, [], ◌∷◌, ℕ, List, length, get_or, ap, ◌∙◌, map, arith, rules}
use Rattle.std.proofs.lemmas.Grind.{common_steps}
use Rattle.std.specs.List.{zip}
use Rattle.std.specs.Vec.Iter.{into_iter_items}
use Rattle.vortex_model.proofs.Lists.{none_left}
use Rattle.vortex_dtype_core.specs.View.{type_of, variant_of, variants_from, variants_in}
use Rattle.vortex_dtype_core.specs.declared.dtype.DType.{DType}
use Rattle.vortex_dtype_core.specs.declared.dtype.DType.TheViews.{roll-UnionVariants}
use Rattle.vortex_dtype_core.specs.declared.union_variants.UnionVariant.{UnionVariant}
use Rattle.vortex_dtype_core.specs.declared.dtype.DType.TheFolds as folds
use Rattle.vortex_dtype_core.proofs.Loops.{one_more_made, one_more_choice, no_more_choices}
use Rattle.vortex_dtype_core.proofs.Views.{built}
use Rattle.vortex_dtype_core.proofs.union_variants.UnionVariants.by_index.Goals as goal

pub loop-dtype-init : goal.loop-dtype-init
loop-dtype-init c = grind (arith, built)

pub offset_bounds-as_slice-i : goal.offset_bounds-as_slice-i
offset_bounds-as_slice-i c = grind (arith, built)

pub bounds-as_slice-i : goal.bounds-as_slice-i
bounds-as_slice-i c = grind (arith, built)

pub bounds-tags-i : goal.bounds-tags-i
bounds-tags-i c = grind (arith, built)

pub loop-dtype-preserved : goal.loop-dtype-preserved
loop-dtype-preserved c =
    let names : List (List ℕ) = c.args.names in
    let n : ℕ = length c.loop-dtype.variants.items in
    let left : List DType = into_iter_items c.loop-dtype.dtype-iterator in
    let after : List DType = into_iter_items c.next.new.self in
    let e : left ≡ c.in-Some.dtype ∷ after = search rules in
    let is : c.in_ok-name.name ≡ get_or names n c.in_ok-name.name = grind arith in
    let below : n < length names = omega (arith, ap length e) in
    let below_tags : n < length c.args.tags.now = omega (arith, ap length e) in
    record {
      many = one_more_made c.loop-dtype.variants.items c.push.new.self.items _ c.in_ok-push.ensures.items c.in-Some.dtype left after _ e c.loop-dtype.invariant.many;
      all = one_more_choice c.loop-dtype.variants.items c.push.new.self.items _ c.in_ok-push.ensures.items names c.args.tags.now left after _ below below_tags is (first_of (search rules, grind (arith, common_steps))) e c.loop-dtype.invariant.all;
    }

pub returns-in_err-variants : goal.returns-in_err-variants
returns-in_err-variants c = grind (arith, (as_err c.from_residual.ensures.0).1)

pub loop-dtype-init-derived : goal.loop-dtype-init-derived
loop-dtype-init-derived c = grind (arith, common_steps)

pub returns-in_err-name : goal.returns-in_err-name
returns-in_err-name c = grind (arith, (as_err c.from_residual-in_err-name.ensures.0).1)

pub returns-in_err-push : goal.returns-in_err-push
returns-in_err-push c = grind (arith, (as_err c.from_residual-in_err-push.ensures.0).1)

pub returns-in_err-variants-2 : goal.returns-in_err-variants-2
returns-in_err-variants-2 c = grind (arith, (as_err c.from_residual-in_err-variants-2.ensures.0).1)

pub returns : goal.returns
returns c =
    let it = c.loop-dtype.dtype-iterator in
    let left : List DType = into_iter_items it in
    let n : length left ≡ 0 = omega (arith, it.rest.ok.0, c.in-None.ensures.steps.0) in
    let made = no_more_choices c.args.names c.args.tags.now c.loop-dtype.variants.items left (zip c.args.names (zip c.args.tags.now (map type_of c.args.dtypes.items))) (none_left left n) c.loop-dtype.invariant.all in
    let is : map variant_of c.in_ok-variants-2.variants.value.items ≡ map variant_of c.loop-dtype.variants.items = rw c.in_ok-variants-2.ensures.ok in
    let level : variants_in (roll-UnionVariants record { variants = c.in_ok-variants-2.variants }) ≡ variants_from (map variant_of c.in_ok-variants-2.variants.value.items) = search (rules, folds.the_lemmas) in
    level ∙ ap variants_from (is ∙ made)
