use Rattle.std.proofs.Common.{◌≡◌, ◌<◌, ◌&&◌, ◌∙◌, ap, arith, sym, drop, ◌+◌, rules, true, suc, w8}
use Rattle.std.proofs.lemmas.Int.{to_z-of_z}
use Rattle.vortex_model.specs.Content.{raw_tuple, raw_first, no_raws}
use Rattle.vortex_model.specs.Valid.{valid, entries_have}
use Rattle.vortex_dtype_core.specs.View.{type_of, variants_of}
use Rattle.vortex_scalar_value.specs.Parts.{tag_in, child_in}
use Rattle.vortex_scalar_value.specs.View.{raw_of, raw_of_union, raw_of_variant, raw_in, raw_at, raws_in}
use Rattle.vortex_scalar_value.specs.declared.variant_value.VariantValue.{VariantValue}
use Rattle.vortex_scalar_value.proofs.Views.{raw_of-Tuple, raw_of-Union, raw_of-Variant}
use Rattle.vortex_scalar_value.proofs.Sizes.{raw_size, raws_size, raw_at-copied, item_smaller, child_size, typed_size}
use Rattle.vortex_scalar_ops.specs.Tagged.{type_under}
use Rattle.vortex_scalar_ops.proofs.Tags.{has_under, has_in, has_union}
use Rattle.vortex_scalar_ops.proofs.Validity.{entry_next, pair_has}
use Rattle.vortex_scalar_ops.proofs.validate.+validate.Goals as goal

pub validate-validate_tuple-requires : goal.validate-validate_tuple-requires
validate-validate_tuple-requires t c =
    let whole : raw_at c.args.value ≡ raw_tuple (raws_in c.as_slice-in-Tuple.result.now)
    = ap raw_at c.in-Some.is ∙ ap raw_of c.in-Tuple.is ∙ raw_of-Tuple c.in-Tuple.items ∙ ap (λ is. raw_tuple (raws_in is)) (sym c.as_slice-in-Tuple.ensures.value) in
    let e = ap raw_size whole in
    let d : raw_size (raw_at c.args.value) ≡ t = c.decreases in
    (omega (arith, e, d), tt)

pub validate-validate_union-requires : goal.validate-validate_union-requires
validate-validate_union-requires t c =
    let whole : raw_at c.args.value ≡ raw_of_union c.in-Union.union = ap raw_at c.in-Some.is ∙ ap raw_of c.in-Union.is ∙ raw_of-Union c.in-Union.union in
    let e = ap raw_size whole ∙ child_size c.in-Union.union in
    let d : raw_size (raw_at c.args.value) ≡ t = c.decreases in
    (omega (arith, e, d), tt)

pub validate-validate_variant-requires : goal.validate-validate_variant-requires
validate-validate_variant-requires t c =
    let v = c.in-Variant.variant in
    let whole : raw_at c.args.value ≡ raw_of_variant v.value = ap raw_at c.in-Some.is ∙ ap raw_of c.in-Variant.is ∙ raw_of-Variant v in
    let e = ap raw_size whole ∙ typed_size v.value in
    let f = ap (λ (w : VariantValue). raw_size (child_in (raw_of_variant w))) c.deref.ensures in
    let d : raw_size (raw_at c.args.value) ≡ t = c.decreases in
    (omega (arith, e, f, d), tt)

pub validate_union-validate-requires : goal.validate_union-validate-requires
validate_union-validate-requires t c =
    let e = ap raw_size c.child_value.ensures in
    let d : suc (raw_size (child_in (raw_of_union c.args.union.now))) ≡ t = c.decreases in
    (omega (arith, e, d), tt)

pub validate_variant-validate-requires : goal.validate_variant-validate-requires
validate_variant-validate-requires t c =
    let e = ap raw_size c.value.ensures in
    let d : suc (raw_size (child_in (raw_of_variant c.args.variant.now))) ≡ t = c.decreases in
    (omega (arith, e, d), tt)

pub validate_items-validate-requires : goal.validate_items-validate-requires
validate_items-validate-requires t c =
    let e : raw_size (raw_at c.as_ref.result) < raws_size (raws_in c.args.items.now) = item_smaller c.args.items.now c.loop-item.item-index c.item-item.result c.as_ref.result c.loop-item-test.true c.item-item.is c.as_ref.ensures.value in
    let d : raws_size (raws_in c.args.items.now) ≡ t = c.decreases in
    (omega (arith, e, d), tt)

pub validate_entries-validate_entry-requires : goal.validate_entries-validate_entry-requires
validate_entries-validate_entry-requires t c =
    let e : raw_size (raw_at c.as_ref.result) < raws_size (raws_in c.args.items.now) = item_smaller c.args.items.now c.loop-entry.entry-index c.entry-item.result c.as_ref.result c.loop-entry-test.true c.entry-item.is c.as_ref.ensures.value in
    let d : raws_size (raws_in c.args.items.now) ≡ t = c.decreases in
    (omega (arith, e, d), tt)

pub validate_fields-validate-requires : goal.validate_fields-validate-requires
validate_fields-validate-requires t c =
    let e : raw_size (raw_at c.as_ref.result) < raws_size (raws_in c.args.items.now) = item_smaller c.args.items.now c.loop-i.i c.index-items-i.result c.as_ref.result c.loop-i-test.true c.index-items-i.is c.as_ref.ensures.value in
    let d : raws_size (raws_in c.args.items.now) ≡ t = c.decreases in
    (omega (arith, e, d), tt)

pub validate_entries-returns-then-not-validate_entry : goal.validate_entries-returns-then-not-validate_entry
validate_entries-returns-then-not-validate_entry t c =
    let k = type_of c.args.key.now in
    let v = type_of c.args.value.now in
    let rest = entries_have k v (raws_in (drop (c.loop-entry.entry-index + 1) c.args.items.now)) in
    sym (sym c.loop-entry.invariant ∙ entry_next k v c.args.items.now c.loop-entry.entry-index c.entry-item.result c.as_ref.result c.loop-entry-test.true c.entry-item.is c.as_ref.ensures.value
    ∙ ap (λ b. b && rest) (sym c.if-not-validate_entry.ensures))

pub validate_entries-loop-entry-preserved : goal.validate_entries-loop-entry-preserved
validate_entries-loop-entry-preserved t c =
    let k = type_of c.args.key.now in
    let v = type_of c.args.value.now in
    let rest = entries_have k v (raws_in (drop (c.loop-entry.entry-index + 1) c.args.items.now)) in
    sym (entry_next k v c.args.items.now c.loop-entry.entry-index c.entry-item.result c.as_ref.result c.loop-entry-test.true c.entry-item.is c.as_ref.ensures.value
    ∙ ap (λ b. b && rest) (sym c.if-not-validate_entry.ensures)) ∙ c.loop-entry.invariant

pub validate_entry-returns-then-validate : goal.validate_entry-returns-then-validate
validate_entry-returns-then-validate t c =
    let k = type_of c.args.key.now in
    let v = type_of c.args.value.now in
    let pair = c.as_slice.result.now in
    let whole : raw_at c.args.entry ≡ raw_tuple (raws_in pair) = search (rules, raw_of-Tuple) in
    let first : valid k (raw_in c.first-item.result) ≡ true = ap (valid k) (sym (raw_at-copied c.as_ref.result ∙ ap (λ u. raw_in u) c.as_ref.ensures.value)) ∙ sym c.if-validate.ensures in
    let second : valid v (raw_in c.second-item.result) ≡ c.validate-then-validate.result
    = ap (valid v) (sym (raw_at-copied c.as_ref-then-validate.result ∙ ap (λ u. raw_in u) c.as_ref-then-validate.ensures.value)) ∙ sym c.validate-then-validate.ensures in
    sym (ap (λ r. entries_have k v (raw_first r no_raws)) whole ∙ pair_has k v pair c.first-item.result c.second-item.result (omega arith) c.first-item.is c.second-item.is
    ∙ ap (λ b. b && valid v (raw_in c.second-item.result)) first ∙ second)

pub validate_entry-returns-else-validate : goal.validate_entry-returns-else-validate
validate_entry-returns-else-validate t c =
    let k = type_of c.args.key.now in
    let v = type_of c.args.value.now in
    let pair = c.as_slice.result.now in
    let whole : raw_at c.args.entry ≡ raw_tuple (raws_in pair) = search (rules, raw_of-Tuple) in
    let first : valid k (raw_in c.first-item.result) ≡ c.validate.result = ap (valid k) (sym (raw_at-copied c.as_ref.result ∙ ap (λ u. raw_in u) c.as_ref.ensures.value)) ∙ sym c.validate.ensures in
    sym (ap (λ r. entries_have k v (raw_first r no_raws)) whole ∙ pair_has k v pair c.first-item.result c.second-item.result (omega arith) c.first-item.is c.second-item.is
    ∙ ap (λ b. b && valid v (raw_in c.second-item.result)) (first ∙ c.if-validate.false) ∙ sym c.if-validate.false)

pub validate_union-returns-in-Some-dtype_tagged : goal.validate_union-returns-in-Some-dtype_tagged
validate_union-returns-in-Some-dtype_tagged t c =
    let union = c.args.union.now in
    let child = child_in (raw_of_union union) in
    let tag = to_z-of_z w8 c.type_id.result (search rules) ∙ c.type_id.ensures in
    let found = c.in-Some-dtype_tagged.ensures ∙ ap (λ t. type_under (variants_of c.as_slice.result.now) t) tag ∙ ap (λ vs. type_under vs (tag_in (raw_of_union union))) c.as_slice.ensures.variants in
    c.validate.ensures ∙ ap (valid (type_of c.in-Some-dtype_tagged.dtype.now)) c.child_value.ensures ∙ ap (λ o. has_under o child) found
    ∙ ap (λ o. has_in o (tag_in (raw_of_union union)) child) c.in-Some.ensures ∙ sym (has_union (type_of c.args.dtype.now) union)

pub validate_union-returns-in-None : goal.validate_union-returns-in-None
validate_union-returns-in-None t c =
    let union = c.args.union.now in
    let child = child_in (raw_of_union union) in
    let tag = to_z-of_z w8 c.type_id.result (search rules) ∙ c.type_id.ensures in
    let found = c.in-None.ensures ∙ ap (λ t. type_under (variants_of c.as_slice.result.now) t) tag ∙ ap (λ vs. type_under vs (tag_in (raw_of_union union))) c.as_slice.ensures.variants in
    ap (λ o. has_under o child) found ∙ ap (λ o. has_in o (tag_in (raw_of_union union)) child) c.in-Some.ensures ∙ sym (has_union (type_of c.args.dtype.now) union)
