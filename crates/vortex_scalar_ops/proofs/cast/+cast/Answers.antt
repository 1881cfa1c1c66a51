use Rattle.std.below.core.proofs.iter.Serving.{as_err}
use Rattle.std.proofs.lemmas.Grind.{common_steps}
use Rattle.std.proofs.Common.{◌≡◌, ◌∙◌, ◌<◌, ◌+◌, ◌&&◌, ap, sym, true, false, drop, length, arith, rules}
use Rattle.vortex_model.specs.Content.{contents_of, count, raw_count}
use Rattle.vortex_model.specs.Valid.{valid, all_have, fields_have}
use Rattle.vortex_model.specs.Convert.{converts, fields_convert}
use Rattle.vortex_dtype_core.specs.View.{type_of, fields_of}
use Rattle.vortex_scalar_ops.specs.Converting.{takes_length}
use Rattle.vortex_scalar_value.specs.View.{raw_in, raw_at, raws_in, content_in, content_at}
use Rattle.vortex_scalar_value.specs.declared.error.ScalarError.TheVariants.{NotConvertible, Invalid}
use Rattle.vortex_scalar_ops.proofs.ListValues.{lists_convert, valid_list}
use Rattle.vortex_scalar_ops.proofs.Casts.{content_at-copied, contents_all, contents_more, valid_more, fields_next, items_more, all_have-more, all_have-at, fields_have-at, records, tuples, values}
use Rattle.vortex_scalar_value.proofs.Sizes.{raw_size, raws_size, raw_at-copied, item_smaller}
use Rattle.vortex_scalar_value.proofs.Views.{raw_count-raws_in, one_level}
use borrow.Author.Rules.{get_or_read}
use Rattle.vortex_model.proofs.Contents.{eq_count}
use Rattle.vortex_scalar_ops.proofs.cast.+cast.Goals as goal

-- ---- structs

pub cast_fields-convert_value-requires : goal.cast_fields-convert_value-requires
cast_fields-convert_value-requires t c =
    let e : raw_size (raw_at c.as_ref-item.result) < raws_size (raws_in c.args.items.now) = item_smaller c.args.items.now c.loop-i.i c.index-items-i.result c.as_ref-item.result c.loop-i-test.true c.index-items-i.is c.as_ref-item.ensures.value in
    let d : raws_size (raws_in c.args.items.now) ≡ t = c.decreases in
    (omega (arith, e, d), tt)

pub cast_fields-returns-in_err-new-clause-refused :
    goal.cast_fields-returns-in_err-new-clause-refused
cast_fields-returns-in_err-new-clause-refused t c =
    let i = c.loop-i.i in
    let item = c.index-items-i.result in
    let source = c.index-sources-i.result in
    let target = c.index-targets-i.result in
    let old = c.loop-i.invariant in
    let sources = c.args.sources.now in
    let targets = c.args.targets.now in
    let items = c.args.items.now in
    let said : content_at c.as_ref-item.result ≡ content_in item = content_at-copied c.as_ref-item.result ∙ ap (λ v. content_in v) c.as_ref-item.ensures.value in
    let within : i < length items = omega arith in
    let within_sources : i < length sources = omega (arith, old.eq_sources) in
    let within_targets : i < length targets = omega (arith, old.eq_targets) in
    let rest = fields_convert (fields_of (drop (i + 1) sources)) (fields_of (drop (i + 1) targets)) (contents_of (raws_in (drop (i + 1) items))) in
    let why : c.in_err-new.field-0.0 ≡ NotConvertible → fields_convert (fields_of sources) (fields_of targets) (contents_of (raws_in items)) ≡ false
    = λ h. let fails = c.in_err-new.ensures.refused (cc (h)) in
    let not : converts (type_of source.dtype) (type_of target.dtype) (content_in item) ≡ false = cc (fails, c.index-sources-i.is, c.index-targets-i.is, said) in
    sym old.left ∙ fields_next sources targets items i source target item within_sources within_targets within c.index-sources-i.is c.index-targets-i.is c.index-items-i.is ∙ ap (λ b. b && rest) not in
    let gives = c.from_residual-in_err-new.ensures.1 in
    search (rules, why, gives)

pub cast_fields-returns-in_err-new-clause-invalid :
    goal.cast_fields-returns-in_err-new-clause-invalid
cast_fields-returns-in_err-new-clause-invalid t c =
    let i = c.loop-i.i in
    let item = c.index-items-i.result in
    let source = c.index-sources-i.result in
    let sources = c.args.sources.now in
    let items = c.args.items.now in
    let seen : raw_at c.as_ref-item.result ≡ raw_in item = raw_at-copied c.as_ref-item.result ∙ ap (λ v. raw_in v) c.as_ref-item.ensures.value in
    let within : i < length items = omega arith in
    let within_sources : i < length sources = omega (arith, c.loop-i.invariant.eq_sources) in
    let why : c.in_err-new.field-0.0 ≡ Invalid → fields_have (fields_of sources) (raws_in items) ≡ false
    = λ h. let fails = c.in_err-new.ensures.invalid (cc (h)) in
    let not : valid (type_of source.dtype) (raw_in item) ≡ false = cc (fails, c.index-sources-i.is, seen) in
    fields_have-at sources items i source item within_sources within c.index-sources-i.is c.index-items-i.is not in
    let gives = c.from_residual-in_err-new.ensures.1 in
    search (rules, why, gives)

pub cast_fields-loop-i-preserved : goal.cast_fields-loop-i-preserved
cast_fields-loop-i-preserved t c =
    let i = c.loop-i.i in
    let item = c.index-items-i.result in
    let source = c.index-sources-i.result in
    let target = c.index-targets-i.result in
    let new = c.in_ok-new.new in
    let old = c.loop-i.invariant in
    let sources = c.args.sources.now in
    let targets = c.args.targets.now in
    let items = c.args.items.now in
    let said : content_at c.as_ref-item.result ≡ content_in item = content_at-copied c.as_ref-item.result ∙ ap (λ v. content_in v) c.as_ref-item.ensures.value in
    let kept : content_in new ≡ content_in item = c.in_ok-new.ensures.content ∙ said in
    let is_valid : valid (type_of target.dtype) (raw_in new) ≡ true
    = ap (λ t. valid (type_of t.dtype) (raw_in new)) c.index-targets-i.is ∙ c.in_ok-new.ensures.valid in
    let does : converts (type_of source.dtype) (type_of target.dtype) (content_in item) ≡ true
    = cc (c.in_ok-new.ensures.converts, c.index-sources-i.is, c.index-targets-i.is, said) in
    let within : i < length items = omega arith in
    let within_sources : i < length sources = omega (arith, old.eq_sources) in
    let within_targets : i < length targets = omega (arith, old.eq_targets) in
    let rest = fields_convert (fields_of (drop (i + 1) sources)) (fields_of (drop (i + 1) targets)) (contents_of (raws_in (drop (i + 1) items))) in
    record {
      eq_sources = old.eq_sources;
      eq_targets = old.eq_targets;
      content = rw c.in_ok-push.ensures.items (contents_more c.loop-i.all.items items i new item within c.index-items-i.is kept old.content);
      valid = rw c.in_ok-push.ensures.items (valid_more targets c.loop-i.all.items i target new within_targets c.index-targets-i.is is_valid old.valid);
      left = sym (fields_next sources targets items i source target item within_sources within_targets within c.index-sources-i.is c.index-targets-i.is c.index-items-i.is ∙ ap (λ b. b && rest) does) ∙ old.left;
    }

pub cast_fields-returns-clause-content : goal.cast_fields-returns-clause-content
cast_fields-returns-clause-content t c = contents_all c.loop-i.all.items c.args.items.now c.loop-i.i (omega arith) c.loop-i.invariant.content

-- ---- lists

pub cast_items-convert_value-requires : goal.cast_items-convert_value-requires
cast_items-convert_value-requires t c =
    let e : raw_size (raw_at c.as_ref-item.result) < raws_size (raws_in c.args.items.now) = item_smaller c.args.items.now c.loop-item.item-index c.item-item.result c.as_ref-item.result c.loop-item-test.true c.item-item.is c.as_ref-item.ensures.value in
    let d : raws_size (raws_in c.args.items.now) ≡ t = c.decreases in
    (omega (arith, e, d), tt)

pub cast_items-returns-in_err-new-clause-invalid : goal.cast_items-returns-in_err-new-clause-invalid
cast_items-returns-in_err-new-clause-invalid t c =
    let i = c.loop-item.item-index in
    let item = c.item-item.result in
    let items = c.args.items.now in
    let source = type_of c.args.source.now in
    let seen : raw_at c.as_ref-item.result ≡ raw_in item = raw_at-copied c.as_ref-item.result ∙ ap (λ v. raw_in v) c.as_ref-item.ensures.value in
    let why : c.in_err-new.field-0.0 ≡ Invalid → all_have source (raws_in items) ≡ false
    = λ h. all_have-at source items i item c.loop-item-test.true c.item-item.is (ap (valid source) (sym seen) ∙ c.in_err-new.ensures.invalid (cc (h))) in
    let gives = c.from_residual-in_err-new.ensures.1 in
    search (rules, why, gives)

pub cast_items-loop-item-preserved : goal.cast_items-loop-item-preserved
cast_items-loop-item-preserved t c =
    let i = c.loop-item.item-index in
    let item = c.item-item.result in
    let new = c.in_ok-new.new in
    let old = c.loop-item.invariant in
    let items = c.args.items.now in
    let source = type_of c.args.source.now in
    let target = type_of c.args.target.now in
    let said : content_at c.as_ref-item.result ≡ content_in item = content_at-copied c.as_ref-item.result ∙ ap (λ v. content_in v) c.as_ref-item.ensures.value in
    let kept : content_in new ≡ content_in item = c.in_ok-new.ensures.content ∙ said in
    let does : converts source target (content_in item) ≡ true = ap (converts source target) (sym said) ∙ c.in_ok-new.ensures.converts in
    record {
      content = rw c.in_ok-push.ensures.items (contents_more c.loop-item.all.items items i new item c.loop-item-test.true c.item-item.is kept old.content);
      valid = rw c.in_ok-push.ensures.items (all_have-more target c.loop-item.all.items new old.valid c.in_ok-new.ensures.valid);
      left = items_more source target items i item c.loop-item-test.true c.item-item.is does ∙ old.left;
    }

pub cast_items-returns-clause-content : goal.cast_items-returns-clause-content
cast_items-returns-clause-content t c = contents_all c.loop-item.all.items c.args.items.now c.loop-item.item-index (omega arith) c.loop-item.invariant.content

-- ---- a list's type and its values

pub cast_tuple-returns-in-Some-clause-converts : goal.cast_tuple-returns-in-Some-clause-converts
cast_tuple-returns-in-Some-clause-converts t c =
    let items = c.args.items.now in
    let target = type_of c.args.target.now in
    let long : takes_length target (count (contents_of (raws_in items))) ≡ true
    = ap (takes_length target) (eq_count (raws_in items) ∙ raw_count-raws_in items) ∙ sym c.if-not-takes_length.ensures in
    lists_convert (type_of c.args.source.now) target _ _ (contents_of (raws_in items)) (sym c.in-Some.ensures) (sym c.in-Some-as_any_size_list_element_opt.ensures) long ∙ c.in_ok-all.ensures.converts

pub cast_tuple-returns-in-Some-clause-valid : goal.cast_tuple-returns-in-Some-clause-valid
cast_tuple-returns-in-Some-clause-valid t c =
    let items = c.args.items.now in
    let all = c.in_ok-all.all.items in
    let target = type_of c.args.target.now in
    let as_many : raw_count (raws_in all) ≡ length items
    = sym (eq_count (raws_in all)) ∙ ap count c.in_ok-all.ensures.content ∙ eq_count (raws_in items) ∙ raw_count-raws_in items in
    let long : takes_length target (raw_count (raws_in all)) ≡ true = ap (takes_length target) as_many ∙ sym c.if-not-takes_length.ensures in
    valid_list target _ (raws_in all) (sym c.in-Some-as_any_size_list_element_opt.ensures) long ∙ c.in_ok-all.ensures.valid

pub cast_fields-returns-then-sources-items-clause-converts : goal.cast_fields-returns-then-sources-items-clause-converts
cast_fields-returns-then-sources-items-clause-converts t c = grind (arith, records)

pub cast_fields-returns-then-sources-items-clause-content : goal.cast_fields-returns-then-sources-items-clause-content
cast_fields-returns-then-sources-items-clause-content t c = grind (arith, records)

pub cast_fields-returns-then-sources-items-clause-valid : goal.cast_fields-returns-then-sources-items-clause-valid
cast_fields-returns-then-sources-items-clause-valid t c = grind (arith, records)

pub cast_fields-returns-then-sources-items-clause-refused : goal.cast_fields-returns-then-sources-items-clause-refused
cast_fields-returns-then-sources-items-clause-refused t c = grind (arith, records)

pub cast_fields-returns-then-sources-items-clause-invalid : goal.cast_fields-returns-then-sources-items-clause-invalid
cast_fields-returns-then-sources-items-clause-invalid t c = grind (arith, records)

pub cast_fields-returns-then-targets-items-clause-converts : goal.cast_fields-returns-then-targets-items-clause-converts
cast_fields-returns-then-targets-items-clause-converts t c = grind (arith, records)

pub cast_fields-returns-then-targets-items-clause-content : goal.cast_fields-returns-then-targets-items-clause-content
cast_fields-returns-then-targets-items-clause-content t c = grind (arith, records)

pub cast_fields-returns-then-targets-items-clause-valid : goal.cast_fields-returns-then-targets-items-clause-valid
cast_fields-returns-then-targets-items-clause-valid t c = grind (arith, records)

pub cast_fields-returns-then-targets-items-clause-refused : goal.cast_fields-returns-then-targets-items-clause-refused
cast_fields-returns-then-targets-items-clause-refused t c = grind (arith, records)

pub cast_fields-returns-then-targets-items-clause-invalid : goal.cast_fields-returns-then-targets-items-clause-invalid
cast_fields-returns-then-targets-items-clause-invalid t c = grind (arith, records)

pub cast_fields-returns-in_err-all-clause-converts : goal.cast_fields-returns-in_err-all-clause-converts
cast_fields-returns-in_err-all-clause-converts t c = grind (arith, (as_err c.from_residual.ensures.0).1)

pub cast_fields-returns-in_err-all-clause-content : goal.cast_fields-returns-in_err-all-clause-content
cast_fields-returns-in_err-all-clause-content t c = grind (arith, (as_err c.from_residual.ensures.0).1)

pub cast_fields-returns-in_err-all-clause-valid : goal.cast_fields-returns-in_err-all-clause-valid
cast_fields-returns-in_err-all-clause-valid t c = grind (arith, (as_err c.from_residual.ensures.0).1)

pub cast_fields-returns-in_err-all-clause-refused : goal.cast_fields-returns-in_err-all-clause-refused
cast_fields-returns-in_err-all-clause-refused t c = grind (arith, (as_err c.from_residual.ensures.0).1)

pub cast_fields-returns-in_err-all-clause-invalid : goal.cast_fields-returns-in_err-all-clause-invalid
cast_fields-returns-in_err-all-clause-invalid t c = grind (arith, (as_err c.from_residual.ensures.0).1)

pub cast_fields-loop-i-init : goal.cast_fields-loop-i-init
cast_fields-loop-i-init t c = grind (arith, records)

pub cast_fields-offset_bounds-items-i : goal.cast_fields-offset_bounds-items-i
cast_fields-offset_bounds-items-i t c = grind (arith, records, c.well_formed)

pub cast_fields-bounds-items-i : goal.cast_fields-bounds-items-i
cast_fields-bounds-items-i t c = grind (arith, records, c.well_formed)

pub cast_fields-offset_bounds-sources-i : goal.cast_fields-offset_bounds-sources-i
cast_fields-offset_bounds-sources-i t c = grind (arith, records, c.well_formed)

pub cast_fields-bounds-sources-i : goal.cast_fields-bounds-sources-i
cast_fields-bounds-sources-i t c = grind (arith, records, get_or_read, c.well_formed)

pub cast_fields-offset_bounds-targets-i : goal.cast_fields-offset_bounds-targets-i
cast_fields-offset_bounds-targets-i t c = grind (arith, records, c.well_formed)

pub cast_fields-bounds-targets-i : goal.cast_fields-bounds-targets-i
cast_fields-bounds-targets-i t c = grind (arith, records, get_or_read, c.well_formed)

pub cast_fields-returns-in_err-new-clause-converts : goal.cast_fields-returns-in_err-new-clause-converts
cast_fields-returns-in_err-new-clause-converts t c = grind (arith, (as_err c.from_residual-in_err-new.ensures.0).1)

pub cast_fields-returns-in_err-new-clause-content : goal.cast_fields-returns-in_err-new-clause-content
cast_fields-returns-in_err-new-clause-content t c = grind (arith, (as_err c.from_residual-in_err-new.ensures.0).1)

pub cast_fields-returns-in_err-new-clause-valid : goal.cast_fields-returns-in_err-new-clause-valid
cast_fields-returns-in_err-new-clause-valid t c = grind (arith, (as_err c.from_residual-in_err-new.ensures.0).1)

pub cast_fields-returns-in_err-push-clause-converts : goal.cast_fields-returns-in_err-push-clause-converts
cast_fields-returns-in_err-push-clause-converts t c = grind (arith, (as_err c.from_residual-in_err-push.ensures.0).1)

pub cast_fields-returns-in_err-push-clause-content : goal.cast_fields-returns-in_err-push-clause-content
cast_fields-returns-in_err-push-clause-content t c = grind (arith, (as_err c.from_residual-in_err-push.ensures.0).1)

pub cast_fields-returns-in_err-push-clause-valid : goal.cast_fields-returns-in_err-push-clause-valid
cast_fields-returns-in_err-push-clause-valid t c = grind (arith, (as_err c.from_residual-in_err-push.ensures.0).1)

pub cast_fields-returns-in_err-push-clause-refused : goal.cast_fields-returns-in_err-push-clause-refused
cast_fields-returns-in_err-push-clause-refused t c = grind (arith, (as_err c.from_residual-in_err-push.ensures.0).1)

pub cast_fields-returns-in_err-push-clause-invalid : goal.cast_fields-returns-in_err-push-clause-invalid
cast_fields-returns-in_err-push-clause-invalid t c = grind (arith, (as_err c.from_residual-in_err-push.ensures.0).1)

pub cast_fields-loop-i-smaller : goal.cast_fields-loop-i-smaller
cast_fields-loop-i-smaller t c = grind (arith, records, get_or_read, c.well_formed, c.loop-i.invariant, c.loop-i.far-i, c.loop-i-test.true)

pub cast_fields-returns-clause-converts : goal.cast_fields-returns-clause-converts
cast_fields-returns-clause-converts t c = grind (arith, common_steps)

pub cast_fields-returns-clause-valid : goal.cast_fields-returns-clause-valid
cast_fields-returns-clause-valid t c = grind (arith, common_steps)

pub cast_fields-returns-clause-refused : goal.cast_fields-returns-clause-refused
cast_fields-returns-clause-refused t c = grind (arith, records, c.well_formed)

pub cast_fields-returns-clause-invalid : goal.cast_fields-returns-clause-invalid
cast_fields-returns-clause-invalid t c = grind (arith, records, c.well_formed)

pub cast_items-returns-in_err-all-clause-converts : goal.cast_items-returns-in_err-all-clause-converts
cast_items-returns-in_err-all-clause-converts t c = grind (arith, (as_err c.from_residual.ensures.0).1)

pub cast_items-returns-in_err-all-clause-content : goal.cast_items-returns-in_err-all-clause-content
cast_items-returns-in_err-all-clause-content t c = grind (arith, (as_err c.from_residual.ensures.0).1)

pub cast_items-returns-in_err-all-clause-valid : goal.cast_items-returns-in_err-all-clause-valid
cast_items-returns-in_err-all-clause-valid t c = grind (arith, (as_err c.from_residual.ensures.0).1)

pub cast_items-returns-in_err-all-clause-refused : goal.cast_items-returns-in_err-all-clause-refused
cast_items-returns-in_err-all-clause-refused t c = grind (arith, (as_err c.from_residual.ensures.0).1)

pub cast_items-returns-in_err-all-clause-invalid : goal.cast_items-returns-in_err-all-clause-invalid
cast_items-returns-in_err-all-clause-invalid t c = grind (arith, (as_err c.from_residual.ensures.0).1)

pub cast_items-loop-item-init : goal.cast_items-loop-item-init
cast_items-loop-item-init t c = grind (arith, one_level)

pub cast_items-offset_bounds-items-item-index : goal.cast_items-offset_bounds-items-item-index
cast_items-offset_bounds-items-item-index t c = grind (arith, one_level, c.well_formed)

pub cast_items-returns-in_err-new-clause-converts : goal.cast_items-returns-in_err-new-clause-converts
cast_items-returns-in_err-new-clause-converts t c = grind (arith, (as_err c.from_residual-in_err-new.ensures.0).1)

pub cast_items-returns-in_err-new-clause-content : goal.cast_items-returns-in_err-new-clause-content
cast_items-returns-in_err-new-clause-content t c = grind (arith, (as_err c.from_residual-in_err-new.ensures.0).1)

pub cast_items-returns-in_err-new-clause-valid : goal.cast_items-returns-in_err-new-clause-valid
cast_items-returns-in_err-new-clause-valid t c = grind (arith, (as_err c.from_residual-in_err-new.ensures.0).1)

pub cast_items-returns-in_err-new-clause-refused : goal.cast_items-returns-in_err-new-clause-refused
cast_items-returns-in_err-new-clause-refused t c = grind (arith, common_steps)

pub cast_items-returns-in_err-push-clause-converts : goal.cast_items-returns-in_err-push-clause-converts
cast_items-returns-in_err-push-clause-converts t c = grind (arith, (as_err c.from_residual-in_err-push.ensures.0).1)

pub cast_items-returns-in_err-push-clause-content : goal.cast_items-returns-in_err-push-clause-content
cast_items-returns-in_err-push-clause-content t c = grind (arith, (as_err c.from_residual-in_err-push.ensures.0).1)

pub cast_items-returns-in_err-push-clause-valid : goal.cast_items-returns-in_err-push-clause-valid
cast_items-returns-in_err-push-clause-valid t c = grind (arith, (as_err c.from_residual-in_err-push.ensures.0).1)

pub cast_items-returns-in_err-push-clause-refused : goal.cast_items-returns-in_err-push-clause-refused
cast_items-returns-in_err-push-clause-refused t c = grind (arith, (as_err c.from_residual-in_err-push.ensures.0).1)

pub cast_items-returns-in_err-push-clause-invalid : goal.cast_items-returns-in_err-push-clause-invalid
cast_items-returns-in_err-push-clause-invalid t c = grind (arith, (as_err c.from_residual-in_err-push.ensures.0).1)

pub cast_items-loop-item-smaller : goal.cast_items-loop-item-smaller
cast_items-loop-item-smaller t c = grind (arith, one_level, get_or_read, c.well_formed, c.loop-item.invariant, c.loop-item.far-item-index, c.loop-item-test.true)

pub cast_items-returns-clause-converts : goal.cast_items-returns-clause-converts
cast_items-returns-clause-converts t c = grind (arith, common_steps)

pub cast_items-returns-clause-valid : goal.cast_items-returns-clause-valid
cast_items-returns-clause-valid t c = grind (arith, one_level, c.well_formed)

pub cast_items-returns-clause-refused : goal.cast_items-returns-clause-refused
cast_items-returns-clause-refused t c = grind (arith, one_level, c.well_formed)

pub cast_items-returns-clause-invalid : goal.cast_items-returns-clause-invalid
cast_items-returns-clause-invalid t c = grind (arith, one_level, c.well_formed)

pub cast_tuple-returns-then-not-takes_length-clause-converts : goal.cast_tuple-returns-then-not-takes_length-clause-converts
cast_tuple-returns-then-not-takes_length-clause-converts t c = grind (arith, tuples, get_or_read)

pub cast_tuple-returns-then-not-takes_length-clause-content : goal.cast_tuple-returns-then-not-takes_length-clause-content
cast_tuple-returns-then-not-takes_length-clause-content t c = grind (arith, tuples, get_or_read)

pub cast_tuple-returns-then-not-takes_length-clause-valid : goal.cast_tuple-returns-then-not-takes_length-clause-valid
cast_tuple-returns-then-not-takes_length-clause-valid t c = grind (arith, tuples, get_or_read)

pub cast_tuple-returns-then-not-takes_length-clause-refused : goal.cast_tuple-returns-then-not-takes_length-clause-refused
cast_tuple-returns-then-not-takes_length-clause-refused t c = grind (arith, tuples, get_or_read)

pub cast_tuple-returns-then-not-takes_length-clause-invalid : goal.cast_tuple-returns-then-not-takes_length-clause-invalid
cast_tuple-returns-then-not-takes_length-clause-invalid t c = grind (arith, tuples, get_or_read)

pub cast_tuple-returns-in_default-as_any_size_list_element_opt-clause-converts : goal.cast_tuple-returns-in_default-as_any_size_list_element_opt-clause-converts
cast_tuple-returns-in_default-as_any_size_list_element_opt-clause-converts t c = grind (arith, tuples, get_or_read)

pub cast_tuple-returns-in_default-as_any_size_list_element_opt-clause-content : goal.cast_tuple-returns-in_default-as_any_size_list_element_opt-clause-content
cast_tuple-returns-in_default-as_any_size_list_element_opt-clause-content t c = grind (arith, tuples, get_or_read)

pub cast_tuple-returns-in_default-as_any_size_list_element_opt-clause-valid : goal.cast_tuple-returns-in_default-as_any_size_list_element_opt-clause-valid
cast_tuple-returns-in_default-as_any_size_list_element_opt-clause-valid t c = grind (arith, tuples, get_or_read)

pub cast_tuple-returns-in_default-as_any_size_list_element_opt-clause-refused : goal.cast_tuple-returns-in_default-as_any_size_list_element_opt-clause-refused
cast_tuple-returns-in_default-as_any_size_list_element_opt-clause-refused t c = grind (arith, tuples, get_or_read)

pub cast_tuple-returns-in_default-as_any_size_list_element_opt-clause-invalid : goal.cast_tuple-returns-in_default-as_any_size_list_element_opt-clause-invalid
cast_tuple-returns-in_default-as_any_size_list_element_opt-clause-invalid t c = grind (arith, tuples, get_or_read)

pub cast_tuple-returns-in_err-all-clause-converts : goal.cast_tuple-returns-in_err-all-clause-converts
cast_tuple-returns-in_err-all-clause-converts t c = grind (arith, (as_err c.from_residual.ensures.0).1)

pub cast_tuple-returns-in_err-all-clause-content : goal.cast_tuple-returns-in_err-all-clause-content
cast_tuple-returns-in_err-all-clause-content t c = grind (arith, (as_err c.from_residual.ensures.0).1)

pub cast_tuple-returns-in_err-all-clause-valid : goal.cast_tuple-returns-in_err-all-clause-valid
cast_tuple-returns-in_err-all-clause-valid t c = grind (arith, (as_err c.from_residual.ensures.0).1)

pub cast_tuple-returns-in_err-all-clause-refused : goal.cast_tuple-returns-in_err-all-clause-refused
cast_tuple-returns-in_err-all-clause-refused t c = grind (arith, (as_err c.from_residual.ensures.0).1)

pub cast_tuple-returns-in_err-all-clause-invalid : goal.cast_tuple-returns-in_err-all-clause-invalid
cast_tuple-returns-in_err-all-clause-invalid t c = grind (arith, (as_err c.from_residual.ensures.0).1)

pub cast_tuple-returns-in-Some-clause-content : goal.cast_tuple-returns-in-Some-clause-content
cast_tuple-returns-in-Some-clause-content t c = grind (arith, tuples, get_or_read)

pub cast_tuple-returns-in-Some-clause-refused : goal.cast_tuple-returns-in-Some-clause-refused
cast_tuple-returns-in-Some-clause-refused t c = grind (arith, tuples, get_or_read)

pub cast_tuple-returns-in-Some-clause-invalid : goal.cast_tuple-returns-in-Some-clause-invalid
cast_tuple-returns-in-Some-clause-invalid t c = grind (arith, tuples, get_or_read)

pub cast_tuple-returns-in_default-as_struct_fields_opt-clause-converts : goal.cast_tuple-returns-in_default-as_struct_fields_opt-clause-converts
cast_tuple-returns-in_default-as_struct_fields_opt-clause-converts t c = grind (arith, tuples, get_or_read)

pub cast_tuple-returns-in_default-as_struct_fields_opt-clause-content : goal.cast_tuple-returns-in_default-as_struct_fields_opt-clause-content
cast_tuple-returns-in_default-as_struct_fields_opt-clause-content t c = grind (arith, tuples, get_or_read)

pub cast_tuple-returns-in_default-as_struct_fields_opt-clause-valid : goal.cast_tuple-returns-in_default-as_struct_fields_opt-clause-valid
cast_tuple-returns-in_default-as_struct_fields_opt-clause-valid t c = grind (arith, tuples, get_or_read)

pub cast_tuple-returns-in_default-as_struct_fields_opt-clause-refused : goal.cast_tuple-returns-in_default-as_struct_fields_opt-clause-refused
cast_tuple-returns-in_default-as_struct_fields_opt-clause-refused t c = grind (arith, tuples, get_or_read)

pub cast_tuple-returns-in_default-as_struct_fields_opt-clause-invalid : goal.cast_tuple-returns-in_default-as_struct_fields_opt-clause-invalid
cast_tuple-returns-in_default-as_struct_fields_opt-clause-invalid t c = grind (arith, tuples, get_or_read)

pub cast_tuple-returns-in_default-as_struct_fields_opt-2-clause-converts : goal.cast_tuple-returns-in_default-as_struct_fields_opt-2-clause-converts
cast_tuple-returns-in_default-as_struct_fields_opt-2-clause-converts t c = grind (arith, tuples, get_or_read)

pub cast_tuple-returns-in_default-as_struct_fields_opt-2-clause-content : goal.cast_tuple-returns-in_default-as_struct_fields_opt-2-clause-content
cast_tuple-returns-in_default-as_struct_fields_opt-2-clause-content t c = grind (arith, tuples, get_or_read)

pub cast_tuple-returns-in_default-as_struct_fields_opt-2-clause-valid : goal.cast_tuple-returns-in_default-as_struct_fields_opt-2-clause-valid
cast_tuple-returns-in_default-as_struct_fields_opt-2-clause-valid t c = grind (arith, tuples, get_or_read)

pub cast_tuple-returns-in_default-as_struct_fields_opt-2-clause-refused : goal.cast_tuple-returns-in_default-as_struct_fields_opt-2-clause-refused
cast_tuple-returns-in_default-as_struct_fields_opt-2-clause-refused t c = grind (arith, tuples, get_or_read)

pub cast_tuple-returns-in_default-as_struct_fields_opt-2-clause-invalid : goal.cast_tuple-returns-in_default-as_struct_fields_opt-2-clause-invalid
cast_tuple-returns-in_default-as_struct_fields_opt-2-clause-invalid t c = grind (arith, tuples, get_or_read)

pub cast_tuple-returns-in_err-all-2-clause-converts : goal.cast_tuple-returns-in_err-all-2-clause-converts
cast_tuple-returns-in_err-all-2-clause-converts t c = grind (arith, (as_err c.from_residual-in_err-all-2.ensures.0).1)

pub cast_tuple-returns-in_err-all-2-clause-content : goal.cast_tuple-returns-in_err-all-2-clause-content
cast_tuple-returns-in_err-all-2-clause-content t c = grind (arith, (as_err c.from_residual-in_err-all-2.ensures.0).1)

pub cast_tuple-returns-in_err-all-2-clause-valid : goal.cast_tuple-returns-in_err-all-2-clause-valid
cast_tuple-returns-in_err-all-2-clause-valid t c = grind (arith, (as_err c.from_residual-in_err-all-2.ensures.0).1)

pub cast_tuple-returns-in_err-all-2-clause-refused : goal.cast_tuple-returns-in_err-all-2-clause-refused
cast_tuple-returns-in_err-all-2-clause-refused t c = grind (arith, (as_err c.from_residual-in_err-all-2.ensures.0).1)

pub cast_tuple-returns-in_err-all-2-clause-invalid : goal.cast_tuple-returns-in_err-all-2-clause-invalid
cast_tuple-returns-in_err-all-2-clause-invalid t c = grind (arith, (as_err c.from_residual-in_err-all-2.ensures.0).1)

pub cast_tuple-returns-clause-converts : goal.cast_tuple-returns-clause-converts
cast_tuple-returns-clause-converts t c = grind (arith, tuples, get_or_read)

pub cast_tuple-returns-clause-content : goal.cast_tuple-returns-clause-content
cast_tuple-returns-clause-content t c = grind (arith, tuples, get_or_read)

pub cast_tuple-returns-clause-valid : goal.cast_tuple-returns-clause-valid
cast_tuple-returns-clause-valid t c = grind (arith, tuples, get_or_read)

pub cast_tuple-returns-clause-refused : goal.cast_tuple-returns-clause-refused
cast_tuple-returns-clause-refused t c = grind (arith, tuples, get_or_read)

pub cast_tuple-returns-clause-invalid : goal.cast_tuple-returns-clause-invalid
cast_tuple-returns-clause-invalid t c = grind (arith, tuples, get_or_read)

pub convert_value-returns-then-is_nullable-clause-converts : goal.convert_value-returns-then-is_nullable-clause-converts
convert_value-returns-then-is_nullable-clause-converts t c = grind (arith, values)

pub convert_value-returns-then-is_nullable-clause-content : goal.convert_value-returns-then-is_nullable-clause-content
convert_value-returns-then-is_nullable-clause-content t c = grind (arith, values)

pub convert_value-returns-then-is_nullable-clause-valid : goal.convert_value-returns-then-is_nullable-clause-valid
convert_value-returns-then-is_nullable-clause-valid t c = grind (arith, values)

pub convert_value-returns-then-is_nullable-clause-refused : goal.convert_value-returns-then-is_nullable-clause-refused
convert_value-returns-then-is_nullable-clause-refused t c = grind (arith, values)

pub convert_value-returns-then-is_nullable-clause-invalid : goal.convert_value-returns-then-is_nullable-clause-invalid
convert_value-returns-then-is_nullable-clause-invalid t c = grind (arith, values)

pub convert_value-returns-in_default-clause-converts : goal.convert_value-returns-in_default-clause-converts
convert_value-returns-in_default-clause-converts t c = grind (arith, values)

pub convert_value-returns-in_default-clause-content : goal.convert_value-returns-in_default-clause-content
convert_value-returns-in_default-clause-content t c = grind (arith, values)

pub convert_value-returns-in_default-clause-valid : goal.convert_value-returns-in_default-clause-valid
convert_value-returns-in_default-clause-valid t c = grind (arith, values)

pub convert_value-returns-in_default-clause-refused : goal.convert_value-returns-in_default-clause-refused
convert_value-returns-in_default-clause-refused t c = grind (arith, values)

pub convert_value-returns-in_default-clause-invalid : goal.convert_value-returns-in_default-clause-invalid
convert_value-returns-in_default-clause-invalid t c = grind (arith, values)

pub convert_value-returns-in_err-kept-clause-converts : goal.convert_value-returns-in_err-kept-clause-converts
convert_value-returns-in_err-kept-clause-converts t c = grind (arith, (as_err c.from_residual.ensures.0).1)

pub convert_value-returns-in_err-kept-clause-content : goal.convert_value-returns-in_err-kept-clause-content
convert_value-returns-in_err-kept-clause-content t c = grind (arith, (as_err c.from_residual.ensures.0).1)

pub convert_value-returns-in_err-kept-clause-valid : goal.convert_value-returns-in_err-kept-clause-valid
convert_value-returns-in_err-kept-clause-valid t c = grind (arith, (as_err c.from_residual.ensures.0).1)

pub convert_value-returns-in_err-kept-clause-refused : goal.convert_value-returns-in_err-kept-clause-refused
convert_value-returns-in_err-kept-clause-refused t c = grind (arith, (as_err c.from_residual.ensures.0).1)

pub convert_value-returns-in_err-kept-clause-invalid : goal.convert_value-returns-in_err-kept-clause-invalid
convert_value-returns-in_err-kept-clause-invalid t c = grind (arith, (as_err c.from_residual.ensures.0).1)

pub convert_value-returns-then-is_identity_cast-clause-converts : goal.convert_value-returns-then-is_identity_cast-clause-converts
convert_value-returns-then-is_identity_cast-clause-converts t c = grind (arith, values)

pub convert_value-returns-then-is_identity_cast-clause-content : goal.convert_value-returns-then-is_identity_cast-clause-content
convert_value-returns-then-is_identity_cast-clause-content t c = grind (arith, values)

pub convert_value-returns-then-is_identity_cast-clause-valid : goal.convert_value-returns-then-is_identity_cast-clause-valid
convert_value-returns-then-is_identity_cast-clause-valid t c = grind (arith, values)

pub convert_value-returns-then-is_identity_cast-clause-refused : goal.convert_value-returns-then-is_identity_cast-clause-refused
convert_value-returns-then-is_identity_cast-clause-refused t c = grind (arith, values)

pub convert_value-returns-then-is_identity_cast-clause-invalid : goal.convert_value-returns-then-is_identity_cast-clause-invalid
convert_value-returns-then-is_identity_cast-clause-invalid t c = grind (arith, values)

pub convert_value-returns-in_err-all-in-Some-as_list-clause-converts : goal.convert_value-returns-in_err-all-in-Some-as_list-clause-converts
convert_value-returns-in_err-all-in-Some-as_list-clause-converts t c = grind (arith, (as_err c.from_residual-in_err-all-in-Some-as_list.ensures.0).1)

pub convert_value-returns-in_err-all-in-Some-as_list-clause-content : goal.convert_value-returns-in_err-all-in-Some-as_list-clause-content
convert_value-returns-in_err-all-in-Some-as_list-clause-content t c = grind (arith, (as_err c.from_residual-in_err-all-in-Some-as_list.ensures.0).1)

pub convert_value-returns-in_err-all-in-Some-as_list-clause-valid : goal.convert_value-returns-in_err-all-in-Some-as_list-clause-valid
convert_value-returns-in_err-all-in-Some-as_list-clause-valid t c = grind (arith, (as_err c.from_residual-in_err-all-in-Some-as_list.ensures.0).1)

pub convert_value-returns-in_err-all-in-Some-as_list-clause-refused : goal.convert_value-returns-in_err-all-in-Some-as_list-clause-refused
convert_value-returns-in_err-all-in-Some-as_list-clause-refused t c = grind (arith, (as_err c.from_residual-in_err-all-in-Some-as_list.ensures.0).1)

pub convert_value-returns-in_err-all-in-Some-as_list-clause-invalid : goal.convert_value-returns-in_err-all-in-Some-as_list-clause-invalid
convert_value-returns-in_err-all-in-Some-as_list-clause-invalid t c = grind (arith, (as_err c.from_residual-in_err-all-in-Some-as_list.ensures.0).1)

pub convert_value-returns-in_err-leaf-in-None-clause-converts : goal.convert_value-returns-in_err-leaf-in-None-clause-converts
convert_value-returns-in_err-leaf-in-None-clause-converts t c = grind (arith, (as_err c.from_residual-in_err-leaf-in-None.ensures.0).1)

pub convert_value-returns-in_err-leaf-in-None-clause-content : goal.convert_value-returns-in_err-leaf-in-None-clause-content
convert_value-returns-in_err-leaf-in-None-clause-content t c = grind (arith, (as_err c.from_residual-in_err-leaf-in-None.ensures.0).1)

pub convert_value-returns-in_err-leaf-in-None-clause-valid : goal.convert_value-returns-in_err-leaf-in-None-clause-valid
convert_value-returns-in_err-leaf-in-None-clause-valid t c = grind (arith, (as_err c.from_residual-in_err-leaf-in-None.ensures.0).1)

pub convert_value-returns-in_err-leaf-in-None-clause-refused : goal.convert_value-returns-in_err-leaf-in-None-clause-refused
convert_value-returns-in_err-leaf-in-None-clause-refused t c = grind (arith, (as_err c.from_residual-in_err-leaf-in-None.ensures.0).1)

pub convert_value-returns-in_err-leaf-in-None-clause-invalid : goal.convert_value-returns-in_err-leaf-in-None-clause-invalid
convert_value-returns-in_err-leaf-in-None-clause-invalid t c = grind (arith, (as_err c.from_residual-in_err-leaf-in-None.ensures.0).1)

pub convert_value-returns-in_ok-all-in-Some-as_list-clause-converts : goal.convert_value-returns-in_ok-all-in-Some-as_list-clause-converts
convert_value-returns-in_ok-all-in-Some-as_list-clause-converts t c = grind (arith, values, get_or_read)

pub convert_value-returns-in_ok-all-in-Some-as_list-clause-content : goal.convert_value-returns-in_ok-all-in-Some-as_list-clause-content
convert_value-returns-in_ok-all-in-Some-as_list-clause-content t c = grind (arith, values, get_or_read)

pub convert_value-returns-in_ok-all-in-Some-as_list-clause-valid : goal.convert_value-returns-in_ok-all-in-Some-as_list-clause-valid
convert_value-returns-in_ok-all-in-Some-as_list-clause-valid t c = grind (arith, values, get_or_read)

pub convert_value-returns-in_ok-all-in-Some-as_list-clause-refused : goal.convert_value-returns-in_ok-all-in-Some-as_list-clause-refused
convert_value-returns-in_ok-all-in-Some-as_list-clause-refused t c = grind (arith, values, get_or_read)

pub convert_value-returns-in_ok-all-in-Some-as_list-clause-invalid : goal.convert_value-returns-in_ok-all-in-Some-as_list-clause-invalid
convert_value-returns-in_ok-all-in-Some-as_list-clause-invalid t c = grind (arith, values, get_or_read)

pub convert_value-returns-in_ok-leaf-in-None-clause-converts : goal.convert_value-returns-in_ok-leaf-in-None-clause-converts
convert_value-returns-in_ok-leaf-in-None-clause-converts t c = grind (arith, values, get_or_read)

pub convert_value-returns-in_ok-leaf-in-None-clause-content : goal.convert_value-returns-in_ok-leaf-in-None-clause-content
convert_value-returns-in_ok-leaf-in-None-clause-content t c = grind (arith, values, get_or_read)

pub convert_value-returns-in_ok-leaf-in-None-clause-valid : goal.convert_value-returns-in_ok-leaf-in-None-clause-valid
convert_value-returns-in_ok-leaf-in-None-clause-valid t c = grind (arith, values, get_or_read)

pub convert_value-returns-in_ok-leaf-in-None-clause-refused : goal.convert_value-returns-in_ok-leaf-in-None-clause-refused
convert_value-returns-in_ok-leaf-in-None-clause-refused t c = grind (arith, values, get_or_read)

pub convert_value-returns-in_ok-leaf-in-None-clause-invalid : goal.convert_value-returns-in_ok-leaf-in-None-clause-invalid
convert_value-returns-in_ok-leaf-in-None-clause-invalid t c = grind (arith, values, get_or_read)
