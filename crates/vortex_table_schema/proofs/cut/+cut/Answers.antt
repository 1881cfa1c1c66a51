use Rattle.std.proofs.Common.{◌≡◌, ◌<◌, ◌+◌, suc, [], true, refl, sym, ap, ◌∙◌, subst, map, IfOk, arith}
use Rattle.vortex_model.specs.LogicalType.{struct, nullability_of}
use Rattle.vortex_model_table.specs.Cut.{cut_kind}
use Rattle.vortex_dtype_core.specs.View.{type_of, fields_of, field_of, fields_from}
use Rattle.vortex_dtype_core.proofs.Sizes.{type_size, fields_size, field_smaller}
use Rattle.vortex_table_schema.specs.Cut.{parts, parts_from, names_at, is_not_root, strip_all, kept_by, part_of_field, tree_of}
use Rattle.vortex_table_schema.proofs.Cuts.{record_of, cut_struct, cut_whole, cut_other, parts_struct, parts_whole, parts_other}
use Rattle.vortex_table_schema.proofs.Paths.{named_more, parts_more, named_same, parts_same}
use Rattle.vortex_table_schema.proofs.cut.+cut.Goals as goal
use Rattle.vortex_table_schema.proofs.cut.+cut.Goals.{cut_fields-then-is_not_root+in_ok-cut+in_ok-push, cut_fields-else-is_not_root, cut_indexed-in-Some+in_ok-cut-in-Some+in_ok-push-in-Some, cut_indexed-in-None}

pub cut_fields-cut_part-requires : goal.cut_fields-cut_part-requires
cut_fields-cut_part-requires t c =
    let e : type_size (type_of c.index-fields-position.result.dtype) < fields_size (fields_of c.args.fields.now)
    = field_smaller c.args.fields.now c.loop-position.position c.index-fields-position.result c.loop-position-test.true c.index-fields-position.is in
    let d : suc (fields_size (fields_of c.args.fields.now) + fields_size (fields_of c.args.fields.now)) ≡ t = c.decreases in
    (omega (arith, e, d), tt)

pub cut_fields-loop-position-preserved : goal.cut_fields-loop-position-preserved
cut_fields-loop-position-preserved t c =
    let paths = map names_at c.args.paths.now in
    let fs = c.args.fields.now in
    let i = c.loop-position.position in
    let f = c.index-fields-position.result in
    let old = c.loop-position.all in
    let left = map names_at c.in_ok-left.left.items in
    let tested : is_not_root left ≡ c.is_not_root.result = ap (λ xs. is_not_root (map names_at xs)) (sym c.deref.ensures.value) ∙ sym c.is_not_root.ensures in
    record {
      parts = elim c.if-is_not_root.branch [
        | cut_fields-then-is_not_root+in_ok-cut+in_ok-push w ↦
            named_more paths fs i f c.loop-position-test.true c.index-fields-position.is (map field_of old.parts.items) (map field_of c.if-is_not_root.all.parts.items) _ left (type_of w.in_ok-cut.cut.dtype)
            c.in_ok-left.ensures (tested ∙ w.if-is_not_root.true)
            (w.in_ok-cut.ensures.dtype ∙ ap (λ xs. cut_kind (map names_at xs) [] (type_of f.dtype)) w.deref-then-is_not_root.ensures.value)
            (ap (λ a. map field_of a.parts.items) w.all-is ∙ w.in_ok-push.ensures.parts)
            c.loop-position.invariant.parts
        | cut_fields-else-is_not_root w ↦
            named_same paths fs i f c.loop-position-test.true c.index-fields-position.is (map field_of old.parts.items) (map field_of c.if-is_not_root.all.parts.items) _ left
            c.in_ok-left.ensures (tested ∙ w.if-is_not_root.false) (ap (λ a. map field_of a.parts.items) w.all-is) c.loop-position.invariant.parts
      ];
      kept = elim c.if-is_not_root.branch [
        | cut_fields-then-is_not_root+in_ok-cut+in_ok-push w ↦
            parts_more paths fs i f c.loop-position-test.true c.index-fields-position.is (map part_of_field old.kept.items) (map part_of_field c.if-is_not_root.all.kept.items) _ left (tree_of w.in_ok-cut.cut.projection)
            c.in_ok-left.ensures (tested ∙ w.if-is_not_root.true)
            (w.in_ok-cut.ensures.projection ∙ ap (λ xs. kept_by (map names_at xs) (type_of f.dtype)) w.deref-then-is_not_root.ensures.value)
            (ap (λ a. map part_of_field a.kept.items) w.all-is ∙ w.in_ok-push.ensures.kept)
            c.loop-position.invariant.kept
        | cut_fields-else-is_not_root w ↦
            parts_same paths fs i f c.loop-position-test.true c.index-fields-position.is (map part_of_field old.kept.items) (map part_of_field c.if-is_not_root.all.kept.items) _ left
            c.in_ok-left.ensures (tested ∙ w.if-is_not_root.false) (ap (λ a. map part_of_field a.kept.items) w.all-is) c.loop-position.invariant.kept
      ];
    }

pub cut_fields-cut_indexed-requires : goal.cut_fields-cut_indexed-requires
cut_fields-cut_indexed-requires t c =
    let d : suc (fields_size (fields_of c.args.fields.now) + fields_size (fields_of c.args.fields.now)) ≡ t = c.decreases in
    (omega (arith, d), c.requires)

pub cut_indexed-cut_part-requires : goal.cut_indexed-cut_part-requires
cut_indexed-cut_part-requires t c =
    let e : type_size (type_of c.index-fields-position.result.dtype) < fields_size (fields_of c.args.fields.now)
    = field_smaller c.args.fields.now c.loop-position.position c.index-fields-position.result c.loop-position-test.true c.index-fields-position.is in
    let d : fields_size (fields_of c.args.fields.now) + fields_size (fields_of c.args.fields.now) ≡ t = c.decreases in
    (omega (arith, e, d), tt)

pub cut_indexed-loop-position-preserved : goal.cut_indexed-loop-position-preserved
cut_indexed-loop-position-preserved t c =
    let paths = map names_at c.args.paths.now in
    let fs = c.args.fields.now in
    let i = c.loop-position.position in
    let f = c.index-fields-position.result in
    let old = c.loop-position.all in
    record {
      parts = elim c.match-steps_below.branch [
        | cut_indexed-in-Some+in_ok-cut-in-Some+in_ok-push-in-Some w ↦
            let left = map names_at w.in-Some.left.now in
            let below : (left ≡ strip_all f.name paths) × (is_not_root (strip_all f.name paths) ≡ true) = w.in-Some.ensures paths c.in_ok-index.ensures in
            named_more paths fs i f c.loop-position-test.true c.index-fields-position.is (map field_of old.parts.items) (map field_of c.match-steps_below.all.parts.items) _ left (type_of w.in_ok-cut-in-Some.cut.dtype)
            below.0 (ap is_not_root below.0 ∙ below.1) w.in_ok-cut-in-Some.ensures.dtype
            (ap (λ a. map field_of a.parts.items) w.all-is ∙ w.in_ok-push-in-Some.ensures.parts)
            c.loop-position.invariant.parts
        | cut_indexed-in-None w ↦
            named_same paths fs i f c.loop-position-test.true c.index-fields-position.is (map field_of old.parts.items) (map field_of c.match-steps_below.all.parts.items) _ (strip_all f.name paths)
            refl (ap is_not_root (w.in-None.ensures paths c.in_ok-index.ensures)) (ap (λ a. map field_of a.parts.items) w.all-is) c.loop-position.invariant.parts
      ];
      kept = elim c.match-steps_below.branch [
        | cut_indexed-in-Some+in_ok-cut-in-Some+in_ok-push-in-Some w ↦
            let left = map names_at w.in-Some.left.now in
            let below : (left ≡ strip_all f.name paths) × (is_not_root (strip_all f.name paths) ≡ true) = w.in-Some.ensures paths c.in_ok-index.ensures in
            parts_more paths fs i f c.loop-position-test.true c.index-fields-position.is (map part_of_field old.kept.items) (map part_of_field c.match-steps_below.all.kept.items) _ left (tree_of w.in_ok-cut-in-Some.cut.projection)
            below.0 (ap is_not_root below.0 ∙ below.1) w.in_ok-cut-in-Some.ensures.projection
            (ap (λ a. map part_of_field a.kept.items) w.all-is ∙ w.in_ok-push-in-Some.ensures.kept)
            c.loop-position.invariant.kept
        | cut_indexed-in-None w ↦
            parts_same paths fs i f c.loop-position-test.true c.index-fields-position.is (map part_of_field old.kept.items) (map part_of_field c.match-steps_below.all.kept.items) _ (strip_all f.name paths)
            refl (ap is_not_root (w.in-None.ensures paths c.in_ok-index.ensures)) (ap (λ a. map part_of_field a.kept.items) w.all-is) c.loop-position.invariant.kept
      ];
    }

pub cut_part-cut_fields-requires : goal.cut_part-cut_fields-requires
cut_part-cut_fields-requires t c =
    let k = type_of c.args.dtype.now in
    let size : type_size k ≡ suc (fields_size (fields_of c.as_slice.result.now))
    = ap type_size (record_of k _ c.in-Some.ensures) ∙ ap (λ fs. suc (fields_size fs)) (sym c.as_slice.ensures.fields) in
    let d : type_size k + type_size k ≡ t = c.decreases in
    (omega (arith, size, d), sym c.ask_for_all.ensures ∙ c.if-ask_for_all.false)

pub cut_part-returns-then-ask_for_all-clause-dtype :
    goal.cut_part-returns-then-ask_for_all-clause-dtype
cut_part-returns-then-ask_for_all-clause-dtype t c =
    let k = type_of c.args.dtype.now in
    subst (λ l. IfOk c.whole.result (λ cut. type_of cut.dtype ≡ l)) (sym (cut_whole (map names_at c.args.paths.now) k (sym c.ask_for_all.ensures ∙ c.if-ask_for_all.true))) c.whole.ensures.dtype

pub cut_part-returns-then-ask_for_all-clause-projection :
    goal.cut_part-returns-then-ask_for_all-clause-projection
cut_part-returns-then-ask_for_all-clause-projection t c =
    let k = type_of c.args.dtype.now in
    subst (λ p. IfOk c.whole.result (λ cut. tree_of cut.projection ≡ p)) (sym (parts_whole (map names_at c.args.paths.now) k (sym c.ask_for_all.ensures ∙ c.if-ask_for_all.true))) c.whole.ensures.projection

pub cut_part-returns-in-None-clause-dtype : goal.cut_part-returns-in-None-clause-dtype
cut_part-returns-in-None-clause-dtype t c =
    let k = type_of c.args.dtype.now in
    subst (λ l. IfOk c.whole-in-None.result (λ cut. type_of cut.dtype ≡ l)) (sym (cut_other (map names_at c.args.paths.now) k c.in-None.ensures)) c.whole-in-None.ensures.dtype

pub cut_part-returns-in-None-clause-projection : goal.cut_part-returns-in-None-clause-projection
cut_part-returns-in-None-clause-projection t c =
    let k = type_of c.args.dtype.now in
    subst (λ p. IfOk c.whole-in-None.result (λ cut. tree_of cut.projection ≡ p)) (sym (parts_other (map names_at c.args.paths.now) k c.in-None.ensures)) c.whole-in-None.ensures.projection

pub cut_part-returns-in_ok-cut-in-Some-clause-dtype :
    goal.cut_part-returns-in_ok-cut-in-Some-clause-dtype
cut_part-returns-in_ok-cut-in-Some-clause-dtype t c =
    let k = type_of c.args.dtype.now in
    c.in_ok-cut-in-Some.ensures.dtype ∙ (λ i. struct (fields_from (c.in_ok-kept-in-Some.ensures.parts i)) (c.nullability.ensures i))
    ∙ sym (cut_struct (map names_at c.args.paths.now) k (map field_of c.as_slice.result.now) (nullability_of k)
    (record_of k _ c.in-Some.ensures ∙ ap (λ fs. struct fs (nullability_of k)) (sym c.as_slice.ensures.fields)))

pub cut_part-returns-in_ok-cut-in-Some-clause-projection :
    goal.cut_part-returns-in_ok-cut-in-Some-clause-projection
cut_part-returns-in_ok-cut-in-Some-clause-projection t c =
    let k = type_of c.args.dtype.now in
    c.in_ok-cut-in-Some.ensures.projection ∙ ap (λ ps. parts (parts_from ps)) c.in_ok-kept-in-Some.ensures.kept
    ∙ sym (parts_struct (map names_at c.args.paths.now) k (map field_of c.as_slice.result.now) (nullability_of k)
    (record_of k _ c.in-Some.ensures ∙ ap (λ fs. struct fs (nullability_of k)) (sym c.as_slice.ensures.fields))
    (sym c.ask_for_all.ensures ∙ c.if-ask_for_all.false))
