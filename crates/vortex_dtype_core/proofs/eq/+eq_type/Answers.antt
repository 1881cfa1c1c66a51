use Rattle.std.proofs.Common.{arith, rules, refl, sym, ◌∙◌}
use Rattle.std.proofs.lemmas.Bool.{and_right}
use Rattle.vortex_dtype_core.proofs.Forms.{apart, of_booleans, of_numbers, of_decimals, of_texts, of_bytes, of_lists, of_fixed_lists, of_maps, of_records, of_unions, of_variants, of_extensions}
use Rattle.vortex_dtype_core.proofs.Loops.{first_fails, both_hold, first_of_three_fails, all_hold, differ, go_on, end, all_fields, one_field, more_fields, all_choices, one_choice, more_choices}
use Rattle.vortex_dtype_core.proofs.Tests.{tests}
use Rattle.vortex_dtype_core.proofs.eq.+eq_type.Goals as goal

pub eq_type-returns-in_default-2 : goal.eq_type-returns-in_default-2
eq_type-returns-in_default-2 t c = apart of_booleans _ _ (_, c.in_default.is-0) (λ h. c.in_default.not-Bool-1 h.0 h.1)

pub eq_type-returns-in_default-3 : goal.eq_type-returns-in_default-3
eq_type-returns-in_default-3 t c = apart of_numbers _ _ (_, _, c.in_default.is-0) (λ h. c.in_default.not-Primitive-1 h.0 h.1 h.2)

pub eq_type-returns-in_default-4 : goal.eq_type-returns-in_default-4
eq_type-returns-in_default-4 t c = apart of_decimals _ _ (_, _, c.in_default.is-0) (λ h. c.in_default.not-Decimal-1 h.0 h.1 h.2)

pub eq_type-returns-in_default-5 : goal.eq_type-returns-in_default-5
eq_type-returns-in_default-5 t c = apart of_texts _ _ (_, c.in_default.is-0) (λ h. c.in_default.not-Utf8-1 h.0 h.1)

pub eq_type-returns-in_default-6 : goal.eq_type-returns-in_default-6
eq_type-returns-in_default-6 t c = apart of_bytes _ _ (_, c.in_default.is-0) (λ h. c.in_default.not-Binary-1 h.0 h.1)

pub eq_type-returns-in_default-7 : goal.eq_type-returns-in_default-7
eq_type-returns-in_default-7 t c = apart of_lists _ _ (_, _, c.in_default.is-0) (λ h. c.in_default.not-List-1 h.0 h.1 h.2)

pub eq_type-returns-in_default-8 : goal.eq_type-returns-in_default-8
eq_type-returns-in_default-8 t c = apart of_fixed_lists _ _ (_, _, _, c.in_default.is-0) (λ h. c.in_default.not-FixedSizeList-1 h.0 h.1 h.2 h.3)

pub eq_type-returns-in_default-9 : goal.eq_type-returns-in_default-9
eq_type-returns-in_default-9 t c = apart of_maps _ _ (_, _, c.in_default.is-0) (λ h. c.in_default.not-Map-1 h.0 h.1 h.2)

pub eq_type-returns-in_default-10 : goal.eq_type-returns-in_default-10
eq_type-returns-in_default-10 t c = apart of_records _ _ (_, _, c.in_default.is-0) (λ h. c.in_default.not-Struct-1 h.0 h.1 h.2)

pub eq_type-returns-in_default-11 : goal.eq_type-returns-in_default-11
eq_type-returns-in_default-11 t c = apart of_unions _ _ (_, _, c.in_default.is-0) (λ h. c.in_default.not-Union-1 h.0 h.1 h.2)

pub eq_type-returns-in_default-12 : goal.eq_type-returns-in_default-12
eq_type-returns-in_default-12 t c = apart of_variants _ _ (_, c.in_default.is-0) (λ h. c.in_default.not-Variant-1 h.0 h.1)

pub eq_type-returns-in_default-13 : goal.eq_type-returns-in_default-13
eq_type-returns-in_default-13 t c = apart of_extensions _ _ (_, c.in_default.is-0) (λ h. c.in_default.not-Extension-1 h.0 h.1)

pub eq_choices-returns-then-xs-ys : goal.eq_choices-returns-then-xs-ys
eq_choices-returns-then-xs-ys t c = grind (arith, tests)

pub eq_choices-loop-i-init : goal.eq_choices-loop-i-init
eq_choices-loop-i-init t c = grind (arith, tests)

pub eq_choices-offset_bounds-xs-i : goal.eq_choices-offset_bounds-xs-i
eq_choices-offset_bounds-xs-i t c = grind (arith, tests)

pub eq_choices-bounds-xs-i : goal.eq_choices-bounds-xs-i
eq_choices-bounds-xs-i t c = grind (arith, tests)

pub eq_choices-offset_bounds-ys-i : goal.eq_choices-offset_bounds-ys-i
eq_choices-offset_bounds-ys-i t c = grind (arith, tests)

pub eq_choices-bounds-ys-i : goal.eq_choices-bounds-ys-i
eq_choices-bounds-ys-i t c = grind (arith, tests)

pub eq_choices-loop-i-smaller : goal.eq_choices-loop-i-smaller
eq_choices-loop-i-smaller t c = grind (arith, tests)

pub eq_parts-returns-then-xs-ys : goal.eq_parts-returns-then-xs-ys
eq_parts-returns-then-xs-ys t c = grind (arith, tests)

pub eq_parts-loop-i-init : goal.eq_parts-loop-i-init
eq_parts-loop-i-init t c = grind (arith, tests)

pub eq_parts-offset_bounds-xs-i : goal.eq_parts-offset_bounds-xs-i
eq_parts-offset_bounds-xs-i t c = grind (arith, tests)

pub eq_parts-bounds-xs-i : goal.eq_parts-bounds-xs-i
eq_parts-bounds-xs-i t c = grind (arith, tests)

pub eq_parts-offset_bounds-ys-i : goal.eq_parts-offset_bounds-ys-i
eq_parts-offset_bounds-ys-i t c = grind (arith, tests)

pub eq_parts-bounds-ys-i : goal.eq_parts-bounds-ys-i
eq_parts-bounds-ys-i t c = grind (arith, tests)

pub eq_parts-loop-i-smaller : goal.eq_parts-loop-i-smaller
eq_parts-loop-i-smaller t c = grind (arith, tests)

pub eq_type-returns-then-eq : goal.eq_type-returns-then-eq
eq_type-returns-then-eq t c = grind (arith, tests)

pub eq_type-returns-else-eq : goal.eq_type-returns-else-eq
eq_type-returns-else-eq t c = grind (arith, tests)

pub eq_type-returns-then-eq_type : goal.eq_type-returns-then-eq_type
eq_type-returns-then-eq_type t c = grind (arith, tests)

pub eq_type-returns-else-eq_type : goal.eq_type-returns-else-eq_type
eq_type-returns-else-eq_type t c = grind (arith, tests)

pub eq_type-returns-then-i-j : goal.eq_type-returns-then-i-j
eq_type-returns-then-i-j t c = grind (arith, tests)

pub eq_type-returns-else-i-j : goal.eq_type-returns-else-i-j
eq_type-returns-else-i-j t c = grind (arith, tests)

pub eq_type-returns-then-eq_parts : goal.eq_type-returns-then-eq_parts
eq_type-returns-then-eq_parts t c = grind (arith, tests)

pub eq_type-returns-else-eq_parts : goal.eq_type-returns-else-eq_parts
eq_type-returns-else-eq_parts t c = grind (arith, tests)

pub eq_type-returns-then-eq_choices : goal.eq_type-returns-then-eq_choices
eq_type-returns-then-eq_choices t c = grind (arith, tests)

pub eq_type-returns-else-eq_choices : goal.eq_type-returns-else-eq_choices
eq_type-returns-else-eq_choices t c = grind (arith, tests)

pub eq_type-returns-else-has_same_name : goal.eq_type-returns-else-has_same_name
eq_type-returns-else-has_same_name t c = grind (arith, tests)

pub eq_parts-returns-then-ne : goal.eq_parts-returns-then-ne
eq_parts-returns-then-ne t c =
    differ all_fields one_field refl more_fields c.args.xs.now c.args.ys.now c.loop-i.i
    c.index-xs-i.result c.index-ys-i.result c.loop-i-test.true c.loop-i.invariant.eq_length c.index-xs-i.is c.index-ys-i.is
    (first_fails _ _ (sym c.ne.ensures ∙ c.if-ne.true)) c.loop-i.invariant.left

pub eq_parts-returns-then-not-eq_type : goal.eq_parts-returns-then-not-eq_type
eq_parts-returns-then-not-eq_type t c =
    differ all_fields one_field refl more_fields c.args.xs.now c.args.ys.now c.loop-i.i
    c.index-xs-i.result c.index-ys-i.result c.loop-i-test.true c.loop-i.invariant.eq_length c.index-xs-i.is c.index-ys-i.is
    (and_right _ _ (sym c.eq_type.ensures ∙ c.if-not-eq_type.true)) c.loop-i.invariant.left

pub eq_parts-loop-i-preserved : goal.eq_parts-loop-i-preserved
eq_parts-loop-i-preserved t c = record {
  eq_length = c.loop-i.invariant.eq_length;
  left =
      go_on all_fields one_field refl more_fields c.args.xs.now c.args.ys.now c.loop-i.i
      c.index-xs-i.result c.index-ys-i.result c.loop-i-test.true c.loop-i.invariant.eq_length c.index-xs-i.is c.index-ys-i.is
      (both_hold _ _ (sym c.ne.ensures ∙ c.if-ne.false) (sym c.eq_type.ensures ∙ c.if-not-eq_type.false)) c.loop-i.invariant.left;
}

pub eq_parts-returns : goal.eq_parts-returns
eq_parts-returns t c =
    end all_fields one_field refl more_fields c.args.xs.now c.args.ys.now c.loop-i.i
    c.loop-i-test.false c.loop-i.invariant.eq_length c.loop-i.invariant.left

pub eq_choices-returns-then-ne : goal.eq_choices-returns-then-ne
eq_choices-returns-then-ne t c =
    differ all_choices one_choice refl more_choices c.args.xs.now c.args.ys.now c.loop-i.i
    c.index-xs-i.result c.index-ys-i.result c.loop-i-test.true c.loop-i.invariant.eq_length c.index-xs-i.is c.index-ys-i.is
    (first_of_three_fails _ _ _ (sym c.ne.ensures ∙ c.if-ne.true)) c.loop-i.invariant.left

pub eq_choices-returns-then-not-eq_type : goal.eq_choices-returns-then-not-eq_type
eq_choices-returns-then-not-eq_type t c =
    differ all_choices one_choice refl more_choices c.args.xs.now c.args.ys.now c.loop-i.i
    c.index-xs-i.result c.index-ys-i.result c.loop-i-test.true c.loop-i.invariant.eq_length c.index-xs-i.is c.index-ys-i.is
    (and_right _ _ (sym c.eq_type.ensures ∙ c.if-not-eq_type.true)) c.loop-i.invariant.left

pub eq_choices-loop-i-preserved : goal.eq_choices-loop-i-preserved
eq_choices-loop-i-preserved t c = record {
  eq_length = c.loop-i.invariant.eq_length;
  left =
      go_on all_choices one_choice refl more_choices c.args.xs.now c.args.ys.now c.loop-i.i
      c.index-xs-i.result c.index-ys-i.result c.loop-i-test.true c.loop-i.invariant.eq_length c.index-xs-i.is c.index-ys-i.is
      (all_hold _ _ _ (sym c.ne.ensures ∙ c.if-ne.false) (search rules) (sym c.eq_type.ensures ∙ c.if-not-eq_type.false)) c.loop-i.invariant.left;
}

pub eq_choices-returns : goal.eq_choices-returns
eq_choices-returns t c =
    end all_choices one_choice refl more_choices c.args.xs.now c.args.ys.now c.loop-i.i
    c.loop-i-test.false c.loop-i.invariant.eq_length c.loop-i.invariant.left
