-- The parts of what is bound are bound.
use Rattle.std.proofs.Common.{◌≡◌, refl, sym, ap, ◌∙◌, Bool, true, false, ◌&&◌, None}
use Rattle.std.specs.Cmp.{first_so, second_so}
use Rattle.vortex_model.specs.LogicalType.{LogicalType, bare, eq_type, equal_ignoring_nullability}
use Rattle.vortex_model.proofs.Tests.{kind_so}
use Rattle.vortex_model_table.specs.Expression.{Expression, both, Comparison}
use Rattle.vortex_model_rules.specs.Faults.{ProofFault, unequal_types, not_boolean, unless, are_alike, is_truth, is_text, binding_fault}
use Rattle.vortex_dtype_core.specs.Parts.{is_utf8_type}
use Rattle.vortex_stats_bind.specs.Bound.{Bound, test, each, some, opposite, null_test, value_test, nan_test, range_test, match_test, value_type, expression_of, bound_of}
use Rattle.vortex_stats_bind.specs.Bindings.{IsBoundTo}
use Rattle.vortex_stats_bind.proofs.Alike as faults
use Rattle.vortex_stats_bind.proofs.Made.{truth_by, text_by, alike_by}
use Rattle.vortex_stats_rules.specs.Meanings.{IsBoundTruth}

passed : (b : Bool) (f : ProofFault) → unless b f ≡ None → b ≡ true
passed true f h = refl
passed false f h = cc (h)

module _ (k : LogicalType) where
  -- two sides that are of one type but for nullability
  pub record AreAlike (x y : Bound) : Type 0 where
    pub left : IsBoundTo k x
    pub right : IsBoundTo k y
    pub same : equal_ignoring_nullability (value_type x) (value_type y) ≡ true

  pub kind_of : (x y : Bound) → AreAlike x y → bare (value_type x) ≡ bare (value_type y)
  kind_of x y a = kind_so (bare (value_type x)) (bare (value_type y)) a.same

  turned : (x y : Bound) → AreAlike x y → AreAlike y x
  turned x y a = record {
    left = a.right;
    right = a.left;
    same = (λ i. eq_type (sym (kind_of x y a) i) (kind_of x y a i)) ∙ a.same;
  }

  abbrev alike : Bound → Bound → Bool
  alike x y = are_alike k (expression_of x) (expression_of y)

  same_by : (x y : Bound) → IsBoundTo k x → IsBoundTo k y → alike x y ≡ true → AreAlike x y
  same_by x y h g t = record { left = h; right = g; same = sym (alike_by k (expression_of x) (expression_of y) x y h g) ∙ t }

  truth_so : (x : Bound) → IsBoundTo k x → is_truth k (expression_of x) ≡ true → IsBoundTruth k x
  truth_so x h t = record { bound = h; boolean = sym (truth_by k (expression_of x) x h) ∙ t }

  pub of_test : (op : Comparison) (x y : Bound) → IsBoundTo k (test op x y) → AreAlike x y
  of_test op x y h =
      let f = faults.of_compare k (expression_of x) (expression_of y) h.faultless in
      same_by x y record { tree = cc (h.tree); faultless = f.0 } record { tree = cc (h.tree); faultless = f.1 }
      (passed (alike x y) unequal_types f.2)

  two_booleans : (x y : Bound) → x ≡ bound_of k (expression_of x) → y ≡ bound_of k (expression_of y) →
      binding_fault k (both (expression_of x) (expression_of y)) ≡ None → IsBoundTruth k x × IsBoundTruth k y
  two_booleans x y p q h =
      let f = faults.of_both k (expression_of x) (expression_of y) h in
      let b : Bool = is_truth k (expression_of x) in
      let c : Bool = is_truth k (expression_of y) in
      let t = passed (b && c) not_boolean f.2 in
      (truth_so x record { tree = p; faultless = f.0 } (first_so b c t), truth_so y record { tree = q; faultless = f.1 } (second_so b c t))

  pub of_each : (x y : Bound) → IsBoundTo k (each x y) → IsBoundTruth k x × IsBoundTruth k y
  of_each x y h = two_booleans x y (cc (h.tree)) (cc (h.tree)) h.faultless

  pub of_some : (x y : Bound) → IsBoundTo k (some x y) → IsBoundTruth k x × IsBoundTruth k y
  of_some x y h = two_booleans x y (cc (h.tree)) (cc (h.tree)) h.faultless

  pub of_opposite : (x : Bound) → IsBoundTo k (opposite x) → IsBoundTruth k x
  of_opposite x h =
      let f = faults.of_negation k (expression_of x) h.faultless in
      truth_so x record { tree = cc (h.tree); faultless = f.0 } (passed (is_truth k (expression_of x)) not_boolean f.1)

  pub of_null_test : (x : Bound) → IsBoundTo k (null_test x) → IsBoundTo k x
  of_null_test x h = record { tree = cc (h.tree); faultless = h.faultless }

  pub of_value_test : (x : Bound) → IsBoundTo k (value_test x) → IsBoundTo k x
  of_value_test x h = record { tree = cc (h.tree); faultless = h.faultless }

  pub of_nan_test : (x : Bound) → IsBoundTo k (nan_test x) → IsBoundTo k x
  of_nan_test x h = record { tree = cc (h.tree); faultless = (faults.of_nan k (expression_of x) h.faultless).0 }

  pub of_range : (x lo hi : Bound) (s t : Bool) → IsBoundTo k (range_test x lo hi s t) → AreAlike lo x × AreAlike x hi
  of_range x lo hi s t h =
      let f = faults.of_between k (expression_of x) (expression_of lo) (expression_of hi) h.faultless in
      let value : IsBoundTo k x = record { tree = cc (h.tree); faultless = f.0 } in
      let u = passed (alike x lo && alike x hi) unequal_types f.3 in (
        turned x lo (same_by x lo value record { tree = cc (h.tree); faultless = f.1 } (first_so (alike x lo) (alike x hi) u)),
        same_by x hi value record { tree = cc (h.tree); faultless = f.2 } (second_so (alike x lo) (alike x hi) u),
      )

  pub of_match : (x form : Bound) (n i : Bool) → IsBoundTo k (match_test x form n i) → IsBoundTo k x × (is_utf8_type (value_type x) ≡ true)
  of_match x form n i h =
      let f = faults.of_like k (expression_of x) (expression_of form) h.faultless in
      let value : IsBoundTo k x = record { tree = cc (h.tree); faultless = f.0 } in
      let b : Bool = is_text k (expression_of x) in
      let c : Bool = is_text k (expression_of form) in
      (value, sym (text_by k (expression_of x) x value) ∙ first_so b c (passed (b && c) unequal_types f.2))
