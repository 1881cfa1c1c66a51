-- What an expression has in common with what it is bound to.
use Rattle.std.proofs.Common.{◌≡◌, Option, Some, None, true, false, not, ◌&&◌, ◌||◌, refl, sym, ap, ◌∙◌, subst}
use Rattle.std.specs.Prelude.{option_and_then, is_some}
use Rattle.std.specs.Option.{unwrap_or, option_map_or, option_or}
use Rattle.vortex_model.specs.LogicalType.{LogicalType, null_only}
use Rattle.vortex_model.specs.Content.{Content, text}
use Rattle.vortex_model.specs.Path.{Names, Positions, positions, type_at}
use Rattle.vortex_model_table.specs.Expression.{Expression, literal, column, compare, both, either, negation, is_null, is_not_null, is_nan, between, like, row_count, statistic, Aggregate, reads_columns as expression_reads_columns}
use Rattle.vortex_model_table.specs.Typing.{expression_type, type_of_aggregate, is_float, is_of_floats as expression_is_of_floats}
use Rattle.vortex_model_table.specs.Truth.{has_truth as expression_has_truth, is_free_of_backslash as expression_is_free_of_backslash}
use Rattle.vortex_model_rules.specs.Faults.{ProofFault, unknown_column, unequal_types, not_boolean, unsupported_aggregate, or_fault, unless, are_alike, is_truth, is_text, binding_fault}
use Rattle.vortex_stats_bind.specs.Bound.{Bound, value_type, expression_of, bound_of, column_at, place_of}
use Rattle.vortex_stats_bind.specs.Bindings.{IsBound, IsBoundTo}
use Rattle.vortex_stats_bind.specs.Truths.{is_of_floats, is_free_of_backslash, has_truth, reads_columns, unless_truth, first_fault, first_fault_of}

-- ---- faults of parts

-- where neither is a fault
pub two_none : (p q : Option ProofFault) → or_fault p q ≡ None → (p ≡ None) × (q ≡ None)
two_none None q h = (refl, h)
two_none (Some f) q h = cc (h)

-- nor a third
pub three_none : (p q s : Option ProofFault) → or_fault p (or_fault q s) ≡ None → (p ≡ None) × (q ≡ None) × (s ≡ None)
three_none None None s h = (refl, refl, h)
three_none None (Some f) s h = cc (h)
three_none (Some f) q s h = cc (h)

-- nor a fourth
pub four_none : (p q s t : Option ProofFault) → or_fault p (or_fault q (or_fault s t)) ≡ None → (p ≡ None) × (q ≡ None) × (s ≡ None) × (t ≡ None)
four_none None None None t h = (refl, refl, refl, h)
four_none None None (Some f) t h = cc (h)
four_none None (Some f) s t h = cc (h)
four_none (Some f) q s t h = cc (h)

module _ (k : LogicalType) where
  -- of one part, of two, and of three, where the whole has no fault
  pub of_compare : (x y : Expression) → or_fault (binding_fault k x) (or_fault (binding_fault k y) (unless (are_alike k x y) unequal_types)) ≡ None →
      (binding_fault k x ≡ None) × (binding_fault k y ≡ None) × (unless (are_alike k x y) unequal_types ≡ None)
  of_compare x y h = three_none (binding_fault k x) (binding_fault k y) (unless (are_alike k x y) unequal_types) h

  pub of_both : (x y : Expression) → or_fault (binding_fault k x) (or_fault (binding_fault k y) (unless (is_truth k x && is_truth k y) not_boolean)) ≡ None →
      (binding_fault k x ≡ None) × (binding_fault k y ≡ None) × (unless (is_truth k x && is_truth k y) not_boolean ≡ None)
  of_both x y h = three_none (binding_fault k x) (binding_fault k y) (unless (is_truth k x && is_truth k y) not_boolean) h

  pub of_like : (x y : Expression) → or_fault (binding_fault k x) (or_fault (binding_fault k y) (unless (is_text k x && is_text k y) unequal_types)) ≡ None →
      (binding_fault k x ≡ None) × (binding_fault k y ≡ None) × (unless (is_text k x && is_text k y) unequal_types ≡ None)
  of_like x y h = three_none (binding_fault k x) (binding_fault k y) (unless (is_text k x && is_text k y) unequal_types) h

  pub of_between : (x lo hi : Expression) → or_fault (binding_fault k x) (or_fault (binding_fault k lo) (or_fault (binding_fault k hi) (unless (are_alike k x lo && are_alike k x hi) unequal_types))) ≡ None →
      (binding_fault k x ≡ None) × (binding_fault k lo ≡ None) × (binding_fault k hi ≡ None) × (unless (are_alike k x lo && are_alike k x hi) unequal_types ≡ None)
  of_between x lo hi h = four_none (binding_fault k x) (binding_fault k lo) (binding_fault k hi) (unless (are_alike k x lo && are_alike k x hi) unequal_types) h

  pub of_negation : (x : Expression) → or_fault (binding_fault k x) (unless (is_truth k x) not_boolean) ≡ None → (binding_fault k x ≡ None) × (unless (is_truth k x) not_boolean ≡ None)
  of_negation x h = two_none (binding_fault k x) (unless (is_truth k x) not_boolean) h

  pub of_nan : (x : Expression) → or_fault (binding_fault k x) (unless (expression_is_of_floats k x) unequal_types) ≡ None → (binding_fault k x ≡ None) × (unless (expression_is_of_floats k x) unequal_types ≡ None)
  of_nan x h = two_none (binding_fault k x) (unless (expression_is_of_floats k x) unequal_types) h

  pub of_statistic : (x : Expression) (a : Aggregate) → or_fault (binding_fault k x) (unless (is_some (option_and_then (type_of_aggregate a) (expression_type k x))) unsupported_aggregate) ≡ None →
      (binding_fault k x ≡ None) × (unless (is_some (option_and_then (type_of_aggregate a) (expression_type k x))) unsupported_aggregate ≡ None)
  of_statistic x a h = two_none (binding_fault k x) (unless (is_some (option_and_then (type_of_aggregate a) (expression_type k x))) unsupported_aggregate) h

  -- ---- the expression that was bound

  column_named : (xs : Names) (o : Option Positions) → unless (is_some (option_and_then (type_at k) o)) unknown_column ≡ None → expression_of (column_at k xs o) ≡ column xs
  column_named xs None h = cc (h)
  column_named xs (Some is) h = refl

  pub same_tree : (e : Expression) → binding_fault k e ≡ None → expression_of (bound_of k e) ≡ e
  same_tree (literal l c) h = refl
  same_tree (column xs) h = column_named xs (positions k xs) h
  same_tree (compare op x y) h = let f = of_compare x y h in λ i. compare op (same_tree x f.0 i) (same_tree y f.1 i)
  same_tree (both x y) h = let f = of_both x y h in λ i. both (same_tree x f.0 i) (same_tree y f.1 i)
  same_tree (either x y) h = let f = of_both x y h in λ i. either (same_tree x f.0 i) (same_tree y f.1 i)
  same_tree (negation x) h = ap negation (same_tree x (of_negation x h).0)
  same_tree (is_null x) h = ap is_null (same_tree x h)
  same_tree (is_not_null x) h = ap is_not_null (same_tree x h)
  same_tree (is_nan x) h = ap is_nan (same_tree x (of_nan x h).0)
  same_tree (between x lo hi s t) h =
      let f = of_between x lo hi h in λ i. between (same_tree x f.0 i) (same_tree lo f.1 i) (same_tree hi f.2 i) s t
  same_tree (like x form n c) h = let f = of_like x form h in λ i. like (same_tree x f.0 i) (same_tree form f.1 i) n c
  same_tree row_count h = refl
  same_tree (statistic x a) h = ap (λ y. statistic y a) (same_tree x (of_statistic x a h).0)

  -- ---- its type

  found_type : (o : Option LogicalType) (f : ProofFault) → unless (is_some o) f ≡ None → o ≡ Some (unwrap_or o null_only)
  found_type None f h = cc (h)
  found_type (Some l) f h = refl

  column_typed : (xs : Names) (o : Option Positions) → unless (is_some (option_and_then (type_at k) o)) unknown_column ≡ None →
      option_and_then (type_at k) o ≡ Some (value_type (column_at k xs o))
  column_typed xs None h = cc (h)
  column_typed xs (Some is) h = found_type (type_at k is) unknown_column h

  pub typed_as : (e : Expression) → binding_fault k e ≡ None → expression_type k e ≡ Some (value_type (bound_of k e))
  typed_as (column xs) h = column_typed xs (positions k xs) h
  typed_as (statistic x a) h =
      let f = of_statistic x a h in
      let t = typed_as x f.0 in
      ap (option_and_then (type_of_aggregate a)) t
      ∙ found_type (type_of_aggregate a (value_type (bound_of k x))) unsupported_aggregate
      (subst (λ o. unless (is_some (option_and_then (type_of_aggregate a) o)) unsupported_aggregate ≡ None) t f.1)
  typed_as e h = refl

  -- ---- its truth

  floats_alike : (e : Expression) → binding_fault k e ≡ None → expression_is_of_floats k e ≡ is_of_floats (bound_of k e)
  floats_alike e h = ap (λ o. option_map_or is_float o false) (typed_as e h)

  column_is_free : (xs : Names) (o : Option Positions) → true ≡ is_free_of_backslash (column_at k xs o)
  column_is_free xs None = refl
  column_is_free xs (Some is) = refl

  pub free_alike : (e : Expression) → expression_is_free_of_backslash e ≡ is_free_of_backslash (bound_of k e)
  free_alike (literal l (text bs)) = refl
  free_alike (column xs) = column_is_free xs (positions k xs)
  free_alike e = refl

  column_has_truth : (xs : Names) (o : Option Positions) → true ≡ has_truth (column_at k xs o)
  column_has_truth xs None = refl
  column_has_truth xs (Some is) = refl

  pub same_truth : (e : Expression) → binding_fault k e ≡ None → expression_has_truth k e ≡ has_truth (bound_of k e)
  same_truth (literal l c) h = refl
  same_truth (column xs) h = column_has_truth xs (positions k xs)
  same_truth (compare op x y) h =
      let f = of_compare x y h in
      λ i. not (floats_alike x f.0 i || floats_alike y f.1 i) && (same_truth x f.0 i && same_truth y f.1 i)
  same_truth (both x y) h = let f = of_both x y h in λ i. same_truth x f.0 i && same_truth y f.1 i
  same_truth (either x y) h = let f = of_both x y h in λ i. same_truth x f.0 i && same_truth y f.1 i
  same_truth (negation x) h = same_truth x (of_negation x h).0
  same_truth (is_null x) h = same_truth x h
  same_truth (is_not_null x) h = same_truth x h
  same_truth (is_nan x) h = refl
  same_truth (between x lo hi s t) h =
      let f = of_between x lo hi h in
      λ i. not (floats_alike x f.0 i || floats_alike lo f.1 i || floats_alike hi f.2 i)
      && (same_truth x f.0 i && (same_truth lo f.1 i && same_truth hi f.2 i))
  same_truth (like x form n c) h =
      let f = of_like x form h in
      λ i. not c && free_alike form i && (same_truth x f.0 i && same_truth form f.1 i)
  same_truth row_count h = refl
  same_truth (statistic x a) h = same_truth x (of_statistic x a h).0

  -- ---- the columns that it reads

  column_is_read : (xs : Names) (o : Option Positions) → unless (is_some (option_and_then (type_at k) o)) unknown_column ≡ None → true ≡ reads_columns (column_at k xs o)
  column_is_read xs None h = cc (h)
  column_is_read xs (Some is) h = refl

  pub same_reading : (e : Expression) → binding_fault k e ≡ None → expression_reads_columns e ≡ reads_columns (bound_of k e)
  same_reading (literal l c) h = refl
  same_reading (column xs) h = column_is_read xs (positions k xs) h
  same_reading (compare op x y) h = let f = of_compare x y h in λ i. same_reading x f.0 i || same_reading y f.1 i
  same_reading (both x y) h = let f = of_both x y h in λ i. same_reading x f.0 i || same_reading y f.1 i
  same_reading (either x y) h = let f = of_both x y h in λ i. same_reading x f.0 i || same_reading y f.1 i
  same_reading (negation x) h = same_reading x (of_negation x h).0
  same_reading (is_null x) h = same_reading x h
  same_reading (is_not_null x) h = same_reading x h
  same_reading (is_nan x) h = same_reading x (of_nan x h).0
  same_reading (between x lo hi s t) h =
      let f = of_between x lo hi h in λ i. same_reading x f.0 i || same_reading lo f.1 i || same_reading hi f.2 i
  same_reading (like x form n c) h = let f = of_like x form h in λ i. same_reading x f.0 i || same_reading form f.1 i
  same_reading row_count h = refl
  same_reading (statistic x a) h = refl

  -- ---- why it is no proof

  column_is_fault : (xs : Names) (o : Option Positions) → unless (is_some (option_and_then (type_at k) o)) unknown_column ≡ None → first_fault_of k (column xs) ≡ first_fault (column_at k xs o)
  column_is_fault xs None h = cc (h)
  column_is_fault xs (Some is) h = refl

  pub same_fault : (e : Expression) → binding_fault k e ≡ None → first_fault_of k e ≡ first_fault (bound_of k e)
  same_fault (literal l c) h = refl
  same_fault (column xs) h = column_is_fault xs (positions k xs) h
  same_fault (compare op x y) h =
      let f = of_compare x y h in
      λ i. option_or (same_fault x f.0 i) (option_or (same_fault y f.1 i) (unless_truth (not (floats_alike x f.0 i || floats_alike y f.1 i))))
  same_fault (both x y) h = let f = of_both x y h in λ i. option_or (same_fault x f.0 i) (same_fault y f.1 i)
  same_fault (either x y) h = let f = of_both x y h in λ i. option_or (same_fault x f.0 i) (same_fault y f.1 i)
  same_fault (negation x) h = same_fault x (of_negation x h).0
  same_fault (is_null x) h = same_fault x h
  same_fault (is_not_null x) h = same_fault x h
  same_fault (is_nan x) h = ap (λ o. option_or o (unless_truth false)) (same_fault x (of_nan x h).0)
  same_fault (between x lo hi s t) h =
      let f = of_between x lo hi h in
      λ i. option_or (same_fault x f.0 i) (option_or (option_or (same_fault lo f.1 i) (same_fault hi f.2 i))
      (unless_truth (not (floats_alike x f.0 i || floats_alike lo f.1 i || floats_alike hi f.2 i))))
  same_fault (like x form n c) h =
      let f = of_like x form h in
      λ i. option_or (same_fault x f.0 i) (option_or (same_fault form f.1 i) (unless_truth (not c && free_alike form i)))
  same_fault row_count h = refl
  same_fault (statistic x a) h = ap unless_truth (same_truth x (of_statistic x a h).0)

-- ---- of what is bound

pub expression_of_bound : (k : LogicalType) (e : Expression) (b : Bound) → IsBound k e b → expression_of b ≡ e
expression_of_bound k e b h = ap expression_of h.tree ∙ same_tree k e h.faultless

pub bound_to : (k : LogicalType) (e : Expression) (b : Bound) → IsBound k e b → IsBoundTo k b
bound_to k e b h = subst (λ x. IsBound k x b) (sym (expression_of_bound k e b h)) h

pub typed : (k : LogicalType) (e : Expression) (b : Bound) → IsBound k e b → expression_type k e ≡ Some (value_type b)
typed k e b h = typed_as k e h.faultless ∙ ap (λ t. Some (value_type t)) (sym h.tree)

pub floats_bound : (k : LogicalType) (e : Expression) (b : Bound) → IsBound k e b → expression_is_of_floats k e ≡ is_of_floats b
floats_bound k e b h = ap (λ o. option_map_or is_float o false) (typed k e b h)

pub truth_alike : (k : LogicalType) (e : Expression) (b : Bound) → IsBound k e b → expression_has_truth k e ≡ has_truth b
truth_alike k e b h = same_truth k e h.faultless ∙ ap has_truth (sym h.tree)

pub reads_alike : (k : LogicalType) (e : Expression) (b : Bound) → IsBound k e b → expression_reads_columns e ≡ reads_columns b
reads_alike k e b h = same_reading k e h.faultless ∙ ap reads_columns (sym h.tree)

pub fault_alike : (k : LogicalType) (e : Expression) (b : Bound) → IsBound k e b → first_fault_of k e ≡ first_fault b
fault_alike k e b h = same_fault k e h.faultless ∙ ap first_fault (sym h.tree)

place_named : (k : LogicalType) (xs : Names) (o : Option Positions) → place_of (column_at k xs o) ≡ o
place_named k xs None = refl
place_named k xs (Some is) = refl

-- a column is at the positions that its names lead to
pub positions_alike : (k : LogicalType) (xs : Names) (b : Bound) → IsBound k (column xs) b → place_of b ≡ positions k xs
positions_alike k xs b h = ap place_of h.tree ∙ place_named k xs (positions k xs)
