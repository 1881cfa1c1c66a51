-- What the table gives of a bound expression is what the model gives of the expression, bound.
use Rattle.std.proofs.Common.{◌≡◌, refl, sym, ap, ◌∙◌, subst, ℕ, zero, suc, List, [], ◌∷◌, length, map, Bool, true, false, not, ◌&&◌, ◌||◌, if◌then◌else◌, Option, Some, None, IfSome, option_map, chars}
use Rattle.std.specs.Prelude.{encode_utf8_all}
use Rattle.std.specs.Option.{option_map_or, unwrap_or}
use Rattle.vortex_model.specs.LogicalType.{LogicalType, null_only, boolean_type, integer_type, float, decimal, utf8, binary, nullable, non_nullable, with_nullability, bare, eq_type, u64}
use Rattle.vortex_model.specs.Content.{Content, boolean, text}
use Rattle.vortex_model_table.specs.Bounds.{raise}
use Rattle.vortex_model_table.specs.Expression.{Expression, literal, compare, both, either, row_count, statistic, Comparison, equal, not_equal, greater, at_least, less, at_most, Aggregate, min, max, null_count, nan_count, all_null, all_non_null, all_nan, all_non_nan}
use Rattle.vortex_model_table.specs.Typing.{expression_type, type_of_aggregate, has_bounds, is_float, count_type}
use Rattle.vortex_model_table.specs.Rewrite as model
use Rattle.vortex_model_table.specs.Rewrite.{Shape, exact_text, beginning, no_shape, shape_of, count_literal, boolean_literal, text_literal}
use Rattle.vortex_dtype_core.specs.Parts.{is_boolean_type, is_utf8_type}
use Rattle.vortex_stats_bind.specs.Bound.{Bound, fixed, test, each, some, null_test, value_test, nan_test, match_test, count_of_rows, placeholder, value_type, expression_of}
use Rattle.vortex_stats_bind.specs.Bindings.{IsBound, IsBoundTo}
use Rattle.vortex_stats_bind.specs.Truths.{is_literal, is_of_floats}
use Rattle.vortex_stats_bind.proofs.Alike.{typed}
use Rattle.vortex_stats_bind.proofs.Made.{compare_judged, both_judged, either_judged, stat_bound}
use Rattle.vortex_stats_rules.specs.NotLiterals.{truth_in}
use Rattle.vortex_stats_rules.specs.Table.{fixed_truth, fixed_count, fixed_text, stat_of, end_of_values, nulls_of, nans_of, is_comparable, may_be_nan, low, high, refuted, no_nan, guarded, kept_from_nan, comparison_proofs, outside, shape_proof, like_proof, paired, rounds, first_of_list, joined_proofs, as_list, counted, no_nulls, only_nulls, no_nans, only_nans, truth_proofs, falsifiers, satisfiers}
use Rattle.vortex_stats_rules.specs.declared.rewrite.NanGuard.{NanGuard}
use Rattle.vortex_stats_rules.specs.declared.rewrite.NanGuard.TheVariants as guard
use Rattle.vortex_stats_rules.proofs.Parts.{AreAlike, kind_of, of_test, of_null_test, of_value_test, of_nan_test, of_match}

-- the bound expression is this proof, bound
pub record IsProofOf (k : LogicalType) (p : Expression) (b : Bound) : Type 0 where
  pub bound : IsBound k p b
  pub boolean : is_boolean_type (value_type b) ≡ true

abbrev pub AreProofsOf : LogicalType → List Expression → List Bound → Type 0
AreProofsOf k [] [] = Unit {0}
AreProofsOf k (p ∷ ps) (b ∷ bs) = IsProofOf k p b × AreProofsOf k ps bs
AreProofsOf k ps bs = ⊥

abbrev pub IsProofIf : LogicalType → Option Expression → Option Bound → Type 0
IsProofIf k None None = Unit {0}
IsProofIf k (Some p) (Some b) = IsProofOf k p b
IsProofIf k o q = ⊥

-- bound, and of this type up to nullability
record IsSide (k : LogicalType) (t : LogicalType) (p : Expression) (b : Bound) : Type 0 where
  bound : IsBound k p b
  kind : bare (value_type b) ≡ t

bare_nullable : (u : LogicalType) → has_bounds u ≡ true → bare (with_nullability nullable u) ≡ bare u
bare_nullable (boolean_type n) h = refl
bare_nullable (integer_type i n) h = refl
bare_nullable (float f n) h = refl
bare_nullable (decimal p s n) h = refl
bare_nullable (utf8 n) h = refl
bare_nullable (binary n) h = refl
bare_nullable u h = absurd (cc (h))

when : {A : Type 0} (a : A) (b : Bool) → b ≡ true → (if b then Some a else None) ≡ Some a
when a b h = ap (λ c. if c then Some a else None) h

module _ (k : LogicalType) where
  -- ---- trees of proofs

  compared : (op : Comparison) (t : LogicalType) (p q : Expression) (b c : Bound) → eq_type t t ≡ true → IsSide k t p b → IsSide k t q c → IsProofOf k (compare op p q) (test op b c)
  compared op t p q b c same s u = record {
    bound = (compare_judged k p q b c s.bound u.bound op).passed ((λ i. eq_type (s.kind i) (u.kind i)) ∙ same);
    boolean = refl;
  }

  pub anded : (p q : Expression) (b c : Bound) → IsProofOf k p b → IsProofOf k q c → IsProofOf k (both p q) (each b c)
  anded p q b c s u = record { bound = (both_judged k p q b c s.bound u.bound).passed (λ i. s.boolean i && u.boolean i); boolean = refl }

  pub ored : (p q : Expression) (b c : Bound) → IsProofOf k p b → IsProofOf k q c → IsProofOf k (either p q) (some b c)
  ored p q b c s u = record { bound = (either_judged k p q b c s.bound u.bound).passed (λ i. s.boolean i && u.boolean i); boolean = refl }

  type_placed : (a : Aggregate) (x : Bound) (v : LogicalType) → type_of_aggregate a (value_type x) ≡ Some v → value_type (stat_of a x) ≡ v
  type_placed a x v is = ap (λ o. unwrap_or o null_only) is

  -- a placeholder over what is bound
  placed : (a : Aggregate) (x : Bound) (v : LogicalType) → IsBoundTo k x → type_of_aggregate a (value_type x) ≡ Some v → IsBound k (statistic (expression_of x) a) (stat_of a x)
  placed a x v h is = subst (λ t. IsBound k (statistic (expression_of x) a) (placeholder x a t)) (sym (type_placed a x v is)) (stat_bound k _ x h a v is)

  flagged : (a : Aggregate) (x : Bound) → IsBoundTo k x → type_of_aggregate a (value_type x) ≡ Some (boolean_type nullable) → IsProofOf k (statistic (expression_of x) a) (stat_of a x)
  flagged a x h is = record { bound = placed a x _ h is; boolean = ap is_boolean_type (type_placed a x _ is) }

  -- ---- statistics

  known : (l : LogicalType) (c : Content) → IsSide k (bare l) (literal l c) (fixed l c)
  known l c = record { bound = record { tree = refl; faultless = refl }; kind = refl }

  counted_side : (a : Aggregate) (x : Bound) → IsBoundTo k x → type_of_aggregate a (value_type x) ≡ Some count_type →
      IsSide k (integer_type u64 non_nullable) (statistic (expression_of x) a) (stat_of a x)
  counted_side a x h is = record { bound = placed a x _ h is; kind = ap bare (type_placed a x _ is) }

  rows_side : IsSide k (integer_type u64 non_nullable) row_count count_of_rows
  rows_side = record { bound = record { tree = refl; faultless = refl }; kind = refl }

  nulls_side : (x : Bound) → IsBoundTo k x → IsSide k (integer_type u64 non_nullable) (model.null_count_expression (expression_of x)) (nulls_of x)
  nulls_side (fixed l c) h = known (integer_type u64 non_nullable) _
  nulls_side x h = counted_side null_count x h refl

  nans_side : (x : Bound) → IsBoundTo k x → is_of_floats x ≡ true → IsSide k (integer_type u64 non_nullable) (model.nan_count_expression (expression_of x)) (nans_of x)
  nans_side (fixed l c) h f = known (integer_type u64 non_nullable) _
  nans_side x h f = counted_side nan_count x h (when count_type _ f)

  end_placed : (a : Aggregate) (x : Bound) → IsBoundTo k x → has_bounds (value_type x) ≡ true → type_of_aggregate a (value_type x) ≡ Some (with_nullability nullable (value_type x)) →
      IsSide k (bare (value_type x)) (statistic (expression_of x) a) (stat_of a x)
  end_placed a x h t is = record { bound = placed a x _ h is; kind = ap bare (type_placed a x _ is) ∙ bare_nullable (value_type x) t }

  low_side : (x : Bound) → IsBoundTo k x → is_comparable x ≡ true → IsSide k (bare (value_type x)) (model.bound_expression min (expression_of x)) (low x)
  low_side (fixed l c) h t = known l c
  low_side x h t = end_placed min x h t (when (with_nullability nullable (value_type x)) _ t)

  high_side : (x : Bound) → IsBoundTo k x → is_comparable x ≡ true → IsSide k (bare (value_type x)) (model.bound_expression max (expression_of x)) (high x)
  high_side (fixed l c) h t = known l c
  high_side x h t = end_placed max x h t (when (with_nullability nullable (value_type x)) _ t)

  -- ---- comparisons

  refuted_by : (op : Comparison) (t : LogicalType) (x y : Bound) → eq_type t t ≡ true → IsSide k t (model.bound_expression min (expression_of x)) (low x) →
      IsSide k t (model.bound_expression max (expression_of x)) (high x) → IsSide k t (model.bound_expression min (expression_of y)) (low y) →
      IsSide k t (model.bound_expression max (expression_of y)) (high y) → IsProofOf k (model.comparison_falsifier op (expression_of x) (expression_of y)) (refuted op x y)
  refuted_by equal t x y same xl xh yl yh = ored _ _ _ _ (compared greater t _ _ _ _ same xl yh) (compared greater t _ _ _ _ same yl xh)
  refuted_by not_equal t x y same xl xh yl yh = anded _ _ _ _ (compared equal t _ _ _ _ same xl yh) (compared equal t _ _ _ _ same xh yl)
  refuted_by greater t x y same xl xh yl yh = compared at_most t _ _ _ _ same xh yl
  refuted_by at_least t x y same xl xh yl yh = compared less t _ _ _ _ same xh yl
  refuted_by less t x y same xl xh yl yh = compared at_least t _ _ _ _ same xl yh
  refuted_by at_most t x y same xl xh yl yh = compared greater t _ _ _ _ same xl yh

  comparable_so : (x : Bound) → IsBoundTo k x → model.is_comparable k (expression_of x) ≡ is_comparable x
  comparable_so (fixed l c) h = refl
  comparable_so x h = ap (λ o. option_map_or has_bounds o false) (typed k _ x h)

  nan_so : (x : Bound) → IsBoundTo k x → model.is_float_placeholder k (expression_of x) ≡ may_be_nan x
  nan_so (fixed l c) h = refl
  nan_so x h = ap (λ o. option_map_or is_float o false) (typed k _ x h)

  floats_so : (x : Bound) → may_be_nan x ≡ true → is_of_floats x ≡ true
  floats_so (fixed l c) h = absurd (cc (h))
  floats_so x h = h

  abbrev model_guard : NanGuard → Expression → Expression
  model_guard guard.Count = model.no_nan_by_count
  model_guard guard.Flag = model.no_nan_by_flag

  no_nan_proof : (g : NanGuard) (x : Bound) → IsBoundTo k x → is_of_floats x ≡ true → IsProofOf k (model_guard g (expression_of x)) (no_nan g x)
  no_nan_proof guard.Count x h f =
      compared equal (integer_type u64 non_nullable) _ _ _ _ refl (counted_side nan_count x h (when count_type _ f)) (known (integer_type u64 non_nullable) _)
  no_nan_proof guard.Flag x h f = flagged all_non_nan x h (when (boolean_type nullable) _ f)

  guarded_proof : (g : NanGuard) (m n : Bool) (x y : Bound) (p : Expression) (b : Bound) → IsBoundTo k x → IsBoundTo k y →
      (m ≡ true → is_of_floats x ≡ true) → (n ≡ true → is_of_floats y ≡ true) → IsProofOf k p b →
      IsProofOf k (model.guarded (model_guard g) m n (expression_of x) (expression_of y) p) (guarded g m n x y b)
  guarded_proof g true true x y p b h i f e u = anded _ _ _ _ (anded _ _ _ _ (no_nan_proof g x h (f refl)) (no_nan_proof g y i (e refl))) u
  guarded_proof g true false x y p b h i f e u = anded _ _ _ _ (no_nan_proof g x h (f refl)) u
  guarded_proof g false true x y p b h i f e u = anded _ _ _ _ (no_nan_proof g y i (e refl)) u
  guarded_proof g false false x y p b h i f e u = u

  kept_proofs : (m n : Bool) (x y : Bound) (p : Expression) (b : Bound) → IsBoundTo k x → IsBoundTo k y →
      (m ≡ true → is_of_floats x ≡ true) → (n ≡ true → is_of_floats y ≡ true) → IsProofOf k p b →
      AreProofsOf k (if m || n then model.guarded model.no_nan_by_count m n (expression_of x) (expression_of y) p
      ∷ model.guarded model.no_nan_by_flag m n (expression_of x) (expression_of y) p ∷ [] else p ∷ []) (kept_from_nan m n x y b)
  kept_proofs true n x y p b h i f e u = (guarded_proof guard.Count true n x y p b h i f e u, (guarded_proof guard.Flag true n x y p b h i f e u, tt))
  kept_proofs false true x y p b h i f e u = (guarded_proof guard.Count false true x y p b h i f e u, (guarded_proof guard.Flag false true x y p b h i f e u, tt))
  kept_proofs false false x y p b h i f e u = (u, tt)

  -- where both sides are comparable
  listed : (a c : Bool) (ps : List Expression) (bs : List Bound) → (a ≡ true → c ≡ true → AreProofsOf k ps bs) →
      AreProofsOf k (if not (a && c) then [] else ps) (if not (a && c) then [] else bs)
  listed true true ps bs u = u refl refl
  listed true false ps bs u = tt
  listed false c ps bs u = tt

  eq_self : (t u : LogicalType) → t ≡ u → eq_type t u ≡ true → eq_type t t ≡ true
  eq_self t u same h = ap (eq_type t) same ∙ h

  refuted_proof : (op : Comparison) (x y : Bound) → AreAlike k x y → is_comparable x ≡ true → is_comparable y ≡ true →
      IsProofOf k (model.comparison_falsifier op (expression_of x) (expression_of y)) (refuted op x y)
  refuted_proof op x y a c d = refuted_by op (bare (value_type x)) x y (eq_self _ _ (kind_of k x y a) a.same) (low_side x a.left c) (high_side x a.left c)
      (subst (λ t. IsSide k t (model.bound_expression min (expression_of y)) (low y)) (sym (kind_of k x y a)) (low_side y a.right d))
      (subst (λ t. IsSide k t (model.bound_expression max (expression_of y)) (high y)) (sym (kind_of k x y a)) (high_side y a.right d))

  module _ (op : Comparison) (x y : Bound) (a : AreAlike k x y) where
    abbrev model_proof : Expression
    model_proof = model.comparison_falsifier op (expression_of x) (expression_of y)

    -- the model's proofs, by whether the sides may hold NaN
    abbrev model_kept : Bool → Bool → List Expression
    model_kept m n = if m || n then model.guarded model.no_nan_by_count m n (expression_of x) (expression_of y) model_proof
        ∷ model.guarded model.no_nan_by_flag m n (expression_of x) (expression_of y) model_proof ∷ [] else model_proof ∷ []

    abbrev kept : List Bound
    kept = kept_from_nan (may_be_nan x) (may_be_nan y) x y (refuted op x y)

    kept_so : is_comparable x ≡ true → is_comparable y ≡ true →
        AreProofsOf k (model_kept (model.is_float_placeholder k (expression_of x)) (model.is_float_placeholder k (expression_of y))) kept
    kept_so c d =
        subst (λ m. AreProofsOf k (model_kept m (model.is_float_placeholder k (expression_of y))) kept) (sym (nan_so x a.left))
        (subst (λ n. AreProofsOf k (model_kept (may_be_nan x) n) kept) (sym (nan_so y a.right))
        (kept_proofs (may_be_nan x) (may_be_nan y) x y model_proof (refuted op x y) a.left a.right (floats_so x) (floats_so y) (refuted_proof op x y a c d)))

    abbrev where_comparable : Bool → Bool → List Expression
    where_comparable c d = if not (c && d) then []
        else model_kept (model.is_float_placeholder k (expression_of x)) (model.is_float_placeholder k (expression_of y))

    pub comparison : AreProofsOf k (model.comparison_falsifiers k op (expression_of x) (expression_of y)) (comparison_proofs op x y)
    comparison =
        subst (λ c. AreProofsOf k (where_comparable c (model.is_comparable k (expression_of y))) (comparison_proofs op x y)) (sym (comparable_so x a.left))
        (subst (λ d. AreProofsOf k (where_comparable (is_comparable x) d) (comparison_proofs op x y)) (sym (comparable_so y a.right))
        (listed (is_comparable x) (is_comparable y) (where_comparable true true) kept kept_so))

  -- ---- counts and flags

  by_two : (p : Expression) (b c : Bound) (q : Expression) (a : Aggregate) (x : Bound) → IsSide k (integer_type u64 non_nullable) p b → IsSide k (integer_type u64 non_nullable) q c →
      IsProofOf k (statistic (expression_of x) a) (stat_of a x) → AreProofsOf k (compare equal p q ∷ statistic (expression_of x) a ∷ []) (counted b c a x)
  by_two p b c q a x s u f = (compared equal (integer_type u64 non_nullable) p q b c refl s u, (f, tt))

  pub no_nulls_proofs : (x : Bound) → IsBoundTo k x → AreProofsOf k (model.no_nulls_proofs (expression_of x)) (no_nulls x)
  no_nulls_proofs x h = by_two _ _ _ _ all_non_null x (nulls_side x h) (known (integer_type u64 non_nullable) _) (flagged all_non_null x h refl)

  pub only_nulls_proofs : (x : Bound) → IsBoundTo k x → AreProofsOf k (model.only_nulls_proofs (expression_of x)) (only_nulls x)
  only_nulls_proofs x h = by_two _ _ _ _ all_null x (nulls_side x h) rows_side (flagged all_null x h refl)

  where_floats : (b : Bool) (ps : List Expression) (bs : List Bound) → (b ≡ true → AreProofsOf k ps bs) → AreProofsOf k (if b then ps else []) (if b then bs else [])
  where_floats true ps bs u = u refl
  where_floats false ps bs u = tt

  floats_by : (x : Bound) (ps : List Expression) (bs : List Bound) → IsBoundTo k x → (is_of_floats x ≡ true → AreProofsOf k ps bs) →
      AreProofsOf k (if option_map_or is_float (expression_type k (expression_of x)) false then ps else []) (if is_of_floats x then bs else [])
  floats_by x ps bs h u =
      subst (λ o. AreProofsOf k (if option_map_or is_float o false then ps else []) (if is_of_floats x then bs else [])) (sym (typed k _ x h)) (where_floats (is_of_floats x) ps bs u)

  -- ---- LIKE

  text_side : (t : List ℕ) → IsSide k (utf8 non_nullable) (text_literal t) (fixed_text t)
  text_side t = known (utf8 non_nullable) (text t)

  text_kind : (u : LogicalType) → is_utf8_type u ≡ true → (bare u ≡ utf8 non_nullable) × (has_bounds u ≡ true)
  text_kind (utf8 n) h = (refl, refl)
  text_kind u h = absurd (cc (h))

  comparable_text : (x : Bound) → has_bounds (value_type x) ≡ true → is_comparable x ≡ true
  comparable_text (fixed l c) h = refl
  comparable_text x h = h

  module _ (x : Bound) (h : IsBoundTo k x) (is : is_utf8_type (value_type x) ≡ true) where
    outside_proof : (below above : List ℕ) (op : Comparison) → IsProofOf k (model.outside (expression_of x) below above op) (outside x below above op)
    outside_proof below above op =
        let t = text_kind (value_type x) is in
        let c = comparable_text x t.1 in
        ored _ _ _ _
        (compared op (utf8 non_nullable) _ _ _ _ refl (subst (λ u. IsSide k u (model.bound_expression min (expression_of x)) (low x)) t.0 (low_side x h c)) (text_side above))
        (compared less (utf8 non_nullable) _ _ _ _ refl (subst (λ u. IsSide k u (model.bound_expression max (expression_of x)) (high x)) t.0 (high_side x h c)) (text_side below))

    raised_proof : (below : List ℕ) (o : Option (List ℕ)) →
        IsProofIf k (option_map (λ above. model.outside (expression_of x) below above at_least) o) (option_map (λ above. outside x below above at_least) o)
    raised_proof below None = tt
    raised_proof below (Some above) = outside_proof below above at_least

    shape_proofs : (s : Shape) → IsProofIf k (model.shape_falsifier (expression_of x) s) (shape_proof x s)
    shape_proofs (exact_text t) = outside_proof (encode_utf8_all t) (encode_utf8_all t) greater
    shape_proofs (beginning t) = raised_proof (encode_utf8_all t) (raise (encode_utf8_all t))
    shape_proofs no_shape = tt

    like_proofs : (form : Bound) (negates ignores_case : Bool) → IsProofIf k (model.like_falsifier (expression_of x) (expression_of form) negates ignores_case) (like_proof x form negates ignores_case)
    like_proofs (fixed l (text form)) false false = shape_proofs (shape_of (chars form))
    like_proofs form negates ignores_case = tt

  as_lists : (o : Option Expression) (q : Option Bound) → IsProofIf k o q → AreProofsOf k (model.as_list o) (as_list q)
  as_lists None None h = tt
  as_lists (Some p) (Some b) h = (h, tt)
  as_lists o q h = absurd h

  -- ---- at a node

  truth_proof : (b : Bool) → AreProofsOf k (boolean_literal b ∷ []) (fixed_truth b ∷ [])
  truth_proof b = (record { bound = record { tree = refl; faultless = refl }; boolean = refl }, tt)

  literal_falsifiers : (l : LogicalType) (c : Content) → AreProofsOf k (model.falsifiers k (literal l c)) (falsifiers (fixed l c))
  literal_falsifiers l (boolean b) = truth_proof (not b)
  literal_falsifiers l c = tt

  literal_satisfiers : (l : LogicalType) (c : Content) → AreProofsOf k (model.satisfiers k (literal l c)) (satisfiers (fixed l c))
  literal_satisfiers l (boolean b) = truth_proof b
  literal_satisfiers l c = tt

  pub same_falsifiers : (e : Bound) → IsBoundTo k e → AreProofsOf k (model.falsifiers k (expression_of e)) (falsifiers e)
  same_falsifiers (fixed l c) h = literal_falsifiers l c
  same_falsifiers (test op x y) h = comparison op x y (of_test k op x y h)
  same_falsifiers (null_test x) h = no_nulls_proofs x (of_null_test k x h)
  same_falsifiers (value_test x) h = only_nulls_proofs x (of_value_test k x h)
  same_falsifiers (nan_test x) h =
      let i = of_nan_test k x h in
      floats_by x _ _ i (λ f. by_two _ _ _ _ all_non_nan x (nans_side x i f) (known (integer_type u64 non_nullable) _) (flagged all_non_nan x i (when (boolean_type nullable) _ f)))
  same_falsifiers (match_test x form n i) h = let m = of_match k x form n i h in as_lists (model.like_falsifier (expression_of x) (expression_of form) n i) (like_proof x form n i) (like_proofs x m.0 m.1 form n i)
  same_falsifiers e h = tt

  pub same_satisfiers : (e : Bound) → IsBoundTo k e → AreProofsOf k (model.satisfiers k (expression_of e)) (satisfiers e)
  same_satisfiers (fixed l c) h = literal_satisfiers l c
  same_satisfiers (null_test x) h = only_nulls_proofs x (of_null_test k x h)
  same_satisfiers (value_test x) h = no_nulls_proofs x (of_value_test k x h)
  same_satisfiers (nan_test x) h =
      let i = of_nan_test k x h in floats_by x _ _ i (λ f. by_two _ _ _ _ all_nan x (nans_side x i f) rows_side (flagged all_nan x i (when (boolean_type nullable) _ f)))
  same_satisfiers e h = tt

  -- ---- several in one

  paired_so : (ps : List Expression) (bs : List Bound) → AreProofsOf k ps bs → AreProofsOf k (model.paired ps) (paired bs)
  paired_so [] [] h = tt
  paired_so (p ∷ []) (b ∷ []) h = h
  paired_so (p ∷ q ∷ ps) (b ∷ c ∷ bs) h = (ored p q b c h.0 h.1.0, paired_so ps bs h.1.1)
  paired_so (p ∷ []) (b ∷ c ∷ bs) h = absurd (h.1)
  paired_so (p ∷ q ∷ ps) (b ∷ []) h = absurd (h.1)
  paired_so ps bs h = absurd h

  rounds_so : (n : ℕ) (ps : List Expression) (bs : List Bound) → AreProofsOf k ps bs → AreProofsOf k (model.rounds n ps) (rounds n bs)
  rounds_so zero ps bs h = h
  rounds_so (suc n) ps bs h = rounds_so n (model.paired ps) (paired bs) (paired_so ps bs h)

  first_so : (ps : List Expression) (bs : List Bound) → AreProofsOf k ps bs → IsProofIf k (model.first_of_list ps) (first_of_list bs)
  first_so [] [] h = tt
  first_so (p ∷ ps) (b ∷ bs) h = h.0
  first_so ps bs h = absurd h

  length_so : (ps : List Expression) (bs : List Bound) → AreProofsOf k ps bs → length ps ≡ length bs
  length_so [] [] h = refl
  length_so (p ∷ ps) (b ∷ bs) h = ap suc (length_so ps bs h.1)
  length_so ps bs h = absurd h

  pub joined_so : (ps : List Expression) (bs : List Bound) → AreProofsOf k ps bs → IsProofIf k (model.joined_proofs ps) (joined_proofs bs)
  joined_so ps bs h =
      subst (λ n. IsProofIf k (model.joined_proofs ps) (first_of_list (rounds n bs))) (length_so ps bs h) (first_so (model.rounds (length ps) ps) (rounds (length ps) bs) (rounds_so (length ps) ps bs h))
