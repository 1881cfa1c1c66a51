-- A falsifier or satisfier that is true by a row's statistics holds of the row.
use Rattle.std.proofs.Common.{◌≡◌, refl, ap, subst, ℕ, ℤ, pos, ◌<◌, List, [], ◌∷◌, Bool, true, false, not, ◌&&◌, ◌||◌, if◌then◌else◌, Option, Some, None, option_map, inl, inr, arith, chars, IsUtf8}
use Rattle.std.specs.Str.{encode_utf8_all}
use Rattle.std.specs.Ordering.{int_cmp, is_eq}
use Rattle.std.specs.FinMap.{int_cmp-IsAntisymmetric}
use Rattle.vortex_model.specs.LogicalType.{LogicalType}
use Rattle.vortex_model.specs.Content.{Content, null, boolean, integer, text, is_null}
use Rattle.vortex_model.proofs.Tests.{equal_so}
use Rattle.vortex_model.proofs.Contents.{true_so}
use Rattle.vortex_model_table.specs.Expression.{Expression, literal, compare, both, either, is_null as is_null_test, is_not_null as is_not_null_test, is_nan as is_nan_test, between, like, row_count, statistic, Comparison, equal, not_equal, greater, at_least, less, at_most, min, max, null_count, nan_count, all_null, all_non_null, all_nan, all_non_nan}
use Rattle.vortex_model_table.specs.Truth.{Given, evaluate, value_at, compared, kleene_and, kleene_or, end_of, liked, Satisfies}
use Rattle.vortex_model_table.specs.Typing.{is_of_floats}
use Rattle.vortex_model_table.specs.Rewrite.{bound_expression, null_count_expression, comparison_falsifier, comparison_falsifiers, guarded, no_nan_by_count, no_nan_by_flag, is_comparable, is_float_placeholder, nan_count_expression, joined_proofs, either_there, both_there, as_list, Shape, exact_text, beginning, no_shape, shape_of, outside, shape_falsifier, falsifier, satisfier, count_literal}
use Rattle.vortex_model_table.specs.Bounds.{raise, IsAtMostBytes}
use Rattle.vortex_model_laws.proofs.ByteOrder.{upto_refl}
use Rattle.vortex_model_table.proofs.ContentOrder.{Between, passing, none_equal, none_equal_back, none_not_equal, none_greater, none_at_least, none_less, none_at_most}
use Rattle.vortex_model_laws.proofs.Hopeless.{and_left, and_right, or_one}
use Rattle.vortex_model_laws.proofs.Texts.{IsTextual}
use Rattle.vortex_model_laws.proofs.Likes.{Fits, matched, shape_fits, exact_bytes, beginning_upto, beginning_below}

-- Where placeholders of x have values, these are true of the value of x at a row, one of `g.rows`.
pub record IsTold (k : LogicalType) (g : Given) (row : Content) (x : Expression) : Type 0 where
  pub there : 0 < g.rows
  pub between : Between (g.placeholders x min) (g.placeholders x max) (value_at k x row)
  pub none_counted : g.placeholders x null_count ≡ integer (pos 0) → is_null (value_at k x row) ≡ false
  pub all_counted : g.placeholders x null_count ≡ integer (pos g.rows) → is_null (value_at k x row) ≡ true
  pub none_null : g.placeholders x all_non_null ≡ boolean true → is_null (value_at k x row) ≡ false
  pub all_null : g.placeholders x all_null ≡ boolean true → is_null (value_at k x row) ≡ true
  pub nan_count : ¬ (g.placeholders x nan_count ≡ integer (pos g.rows))
  pub all_nan : ¬ (g.placeholders x all_nan ≡ boolean true)

-- `IsTold` of each expression that the proof has a placeholder of
abbrev pub AreTold : LogicalType → Given → Content → Expression → Type 0
AreTold k g row (compare op x y) = IsTold k g row x × IsTold k g row y
AreTold k g row (both x y) = AreTold k g row x × AreTold k g row y
AreTold k g row (either x y) = AreTold k g row x × AreTold k g row y
AreTold k g row (is_null_test x) = IsTold k g row x
AreTold k g row (is_not_null_test x) = IsTold k g row x
AreTold k g row (is_nan_test x) = IsTold k g row x
AreTold k g row (between x lo hi s t) = IsTold k g row x × IsTold k g row lo × IsTold k g row hi
AreTold k g row (like x form n i) = IsTold k g row x × IsTextual (value_at k x row) × IsTextual (value_at k form row)
AreTold k g row e = Unit {0}

-- `IsTold` of the operand of a test for null or NaN
abbrev pub IsTestTold : LogicalType → Given → Content → Expression → Type 0
IsTestTold k g row (is_null_test x) = IsTold k g row x
IsTestTold k g row (is_not_null_test x) = IsTold k g row x
IsTestTold k g row (is_nan_test x) = IsTold k g row x
IsTestTold k g row e = Unit {0}

-- only an integer is equal to an integer
eq_number : (v : Content) (z : ℤ) → compared equal v (integer z) ≡ boolean true → v ≡ integer z
eq_number (integer m) z h = ap (λ x. integer x) (int_cmp-IsAntisymmetric m z (equal_so (int_cmp m z) (true_so (is_eq (int_cmp m z)) h)))
eq_number null z h = absurd (cc (h))
eq_number v z h = absurd (cc (h))

module _ (k : LogicalType) (g : Given) (row : Content) where
  -- ---- one comparison

  itself : (c : Content) → Between c c c
  itself c = record { from = λ _ _. inl refl; to = λ _ _. inl refl }

  bounds_told : (x : Expression) → IsTold k g row x → Between (evaluate g (bound_expression min x)) (evaluate g (bound_expression max x)) (value_at k x row)
  bounds_told (literal l c) h = record { from = λ _ _. inl refl; to = λ _ _. inl refl }
  bounds_told x h = h.between

  comparison_ruled : (op : Comparison) (x y : Expression) → IsTold k g row x → IsTold k g row y →
      evaluate g (comparison_falsifier op x y) ≡ boolean true → value_at k (compare op x y) row ≡ boolean true → ⊥
  comparison_ruled equal x y p q t e =
      let a = evaluate g (bound_expression min x) in let b = evaluate g (bound_expression max x) in
      let c = evaluate g (bound_expression min y) in let d = evaluate g (bound_expression max y) in
      let u = value_at k x row in let v = value_at k y row in
      elim (or_one (compared greater a d) (compared greater c b) t) [
        | inl f ↦ none_equal a b c d u v (bounds_told x p) (bounds_told y q) (passing equal u v e) (passing greater a d f)
        | inr f ↦ none_equal_back a b c d u v (bounds_told x p) (bounds_told y q) (passing equal u v e) (passing greater c b f)
      ]
  comparison_ruled not_equal x y p q t e =
      let a = evaluate g (bound_expression min x) in let b = evaluate g (bound_expression max x) in
      let c = evaluate g (bound_expression min y) in let d = evaluate g (bound_expression max y) in
      let u = value_at k x row in let v = value_at k y row in
      none_not_equal a b c d u v (bounds_told x p) (bounds_told y q) (passing not_equal u v e)
      (passing equal a d (and_left (compared equal a d) (compared equal b c) t))
      (passing equal b c (and_right (compared equal a d) (compared equal b c) t))
  comparison_ruled greater x y p q t e =
      let b = evaluate g (bound_expression max x) in let c = evaluate g (bound_expression min y) in
      none_greater (evaluate g (bound_expression min x)) b c (evaluate g (bound_expression max y)) (value_at k x row) (value_at k y row) (bounds_told x p) (bounds_told y q)
      (passing greater (value_at k x row) (value_at k y row) e) (passing at_most b c t)
  comparison_ruled at_least x y p q t e =
      let b = evaluate g (bound_expression max x) in let c = evaluate g (bound_expression min y) in
      none_at_least (evaluate g (bound_expression min x)) b c (evaluate g (bound_expression max y)) (value_at k x row) (value_at k y row) (bounds_told x p) (bounds_told y q)
      (passing at_least (value_at k x row) (value_at k y row) e) (passing less b c t)
  comparison_ruled less x y p q t e =
      let a = evaluate g (bound_expression min x) in let d = evaluate g (bound_expression max y) in
      none_less a (evaluate g (bound_expression max x)) (evaluate g (bound_expression min y)) d (value_at k x row) (value_at k y row) (bounds_told x p) (bounds_told y q)
      (passing less (value_at k x row) (value_at k y row) e) (passing at_least a d t)
  comparison_ruled at_most x y p q t e =
      let a = evaluate g (bound_expression min x) in let d = evaluate g (bound_expression max y) in
      none_at_most a (evaluate g (bound_expression max x)) (evaluate g (bound_expression min y)) d (value_at k x row) (value_at k y row) (bounds_told x p) (bounds_told y q)
      (passing at_most (value_at k x row) (value_at k y row) e) (passing greater a d t)

  -- ---- what a proof that exists shows

  abbrev RulesOut : Option Expression → Content → Type 0
  RulesOut None v = Unit {0}
  RulesOut (Some p) v = evaluate g p ≡ boolean true → ¬ (v ≡ boolean true)

  abbrev Shows : Option Expression → Content → Type 0
  Shows None v = Unit {0}
  Shows (Some p) v = evaluate g p ≡ boolean true → v ≡ boolean true

  unguarded : (guard : Expression → Expression) (b c : Bool) (x y proof : Expression) → evaluate g (guarded guard b c x y proof) ≡ boolean true → evaluate g proof ≡ boolean true
  unguarded guard true true x y proof t = and_right (evaluate g (both (guard x) (guard y))) (evaluate g proof) t
  unguarded guard true false x y proof t = and_right (evaluate g (guard x)) (evaluate g proof) t
  unguarded guard false true x y proof t = and_right (evaluate g (guard y)) (evaluate g proof) t
  unguarded guard false false x y proof t = t

  comparison_told : (op : Comparison) (x y : Expression) → IsTold k g row x → IsTold k g row y →
      RulesOut (joined_proofs (comparison_falsifiers k op x y)) (value_at k (compare op x y) row)
  comparison_told op x y p q = by_tests (not (is_comparable k x && is_comparable k y)) (is_float_placeholder k x || is_float_placeholder k y)
    where
      by_tests : (b c : Bool) → RulesOut (joined_proofs (if b then [] else (if c
          then guarded no_nan_by_count (is_float_placeholder k x) (is_float_placeholder k y) x y (comparison_falsifier op x y)
          ∷ guarded no_nan_by_flag (is_float_placeholder k x) (is_float_placeholder k y) x y (comparison_falsifier op x y) ∷ []
          else comparison_falsifier op x y ∷ []))) (value_at k (compare op x y) row)
      by_tests true c = tt
      by_tests false false = comparison_ruled op x y p q
      by_tests false true = λ t. comparison_ruled op x y p q (elim (or_one
          (evaluate g (guarded no_nan_by_count (is_float_placeholder k x) (is_float_placeholder k y) x y (comparison_falsifier op x y)))
          (evaluate g (guarded no_nan_by_flag (is_float_placeholder k x) (is_float_placeholder k y) x y (comparison_falsifier op x y))) t) [
            | inl f ↦ unguarded no_nan_by_count (is_float_placeholder k x) (is_float_placeholder k y) x y (comparison_falsifier op x y) f
            | inr f ↦ unguarded no_nan_by_flag (is_float_placeholder k x) (is_float_placeholder k y) x y (comparison_falsifier op x y) f
          ])

  any_rules : (p q : Option Expression) (x y : Content) → RulesOut p x → RulesOut q y → RulesOut (either_there p q) (kleene_and x y)
  any_rules (Some p) (Some q) x y f h = λ t e. elim (or_one (evaluate g p) (evaluate g q) t) [ inl s ↦ f s (and_left x y e) | inr s ↦ h s (and_right x y e) ]
  any_rules (Some p) None x y f h = λ t e. f t (and_left x y e)
  any_rules None (Some q) x y f h = λ t e. h t (and_right x y e)
  any_rules None None x y f h = tt

  all_rule : (p q : Option Expression) (x y : Content) → RulesOut p x → RulesOut q y → RulesOut (both_there p q) (kleene_or x y)
  all_rule (Some p) (Some q) x y f h = λ t e. elim (or_one x y e) [
    | inl s ↦ f (and_left (evaluate g p) (evaluate g q) t) s
    | inr s ↦ h (and_right (evaluate g p) (evaluate g q) t) s
  ]
  all_rule (Some p) None x y f h = tt
  all_rule None q x y f h = tt

  -- ---- tests for null

  nulls_none : (x : Expression) → IsTold k g row x → evaluate g (null_count_expression x) ≡ integer (pos 0) → is_null (value_at k x row) ≡ false
  nulls_none (literal l null) h e = absurd (cc (e))
  nulls_none (literal l c) h e = refl
  nulls_none x h e = h.none_counted e

  nulls_all : (x : Expression) → IsTold k g row x → evaluate g (null_count_expression x) ≡ integer (pos g.rows) → is_null (value_at k x row) ≡ true
  nulls_all (literal l null) h e = refl
  nulls_all (literal l c) h e = absurd (let z : 0 ≡ g.rows = cc (e) in let s : 0 < g.rows = h.there in omega (arith, z, s))
  nulls_all x h e = h.all_counted e

  not_nan : (x : Expression) → IsTold k g row x → ¬ (evaluate g (nan_count_expression x) ≡ integer (pos g.rows))
  not_nan (literal l c) h e = let z : 0 ≡ g.rows = cc (e) in let s : 0 < g.rows = h.there in omega (arith, z, s)
  not_nan x h e = h.nan_count e

  no_nulls : (x : Expression) → IsTold k g row x →
      evaluate g (either (compare equal (null_count_expression x) (count_literal 0)) (statistic x all_non_null)) ≡ boolean true → is_null (value_at k x row) ≡ false
  no_nulls x h t = elim (or_one (compared equal (evaluate g (null_count_expression x)) (integer (pos 0))) (g.placeholders x all_non_null) t) [
    | inl s ↦ nulls_none x h (eq_number (evaluate g (null_count_expression x)) (pos 0) s)
    | inr s ↦ h.none_null s
  ]

  only_nulls : (x : Expression) → IsTold k g row x →
      evaluate g (either (compare equal (null_count_expression x) row_count) (statistic x all_null)) ≡ boolean true → is_null (value_at k x row) ≡ true
  only_nulls x h t = elim (or_one (compared equal (evaluate g (null_count_expression x)) (integer (pos g.rows))) (g.placeholders x all_null) t) [
    | inl s ↦ nulls_all x h (eq_number (evaluate g (null_count_expression x)) (pos g.rows) s)
    | inr s ↦ h.all_null s
  ]

  -- ---- LIKE

  listed_rules : (o : Option Expression) (v : Content) → RulesOut o v → RulesOut (joined_proofs (as_list o)) v
  listed_rules None v h = tt
  listed_rules (Some p) v h = h

  -- a proof has to rule a value out only where the value is true
  rules_true : (o : Option Expression) (v : Content) → (v ≡ boolean true → RulesOut o v) → RulesOut o v
  rules_true None v h = tt
  rules_true (Some p) v h = λ t e. h e t e

  outside_ruled : (x : Expression) (v low high : List ℕ) (op : Comparison) → IsTold k g row x → value_at k x row ≡ text v →
      (compared op (evaluate g (bound_expression min x)) (text high) ≡ boolean true → ⊥) → IsAtMostBytes low v → evaluate g (outside x low high op) ≡ boolean true → ⊥
  outside_ruled x v low high op p is above below t =
      let a = evaluate g (bound_expression min x) in let b = evaluate g (bound_expression max x) in
      elim (or_one (compared op a (text high)) (compared less b (text low)) t) [
        | inl f ↦ above f
        | inr f ↦ none_at_least a b (text low) (text low) (text v) (text low) (subst (λ u. Between a b u) is (bounds_told x p)) (itself (text low))
            (record { left = refl; right = refl; test = below }) (passing less b (text low) f)
      ]

  shape_ruled : (x : Expression) (v : List ℕ) (s : Shape) → IsTold k g row x → value_at k x row ≡ text v → IsUtf8 v → Fits s (chars v) → (w : Content) → RulesOut (shape_falsifier x s) w
  shape_ruled x v (exact_text t) p is u f w = λ h e.
      let a = evaluate g (bound_expression min x) in let b = evaluate g (bound_expression max x) in
      let same : v ≡ encode_utf8_all t = exact_bytes v t u f in
      let here : text v ≡ text (encode_utf8_all t) = ap (λ bs. text bs) same in
      outside_ruled x v (encode_utf8_all t) (encode_utf8_all t) greater p is
      (λ m. none_at_most a b (text (encode_utf8_all t)) (text (encode_utf8_all t)) (text v) (text (encode_utf8_all t)) (subst (λ y. Between a b y) is (bounds_told x p)) (itself (text (encode_utf8_all t)))
      (record { left = refl; right = refl; test = subst (λ y. IsAtMostBytes v y) same (upto_refl v) }) (passing greater a (text (encode_utf8_all t)) m))
      (subst (λ y. IsAtMostBytes y v) same (upto_refl v)) h
  shape_ruled x v (beginning t) p is u f w = by_raised (raise (encode_utf8_all t)) refl
    where
      by_raised : (o : Option (List ℕ)) → raise (encode_utf8_all t) ≡ o → RulesOut (option_map (λ above. outside x (encode_utf8_all t) above at_least) o) w
      by_raised None r = tt
      by_raised (Some above) r = λ h e.
          let a = evaluate g (bound_expression min x) in let b = evaluate g (bound_expression max x) in
          outside_ruled x v (encode_utf8_all t) above at_least p is
          (λ m. none_less a b (text above) (text above) (text v) (text above) (subst (λ y. Between a b y) is (bounds_told x p)) (itself (text above))
          (passing less (text v) (text above) (ap (λ c. boolean c) (beginning_below v t f.0 above u f.1 r))) (passing at_least a (text above) m))
          (beginning_upto v t f.0 u f.1) h
  shape_ruled x v no_shape p is u f w = tt

  like_ruled : (x : Expression) (form : List ℕ) → IsTold k g row x → IsTextual (value_at k x row) → IsUtf8 form →
      RulesOut (shape_falsifier x (shape_of (chars form))) (liked (value_at k x row) (text form) false)
  like_ruled x form p u w = rules_true (shape_falsifier x (shape_of (chars form))) (liked (value_at k x row) (text form) false) (λ e.
      let m = matched (value_at k x row) form e in
      shape_ruled x m.value (shape_of (chars form)) p m.is (subst IsTextual m.is u) (shape_fits form m.value w m.free m.like) (liked (value_at k x row) (text form) false))

  -- ---- falsifiers and satisfiers

  falsifier_told : (e : Expression) → AreTold k g row e → RulesOut (falsifier k e) (value_at k e row)
  falsifier_told (literal l (boolean b)) h = λ t e. not_both b (true_so b e) (true_so (not b) t)
    where
      not_both : (c : Bool) → c ≡ true → not c ≡ true → ⊥
      not_both true p q = absurd (cc (q))
      not_both false p q = absurd (cc (p))
  falsifier_told (literal l c) h = tt
  falsifier_told (compare op x y) h = comparison_told op x y h.0 h.1
  falsifier_told (both x y) h =
      any_rules (falsifier k x) (falsifier k y) (value_at k x row) (value_at k y row)
      (falsifier_told x h.0) (falsifier_told y h.1)
  falsifier_told (either x y) h =
      all_rule (falsifier k x) (falsifier k y) (value_at k x row) (value_at k y row)
      (falsifier_told x h.0) (falsifier_told y h.1)
  falsifier_told (between x lo hi s t) h =
      any_rules (joined_proofs (comparison_falsifiers k (end_of s) lo x)) (joined_proofs (comparison_falsifiers k (end_of t) x hi))
      (value_at k (compare (end_of s) lo x) row) (value_at k (compare (end_of t) x hi) row)
      (comparison_told (end_of s) lo x h.1 h.0) (comparison_told (end_of t) x hi h.0 h.2)
  falsifier_told (is_null_test x) h = λ t e. let m = true_so (is_null (value_at k x row)) e in let n = no_nulls x h t in absurd (cc (m, n))
  falsifier_told (is_not_null_test x) h = λ t e. let m = true_so (not (is_null (value_at k x row))) e in let n = only_nulls x h t in absurd (cc (m, ap not n))
  falsifier_told (is_nan_test x) h = by_test (is_of_floats k x)
    where
      by_test : (b : Bool) → RulesOut (joined_proofs (if b then compare equal (nan_count_expression x) (count_literal 0) ∷ statistic x all_non_nan ∷ [] else [])) null
      by_test true = λ t e. absurd (cc (e))
      by_test false = tt
  falsifier_told (like x (literal l (text form)) false false) h =
      listed_rules (shape_falsifier x (shape_of (chars form))) (value_at k (like x (literal l (text form)) false false) row) (like_ruled x form h.0 h.1 h.2)
  falsifier_told (like x form negated ignores_case) h = tt
  falsifier_told e h = tt

  satisfier_told : (e : Expression) → IsTestTold k g row e → Shows (satisfier k e) (value_at k e row)
  satisfier_told (literal l (boolean b)) h = λ t. t
  satisfier_told (is_null_test x) h = λ t. ap (λ b. boolean b) (only_nulls x h t)
  satisfier_told (is_not_null_test x) h = λ t. ap (λ b. boolean (not b)) (no_nulls x h t)
  satisfier_told (is_nan_test x) h = by_test (is_of_floats k x)
    where
      by_test : (b : Bool) → Shows (joined_proofs (if b then compare equal (nan_count_expression x) row_count ∷ statistic x all_nan ∷ [] else [])) null
      by_test true = λ t. elim (or_one (compared equal (evaluate g (nan_count_expression x)) (integer (pos g.rows))) (g.placeholders x all_nan) t) [
        | inl s ↦ absurd (not_nan x h (eq_number (evaluate g (nan_count_expression x)) (pos g.rows) s))
        | inr s ↦ absurd (h.all_nan s)
      ]
      by_test false = tt
  satisfier_told e h = tt

  -- a falsifier that is true: the row doesn't satisfy the predicate
  pub falsified : (e proof : Expression) → AreTold k g row e → falsifier k e ≡ Some proof → evaluate g proof ≡ boolean true → ¬ (Satisfies k e row)
  falsified e proof h is t = subst (λ o. RulesOut o (value_at k e row)) is (falsifier_told e h) t

  -- a satisfier that is true: the row satisfies the predicate
  pub satisfied : (e proof : Expression) → IsTestTold k g row e → satisfier k e ≡ Some proof → evaluate g proof ≡ boolean true → Satisfies k e row
  satisfied e proof h is t = subst (λ o. Shows o (value_at k e row)) is (satisfier_told e h) t
