-- A predicate keeps its truth where its NOTs are pushed inward, and all else that a rewrite needs
-- of it.
use Rattle.std.proofs.Common.{◌≡◌, refl, sym, ◌∙◌, ap, Bool, true, false, not, ◌&&◌, ◌||◌, if◌then◌else◌, Option, Some, None}
use Rattle.std.specs.declared.cmp.Ordering.{Ordering}
use Rattle.std.specs.declared.cmp.Ordering.TheVariants.{Less}
use Rattle.std.proofs.lemmas.Bool.{and_from}
use Rattle.std.specs.Cmp.{first_so, second_so}
use Rattle.vortex_model.specs.LogicalType.{LogicalType}
use Rattle.vortex_model.specs.Content.{Content, null, boolean, text, is_null as is_null_content}
use Rattle.vortex_model.specs.Order.{content_cmp}
use Rattle.vortex_model_table.specs.Expression.{Expression, literal, column, compare, both, either, negation, is_null, is_not_null, is_nan, between, like, row_count, statistic, Comparison, equal, not_equal, greater, at_least, less, at_most, HasFormedLiterals}
use Rattle.vortex_model_table.specs.Like.{is_like, has_backslash}
use Rattle.vortex_model_table.specs.Typing.{is_of_floats}
use Rattle.vortex_model_table.specs.Truth.{Given, evaluate, kleene_and, kleene_or, kleene_not, test_of, compared, liked, end_of, is_true, has_truth, HasTruth}
use Rattle.vortex_model_rules.specs.PushNot.{opposite, pushed_in, negated, as_truth}

-- ---- Kleene's connectives depend on booleans alone

pub not_truth : (c : Content) → as_truth (kleene_not c) ≡ kleene_not c
not_truth (boolean b) = refl
not_truth c = refl

not_not : (b : Bool) → b ≡ not (not b)
not_not true = refl
not_not false = refl

twice_not : (c : Content) → as_truth c ≡ kleene_not (kleene_not c)
twice_not (boolean b) = ap (λ x. boolean x) (not_not b)
twice_not c = refl

and_truth : (c d : Content) → as_truth (kleene_and c d) ≡ kleene_and (as_truth c) (as_truth d)
and_truth (boolean false) d = refl
and_truth (boolean true) (boolean false) = refl
and_truth (boolean true) (boolean true) = refl
and_truth (boolean true) d = refl
and_truth c (boolean false) = refl
and_truth c (boolean true) = refl
and_truth c d = refl

or_truth : (c d : Content) → as_truth (kleene_or c d) ≡ kleene_or (as_truth c) (as_truth d)
or_truth (boolean true) d = refl
or_truth (boolean false) (boolean true) = refl
or_truth (boolean false) (boolean false) = refl
or_truth (boolean false) d = refl
or_truth c (boolean true) = refl
or_truth c (boolean false) = refl
or_truth c d = refl

not_of_and : (c d : Content) → kleene_or (kleene_not c) (kleene_not d) ≡ kleene_not (kleene_and c d)
not_of_and (boolean false) d = refl
not_of_and (boolean true) (boolean false) = refl
not_of_and (boolean true) (boolean true) = refl
not_of_and (boolean true) d = refl
not_of_and c (boolean false) = refl
not_of_and c (boolean true) = refl
not_of_and c d = refl

not_of_or : (c d : Content) → kleene_and (kleene_not c) (kleene_not d) ≡ kleene_not (kleene_or c d)
not_of_or (boolean true) d = refl
not_of_or (boolean false) (boolean true) = refl
not_of_or (boolean false) (boolean false) = refl
not_of_or (boolean false) d = refl
not_of_or c (boolean true) = refl
not_of_or c (boolean false) = refl
not_of_or c d = refl

-- ---- the leaves

test_not : (op : Comparison) (o : Ordering) → test_of (opposite op) o ≡ not (test_of op o)
test_not equal Less = refl
test_not equal o = refl
test_not not_equal Less = refl
test_not not_equal o = refl
test_not greater Less = refl
test_not greater o = refl
test_not at_least Less = refl
test_not at_least o = refl
test_not less Less = refl
test_not less o = refl
test_not at_most Less = refl
test_not at_most o = refl

compared_by : (op : Comparison) (b : Bool) (o : Option Ordering) →
    as_truth (if b then null else (elim o [ None ↦ null | Some r ↦ boolean (test_of (opposite op) r) ])) ≡ kleene_not (if b then null else (elim o [ None ↦ null | Some r ↦ boolean (test_of op r) ]))
compared_by op true o = refl
compared_by op false None = refl
compared_by op false (Some r) = ap (λ x. boolean x) (test_not op r)

compared_not : (op : Comparison) (c d : Content) → as_truth (compared (opposite op) c d) ≡ kleene_not (compared op c d)
compared_not op c d = compared_by op (is_null_content c || is_null_content d) (content_cmp c d)

liked_by : (backslash negates holds : Bool) → as_truth (if backslash then null else (if not negates then boolean (not holds) else boolean holds))
    ≡ kleene_not (if backslash then null else (if negates then boolean (not holds) else boolean holds))
liked_by true negates holds = refl
liked_by false true holds = ap (λ x. boolean x) (not_not holds)
liked_by false false holds = refl

liked_not : (c d : Content) (negates : Bool) → as_truth (liked c d (not negates)) ≡ kleene_not (liked c d negates)
liked_not (text value) (text form) negates = liked_by (has_backslash form) negates (is_like form value)
liked_not (text value) d negates = refl
liked_not c d negates = refl

-- ---- the truth

module _ (g : Given) where
  mutual
    pub same_truth : (e : Expression) → as_truth (evaluate g (pushed_in e)) ≡ as_truth (evaluate g e)
    same_truth (negation x) = opposite_truth x ∙ sym (not_truth (evaluate g x))
    same_truth (both x y) =
        and_truth (evaluate g (pushed_in x)) (evaluate g (pushed_in y)) ∙ (λ i. kleene_and (same_truth x i) (same_truth y i)) ∙ sym (and_truth (evaluate g x) (evaluate g y))
    same_truth (either x y) =
        or_truth (evaluate g (pushed_in x)) (evaluate g (pushed_in y)) ∙ (λ i. kleene_or (same_truth x i) (same_truth y i)) ∙ sym (or_truth (evaluate g x) (evaluate g y))
    same_truth e = refl

    opposite_truth : (e : Expression) → as_truth (evaluate g (negated e)) ≡ kleene_not (evaluate g e)
    opposite_truth (literal l (boolean b)) = refl
    opposite_truth (literal l c) = not_truth c
    opposite_truth (compare op x y) = compared_not op (evaluate g x) (evaluate g y)
    opposite_truth (both x y) =
        or_truth (evaluate g (negated x)) (evaluate g (negated y)) ∙ (λ i. kleene_or (opposite_truth x i) (opposite_truth y i)) ∙ not_of_and (evaluate g x) (evaluate g y)
    opposite_truth (either x y) =
        and_truth (evaluate g (negated x)) (evaluate g (negated y)) ∙ (λ i. kleene_and (opposite_truth x i) (opposite_truth y i)) ∙ not_of_or (evaluate g x) (evaluate g y)
    opposite_truth (negation x) = same_truth x ∙ twice_not (evaluate g x)
    opposite_truth (is_null x) = refl
    opposite_truth (is_not_null x) = ap (λ b. boolean b) (not_not (is_null_content (evaluate g x)))
    opposite_truth (between x lo hi s t) =
        let low : Content = compared (end_of s) (evaluate g lo) (evaluate g x) in let high : Content = compared (end_of t) (evaluate g x) (evaluate g hi) in
        or_truth (compared (opposite (end_of s)) (evaluate g lo) (evaluate g x)) (compared (opposite (end_of t)) (evaluate g x) (evaluate g hi))
        ∙ (λ i. kleene_or (compared_not (end_of s) (evaluate g lo) (evaluate g x) i) (compared_not (end_of t) (evaluate g x) (evaluate g hi) i)) ∙ not_of_and low high
    opposite_truth (like x form negates true) = refl
    opposite_truth (like x form negates false) = liked_not (evaluate g x) (evaluate g form) negates
    opposite_truth (column xs) = not_truth (evaluate g (column xs))
    opposite_truth (is_nan x) = refl
    opposite_truth row_count = refl
    opposite_truth (statistic x a) = not_truth (evaluate g (statistic x a))

true_alone : (c : Content) → as_truth c ≡ boolean true → c ≡ boolean true
true_alone (boolean b) e = e
true_alone c e = absurd (cc (e))

-- where it is true with its NOTs pushed inward, it is true without
pub true_before : (g : Given) (e : Expression) → evaluate g (pushed_in e) ≡ boolean true → evaluate g e ≡ boolean true
true_before g e h = true_alone (evaluate g e) (sym (same_truth g e) ∙ ap as_truth h)

pub true_behind : (g : Given) (e : Expression) → evaluate g e ≡ boolean true → evaluate g (pushed_in e) ≡ boolean true
true_behind g e h = true_alone (evaluate g (pushed_in e)) (same_truth g e ∙ ap as_truth h)

selected : (c : Content) → is_true (as_truth c) ≡ is_true c
selected (boolean b) = refl
selected c = refl

pub same_selection : (g : Given) (e : Expression) → is_true (evaluate g e) ≡ is_true (evaluate g (pushed_in e))
same_selection g e = sym (selected (evaluate g e)) ∙ ap is_true (sym (same_truth g e)) ∙ selected (evaluate g (pushed_in e))

-- ---- it has a truth

ends : (f g h t u v : Bool) → not (f || g || h) && (t && (u && v)) ≡ true → (not (g || f) && (u && t)) && (not (f || h) && (t && v)) ≡ true
ends false false false true true true e = refl
ends f g h t u v e = absurd (cc (e))

module _ (k : LogicalType) where
  mutual
    pub truth_kept : (e : Expression) → HasTruth k e → HasTruth k (pushed_in e)
    truth_kept (negation x) h = truth_negated x h
    truth_kept (both x y) h =
        and_from (has_truth k (pushed_in x)) (has_truth k (pushed_in y)) (truth_kept x (first_so (has_truth k x) (has_truth k y) h)) (truth_kept y (second_so (has_truth k x) (has_truth k y) h))
    truth_kept (either x y) h =
        and_from (has_truth k (pushed_in x)) (has_truth k (pushed_in y)) (truth_kept x (first_so (has_truth k x) (has_truth k y) h)) (truth_kept y (second_so (has_truth k x) (has_truth k y) h))
    truth_kept e h = h

    truth_negated : (e : Expression) → HasTruth k e → HasTruth k (negated e)
    truth_negated (literal l (boolean b)) h = refl
    truth_negated (literal l c) h = refl
    truth_negated (compare op x y) h = h
    truth_negated (both x y) h =
        and_from (has_truth k (negated x)) (has_truth k (negated y)) (truth_negated x (first_so (has_truth k x) (has_truth k y) h)) (truth_negated y (second_so (has_truth k x) (has_truth k y) h))
    truth_negated (either x y) h =
        and_from (has_truth k (negated x)) (has_truth k (negated y)) (truth_negated x (first_so (has_truth k x) (has_truth k y) h)) (truth_negated y (second_so (has_truth k x) (has_truth k y) h))
    truth_negated (negation x) h = truth_kept x h
    truth_negated (is_null x) h = h
    truth_negated (is_not_null x) h = h
    truth_negated (between x lo hi s t) h = ends (is_of_floats k x) (is_of_floats k lo) (is_of_floats k hi) (has_truth k x) (has_truth k lo) (has_truth k hi) h
    truth_negated (like x form n i) h = h
    truth_negated (column xs) h = h
    truth_negated (is_nan x) h = h
    truth_negated row_count h = h
    truth_negated (statistic x a) h = h

-- ---- its literals are of their types

mutual
  pub formed_kept : (e : Expression) → HasFormedLiterals e → HasFormedLiterals (pushed_in e)
  formed_kept (negation x) h = formed_negated x h
  formed_kept (both x y) h = (formed_kept x h.0, formed_kept y h.1)
  formed_kept (either x y) h = (formed_kept x h.0, formed_kept y h.1)
  formed_kept e h = h

  formed_negated : (e : Expression) → HasFormedLiterals e → HasFormedLiterals (negated e)
  formed_negated (literal l (boolean b)) h = tt
  formed_negated (literal l c) h = h
  formed_negated (compare op x y) h = h
  formed_negated (both x y) h = (formed_negated x h.0, formed_negated y h.1)
  formed_negated (either x y) h = (formed_negated x h.0, formed_negated y h.1)
  formed_negated (negation x) h = formed_kept x h
  formed_negated (is_null x) h = h
  formed_negated (is_not_null x) h = h
  formed_negated (between x lo hi s t) h = ((h.1, h.0), (h.0, h.2))
  formed_negated (like x form n i) h = h
  formed_negated (column xs) h = h
  formed_negated (is_nan x) h = h
  formed_negated row_count h = h
  formed_negated (statistic x a) h = h
