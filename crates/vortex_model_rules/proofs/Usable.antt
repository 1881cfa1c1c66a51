-- The built-in proofs of a predicate that a scan accepts have no fault.
use Rattle.std.proofs.Common.{◌≡◌, refl, sym, ◌∙◌, ap, subst, ℕ, zero, suc, List, [], ◌∷◌, length, Bool, true, false, not, ◌&&◌, ◌||◌, if◌then◌else◌, Option, Some, None, IfSome}
use Rattle.std.specs.Prelude.{chars, encode_utf8_all, option_map, option_and_then, is_some}
use Rattle.std.specs.List.{AllByRecursion}
use Rattle.std.specs.Option.{option_map_or}
use Rattle.std.proofs.lemmas.Bool.{and_from, or_from}
use Rattle.std.specs.Cmp.{first_so, second_so}
use Rattle.vortex_model.specs.LogicalType.{LogicalType, boolean_type, integer_type, utf8, binary, nullable, non_nullable, with_nullability, bare, eq_type, eq_int_kind, IntKind, u8, u64}
use Rattle.vortex_model.specs.Content.{Content, boolean, text}
use Rattle.vortex_model.specs.Path.{type_of_column}
use Rattle.vortex_model.specs.Kept.{is_leaf}
use Rattle.vortex_model.specs.Refusal.{Refusal, or_else, not_a_leaf, unequal_types as unequal, not_boolean as no_truth, unsupported_like, unsupported_predicate, placeholder}
use Rattle.vortex_model.proofs.Tests.{kind_so}
use Rattle.vortex_model.proofs.Refusals.{first_none, second_none}
use Rattle.vortex_model_table.specs.Bounds.{raise}
use Rattle.vortex_model_table.specs.Expression.{Expression, literal, column, compare, both, either, negation, is_null, is_not_null, is_nan, between, like, row_count, statistic, reads_columns, Comparison, equal, not_equal, greater, at_least, less, at_most, Aggregate, min, max, null_count, all_null, all_non_null}
use Rattle.vortex_model_table.specs.Truth.{end_of, has_truth}
use Rattle.vortex_model_table.specs.Typing.{expression_type, is_float, type_of_aggregate, type_of_bound}
use Rattle.vortex_model_table.specs.Command.{expression_fault, column_fault, unless as refused_unless, is_boolean, is_utf8_type, eq_optional_type, is_supported_like}
use Rattle.vortex_model_table.specs.Rewrite.{bound_expression, null_count_expression, is_comparable, is_float_placeholder, comparison_falsifier, no_nan_by_count, no_nan_by_flag, guarded, comparison_falsifiers, Shape, exact_text, beginning, no_shape, shape_of, outside, shape_falsifier, like_falsifier, paired, rounds, first_of_list, joined_proofs, either_there, both_there, as_list, count_literal, boolean_literal, no_nulls_proofs, only_nulls_proofs, falsifier, satisfier}
use Rattle.vortex_model_laws.proofs.Accepted.{faultless_truth, unless_none}
use Rattle.vortex_model_rules.specs.PushNot.{opposite, pushed_in, negated}
use Rattle.vortex_model_rules.specs.Faults.{ProofFault, unequal_types, not_boolean, unsupported_aggregate, not_evaluable, reads_a_column, unknown_column, or_fault, unless, are_alike, is_truth, is_text, binding_fault, proof_fault}

-- ---- tests

-- no fault, where the parts have none and the test passes
no_fault : (p q : Option ProofFault) (b : Bool) (f : ProofFault) → p ≡ None → q ≡ None → b ≡ true → or_fault p (or_fault q (unless b f)) ≡ None
no_fault p q b f h g t = (λ i. or_fault (h i) (or_fault (g i) (unless (t i) f)))

one_fault : (p : Option ProofFault) (b : Bool) (f : ProofFault) → p ≡ None → b ≡ true → or_fault p (unless b f) ≡ None
one_fault p b f h t = (λ i. or_fault (h i) (unless (t i) f))

-- ---- the type of an expression that a scan accepts

pub record OfLeaf (o : Option LogicalType) : Type 0 where
  pub kind : LogicalType
  pub is : o ≡ Some kind
  pub leaf : is_leaf kind ≡ true

of_column : (o : Option LogicalType) → column_fault o ≡ None → OfLeaf o
of_column None e = absurd (cc (e))
of_column (Some k) e = record { kind = k; is = refl; leaf = unless_none (is_leaf k) not_a_leaf e }

pub of_leaf : (k : LogicalType) (x : Expression) → expression_fault k x ≡ None → OfLeaf (expression_type k x)
of_leaf k (literal l c) e = record { kind = l; is = refl; leaf = unless_none (is_leaf l) unsupported_predicate e }
of_leaf k (column xs) e = of_column (type_of_column k xs) e
of_leaf k row_count e = absurd (cc (e))
of_leaf k (statistic x a) e = let f = second_none (expression_fault k x) (Some placeholder) e in absurd (cc (f))
of_leaf k x e = record { kind = boolean_type nullable; is = refl; leaf = refl }

-- ---- a predicate that a scan accepts can be bound

bound_column : (o : Option LogicalType) → column_fault o ≡ None → unless (is_some o) unknown_column ≡ None
bound_column None e = absurd (cc (e))
bound_column (Some k) e = refl

module _ (k : LogicalType) where
  pub two_none : (x y : Expression) (r : Option Refusal) → or_else (expression_fault k x) (or_else (expression_fault k y) r) ≡ None →
      (expression_fault k x ≡ None) × (expression_fault k y ≡ None) × (r ≡ None)
  two_none x y r e =
      let f = second_none (expression_fault k x) (or_else (expression_fault k y) r) e in
      (first_none (expression_fault k x) (or_else (expression_fault k y) r) e, first_none (expression_fault k y) r f, second_none (expression_fault k y) r f)

  pub binds : (e : Expression) → expression_fault k e ≡ None → binding_fault k e ≡ None
  binds (literal l c) e = refl
  binds (column xs) e = bound_column (type_of_column k xs) e
  binds (compare op x y) e =
      let f = two_none x y (refused_unless (are_alike k x y) unequal) e in
      no_fault (binding_fault k x) (binding_fault k y) (are_alike k x y) unequal_types (binds x f.0) (binds y f.1) (unless_none (are_alike k x y) unequal f.2)
  binds (both x y) e =
      let f = two_none x y (refused_unless (is_truth k x && is_truth k y) no_truth) e in
      no_fault (binding_fault k x) (binding_fault k y) (is_truth k x && is_truth k y) not_boolean (binds x f.0) (binds y f.1) (unless_none (is_truth k x && is_truth k y) no_truth f.2)
  binds (either x y) e =
      let f = two_none x y (refused_unless (is_truth k x && is_truth k y) no_truth) e in
      no_fault (binding_fault k x) (binding_fault k y) (is_truth k x && is_truth k y) not_boolean (binds x f.0) (binds y f.1) (unless_none (is_truth k x && is_truth k y) no_truth f.2)
  binds (negation x) e =
      one_fault (binding_fault k x) (is_truth k x) not_boolean (binds x (first_none (expression_fault k x) (refused_unless (is_truth k x) no_truth) e))
      (unless_none (is_truth k x) no_truth (second_none (expression_fault k x) (refused_unless (is_truth k x) no_truth) e))
  binds (is_null x) e = binds x e
  binds (is_not_null x) e = binds x e
  binds (is_nan x) e = let f = second_none (expression_fault k x) (Some unsupported_predicate) e in absurd (cc (f))
  binds (between x lo hi s t) e =
      let test : Bool = are_alike k x lo && are_alike k x hi in
      let f = two_none x lo (or_else (expression_fault k hi) (refused_unless test unequal)) e in
      let g = first_none (expression_fault k hi) (refused_unless test unequal) f.2 in
      let h = unless_none test unequal (second_none (expression_fault k hi) (refused_unless test unequal) f.2) in
      (λ i. or_fault (binds x f.0 i) (or_fault (binds lo f.1 i) (or_fault (binds hi g i) (unless (h i) unequal_types))))
  binds (like x form n i) e =
      let test : Bool = is_text k x && is_text k form in let other : Option Refusal = refused_unless (is_supported_like form i) unsupported_like in
      let f = two_none x form (or_else (refused_unless test unequal) other) e in
      no_fault (binding_fault k x) (binding_fault k form) test unequal_types (binds x f.0) (binds form f.1) (unless_none test unequal (first_none (refused_unless test unequal) other f.2))
  binds row_count e = absurd (cc (e))
  binds (statistic x a) e = let f = second_none (expression_fault k x) (Some placeholder) e in absurd (cc (f))

-- ---- sides of a comparison in a proof

same_kind : (i : IntKind) → eq_int_kind i i ≡ true
same_kind u8 = refl
same_kind i = refl

with_bounds : (u : LogicalType) → is_leaf u ≡ true → (type_of_bound u ≡ Some (with_nullability nullable u)) × (bare (with_nullability nullable u) ≡ bare u) × (is_float u ≡ false)
    × (is_float (with_nullability nullable u) ≡ false) × (eq_type (bare u) (bare u) ≡ true)
with_bounds (boolean_type n) e = (refl, refl, refl, refl, refl)
with_bounds (integer_type i n) e = (refl, refl, refl, refl, and_from (eq_int_kind i i) true (same_kind i) refl)
with_bounds (utf8 n) e = (refl, refl, refl, refl, refl)
with_bounds (binary n) e = (refl, refl, refl, refl, refl)
with_bounds u e = absurd (cc (e))

-- a side has values of this type up to nullability, and reads no column
record IsSide (k : LogicalType) (b : LogicalType) (p : Expression) : Type 0 where
  bound : binding_fault k p ≡ None
  truth : has_truth k p ≡ true
  kind : LogicalType
  typed : expression_type k p ≡ Some kind
  floatless : is_float kind ≡ false
  alike : bare kind ≡ b
  unread : reads_columns p ≡ false

-- a proof without a fault
pub record IsUsable (k : LogicalType) (p : Expression) : Type 0 where
  bound : binding_fault k p ≡ None
  truth : has_truth k p ≡ true
  boolean : is_truth k p ≡ true
  unread : reads_columns p ≡ false

pub usable_faultless : (k : LogicalType) (p : Expression) → IsUsable k p → proof_fault k p ≡ None
usable_faultless k p u =
    (λ i. or_fault (u.bound i) (or_fault (unless (u.truth i) not_evaluable) (or_fault (unless (u.boolean i) not_boolean) (unless (not (u.unread i)) reads_a_column))))

module _ (k : LogicalType) where
  compared_usable : (op : Comparison) (b : LogicalType) (p q : Expression) → eq_type b b ≡ true → IsSide k b p → IsSide k b q → IsUsable k (compare op p q)
  compared_usable op b p q same s t = record {
    bound = no_fault (binding_fault k p) (binding_fault k q) (are_alike k p q) unequal_types s.bound t.bound
        ((λ i. eq_optional_type (s.typed i) (t.typed i)) ∙ (λ i. eq_type (s.alike i) (t.alike i)) ∙ same);
    truth = (λ i. not (option_map_or is_float (s.typed i) false || option_map_or is_float (t.typed i) false) && (s.truth i && t.truth i))
        ∙ (λ i. not (s.floatless i || t.floatless i) && true);
    boolean = refl;
    unread = or_from (reads_columns p) (reads_columns q) s.unread t.unread;
  }

  both_usable : (p q : Expression) → IsUsable k p → IsUsable k q → IsUsable k (both p q)
  both_usable p q u v = record {
    bound = no_fault (binding_fault k p) (binding_fault k q) (is_truth k p && is_truth k q) not_boolean u.bound v.bound (and_from (is_truth k p) (is_truth k q) u.boolean v.boolean);
    truth = and_from (has_truth k p) (has_truth k q) u.truth v.truth;
    boolean = refl;
    unread = or_from (reads_columns p) (reads_columns q) u.unread v.unread;
  }

  either_usable : (p q : Expression) → IsUsable k p → IsUsable k q → IsUsable k (either p q)
  either_usable p q u v = record {
    bound = no_fault (binding_fault k p) (binding_fault k q) (is_truth k p && is_truth k q) not_boolean u.bound v.bound (and_from (is_truth k p) (is_truth k q) u.boolean v.boolean);
    truth = and_from (has_truth k p) (has_truth k q) u.truth v.truth;
    boolean = refl;
    unread = or_from (reads_columns p) (reads_columns q) u.unread v.unread;
  }

  -- ---- placeholders over expressions of accepted predicates

  module _ (x : Expression) (n : expression_fault k x ≡ None) where
    abbrev leaf : OfLeaf (expression_type k x)
    leaf = of_leaf k x n

    placed : (a : Aggregate) (v : LogicalType) → type_of_aggregate a leaf.kind ≡ Some v → is_float v ≡ false → IsSide k (bare v) (statistic x a)
    placed a v is f =
        let typed : expression_type k (statistic x a) ≡ Some v = ap (option_and_then (type_of_aggregate a)) leaf.is ∙ is in
        record {
          bound = one_fault (binding_fault k x) (is_some (expression_type k (statistic x a))) unsupported_aggregate (binds k x n) (ap is_some typed);
          truth = faultless_truth k x n;
          kind = v;
          typed = typed;
          floatless = f;
          alike = refl;
          unread = refl;
        }

    flagged : (a : Aggregate) → type_of_aggregate a leaf.kind ≡ Some (boolean_type nullable) → IsUsable k (statistic x a)
    flagged a is =
        let s = placed a (boolean_type nullable) is refl in
        record { bound = s.bound; truth = s.truth; boolean = ap is_boolean (ap (option_and_then (type_of_aggregate a)) leaf.is ∙ is); unread = refl }

    least : IsSide k (bare leaf.kind) (statistic x min)
    least =
        let w = with_bounds leaf.kind leaf.leaf in
        subst (λ b. IsSide k b (statistic x min)) w.1 (placed min (with_nullability nullable leaf.kind) w.0 w.3)

    greatest : IsSide k (bare leaf.kind) (statistic x max)
    greatest =
        let w = with_bounds leaf.kind leaf.leaf in
        subst (λ b. IsSide k b (statistic x max)) w.1 (placed max (with_nullability nullable leaf.kind) w.0 w.3)

    counted : IsSide k (integer_type u64 non_nullable) (statistic x null_count)
    counted = placed null_count (integer_type u64 nullable) refl refl

  known : (l : LogicalType) (c : Content) → is_float l ≡ false → IsSide k (bare l) (literal l c)
  known l c f = record { bound = refl; truth = refl; kind = l; typed = refl; floatless = f; alike = refl; unread = refl }

  abbrev kind_of : (x : Expression) → expression_fault k x ≡ None → LogicalType
  kind_of x n = bare (of_leaf k x n).kind

  literal_side : (l : LogicalType) (c : Content) (n : expression_fault k (literal l c) ≡ None) → IsSide k (kind_of (literal l c) n) (literal l c)
  literal_side l c n =
      let same : l ≡ (of_leaf k (literal l c) n).kind = cc ((of_leaf k (literal l c) n).is) in
      subst (λ u. IsSide k (bare u) (literal l c)) same (known l c (with_bounds l (unless_none (is_leaf l) unsupported_predicate n)).2)

  low_side : (x : Expression) (n : expression_fault k x ≡ None) → IsSide k (kind_of x n) (bound_expression min x)
  low_side (literal l c) n = literal_side l c n
  low_side x n = least x n

  high_side : (x : Expression) (n : expression_fault k x ≡ None) → IsSide k (kind_of x n) (bound_expression max x)
  high_side (literal l c) n = literal_side l c n
  high_side x n = greatest x n

  count_side : (x : Expression) → expression_fault k x ≡ None → IsSide k (integer_type u64 non_nullable) (null_count_expression x)
  count_side (literal l c) n = known (integer_type u64 non_nullable) _ refl
  count_side x n = counted x n

  rows_side : IsSide k (integer_type u64 non_nullable) row_count
  rows_side = record { bound = refl; truth = refl; kind = integer_type u64 non_nullable; typed = refl; floatless = refl; alike = refl; unread = refl }

  -- ---- comparisons

  compared_by : (op : Comparison) (b : LogicalType) (l r : Expression) → eq_type b b ≡ true → IsSide k b (bound_expression min l) → IsSide k b (bound_expression max l) →
      IsSide k b (bound_expression min r) → IsSide k b (bound_expression max r) → IsUsable k (comparison_falsifier op l r)
  compared_by equal b l r same ll lh rl rh = either_usable _ _ (compared_usable greater b _ _ same ll rh) (compared_usable greater b _ _ same rl lh)
  compared_by not_equal b l r same ll lh rl rh = both_usable _ _ (compared_usable equal b _ _ same ll rh) (compared_usable equal b _ _ same lh rl)
  compared_by greater b l r same ll lh rl rh = compared_usable at_most b _ _ same lh rl
  compared_by at_least b l r same ll lh rl rh = compared_usable less b _ _ same lh rl
  compared_by less b l r same ll lh rl rh = compared_usable at_least b _ _ same ll rh
  compared_by at_most b l r same ll lh rl rh = compared_usable greater b _ _ same ll rh

  same_type : (x : Expression) (n : expression_fault k x ≡ None) → eq_type (kind_of x n) (kind_of x n) ≡ true
  same_type x n = (with_bounds (of_leaf k x n).kind (of_leaf k x n).leaf).4

  alike_so : (x y : Expression) (n : expression_fault k x ≡ None) (m : expression_fault k y ≡ None) → are_alike k x y ≡ true → kind_of x n ≡ kind_of y m
  alike_so x y n m h = kind_so (kind_of x n) (kind_of y m) (sym (λ i. eq_optional_type ((of_leaf k x n).is i) ((of_leaf k y m).is i)) ∙ h)

  so_alike : (x y : Expression) (n : expression_fault k x ≡ None) (m : expression_fault k y ≡ None) → kind_of x n ≡ kind_of y m → are_alike k x y ≡ true
  so_alike x y n m h = (λ i. eq_optional_type ((of_leaf k x n).is i) ((of_leaf k y m).is i)) ∙ ap (λ b. eq_type b (kind_of y m)) h ∙ same_type y m

  no_float : (x : Expression) → expression_fault k x ≡ None → is_float_placeholder k x ≡ false
  no_float (literal l c) n = refl
  no_float x n = ap (λ o. option_map_or is_float o false) (of_leaf k x n).is ∙ (with_bounds (of_leaf k x n).kind (of_leaf k x n).leaf).2

  unguarded : (b c : Bool) (xs : List Expression) (p : Expression) → c ≡ false → IsUsable k p → AllByRecursion (IsUsable k) (if b then [] else (if c then xs else p ∷ []))
  unguarded true c xs p e u = tt
  unguarded false true xs p e u = absurd (cc (e))
  unguarded false false xs p e u = (u, tt)

  of_comparison : (op : Comparison) (x y : Expression) → expression_fault k x ≡ None → expression_fault k y ≡ None → are_alike k x y ≡ true →
      AllByRecursion (IsUsable k) (comparison_falsifiers k op x y)
  of_comparison op x y n m h =
      let one : kind_of y m ≡ kind_of x n = sym (alike_so x y n m h) in
      unguarded (not (is_comparable k x && is_comparable k y)) (is_float_placeholder k x || is_float_placeholder k y)
      (guarded no_nan_by_count (is_float_placeholder k x) (is_float_placeholder k y) x y (comparison_falsifier op x y)
      ∷ guarded no_nan_by_flag (is_float_placeholder k x) (is_float_placeholder k y) x y (comparison_falsifier op x y) ∷ [])
      (comparison_falsifier op x y)
      (or_from (is_float_placeholder k x) (is_float_placeholder k y) (no_float x n) (no_float y m))
      (compared_by op (kind_of x n) x y (same_type x n) (low_side x n) (high_side x n)
      (subst (λ b. IsSide k b (bound_expression min y)) one (low_side y m)) (subst (λ b. IsSide k b (bound_expression max y)) one (high_side y m)))

  -- ---- null tests

  no_nulls_usable : (x : Expression) → expression_fault k x ≡ None → AllByRecursion (IsUsable k) (no_nulls_proofs x)
  no_nulls_usable x n = (
    compared_usable equal (integer_type u64 non_nullable) (null_count_expression x) (count_literal 0) refl (count_side x n) (known (integer_type u64 non_nullable) _ refl),
    (flagged x n all_non_null refl, tt),
  )

  only_nulls_usable : (x : Expression) → expression_fault k x ≡ None → AllByRecursion (IsUsable k) (only_nulls_proofs x)
  only_nulls_usable x n =
      (compared_usable equal (integer_type u64 non_nullable) (null_count_expression x) row_count refl (count_side x n) rows_side, (flagged x n all_null refl, tt))

  -- ---- LIKE

  text_kind : (u : LogicalType) → is_utf8_type (Some u) ≡ true → bare u ≡ utf8 non_nullable
  text_kind (utf8 n) e = refl
  text_kind u e = absurd (cc (e))

  module _ (x : Expression) (n : expression_fault k x ≡ None) (is : is_text k x ≡ true) where
    of_texts : kind_of x n ≡ utf8 non_nullable
    of_texts = text_kind (of_leaf k x n).kind (sym (ap is_utf8_type (of_leaf k x n).is) ∙ is)

    outside_usable : (below above : List ℕ) (op : Comparison) → IsUsable k (outside x below above op)
    outside_usable below above op = either_usable _ _
        (compared_usable op (utf8 non_nullable) _ _ refl (subst (λ b. IsSide k b (bound_expression min x)) of_texts (low_side x n)) (known (utf8 non_nullable) (text above) refl))
        (compared_usable less (utf8 non_nullable) _ _ refl (subst (λ b. IsSide k b (bound_expression max x)) of_texts (high_side x n)) (known (utf8 non_nullable) (text below) refl))

    raised_usable : (below : List ℕ) (o : Option (List ℕ)) → IfSome (option_map (λ above. outside x below above at_least) o) (IsUsable k)
    raised_usable below None = tt
    raised_usable below (Some above) = outside_usable below above at_least

    shape_usable : (s : Shape) → IfSome (shape_falsifier x s) (IsUsable k)
    shape_usable (exact_text t) = outside_usable (encode_utf8_all t) (encode_utf8_all t) greater
    shape_usable (beginning t) = raised_usable (encode_utf8_all t) (raise (encode_utf8_all t))
    shape_usable no_shape = tt

    like_usable : (form : Expression) (negates ignores_case : Bool) → IfSome (like_falsifier x form negates ignores_case) (IsUsable k)
    like_usable (literal l (text form)) false false = shape_usable (shape_of (chars form))
    like_usable form negates ignores_case = tt

  -- ---- several proofs in one

  listed : (o : Option Expression) → IfSome o (IsUsable k) → AllByRecursion (IsUsable k) (as_list o)
  listed None h = tt
  listed (Some p) h = (h, tt)

  paired_usable : (es : List Expression) → AllByRecursion (IsUsable k) es → AllByRecursion (IsUsable k) (paired es)
  paired_usable [] h = tt
  paired_usable (x ∷ []) h = h
  paired_usable (x ∷ y ∷ es) h = (either_usable x y h.0 h.1.0, paired_usable es h.1.1)

  rounds_usable : (n : ℕ) (es : List Expression) → AllByRecursion (IsUsable k) es → AllByRecursion (IsUsable k) (rounds n es)
  rounds_usable zero es h = h
  rounds_usable (suc n) es h = rounds_usable n (paired es) (paired_usable es h)

  first_usable : (es : List Expression) → AllByRecursion (IsUsable k) es → IfSome (first_of_list es) (IsUsable k)
  first_usable [] h = tt
  first_usable (x ∷ es) h = h.0

  joined_usable : (es : List Expression) → AllByRecursion (IsUsable k) es → IfSome (joined_proofs es) (IsUsable k)
  joined_usable es h = first_usable (rounds (length es) es) (rounds_usable (length es) es h)

  pub either_there_usable : (o p : Option Expression) → IfSome o (IsUsable k) → IfSome p (IsUsable k) → IfSome (either_there o p) (IsUsable k)
  either_there_usable (Some x) (Some y) h g = either_usable x y h g
  either_there_usable (Some x) None h g = h
  either_there_usable None (Some y) h g = g
  either_there_usable None None h g = tt

  both_there_usable : (o p : Option Expression) → IfSome o (IsUsable k) → IfSome p (IsUsable k) → IfSome (both_there o p) (IsUsable k)
  both_there_usable (Some x) (Some y) h g = both_usable x y h g
  both_there_usable (Some x) None h g = tt
  both_there_usable None (Some y) h g = tt
  both_there_usable None None h g = tt

  -- ---- falsifier and satisfier

  pub truth_usable : (b : Bool) → AllByRecursion (IsUsable k) (boolean_literal b ∷ [])
  truth_usable b = (record { bound = refl; truth = refl; boolean = refl; unread = refl }, tt)

  pub falsifier_usable : (e : Expression) → expression_fault k e ≡ None → IfSome (falsifier k e) (IsUsable k)
  falsifier_usable (literal l (boolean b)) n = joined_usable (boolean_literal (not b) ∷ []) (truth_usable (not b))
  falsifier_usable (literal l c) n = tt
  falsifier_usable (column xs) n = tt
  falsifier_usable (compare op x y) n =
      let f = two_none k x y (refused_unless (are_alike k x y) unequal) n in
      joined_usable (comparison_falsifiers k op x y) (of_comparison op x y f.0 f.1 (unless_none (are_alike k x y) unequal f.2))
  falsifier_usable (both x y) n =
      let f = two_none k x y (refused_unless (is_truth k x && is_truth k y) no_truth) n in
      either_there_usable (falsifier k x) (falsifier k y) (falsifier_usable x f.0) (falsifier_usable y f.1)
  falsifier_usable (either x y) n =
      let f = two_none k x y (refused_unless (is_truth k x && is_truth k y) no_truth) n in
      both_there_usable (falsifier k x) (falsifier k y) (falsifier_usable x f.0) (falsifier_usable y f.1)
  falsifier_usable (negation x) n = tt
  falsifier_usable (is_null x) n = joined_usable (no_nulls_proofs x) (no_nulls_usable x n)
  falsifier_usable (is_not_null x) n = joined_usable (only_nulls_proofs x) (only_nulls_usable x n)
  falsifier_usable (is_nan x) n = let f = second_none (expression_fault k x) (Some unsupported_predicate) n in absurd (cc (f))
  falsifier_usable (between x lo hi s t) n =
      let test : Bool = are_alike k x lo && are_alike k x hi in
      let f = two_none k x lo (or_else (expression_fault k hi) (refused_unless test unequal)) n in
      let g = first_none (expression_fault k hi) (refused_unless test unequal) f.2 in
      let h = unless_none test unequal (second_none (expression_fault k hi) (refused_unless test unequal) f.2) in
      let low : are_alike k lo x ≡ true = so_alike lo x f.1 f.0 (sym (alike_so x lo f.0 f.1 (first_so (are_alike k x lo) (are_alike k x hi) h))) in
      either_there_usable (joined_proofs (comparison_falsifiers k (end_of s) lo x)) (joined_proofs (comparison_falsifiers k (end_of t) x hi))
      (joined_usable (comparison_falsifiers k (end_of s) lo x) (of_comparison (end_of s) lo x f.1 f.0 low))
      (joined_usable (comparison_falsifiers k (end_of t) x hi) (of_comparison (end_of t) x hi f.0 g (second_so (are_alike k x lo) (are_alike k x hi) h)))
  falsifier_usable (like x form negates i) n =
      let test : Bool = is_text k x && is_text k form in let other : Option Refusal = refused_unless (is_supported_like form i) unsupported_like in
      let f = two_none k x form (or_else (refused_unless test unequal) other) n in
      let h = unless_none test unequal (first_none (refused_unless test unequal) other f.2) in
      joined_usable (as_list (like_falsifier x form negates i)) (listed (like_falsifier x form negates i) (like_usable x f.0 (first_so (is_text k x) (is_text k form) h) form negates i))
  falsifier_usable row_count n = tt
  falsifier_usable (statistic x a) n = tt

  pub satisfier_usable : (e : Expression) → expression_fault k e ≡ None → IfSome (satisfier k e) (IsUsable k)
  satisfier_usable (literal l (boolean b)) n = joined_usable (boolean_literal b ∷ []) (truth_usable b)
  satisfier_usable (is_null x) n = joined_usable (only_nulls_proofs x) (only_nulls_usable x n)
  satisfier_usable (is_not_null x) n = joined_usable (no_nulls_proofs x) (no_nulls_usable x n)
  satisfier_usable (is_nan x) n = let f = second_none (expression_fault k x) (Some unsupported_predicate) n in absurd (cc (f))
  satisfier_usable e n = tt

  -- ---- a predicate that a scan accepts is accepted with its NOTs pushed inward

  both_refused : (x y : Expression) → expression_fault k x ≡ None → expression_fault k y ≡ None → is_truth k x ≡ true → is_truth k y ≡ true → expression_fault k (both x y) ≡ None
  both_refused x y n m h g = (λ i. or_else (n i) (or_else (m i) (refused_unless (h i && g i) no_truth)))

  not_refused : (x : Expression) → expression_fault k x ≡ None → is_truth k x ≡ true → expression_fault k (negation x) ≡ None
  not_refused x n h = (λ i. or_else (n i) (refused_unless (h i) no_truth))

  abbrev pub IsAccepted : Expression → Type 0
  IsAccepted e = (expression_fault k e ≡ None) × (is_truth k e ≡ true)

  pub sides : (x y : Expression) → expression_fault k (both x y) ≡ None → IsAccepted x × IsAccepted y
  sides x y n =
      let f = two_none k x y (refused_unless (is_truth k x && is_truth k y) no_truth) n in
      let h = unless_none (is_truth k x && is_truth k y) no_truth f.2 in
      ((f.0, first_so (is_truth k x) (is_truth k y) h), (f.1, second_so (is_truth k x) (is_truth k y) h))

  joined_accepted : (x y : Expression) → IsAccepted x → IsAccepted y → expression_fault k (both x y) ≡ None
  joined_accepted x y a b = both_refused x y a.0 b.0 a.1 b.1

  under_not : (x : Expression) → expression_fault k (negation x) ≡ None → IsAccepted x
  under_not x n = (
    first_none (expression_fault k x) (refused_unless (is_truth k x) no_truth) n,
    unless_none (is_truth k x) no_truth (second_none (expression_fault k x) (refused_unless (is_truth k x) no_truth) n),
  )

  pub ends_accepted : (op other : Comparison) (x lo hi : Expression) (s t : Bool) → expression_fault k (between x lo hi s t) ≡ None →
      expression_fault k (either (compare op lo x) (compare other x hi)) ≡ None
  ends_accepted op other x lo hi s t n =
      let test : Bool = are_alike k x lo && are_alike k x hi in
      let f = two_none k x lo (or_else (expression_fault k hi) (refused_unless test unequal)) n in
      let g = first_none (expression_fault k hi) (refused_unless test unequal) f.2 in
      let h = unless_none test unequal (second_none (expression_fault k hi) (refused_unless test unequal) f.2) in
      let low : are_alike k lo x ≡ true = so_alike lo x f.1 f.0 (sym (alike_so x lo f.0 f.1 (first_so (are_alike k x lo) (are_alike k x hi) h))) in
      let high : are_alike k x hi ≡ true = second_so (are_alike k x lo) (are_alike k x hi) h in
      both_refused (compare op lo x) (compare other x hi)
      (λ i. or_else (f.1 i) (or_else (f.0 i) (refused_unless (low i) unequal))) (λ i. or_else (f.0 i) (or_else (g i) (refused_unless (high i) unequal))) refl refl

  mutual
    pub accepted_kept : (e : Expression) → IsAccepted e → IsAccepted (pushed_in e)
    accepted_kept (negation x) a = accepted_negated x (under_not x a.0)
    accepted_kept (both x y) a = let s = sides x y a.0 in (joined_accepted (pushed_in x) (pushed_in y) (accepted_kept x s.0) (accepted_kept y s.1), refl)
    accepted_kept (either x y) a = let s = sides x y a.0 in (joined_accepted (pushed_in x) (pushed_in y) (accepted_kept x s.0) (accepted_kept y s.1), refl)
    accepted_kept e a = a

    accepted_negated : (e : Expression) → IsAccepted e → IsAccepted (negated e)
    accepted_negated (literal l (boolean b)) a = (refl, refl)
    accepted_negated (literal l c) a = (not_refused (literal l c) a.0 a.1, refl)
    accepted_negated (column xs) a = (not_refused (column xs) a.0 a.1, refl)
    accepted_negated (compare op x y) a = a
    accepted_negated (both x y) a = let s = sides x y a.0 in (joined_accepted (negated x) (negated y) (accepted_negated x s.0) (accepted_negated y s.1), refl)
    accepted_negated (either x y) a = let s = sides x y a.0 in (joined_accepted (negated x) (negated y) (accepted_negated x s.0) (accepted_negated y s.1), refl)
    accepted_negated (negation x) a = accepted_kept x (under_not x a.0)
    accepted_negated (is_null x) a = a
    accepted_negated (is_not_null x) a = a
    accepted_negated (is_nan x) a = (not_refused (is_nan x) a.0 a.1, refl)
    accepted_negated (between x lo hi s t) a = (ends_accepted (opposite (end_of s)) (opposite (end_of t)) x lo hi s t a.0, refl)
    accepted_negated (like x form n i) a = a
    accepted_negated row_count a = (not_refused row_count a.0 a.1, refl)
    accepted_negated (statistic x b) a = (not_refused (statistic x b) a.0 a.1, refl)
