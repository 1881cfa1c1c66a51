-- Faults of predicates, arm by arm.
use Rattle.std.proofs.Common.{◌≡◌, ◌≢◌, ◌⊎◌, inl, inr, Option, Some, None, Result, Ok, Err, Bool, true, false, not, ◌&&◌, refl, sym, ap, ◌∙◌, subst}
use Rattle.vortex_model.specs.LogicalType.{LogicalType, boolean_type, integer_type, float, decimal, utf8, binary, nullable, eq_int_kind, IntKind, u8, u16, u32, u64, i8, i16, i32, i64}
use Rattle.vortex_model.specs.Content.{Content, text}
use Rattle.vortex_model_table.specs.Like.{has_backslash}
use Rattle.vortex_model.specs.Refusal.{Refusal, or_else, not_boolean, unequal_types, not_a_leaf, unsupported_like, unsupported_predicate}
use Rattle.vortex_model.specs.Path.{Names, type_of_column}
use Rattle.vortex_model_table.specs.Expression.{Expression, literal, column, compare, both, either, negation, between, like, Comparison}
use Rattle.vortex_model_table.specs.Typing.{expression_type, has_bounds}
use Rattle.vortex_model_table.specs.Command.{expression_fault, predicate_fault, column_fault, unless, eq_optional_type, is_boolean, is_utf8_type, is_supported_like}
use Rattle.vortex_model.specs.Kept.{is_leaf}
use Rattle.vortex_model.proofs.Refusals.{or_else_joins}
use Rattle.vortex_dtype_ptype.specs.Numbers.{NumberKind, integral}
use Rattle.vortex_dtype_ptype.specs.View.{number_kind_of}
use Rattle.vortex_dtype_ptype.specs.declared.ptype.PType.{PType}
use Rattle.vortex_dtype_ptype.specs.declared.ptype.PType.TheVariants as ptype
use Rattle.vortex_table_schema.specs.Error.{refusal_of}
use Rattle.vortex_table_plan.specs.Faults.{IsReason, IsChecked, AreChecked, IsSameOf, IsRangeOf, truth_of, truths_of, like_of, literal_text}
use Rattle.vortex_stats_bind.specs.Bindings.{IsReason as IsBindingReason}
use Rattle.vortex_stats_expr.specs.declared.error.StatsError.{StatsError}
use Rattle.vortex_stats_expr.specs.declared.error.StatsError.TheVariants as stats
use Rattle.vortex_model_rules.specs.Faults.{ProofFault, binding_fault}
use Rattle.vortex_model_rules.proofs.Usable.{binds}
use Rattle.vortex_table_plan.specs.Rules.{IsOfRules, IsRuleError}
use Rattle.vortex_stats_expr.specs.Types.{IsOfLeaf, IsOfClass, IsClass, IsLeaf}
use Rattle.vortex_table_schema.specs.declared.error.TableError.{TableError}
use Rattle.vortex_table_schema.specs.declared.error.TableError.TheVariants as error
use Rattle.vortex_stats_expr.specs.declared.types.Leaf.{Leaf}
use Rattle.vortex_stats_expr.specs.declared.types.Leaf.TheVariants as leaf
use Rattle.vortex_stats_expr.specs.declared.types.TypeClass.TheVariants as class
use Rattle.vortex_table_plan.proofs.BoundValues.{bound_says}

-- ---- leaves

pub leaf_literal : (k : LogicalType) (c : Content) (t : Leaf) (l : LogicalType) → IsOfLeaf t l → IsChecked k (literal l c) (Ok t)
leaf_literal k c leaf.Bool (boolean_type n) h = (refl, tt)
leaf_literal k c (leaf.Primitive p) (integer_type i n) h = (refl, h)
leaf_literal k c leaf.Utf8 (utf8 n) h = (refl, tt)
leaf_literal k c leaf.Binary (binary n) h = (refl, tt)
leaf_literal k c t l h = absurd h

fault_of_leaf : (t : Leaf) (o : Option LogicalType) → IsClass (Some (class.Leaf t)) o → (column_fault o ≡ None) × IsLeaf t o
fault_of_leaf leaf.Bool (Some (boolean_type n)) h = (refl, tt)
fault_of_leaf (leaf.Primitive p) (Some (integer_type i n)) h = (refl, h)
fault_of_leaf leaf.Utf8 (Some (utf8 n)) h = (refl, tt)
fault_of_leaf leaf.Binary (Some (binary n)) h = (refl, tt)
fault_of_leaf t o h = absurd h

pub leaf_column : (k : LogicalType) (xs : Names) (t : Leaf) → IsClass (Some (class.Leaf t)) (type_of_column k xs) → IsChecked k (column xs) (Ok t)
leaf_column k xs t h = fault_of_leaf t (type_of_column k xs) h

-- what has no least and no greatest value is no leaf
no_leaf : (k : LogicalType) → has_bounds k ≡ false → is_leaf k ≡ false
no_leaf (boolean_type n) h = cc
no_leaf (integer_type i n) h = cc
no_leaf (utf8 n) h = cc
no_leaf (binary n) h = cc
no_leaf k h = refl

pub float_literal : (k l : LogicalType) (c : Content) → IsOfClass class.Float l → IsChecked k (literal l c) (Err error.UnsupportedPredicate)
float_literal k (float f n) c h = refl
float_literal k l c h = absurd h

pub decimal_literal : (k l : LogicalType) (c : Content) → IsOfClass class.Decimal l → IsChecked k (literal l c) (Err error.UnsupportedPredicate)
decimal_literal k (decimal p s n) c h = refl
decimal_literal k l c h = absurd h

pub other_literal : (k l : LogicalType) (c : Content) → IsOfClass class.Other l → IsChecked k (literal l c) (Err error.UnsupportedPredicate)
other_literal k l c h = ap (λ b. unless b unsupported_predicate) (no_leaf l h)

fault_of_float : (o : Option LogicalType) → IsClass (Some class.Float) o → column_fault o ≡ refusal_of error.NotALeaf
fault_of_float (Some (float f n)) h = refl
fault_of_float o h = absurd h

pub float_column : (k : LogicalType) (xs : Names) → IsClass (Some class.Float) (type_of_column k xs) → IsChecked k (column xs) (Err error.NotALeaf)
float_column k xs h = fault_of_float (type_of_column k xs) h

fault_of_decimal : (o : Option LogicalType) → IsClass (Some class.Decimal) o → column_fault o ≡ refusal_of error.NotALeaf
fault_of_decimal (Some (decimal p s n)) h = refl
fault_of_decimal o h = absurd h

pub decimal_column : (k : LogicalType) (xs : Names) → IsClass (Some class.Decimal) (type_of_column k xs) → IsChecked k (column xs) (Err error.NotALeaf)
decimal_column k xs h = fault_of_decimal (type_of_column k xs) h

fault_of_other : (o : Option LogicalType) → IsClass (Some class.Other) o → column_fault o ≡ refusal_of error.NotALeaf
fault_of_other (Some k) h = ap (λ b. unless b not_a_leaf) (no_leaf k h)
fault_of_other None h = absurd h

pub other_column : (k : LogicalType) (xs : Names) → IsClass (Some class.Other) (type_of_column k xs) → IsChecked k (column xs) (Err error.NotALeaf)
other_column k xs h = fault_of_other (type_of_column k xs) h

fault_of_none : (o : Option LogicalType) → IsClass None o → column_fault o ≡ refusal_of error.UnknownColumn
fault_of_none None h = refl
fault_of_none (Some k) h = absurd h

pub no_column : (k : LogicalType) (xs : Names) → IsClass None (type_of_column k xs) → IsChecked k (column xs) (Err error.UnknownColumn)
no_column k xs h = fault_of_none (type_of_column k xs) h

pub ruleset of_literals = (leaf_literal, float_literal, decimal_literal, other_literal)

pub ruleset of_columns = (leaf_column, float_column, decimal_column, other_column, no_column)

-- ---- reasons

pub first_reason : (r : TableError) (p q : Option Refusal) → IsReason r p → IsReason r (or_else p q)
first_reason error.Memory p q h = tt
first_reason error.Total p q h = absurd h
first_reason error.RuleFault p q h = absurd h
first_reason error.NotARecord p q h = ap (λ o. or_else o q) h
first_reason error.UnkeptType p q h = ap (λ o. or_else o q) h
first_reason error.RepeatedName p q h = ap (λ o. or_else o q) h
first_reason error.NoSuchGroup p q h = ap (λ o. or_else o q) h
first_reason error.Placeholder p q h = ap (λ o. or_else o q) h
first_reason error.UnknownColumn p q h = ap (λ o. or_else o q) h
first_reason error.NotALeaf p q h = ap (λ o. or_else o q) h
first_reason error.UnequalTypes p q h = ap (λ o. or_else o q) h
first_reason error.NotBoolean p q h = ap (λ o. or_else o q) h
first_reason error.UnsupportedLike p q h = ap (λ o. or_else o q) h
first_reason error.UnsupportedPredicate p q h = ap (λ o. or_else o q) h
first_reason (error.InvalidValue i) p q h = ap (λ o. or_else o q) h
first_reason (error.NotConvertible i) p q h = ap (λ o. or_else o q) h
first_reason (error.UnknownPath i) p q h = ap (λ o. or_else o q) h
first_reason (error.ElementStep i) p q h = ap (λ o. or_else o q) h
first_reason (error.RepeatedPath i) p q h = ap (λ o. or_else o q) h

-- a fault after what has none
pub later_reason : (r : TableError) (p q : Option Refusal) → p ≡ None → IsReason r q → IsReason r (or_else p q)
later_reason r p q e h = subst (λ o. IsReason r (or_else o q)) (sym e) h

-- a fault of one of the first two
pub first_of_two : (r : TableError) (p q s : Option Refusal) → IsReason r (or_else p q) → IsReason r (or_else p (or_else q s))
first_of_two r p q s h = subst (IsReason r) (or_else_joins p q s) (first_reason r (or_else p q) s h)

-- ---- two types

eq_int_kind-refl : (i : IntKind) → eq_int_kind i i ≡ true
eq_int_kind-refl u8 = refl
eq_int_kind-refl u16 = refl
eq_int_kind-refl u32 = refl
eq_int_kind-refl u64 = refl
eq_int_kind-refl i8 = refl
eq_int_kind-refl i16 = refl
eq_int_kind-refl i32 = refl
eq_int_kind-refl i64 = refl

-- two integer types are equal
abbrev eq_whole : NumberKind → NumberKind → Bool
eq_whole (integral i) (integral j) = eq_int_kind i j
eq_whole k l = false

unlike_primitive : (p q : PType) → p ≢ q → eq_whole (number_kind_of p) (number_kind_of q) ≡ false
unlike_primitive ptype.U8 ptype.U8 h = absurd (h refl)
unlike_primitive ptype.U16 ptype.U16 h = absurd (h refl)
unlike_primitive ptype.U32 ptype.U32 h = absurd (h refl)
unlike_primitive ptype.U64 ptype.U64 h = absurd (h refl)
unlike_primitive ptype.I8 ptype.I8 h = absurd (h refl)
unlike_primitive ptype.I16 ptype.I16 h = absurd (h refl)
unlike_primitive ptype.I32 ptype.I32 h = absurd (h refl)
unlike_primitive ptype.I64 ptype.I64 h = absurd (h refl)
unlike_primitive p q h = refl

eq_leaf : (a : Leaf) (s t : Option LogicalType) → IsLeaf a s → IsLeaf a t → eq_optional_type s t ≡ true
eq_leaf leaf.Bool (Some (boolean_type n)) (Some (boolean_type m)) h g = refl
eq_leaf leaf.Utf8 (Some (utf8 n)) (Some (utf8 m)) h g = refl
eq_leaf leaf.Binary (Some (binary n)) (Some (binary m)) h g = refl
eq_leaf (leaf.Primitive p) (Some (integer_type i n)) (Some (integer_type j m)) h g =
    ap (λ k. eq_whole (integral i) k && true) (g ∙ sym h) ∙ ap (λ b. b && true) (eq_int_kind-refl i)
eq_leaf a s None h g = absurd g
eq_leaf a None t h g = absurd h
eq_leaf leaf.Bool (Some (boolean_type n)) t h g = absurd g
eq_leaf leaf.Utf8 (Some (utf8 n)) t h g = absurd g
eq_leaf leaf.Binary (Some (binary n)) t h g = absurd g
eq_leaf (leaf.Primitive p) (Some (integer_type i n)) t h g = absurd g
eq_leaf a s t h g = absurd h

unlike_leaf : (a b : Leaf) (s t : Option LogicalType) → a ≢ b → IsLeaf a s → IsLeaf b t → eq_optional_type s t ≡ false
unlike_leaf leaf.Bool leaf.Bool s t u h g = absurd (u refl)
unlike_leaf leaf.Utf8 leaf.Utf8 s t u h g = absurd (u refl)
unlike_leaf leaf.Binary leaf.Binary s t u h g = absurd (u refl)
unlike_leaf (leaf.Primitive p) (leaf.Primitive q) (Some (integer_type i n)) (Some (integer_type j m)) u h g =
    ap (λ k. eq_whole k (integral j) && true) h ∙ ap (λ k. eq_whole (number_kind_of p) k && true) g
    ∙ ap (λ b. b && true) (unlike_primitive p q (λ e. u (ap leaf.Primitive e)))
unlike_leaf leaf.Bool (leaf.Primitive q) (Some (boolean_type n)) (Some (integer_type j m)) u h g = refl
unlike_leaf leaf.Bool leaf.Utf8 (Some (boolean_type n)) (Some (utf8 m)) u h g = refl
unlike_leaf leaf.Bool leaf.Binary (Some (boolean_type n)) (Some (binary m)) u h g = refl
unlike_leaf (leaf.Primitive p) leaf.Bool (Some (integer_type i n)) (Some (boolean_type m)) u h g = refl
unlike_leaf (leaf.Primitive p) leaf.Utf8 (Some (integer_type i n)) (Some (utf8 m)) u h g = refl
unlike_leaf (leaf.Primitive p) leaf.Binary (Some (integer_type i n)) (Some (binary m)) u h g = refl
unlike_leaf leaf.Utf8 leaf.Bool (Some (utf8 n)) (Some (boolean_type m)) u h g = refl
unlike_leaf leaf.Utf8 (leaf.Primitive q) (Some (utf8 n)) (Some (integer_type j m)) u h g = refl
unlike_leaf leaf.Utf8 leaf.Binary (Some (utf8 n)) (Some (binary m)) u h g = refl
unlike_leaf leaf.Binary leaf.Bool (Some (binary n)) (Some (boolean_type m)) u h g = refl
unlike_leaf leaf.Binary (leaf.Primitive q) (Some (binary n)) (Some (integer_type j m)) u h g = refl
unlike_leaf leaf.Binary leaf.Utf8 (Some (binary n)) (Some (utf8 m)) u h g = refl
unlike_leaf a b s None u h g = absurd g
unlike_leaf a b None t u h g = absurd h
unlike_leaf leaf.Bool b (Some (boolean_type n)) t u h g = absurd g
unlike_leaf (leaf.Primitive p) b (Some (integer_type i n)) t u h g = absurd g
unlike_leaf leaf.Utf8 b (Some (utf8 n)) t u h g = absurd g
unlike_leaf leaf.Binary b (Some (binary n)) t u h g = absurd g
unlike_leaf a b s t u h g = absurd h

-- ---- arms

joined_fault : (p q s : Option Refusal) → p ≡ None → q ≡ None → or_else p (or_else q s) ≡ s
joined_fault p q s e f = ap (λ o. or_else o (or_else q s)) e ∙ ap (λ o. or_else o s) f

pub compare_checked : (k : LogicalType) (o : Comparison) (x y : Expression) (leaves : Leaf × Leaf) (r : Result Leaf TableError) →
    AreChecked k x y (Ok leaves) → IsSameOf leaves.0 leaves.1 r → IsChecked k (compare o x y) r
compare_checked k o x y leaves (Ok l) h s = (
  joined_fault (expression_fault k x) (expression_fault k y) (unless (eq_optional_type (expression_type k x) (expression_type k y)) unequal_types) h.0.0 h.1.0
      ∙ ap (λ c. unless c unequal_types) (eq_leaf leaves.0 (expression_type k x) (expression_type k y) h.0.1 (subst (λ c. IsLeaf c (expression_type k y)) (sym s.1) h.1.1)),
  subst (λ c. IsLeaf c (Some (boolean_type nullable))) (sym s.0) tt,
)
compare_checked k o x y leaves (Err r) h s =
    subst (λ c. IsReason c (expression_fault k (compare o x y))) (sym s.0)
    (joined_fault (expression_fault k x) (expression_fault k y) (unless (eq_optional_type (expression_type k x) (expression_type k y)) unequal_types) h.0.0 h.1.0
    ∙ ap (λ c. unless c unequal_types) (unlike_leaf leaves.0 leaves.1 (expression_type k x) (expression_type k y) s.1 h.0.1 h.1.1))

-- the leaf of booleans
abbrev is_truth : Leaf → Bool
is_truth leaf.Bool = true
is_truth l = false

is_boolean-leaf : (l : Leaf) (o : Option LogicalType) → IsLeaf l o → is_boolean o ≡ is_truth l
is_boolean-leaf leaf.Bool (Some (boolean_type n)) h = refl
is_boolean-leaf (leaf.Primitive p) (Some (integer_type i n)) h = refl
is_boolean-leaf leaf.Utf8 (Some (utf8 n)) h = refl
is_boolean-leaf leaf.Binary (Some (binary n)) h = refl
is_boolean-leaf l o h = absurd h

joined_checked : (k : LogicalType) (e : Expression) (a b : Leaf) → expression_type k e ≡ Some (boolean_type nullable) → expression_fault k e ≡ unless (is_truth a && is_truth b) not_boolean → IsChecked k e (truths_of a b)
joined_checked k e leaf.Bool leaf.Bool t h = (h, subst (IsLeaf leaf.Bool) (sym t) tt)
joined_checked k e a b t h = h

fault_of_truths : (k : LogicalType) (x y : Expression) (a b : Leaf) → IsChecked k x (Ok a) → IsChecked k y (Ok b) →
    expression_fault k (both x y) ≡ unless (is_truth a && is_truth b) not_boolean
fault_of_truths k x y a b h g =
    joined_fault (expression_fault k x) (expression_fault k y) (unless (is_boolean (expression_type k x) && is_boolean (expression_type k y)) not_boolean) h.0 g.0
    ∙ (λ i. unless (is_boolean-leaf a (expression_type k x) h.1 i && is_boolean-leaf b (expression_type k y) g.1 i) not_boolean)

pub both_checked : (k : LogicalType) (x y : Expression) (leaves : Leaf × Leaf) (r : Result Leaf TableError) →
    AreChecked k x y (Ok leaves) → r ≡ truths_of leaves.0 leaves.1 → IsChecked k (both x y) r
both_checked k x y leaves r h s =
    subst (IsChecked k (both x y)) (sym s) (joined_checked k (both x y) leaves.0 leaves.1 refl (fault_of_truths k x y leaves.0 leaves.1 h.0 h.1))

pub either_checked : (k : LogicalType) (x y : Expression) (leaves : Leaf × Leaf) (r : Result Leaf TableError) →
    AreChecked k x y (Ok leaves) → r ≡ truths_of leaves.0 leaves.1 → IsChecked k (either x y) r
either_checked k x y leaves r h s =
    subst (IsChecked k (either x y)) (sym s) (joined_checked k (either x y) leaves.0 leaves.1 refl (fault_of_truths k x y leaves.0 leaves.1 h.0 h.1))

truth_checked : (k : LogicalType) (x : Expression) (a : Leaf) → expression_fault k (negation x) ≡ unless (is_truth a) not_boolean → IsChecked k (negation x) (truth_of a)
truth_checked k x leaf.Bool e = (e, tt)
truth_checked k x a e = e

pub not_checked : (k : LogicalType) (x : Expression) (a : Leaf) (r : Result Leaf TableError) → IsChecked k x (Ok a) → r ≡ truth_of a → IsChecked k (negation x) r
not_checked k x a r h s =
    subst (IsChecked k (negation x)) (sym s) (truth_checked k x a
    (ap (λ o. or_else o (unless (is_boolean (expression_type k x)) not_boolean)) h.0 ∙ ap (λ b. unless b not_boolean) (is_boolean-leaf a (expression_type k x) h.1)))

-- ---- BETWEEN

third_fault : (p q s u : Option Refusal) → p ≡ None → q ≡ None → s ≡ None → or_else p (or_else q (or_else s u)) ≡ u
third_fault p q s u e f g = joined_fault p q (or_else s u) e f ∙ ap (λ o. or_else o u) g

ends_differ : (b c : Bool) → (b ≡ false) ⊎ (c ≡ false) → b && c ≡ false
ends_differ false c h = refl
ends_differ true c (inl h) = absurd (cc (h))
ends_differ true c (inr h) = h

abbrev differing : LogicalType → Expression → Expression → Expression → Option Refusal
differing k x lo hi = unless (eq_optional_type (expression_type k x) (expression_type k lo) && eq_optional_type (expression_type k x) (expression_type k hi)) unequal_types

range_fault : (k : LogicalType) (x lo hi : Expression) (s t : Bool) (a : Leaf) (ends : Leaf × Leaf) → IsChecked k x (Ok a) → AreChecked k lo hi (Ok ends) →
    expression_fault k (between x lo hi s t) ≡ differing k x lo hi
range_fault k x lo hi s t a ends h g = third_fault (expression_fault k x) (expression_fault k lo) (expression_fault k hi) (differing k x lo hi) h.0 g.0.0 g.1.0

end_differs : (k : LogicalType) (x lo hi : Expression) (a : Leaf) (ends : Leaf × Leaf) → IsChecked k x (Ok a) → AreChecked k lo hi (Ok ends) → (a ≢ ends.0) ⊎ (a ≢ ends.1) →
    (eq_optional_type (expression_type k x) (expression_type k lo) ≡ false) ⊎ (eq_optional_type (expression_type k x) (expression_type k hi) ≡ false)
end_differs k x lo hi a ends h g (inl u) = inl (unlike_leaf a ends.0 (expression_type k x) (expression_type k lo) u h.1 g.0.1)
end_differs k x lo hi a ends h g (inr u) = inr (unlike_leaf a ends.1 (expression_type k x) (expression_type k hi) u h.1 g.1.1)

pub range_checked : (k : LogicalType) (x lo hi : Expression) (s t : Bool) (a : Leaf) (ends : Leaf × Leaf) (r : Result Leaf TableError) →
    IsChecked k x (Ok a) → AreChecked k lo hi (Ok ends) → IsRangeOf a ends.0 ends.1 r → IsChecked k (between x lo hi s t) r
range_checked k x lo hi s t a ends (Ok l) h g is = (
  range_fault k x lo hi s t a ends h g
      ∙ (λ i. unless (eq_leaf a (expression_type k x) (expression_type k lo) h.1 (subst (λ c. IsLeaf c (expression_type k lo)) (sym is.1) g.0.1) i
      && eq_leaf a (expression_type k x) (expression_type k hi) h.1 (subst (λ c. IsLeaf c (expression_type k hi)) (sym is.2) g.1.1) i) unequal_types),
  subst (λ c. IsLeaf c (Some (boolean_type nullable))) (sym is.0) tt,
)
range_checked k x lo hi s t a ends (Err e) h g is =
    subst (λ c. IsReason c (expression_fault k (between x lo hi s t))) (sym is.0)
    (range_fault k x lo hi s t a ends h g
    ∙ ap (λ b. unless b unequal_types) (ends_differ (eq_optional_type (expression_type k x) (expression_type k lo)) (eq_optional_type (expression_type k x) (expression_type k hi)) (end_differs k x lo hi a ends h g is.1)))

-- ---- LIKE

-- the leaf of strings
abbrev is_text : Leaf → Bool
is_text leaf.Utf8 = true
is_text l = false

is_utf8-leaf : (l : Leaf) (o : Option LogicalType) → IsLeaf l o → is_utf8_type o ≡ is_text l
is_utf8-leaf leaf.Bool (Some (boolean_type n)) h = refl
is_utf8-leaf (leaf.Primitive p) (Some (integer_type i n)) h = refl
is_utf8-leaf leaf.Utf8 (Some (utf8 n)) h = refl
is_utf8-leaf leaf.Binary (Some (binary n)) h = refl
is_utf8-leaf l o h = absurd h

texts_checked : (k : LogicalType) (e : Expression) (a b : Leaf) (supported : Bool) → expression_type k e ≡ Some (boolean_type nullable) →
    expression_fault k e ≡ or_else (unless (is_text a && is_text b) unequal_types) (unless supported unsupported_like) → IsChecked k e (like_of a b supported)
texts_checked k e leaf.Utf8 leaf.Utf8 true t h = (h, subst (IsLeaf leaf.Bool) (sym t) tt)
texts_checked k e leaf.Utf8 leaf.Utf8 false t h = h
texts_checked k e a b supported t h = h

pub like_checked : (k : LogicalType) (x form : Expression) (n i : Bool) (leaves : Leaf × Leaf) (r : Result Leaf TableError) →
    AreChecked k x form (Ok leaves) → r ≡ like_of leaves.0 leaves.1 (is_supported_like form i) → IsChecked k (like x form n i) r
like_checked k x form n i leaves r h s =
    subst (IsChecked k (like x form n i)) (sym s) (texts_checked k (like x form n i) leaves.0 leaves.1 (is_supported_like form i) refl
    (joined_fault (expression_fault k x) (expression_fault k form)
    (or_else (unless (is_utf8_type (expression_type k x) && is_utf8_type (expression_type k form)) unequal_types) (unless (is_supported_like form i) unsupported_like)) h.0.0 h.1.0
    ∙ (λ j. or_else (unless (is_utf8-leaf leaves.0 (expression_type k x) h.0.1 j && is_utf8-leaf leaves.1 (expression_type k form) h.1.1 j) unequal_types) (unless (is_supported_like form i) unsupported_like))))

-- a fault of one of the sides
pub like_refused : (k : LogicalType) (x form : Expression) (n i : Bool) (e : TableError) → AreChecked k x form (Err e) → IsChecked k (like x form n i) (Err e)
like_refused k x form n i e h =
    first_of_two e (expression_fault k x) (expression_fault k form)
    (or_else (unless (is_utf8_type (expression_type k x) && is_utf8_type (expression_type k form)) unequal_types) (unless (is_supported_like form i) unsupported_like)) h

-- a literal string without a backslash, where case is kept
pub supported_by_text : (form : Expression) (i : Bool) → is_supported_like form i ≡ elim (literal_text form) [ None ↦ false | Some bs ↦ not i && not (has_backslash bs) ]
supported_by_text (literal k (text bs)) i = refl
supported_by_text (literal k c) i = refl
supported_by_text e i = refl

pub ruleset supported = (supported_by_text)

-- ---- the whole predicate

whole_fault : (k : LogicalType) (e : Expression) (l : Leaf) → IsChecked k e (Ok l) → predicate_fault k e ≡ unless (is_truth l) not_boolean
whole_fault k e l h = ap (λ o. or_else o (unless (is_boolean (expression_type k e)) not_boolean)) h.0 ∙ ap (λ b. unless b not_boolean) (is_boolean-leaf l (expression_type k e) h.1)

pub faultless : (k : LogicalType) (e : Expression) → IsChecked k e (Ok leaf.Bool) → predicate_fault k e ≡ None
faultless k e h = whole_fault k e leaf.Bool h

pub no_truth : (k : LogicalType) (e : Expression) (p : PType) → IsChecked k e (Ok (leaf.Primitive p)) → IsReason error.NotBoolean (predicate_fault k e)
no_truth k e p h = whole_fault k e (leaf.Primitive p) h

pub text_no_truth : (k : LogicalType) (e : Expression) → IsChecked k e (Ok leaf.Utf8) → IsReason error.NotBoolean (predicate_fault k e)
text_no_truth k e h = whole_fault k e leaf.Utf8 h

pub bytes_no_truth : (k : LogicalType) (e : Expression) → IsChecked k e (Ok leaf.Binary) → IsReason error.NotBoolean (predicate_fault k e)
bytes_no_truth k e h = whole_fault k e leaf.Binary h

pub fault_inside : (k : LogicalType) (e : Expression) (r : TableError) → IsChecked k e (Err r) → IsReason r (predicate_fault k e)
fault_inside k e r h = first_reason r (expression_fault k e) (unless (is_boolean (expression_type k e)) not_boolean) h

-- ---- what has no fault is bound

reason_of_none : (b : Bool) (r : StatsError) (o : Option ProofFault) → o ≡ None → IsBindingReason r o → IsOfRules b r
reason_of_none b stats.Memory o n h = tt
reason_of_none b stats.UnknownColumn o n h = absurd (cc (n, h))
reason_of_none b stats.UnequalTypes o n h = absurd (cc (n, h))
reason_of_none b stats.NotBoolean o n h = absurd (cc (n, h))
reason_of_none b stats.UnsupportedAggregate o n h = absurd (cc (n, h))
reason_of_none b stats.NotEvaluable o n h = absurd (cc (n, h))
reason_of_none b stats.RuleFault o n h = absurd (cc (n, h))
reason_of_none b r o n h = absurd h

pub for_memory : (b : Bool) (k : LogicalType) (e : Expression) (r : StatsError) → expression_fault k e ≡ None → IsBindingReason r (binding_fault k e) → IsOfRules b r
for_memory b k e r n h = reason_of_none b r (binding_fault k e) (binds k e n) h

pub ruleset checked = (for_memory)

pub no_fault_inside : (k : LogicalType) (e : Expression) (l : Leaf) → IsChecked k e (Ok l) → expression_fault k e ≡ None
no_fault_inside k e l h = h.0

pub memory_explained : (o : Option Refusal) (r : TableError) → IsRuleError false r → IsReason r o
memory_explained o error.Memory h = tt
memory_explained o error.RuleFault h = absurd (cc (h))
memory_explained o r h = absurd h

pub ruleset binding = (faultless, no_truth, text_no_truth, bytes_no_truth, fault_inside, no_fault_inside, memory_explained, bound_says)
