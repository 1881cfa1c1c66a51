-- Strings in rows and in literals are UTF-8.
use Rattle.std.proofs.Common.{◌≡◌, refl, ap, ◌∙◌, [], ◌∷◌, ℕ, Bool, true, false, not, ◌||◌, if◌then◌else◌, Option, Some, None, option_map, option_and_then, IsUtf8}
use Rattle.std.specs.Prelude.{is_some}
use Rattle.std.specs.declared.cmp.Ordering.{Ordering}
use Rattle.vortex_model.specs.LogicalType.{LogicalType, utf8, stored, nullability_of, nullable_inside}
use Rattle.vortex_model.specs.Content.{Content, null, boolean, text, is_null as is_null_content}
use Rattle.vortex_model.specs.Valid.{IsContent, Holds}
use Rattle.vortex_model.specs.Path.{Names, Positions, positions, part_at, position_in, type_at, at}
use Rattle.vortex_model.specs.Order.{content_cmp}
use Rattle.vortex_model_table.specs.Like.{has_backslash, is_like}
use Rattle.vortex_model_table.specs.Expression.{Expression, literal, column, compare, both, either, negation, is_null, is_not_null, is_nan, between, like, row_count, statistic, Comparison, HasFormedLiterals}
use Rattle.vortex_model_table.specs.Truth.{value_at, compared, kleene_and, kleene_or, kleene_not, liked, test_of, end_of}
use Rattle.vortex_model_laws.proofs.Columns.{at_type}

-- a string is UTF-8
abbrev pub IsTextual : Content → Type 0
IsTextual (text bs) = IsUtf8 bs
IsTextual c = Unit {0}

held_textual : (k : LogicalType) (c : Content) → Holds k c → IsTextual c
held_textual (utf8 n) (text bs) h = h
held_textual k (text bs) h = absurd h
held_textual k c h = tt

-- ---- columns

abbrev IsTyped : LogicalType → Option Positions → Type 0
IsTyped k None = Unit {0}
IsTyped k (Some is) = is_some (type_at k is) ≡ true

there_mapped : (f : LogicalType → LogicalType) (o : Option LogicalType) → is_some o ≡ true → is_some (option_map f o) ≡ true
there_mapped f None e = e
there_mapped f (Some t) e = refl

stepped_typed : (k : LogicalType) (i : ℕ) (part : LogicalType) → part_at k i ≡ Some part → (q : Option Positions) → IsTyped part q → IsTyped k (option_map (λ is. i ∷ is) q)
stepped_typed k i part e None h = tt
stepped_typed k i part e (Some is) h =
    ap (λ o. is_some (option_map (nullable_inside (nullability_of k)) (option_and_then (λ p. type_at p is) o))) e
    ∙ there_mapped (nullable_inside (nullability_of k)) (type_at part is) h

by_part : (k : LogicalType) (xs : Names) → ((part : LogicalType) → IsTyped part (positions part xs)) → (i : ℕ) (p : Option LogicalType) → part_at k i ≡ p →
    IsTyped k (option_and_then (λ part. option_map (λ is. i ∷ is) (positions part xs)) p)
by_part k xs h i None e = tt
by_part k xs h i (Some part) e = stepped_typed k i part e (positions part xs) (h part)

by_position : (k : LogicalType) (xs : Names) → ((part : LogicalType) → IsTyped part (positions part xs)) → (o : Option ℕ) →
    IsTyped k (option_and_then (λ i. option_and_then (λ part. option_map (λ is. i ∷ is) (positions part xs)) (part_at k i)) o)
by_position k xs h None = tt
by_position k xs h (Some i) = by_part k xs h i (part_at k i) refl

-- the positions of a path are in the type
pub typed_positions : (k : LogicalType) (xs : Names) → IsTyped k (positions k xs)
typed_positions k [] = refl
typed_positions k (x ∷ xs) = by_position k xs (λ part. typed_positions part xs) (position_in k x)

at_textual : (k : LogicalType) (is : Positions) (row : Content) (o : Option LogicalType) → type_at k is ≡ o → is_some o ≡ true → IsContent k row → IsTextual (at row is)
at_textual k is row None e s h = absurd (cc (s))
at_textual k is row (Some t) e s h = held_textual (stored t) (at row is) (at_type k is t row e h)

column_textual : (k : LogicalType) (row : Content) (o : Option Positions) → IsTyped k o → IsContent k row → IsTextual (elim o [ None ↦ null | Some is ↦ at row is ])
column_textual k row None e h = tt
column_textual k row (Some is) e h = at_textual k is row (type_at k is) refl e h

-- ---- booleans and nulls

ordered_textual : (op : Comparison) (o : Option Ordering) → IsTextual (elim o [ None ↦ null | Some p ↦ boolean (test_of op p) ])
ordered_textual op None = tt
ordered_textual op (Some p) = tt

compared_textual : (op : Comparison) (c d : Content) → IsTextual (compared op c d)
compared_textual op c d = by_test (is_null_content c || is_null_content d)
  where
    by_test : (b : Bool) → IsTextual (if b then null else (elim (content_cmp c d) [ None ↦ null | Some p ↦ boolean (test_of op p) ]))
    by_test true = tt
    by_test false = ordered_textual op (content_cmp c d)

and_textual : (c d : Content) → IsTextual (kleene_and c d)
and_textual (boolean false) d = tt
and_textual c (boolean false) = tt
and_textual (boolean true) (boolean true) = tt
and_textual c d = tt

or_textual : (c d : Content) → IsTextual (kleene_or c d)
or_textual (boolean true) d = tt
or_textual c (boolean true) = tt
or_textual (boolean false) (boolean false) = tt
or_textual c d = tt

not_textual : (c : Content) → IsTextual (kleene_not c)
not_textual (boolean b) = tt
not_textual c = tt

liked_textual : (c d : Content) (n : Bool) → IsTextual (liked c d n)
liked_textual (text v) (text form) n = by_tests (has_backslash form) n
  where
    by_tests : (b m : Bool) → IsTextual (if b then null else (if m then boolean (not (is_like form v)) else boolean (is_like form v)))
    by_tests true m = tt
    by_tests false true = tt
    by_tests false false = tt
liked_textual c d n = tt

-- the value of an expression whose literals are of their types, at a row of the type
pub value_textual : (k : LogicalType) (row : Content) → IsContent k row → (x : Expression) → HasFormedLiterals x → IsTextual (value_at k x row)
value_textual k row h (literal l c) f = held_textual (stored l) c f
value_textual k row h (column xs) f = column_textual k row (positions k xs) (typed_positions k xs) h
value_textual k row h (compare op x y) f = compared_textual op (value_at k x row) (value_at k y row)
value_textual k row h (both x y) f = and_textual (value_at k x row) (value_at k y row)
value_textual k row h (either x y) f = or_textual (value_at k x row) (value_at k y row)
value_textual k row h (negation x) f = not_textual (value_at k x row)
value_textual k row h (is_null x) f = tt
value_textual k row h (is_not_null x) f = tt
value_textual k row h (is_nan x) f = tt
value_textual k row h (between x lo hi s t) f =
    and_textual (compared (end_of s) (value_at k lo row) (value_at k x row)) (compared (end_of t) (value_at k x row) (value_at k hi row))
value_textual k row h (like x form n true) f = tt
value_textual k row h (like x form n false) f = liked_textual (value_at k x row) (value_at k form row) n
value_textual k row h row_count f = tt
value_textual k row h (statistic x a) f = tt
