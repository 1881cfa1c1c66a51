-- The JSON value of a predicate is read as that predicate.
use Rattle.std.proofs.Common.{◌&&◌, ◌≡◌, refl, ap, ◌∙◌, ◌∷◌, true, Option, Some, option_map, option_and_then, []}
use Rattle.std.proofs.lemmas.Bool.{and_parts}
use Rattle.vortex_model.specs.Path.{Names}
use Rattle.vortex_model_table.specs.Expression.{Comparison, equal, not_equal, greater, at_least, less, at_most, Aggregate, min, max, sum, null_count, nan_count, size, min_max, all_null, all_non_null, all_nan, all_non_nan, Expression, literal, column, compare, both, either, negation, is_null, is_not_null, is_nan, between, like, row_count, statistic, HasFormedLiterals}
use Rattle.vortex_table_request.specs.Kinds.{strings_of}
use Rattle.vortex_table_request.specs.FormNames.{aggregate_named}
use Rattle.vortex_table_request.specs.Where.{literal_at, predicate_in}
use Rattle.vortex_table_text.specs.Data.{content_data, path_data, predicate_data}
use Rattle.vortex_table_text.specs.Predicates.{aggregate_name, is_writable}
use Rattle.vortex_table_text.proofs.ContentsAgain.{literal_again}
use Rattle.vortex_table_text.proofs.TypesAgain.{type_again}

abbrev Maybe : Type 0
Maybe = Option Expression

one : (f : Expression → Maybe) (p : Maybe) (x : Expression) → p ≡ Some x → option_and_then f p ≡ f x
one f p x e = ap (option_and_then f) e

two : (f : Expression → Expression → Maybe) (p q : Maybe) (x y : Expression) → p ≡ Some x → q ≡ Some y
    → option_and_then (λ a. option_and_then (λ b. f a b) q) p ≡ f x y
two f p q x y d e = one (λ a. option_and_then (λ b. f a b) q) p x d ∙ one (f x) q y e

three : (f : Expression → Expression → Expression → Maybe) (p q r : Maybe) (x y z : Expression) → p ≡ Some x → q ≡ Some y → r ≡ Some z
    → option_and_then (λ a. option_and_then (λ b. option_and_then (λ c. f a b c) r) q) p ≡ f x y z
three f p q r x y z d e g = two (λ a b. option_and_then (λ c. f a b c) r) p q x y d e ∙ one (f x y) r z g

path_again : (xs : Names) → strings_of (path_data xs) ≡ Some xs
path_again [] = refl
path_again (x ∷ xs) = ap (λ o. option_map (λ ss. x ∷ ss) o) (path_again xs)

aggregate_again : (a : Aggregate) → aggregate_named (aggregate_name a) ≡ Some a
aggregate_again min = refl
aggregate_again max = refl
aggregate_again sum = refl
aggregate_again null_count = refl
aggregate_again nan_count = refl
aggregate_again size = refl
aggregate_again min_max = refl
aggregate_again all_null = refl
aggregate_again all_non_null = refl
aggregate_again all_nan = refl
aggregate_again all_non_nan = refl

compared : (o : Comparison) (x y : Expression) → predicate_in (predicate_data x) ≡ Some x → predicate_in (predicate_data y) ≡ Some y
    → predicate_in (predicate_data (compare o x y)) ≡ Some (compare o x y)
compared equal x y d e = two (λ x y. Some (compare equal x y)) _ _ x y d e
compared not_equal x y d e = two (λ x y. Some (compare not_equal x y)) _ _ x y d e
compared greater x y d e = two (λ x y. Some (compare greater x y)) _ _ x y d e
compared at_least x y d e = two (λ x y. Some (compare at_least x y)) _ _ x y d e
compared less x y d e = two (λ x y. Some (compare less x y)) _ _ x y d e
compared at_most x y d e = two (λ x y. Some (compare at_most x y)) _ _ x y d e

-- a predicate is read again
pub predicate_again : (e : Expression) → is_writable e ≡ true → HasFormedLiterals e → predicate_in (predicate_data e) ≡ Some e
predicate_again (literal k c) w h =
    ap (λ o. option_and_then (λ k. literal_at k (content_data c)) o) (type_again k w) ∙ literal_again k c w h
predicate_again (column xs) w h = ap (λ o. option_map column o) (path_again xs)
predicate_again (compare o x y) w h =
    let pass = and_parts (is_writable x) (is_writable y) w in
    compared o x y (predicate_again x pass.0 h.0) (predicate_again y pass.1 h.1)
predicate_again (both x y) w h =
    let pass = and_parts (is_writable x) (is_writable y) w in
    two (λ x y. Some (both x y)) _ _ x y (predicate_again x pass.0 h.0) (predicate_again y pass.1 h.1)
predicate_again (either x y) w h =
    let pass = and_parts (is_writable x) (is_writable y) w in
    two (λ x y. Some (either x y)) _ _ x y (predicate_again x pass.0 h.0) (predicate_again y pass.1 h.1)
predicate_again (negation x) w h = one (λ x. Some (negation x)) _ x (predicate_again x w h)
predicate_again (is_null x) w h = one (λ x. Some (is_null x)) _ x (predicate_again x w h)
predicate_again (is_not_null x) w h = one (λ x. Some (is_not_null x)) _ x (predicate_again x w h)
predicate_again (is_nan x) w h = one (λ x. Some (is_nan x)) _ x (predicate_again x w h)
predicate_again (between x lo hi lower_strict upper_strict) w h =
    let pass = and_parts (is_writable x) (is_writable lo && is_writable hi) w in
    let ends = and_parts (is_writable lo) (is_writable hi) pass.1 in
    three (λ x lo hi. Some (between x lo hi lower_strict upper_strict)) _ _ _ x lo hi (predicate_again x pass.0 h.0) (predicate_again lo ends.0 h.1) (predicate_again hi ends.1 h.2)
predicate_again (like x form negated ignores_case) w h =
    let pass = and_parts (is_writable x) (is_writable form) w in
    two (λ x form. Some (like x form negated ignores_case)) _ _ x form (predicate_again x pass.0 h.0) (predicate_again form pass.1 h.1)
predicate_again row_count w h = refl
predicate_again (statistic x a) w h =
    one (λ x. option_map (statistic x) (aggregate_named (aggregate_name a))) _ x (predicate_again x w h) ∙ ap (λ o. option_map (statistic x) o) (aggregate_again a)
