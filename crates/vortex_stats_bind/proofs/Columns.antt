-- Columns, step by step.
use Rattle.std.proofs.Common.{◌≡◌, ◌+◌, ◌<◌, ◌≤◌, ◌++◌, ℕ, suc, add-one, List, [], ◌∷◌, length, get_or, drop, drop-cons, Option, Some, None, option_map, refl, sym, ap, ◌∙◌, subst, append_assoc, append-nil}
use Rattle.std.proofs.lemmas.List.{drop_all}
use Rattle.std.specs.Prelude.{option_and_then}
use Rattle.vortex_model.specs.LogicalType.{LogicalType, extension, Nullability, non_nullable, nullable, nullability_of, either_nullable, with_nullability, nullable_inside}
use Rattle.vortex_model.specs.Path.{Names, Positions, positions, position_in, part_at, type_at, type_of_column}
use Rattle.vortex_stats_expr.proofs.Classes.{positions-step}

-- ---- nullability on the way

abbrev plain : LogicalType → LogicalType
plain k = with_nullability nullable k

plain-plain : (k : LogicalType) → plain (plain k) ≡ plain k
plain-plain (extension x m k) = ap (extension x m) (plain-plain k)
plain-plain k = refl

-- inside two records, as inside one that has null where one of them has
pub inside_both : (n m : Nullability) (o : Option LogicalType) →
    option_map (nullable_inside n) (option_map (nullable_inside m) o) ≡ option_map (nullable_inside (either_nullable n m)) o
inside_both n m None = refl
inside_both non_nullable non_nullable (Some k) = refl
inside_both non_nullable nullable (Some k) = refl
inside_both nullable non_nullable (Some k) = refl
inside_both nullable nullable (Some k) = ap Some (plain-plain k)

pub inside_none : (o : Option LogicalType) → option_map (nullable_inside non_nullable) o ≡ o
inside_none None = refl
inside_none (Some k) = refl

own_null : (k : LogicalType) → with_nullability (nullability_of k) k ≡ k
own_null (extension x m k) = ap (extension x m) (own_null k)
own_null k = refl

-- where a type has null of its own
by_own : (k : LogicalType) (m : Nullability) → with_nullability (either_nullable m nullable) k ≡ plain k
by_own k nullable = refl
by_own k non_nullable = refl

with_outer : (k : LogicalType) (m : Nullability) → m ≡ nullability_of k → with_nullability (either_nullable m non_nullable) k ≡ k
with_outer k nullable p = ap (λ n. with_nullability n k) p ∙ own_null k
with_outer k non_nullable p = ap (λ n. with_nullability n k) p ∙ own_null k

-- null of its own, or of a record around it
inside_one : (n : Nullability) (k : LogicalType) → with_nullability (either_nullable (nullability_of k) n) k ≡ nullable_inside n k
inside_one nullable k = by_own k (nullability_of k)
inside_one non_nullable k = with_outer k (nullability_of k) refl

-- ---- the walk along the names

-- the walk is at a part, after these positions and inside records that have null or not
pub record IsAt (k : LogicalType) (names : Names) (part : LogicalType) (n : Nullability) (before : Positions) (rest : Names) : Type 0 where
  pub behind : option_map (λ is. before ++ is) (positions part rest) ≡ positions k names
  pub inside : option_map (nullable_inside n) (type_of_column part rest) ≡ type_of_column k names

same_positions : (o : Option Positions) → option_map (λ is. [] ++ is) o ≡ o
same_positions None = refl
same_positions (Some is) = refl

pub at_start : (k : LogicalType) (names : Names) → IsAt k names k non_nullable [] names
at_start k names = record { behind = same_positions (positions k names); inside = inside_none (type_of_column k names) }

one_more : (before : Positions) (i : ℕ) (o : Option Positions) → option_map (λ is. (before ++ i ∷ []) ++ is) o ≡ option_map (λ is. before ++ is) (option_map (λ is. i ∷ is) o)
one_more before i None = refl
one_more before i (Some is) = ap Some (append_assoc before (i ∷ []) is)

type_behind : (k part : LogicalType) (i : ℕ) (o : Option Positions) → part_at k i ≡ Some part →
    option_and_then (type_at k) (option_map (λ is. i ∷ is) o) ≡ option_map (nullable_inside (nullability_of k)) (option_and_then (type_at part) o)
type_behind k part i None q = refl
type_behind k part i (Some is) q = ap (λ o. option_map (nullable_inside (nullability_of k)) (option_and_then (λ part. type_at part is) o)) q

type_of_column-step : (k part : LogicalType) (i : ℕ) (x : List ℕ) (xs : Names) → position_in k x ≡ Some i → part_at k i ≡ Some part →
    type_of_column k (x ∷ xs) ≡ option_map (nullable_inside (nullability_of k)) (type_of_column part xs)
type_of_column-step k part i x xs p q = ap (option_and_then (type_at k)) (positions-step k part i x xs p q) ∙ type_behind k part i (positions part xs) q

step : (k : LogicalType) (names : Names) (part next : LogicalType) (n : Nullability) (before : Positions) (i : ℕ) (x : List ℕ) (rest : Names) →
    position_in part x ≡ Some i → part_at part i ≡ Some next → IsAt k names part n before (x ∷ rest) →
    IsAt k names next (either_nullable n (nullability_of part)) (before ++ i ∷ []) rest
step k names part next n before i x rest p q a = record {
  behind = one_more before i (positions next rest) ∙ ap (option_map (λ is. before ++ is)) (sym (positions-step part next i x rest p q)) ∙ a.behind;
  inside = sym (inside_both n (nullability_of part) (type_of_column next rest))
      ∙ ap (option_map (nullable_inside n)) (sym (type_of_column-step part next i x rest p q)) ∙ a.inside;
}

first_of : (ds : Names) (i : ℕ) (x : List ℕ) → i < length ds → x ≡ get_or ds i x → drop i ds ≡ x ∷ drop (i + 1) ds
first_of ds i x within at = drop-cons ds i x within ∙ ap (λ y. y ∷ drop (suc i) ds) (sym at) ∙ ap (λ m. x ∷ drop m ds) (sym (add-one i))

pub at_next : (k : LogicalType) (names : Names) (part next : LogicalType) (n m r : Nullability) (before after : Positions) (i : ℕ) (x : List ℕ) (ds : Names) (j : ℕ) →
    j < length ds → x ≡ get_or ds j x → position_in part x ≡ Some i → part_at part i ≡ Some next → m ≡ nullability_of part → r ≡ either_nullable n m →
    after ≡ before ++ i ∷ [] → IsAt k names part n before (drop j ds) → IsAt k names next r after (drop (j + 1) ds)
at_next k names part next n m r before after i x ds j within at p q own joined grown a =
    subst (λ is. IsAt k names next r is (drop (j + 1) ds)) (sym grown)
    (subst (λ s. IsAt k names next s (before ++ i ∷ []) (drop (j + 1) ds)) (sym (joined ∙ ap (either_nullable n) own))
    (step k names part next n before i x (drop (j + 1) ds) p q (subst (IsAt k names part n before) (first_of ds j x within at) a)))

-- the names are over
pub at_end : (k : LogicalType) (names : Names) (part : LogicalType) (n : Nullability) (before : Positions) (ds : Names) (j : ℕ) (t : LogicalType) →
    length ds ≤ j → t ≡ with_nullability (either_nullable (nullability_of part) n) part → IsAt k names part n before (drop j ds) →
    (positions k names ≡ Some before) × (type_of_column k names ≡ Some t)
at_end k names part n before ds j t past made a =
    let b : IsAt k names part n before [] = subst (IsAt k names part n before) (drop_all j ds past) a in
    (sym b.behind ∙ ap Some (append-nil before), sym b.inside ∙ ap Some (sym (made ∙ inside_one n part)))
