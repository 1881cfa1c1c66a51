-- The predicates for which skipping is exact, and hopeless boxes: those with no values that satisfy
-- the predicate.
use Rattle.std.specs.Prelude.{chars, ◌≡◌, ◌≢◌, ℕ, ◌<◌, List, [], ◌∷◌, ◌++◌, Bool, true, false, not, ◌&&◌, ◌||◌, is_some, Option, Some, None, IfSome, ◌==◌}
use Rattle.std.specs.List.{list_any, list_all}
use Rattle.vortex_model.specs.LogicalType.{LogicalType, non_nullable, with_nullability}
use Rattle.vortex_model.specs.Content.{Content, null, boolean, text, is_null as is_null_content}
use Rattle.vortex_model.specs.Valid.{IsContent}
use Rattle.vortex_model.specs.Path.{Names, begins, type_of_column}
use Rattle.vortex_model.specs.Order.{at_most as at_most_content}
use Rattle.vortex_model_table.specs.Bounds.{next_character}
use Rattle.vortex_model_table.specs.Expression.{Expression, literal, column, compare, both, either, negation, is_null, is_not_null, is_nan, between, like, row_count, statistic}
use Rattle.vortex_model_table.specs.Truth.{Given, evaluate}
use Rattle.vortex_model_table.specs.Statistics.{Precision, exact, inexact, absent, IsNotAbove}
use Rattle.vortex_model_table.specs.ZoneMap.{ZoneMap}

-- the columns of a predicate from left to right
abbrev pub columns_of : Expression → List Names
columns_of (literal k c) = []
columns_of (column xs) = xs ∷ []
columns_of (compare op x y) = columns_of x ++ columns_of y
columns_of (both x y) = columns_of x ++ columns_of y
columns_of (either x y) = columns_of x ++ columns_of y
columns_of (negation x) = columns_of x
columns_of (is_null x) = columns_of x
columns_of (is_not_null x) = columns_of x
columns_of (is_nan x) = columns_of x
columns_of (between x lo hi s t) = columns_of x ++ columns_of lo ++ columns_of hi
columns_of (like x form n i) = columns_of x ++ columns_of form
columns_of row_count = []
columns_of (statistic x a) = columns_of x

abbrev pub eq_names : Names → Names → Bool
eq_names xs ys = begins xs ys && begins ys xs

-- no path occurs twice
abbrev pub all_distinct : List Names → Bool
all_distinct [] = true
all_distinct (xs ∷ rest) = not (list_any (eq_names xs) rest) && all_distinct rest

-- a column and a column, or a column and a non-null literal in either order
abbrev pub are_sides : Expression → Expression → Bool
are_sides (column xs) (column ys) = true
are_sides (column xs) (literal k c) = not (is_null_content c)
are_sides (literal k c) (column ys) = not (is_null_content c)
are_sides x y = false

abbrev pub is_column : Expression → Bool
is_column (column xs) = true
is_column e = false

-- comparisons of columns, joined by AND and OR
abbrev pub is_comparison_tree : Expression → Bool
is_comparison_tree (compare op x y) = are_sides x y
is_comparison_tree (both x y) = is_comparison_tree x && is_comparison_tree y
is_comparison_tree (either x y) = is_comparison_tree x && is_comparison_tree y
is_comparison_tree e = false

-- a comparison tree in which no column occurs twice
abbrev pub is_single_use : Expression → Bool
is_single_use e = is_comparison_tree e && all_distinct (columns_of e)

-- literals, of which the lower is not above the upper
abbrev pub are_ends : Expression → Expression → Bool
are_ends (literal k lo) (literal l hi) = at_most_content lo hi
are_ends x y = false

-- without %, _ and \
abbrev pub is_plain : List ℕ → Bool
is_plain cs = not (list_any (λ c. (c == 37) || (c == 95) || (c == 92)) cs)

-- the last character can be raised
abbrev pub last_can_be_raised : List ℕ → Bool
last_can_be_raised [] = false
last_can_be_raised (c ∷ []) = is_some (next_character c)
last_can_be_raised (c ∷ d ∷ cs) = last_can_be_raised (d ∷ cs)

-- all but the last
abbrev pub front_of : List ℕ → List ℕ
front_of [] = []
front_of (c ∷ []) = []
front_of (c ∷ d ∷ cs) = c ∷ front_of (d ∷ cs)

-- the last character is %
abbrev pub ends_in_percent : List ℕ → Bool
ends_in_percent [] = false
ends_in_percent (c ∷ []) = c == 37
ends_in_percent (c ∷ d ∷ cs) = ends_in_percent (d ∷ cs)

-- a non-empty string without wildcards, or such a string whose last character can be raised, then
-- one %
abbrev pub is_text_form : List ℕ → Bool
is_text_form [] = false
is_text_form (b ∷ bs) =
    is_plain (b ∷ bs) || (ends_in_percent (b ∷ bs) && is_plain (front_of (b ∷ bs)) &&
    last_can_be_raised (chars (front_of (b ∷ bs))))

-- A comparison tree whose leaves may also be boolean literals, and of a column null tests,
-- inclusive BETWEENs, and LIKEs that state an exact string or a prefix.
abbrev pub is_wide_tree : Expression → Bool
is_wide_tree (compare op x y) = are_sides x y
is_wide_tree (both x y) = is_wide_tree x && is_wide_tree y
is_wide_tree (either x y) = is_wide_tree x && is_wide_tree y
is_wide_tree (literal k (boolean b)) = true
is_wide_tree (between x lo hi false false) = is_column x && are_ends lo hi
is_wide_tree (is_null x) = is_column x
is_wide_tree (is_not_null x) = is_column x
is_wide_tree (like x (literal k (text form)) false false) = is_column x && is_text_form form
is_wide_tree e = false

-- the columns of a wide tree that occur under null tests
abbrev pub columns_under_tests : Expression → List Names
columns_under_tests (both x y) = columns_under_tests x ++ columns_under_tests y
columns_under_tests (either x y) = columns_under_tests x ++ columns_under_tests y
columns_under_tests (is_null x) = columns_of x
columns_under_tests (is_not_null x) = columns_of x
columns_under_tests e = []

-- the columns of a wide tree that occur outside null tests
abbrev pub columns_outside_tests : Expression → List Names
columns_outside_tests (both x y) = columns_outside_tests x ++ columns_outside_tests y
columns_outside_tests (either x y) = columns_outside_tests x ++ columns_outside_tests y
columns_outside_tests (is_null x) = []
columns_outside_tests (is_not_null x) = []
columns_outside_tests e = columns_of e

-- no path is in both
abbrev pub are_disjoint : List Names → List Names → Bool
are_disjoint xss yss = list_all (λ xs. not (list_any (eq_names xs) yss)) xss

-- no column is on both sides of a comparison or of an AND
abbrev pub sides_are_disjoint : Expression → Bool
sides_are_disjoint (compare op x y) = are_disjoint (columns_of x) (columns_of y)
sides_are_disjoint (both x y) =
    sides_are_disjoint x && sides_are_disjoint y && are_disjoint (columns_of x) (columns_of y)
sides_are_disjoint (either x y) = sides_are_disjoint x && sides_are_disjoint y
sides_are_disjoint e = true

-- The wide class: wide trees where no column is on both sides of an AND or a comparison, and none
-- is both under a null test, where it may be null, and outside, where it may not. A column may be
-- on both sides of an OR.
abbrev pub is_wide : Expression → Bool
is_wide e = is_wide_tree e && sides_are_disjoint e &&
    are_disjoint (columns_outside_tests e) (columns_under_tests e)

-- ---- boxes

-- a zone map for each column
abbrev pub Box : Type 0
Box = Names → ZoneMap

-- no bounds, and no rows
abbrev pub unknown_zone : ZoneMap
unknown_zone =
    record { low = absent; high = absent; nulls = 0; rows = 0; total = absent; constant = absent }

-- the box of zone maps: `unknown_zone` for a column that has none
abbrev pub box_of : (Names → Option ZoneMap) → Box
box_of zones xs = elim (zones xs) [ None ↦ unknown_zone | Some z ↦ z ]

-- v is not below the low and not above the high, where they are known
abbrev pub IsFrom : Precision Content → Content → Type 0
IsFrom (exact b) v = IsNotAbove b v
IsFrom (inexact b) v = IsNotAbove b v
IsFrom absent v = Unit {0}

abbrev pub IsUpTo : Precision Content → Content → Type 0
IsUpTo (exact b) v = IsNotAbove v b
IsUpTo (inexact b) v = IsNotAbove v b
IsUpTo absent v = Unit {0}

-- a non-null value of the column's type
abbrev pub IsValueOf : LogicalType → Names → Content → Type 0
IsValueOf k xs v = IfSome (type_of_column k xs) (λ t. IsContent (with_nullability non_nullable t) v)

-- a non-null value between the column's bounds
pub record IsBetween (k : LogicalType) (box : Box) (xs : Names) (v : Content) : Type 0 where
  pub value : IsValueOf k xs v
  pub from : IsFrom (box xs).low v
  pub to : IsUpTo (box xs).high v

-- of a column under a null test: it is null only where the column has nulls, and not null only
-- where it has a row that isn't
pub record IsCounted (k : LogicalType) (box : Box) (xs : Names) (v : Content) : Type 0 where
  pub at_null : is_null_content v ≡ true → (box xs).nulls ≢ 0
  pub at_value : is_null_content v ≡ false → IsValueOf k xs v × ((box xs).nulls < (box xs).rows)

-- the operand of a null test, where it is a column, is counted
abbrev pub IsTested : LogicalType → Box → (Names → Content) → Expression → Type 0
IsTested k box choice (column xs) = IsCounted k box xs (choice xs)
IsTested k box choice e = Unit {0}

-- the choice has a value in the box for each column of the predicate
abbrev pub IsIn : LogicalType → Box → (Names → Content) → Expression → Type 0
IsIn k box choice (literal l c) = Unit {0}
IsIn k box choice (column xs) = IsBetween k box xs (choice xs)
IsIn k box choice (compare op x y) = IsIn k box choice x × IsIn k box choice y
IsIn k box choice (both x y) = IsIn k box choice x × IsIn k box choice y
IsIn k box choice (either x y) = IsIn k box choice x × IsIn k box choice y
IsIn k box choice (negation x) = IsIn k box choice x
IsIn k box choice (is_null x) = IsTested k box choice x
IsIn k box choice (is_not_null x) = IsTested k box choice x
IsIn k box choice (is_nan x) = IsIn k box choice x
IsIn k box choice (between x lo hi s t) =
    IsIn k box choice x × IsIn k box choice lo × IsIn k box choice hi
IsIn k box choice (like x form n i) = IsIn k box choice x × IsIn k box choice form
IsIn k box choice row_count = Unit {0}
IsIn k box choice (statistic x a) = Unit {0}

-- a row that has the chosen value in each column
abbrev pub of_choice : (Names → Content) → Given
of_choice choice = record { columns = choice; placeholders = λ x a. null; rows = 1 }

-- no choice of values in the box makes the predicate true
abbrev pub Hopeless : LogicalType → Expression → Box → Type 0
Hopeless k e box = (choice : Names → Content) → IsIn k box choice e →
    ¬ (evaluate (of_choice choice) e ≡ boolean true)

-- the bound is known, exactly or not
abbrev pub is_there : Precision Content → Bool
is_there (exact v) = true
is_there (inexact v) = true
is_there absent = false

-- both bounds of the column are known
abbrev pub has_both : Box → Names → Bool
has_both box xs = is_there (box xs).low && is_there (box xs).high

-- each column outside null tests has both bounds
abbrev pub is_bounded : Box → Expression → Bool
is_bounded box e = list_all (has_both box) (columns_outside_tests e)
