-- The code of an expression, by which a proof distinguishes two expressions.
use Rattle.std.specs.Prelude.{◌≡◌, ℕ, ◌+◌, List}
use Rattle.std.specs.Coded.{Coded, coded_bool, coded_list}
use base.Stored.{Gv, gnum, gcons}
use Rattle.std.proofs.Common.{ap, arith}
use Rattle.vortex_model_table.specs.Expression.{Comparison, equal, not_equal, greater, at_least, less, at_most, Aggregate, min, max, sum, null_count, nan_count, size, min_max, all_null, all_non_null, all_nan, all_non_nan, Expression, literal, column, compare, both, either, negation, is_null, is_not_null, is_nan, between, like, row_count, statistic}
use Rattle.vortex_stats_expr.specs.KindCode.{head, tail, tag, coded_bytes, type_code, type_inj}
use Rattle.vortex_stats_expr.specs.ContentCode.{content_code, content_inj}

abbrev pub comparison_code : Comparison → Gv
comparison_code equal = gnum 0
comparison_code not_equal = gnum 1
comparison_code greater = gnum 2
comparison_code at_least = gnum 3
comparison_code less = gnum 4
comparison_code at_most = gnum 5

pub comparison_inj : (o q : Comparison) → comparison_code o ≡ comparison_code q → o ≡ q
comparison_inj equal equal p = λ i. equal
comparison_inj not_equal not_equal p = λ i. not_equal
comparison_inj greater greater p = λ i. greater
comparison_inj at_least at_least p = λ i. at_least
comparison_inj less less p = λ i. less
comparison_inj at_most at_most p = λ i. at_most
comparison_inj o q p = cc

abbrev pub aggregate_code : Aggregate → Gv
aggregate_code min = gnum 0
aggregate_code max = gnum 1
aggregate_code sum = gnum 2
aggregate_code null_count = gnum 3
aggregate_code nan_count = gnum 4
aggregate_code size = gnum 5
aggregate_code min_max = gnum 6
aggregate_code all_null = gnum 7
aggregate_code all_non_null = gnum 8
aggregate_code all_nan = gnum 9
aggregate_code all_non_nan = gnum 10

pub aggregate_inj : (a b : Aggregate) → aggregate_code a ≡ aggregate_code b → a ≡ b
aggregate_inj min min p = λ i. min
aggregate_inj max max p = λ i. max
aggregate_inj sum sum p = λ i. sum
aggregate_inj null_count null_count p = λ i. null_count
aggregate_inj nan_count nan_count p = λ i. nan_count
aggregate_inj size size p = λ i. size
aggregate_inj min_max min_max p = λ i. min_max
aggregate_inj all_null all_null p = λ i. all_null
aggregate_inj all_non_null all_non_null p = λ i. all_non_null
aggregate_inj all_nan all_nan p = λ i. all_nan
aggregate_inj all_non_nan all_non_nan p = λ i. all_non_nan
aggregate_inj a b p = cc

abbrev pub coded_names : Coded (List (List ℕ))
coded_names = coded_list coded_bytes

abbrev pub code_of : Expression → Gv
code_of (literal k c) = gcons (gnum 0) (gcons (type_code k) (content_code c))
code_of (column xs) = gcons (gnum 1) (coded_names.code xs)
code_of (compare o x y) = gcons (gnum 2) (gcons (comparison_code o) (gcons (code_of x) (code_of y)))
code_of (both x y) = gcons (gnum 3) (gcons (code_of x) (code_of y))
code_of (either x y) = gcons (gnum 4) (gcons (code_of x) (code_of y))
code_of (negation x) = gcons (gnum 5) (code_of x)
code_of (is_null x) = gcons (gnum 6) (code_of x)
code_of (is_not_null x) = gcons (gnum 7) (code_of x)
code_of (is_nan x) = gcons (gnum 8) (code_of x)
code_of (between x l h s t) =
    gcons (gnum 9) (gcons (code_of x)
    (gcons (code_of l) (gcons (code_of h) (gcons (coded_bool.code s) (coded_bool.code t)))))
code_of (like x f n c) =
    gcons (gnum 10) (gcons (code_of x)
    (gcons (code_of f) (gcons (coded_bool.code n) (coded_bool.code c))))
code_of row_count = gnum 11
code_of (statistic x a) = gcons (gnum 12) (gcons (code_of x) (aggregate_code a))

pub code_inj : (s t : Expression) → code_of s ≡ code_of t → s ≡ t
code_inj (literal k c) (literal l d) p =
    λ i. literal (type_inj k l (ap (λ g. head (tail g)) p) i)
    (content_inj c d (ap (λ g. tail (tail g)) p) i)
code_inj (column xs) (column ys) p = ap column (coded_names.inj xs ys (ap tail p))
code_inj (compare o a b) (compare q c d) p =
    λ i. compare (comparison_inj o q (ap (λ g. head (tail g)) p) i)
    (code_inj a c (ap (λ g. head (tail (tail g))) p) i)
    (code_inj b d (ap (λ g. tail (tail (tail g))) p) i)
code_inj (both a b) (both c d) p =
    λ i. both (code_inj a c (ap (λ g. head (tail g)) p) i)
    (code_inj b d (ap (λ g. tail (tail g)) p) i)
code_inj (either a b) (either c d) p =
    λ i. either (code_inj a c (ap (λ g. head (tail g)) p) i)
    (code_inj b d (ap (λ g. tail (tail g)) p) i)
code_inj (negation a) (negation b) p = ap negation (code_inj a b (ap tail p))
code_inj (is_null a) (is_null b) p = ap is_null (code_inj a b (ap tail p))
code_inj (is_not_null a) (is_not_null b) p = ap is_not_null (code_inj a b (ap tail p))
code_inj (is_nan a) (is_nan b) p = ap is_nan (code_inj a b (ap tail p))
code_inj (between x l h s t) (between x' l' h' s' t') p =
    λ i. between (code_inj x x' (ap (λ g. head (tail g)) p) i)
    (code_inj l l' (ap (λ g. head (tail (tail g))) p) i)
    (code_inj h h' (ap (λ g. head (tail (tail (tail g)))) p) i)
    (coded_bool.inj s s' (ap (λ g. head (tail (tail (tail (tail g))))) p) i)
    (coded_bool.inj t t' (ap (λ g. tail (tail (tail (tail (tail g))))) p) i)
code_inj (like x f n c) (like x' f' n' c') p =
    λ i. like (code_inj x x' (ap (λ g. head (tail g)) p) i)
    (code_inj f f' (ap (λ g. head (tail (tail g))) p) i)
    (coded_bool.inj n n' (ap (λ g. head (tail (tail (tail g)))) p) i)
    (coded_bool.inj c c' (ap (λ g. tail (tail (tail (tail g)))) p) i)
code_inj row_count row_count p = λ i. row_count
code_inj (statistic x a) (statistic y b) p =
    λ i. statistic (code_inj x y (ap (λ g. head (tail g)) p) i)
    (aggregate_inj a b (ap (λ g. tail (tail g)) p) i)
code_inj s t p = absurd (omega (arith, ap tag p))

abbrev pub tree_code : Coded Expression
tree_code = record { code = code_of; inj = code_inj }

abbrev pub size_of : Expression → ℕ
size_of (compare o x y) = size_of x + size_of y + 1
size_of (both x y) = size_of x + size_of y + 1
size_of (either x y) = size_of x + size_of y + 1
size_of (negation x) = size_of x + 1
size_of (is_null x) = size_of x + 1
size_of (is_not_null x) = size_of x + 1
size_of (is_nan x) = size_of x + 1
size_of (between x l h s t) = size_of x + size_of l + size_of h + 1
size_of (like x f n c) = size_of x + size_of f + 1
size_of (statistic x a) = size_of x + 1
size_of x = 1
