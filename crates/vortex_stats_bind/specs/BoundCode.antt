-- The code of a bound predicate, by which a proof distinguishes two.
use Rattle.std.specs.Prelude.{◌≡◌, ℕ, List}
use Rattle.std.specs.Coded.{Coded, coded_ℕ, coded_bool, coded_list}
use base.Stored.{Gv, gnum, gcons}
use Rattle.std.proofs.Common.{ap, arith}
use Rattle.vortex_stats_expr.specs.KindCode.{head, tail, tag, type_code, type_inj}
use Rattle.vortex_stats_expr.specs.ContentCode.{content_code, content_inj}
use Rattle.vortex_stats_expr.specs.TreeCode.{comparison_code, comparison_inj, aggregate_code, aggregate_inj, coded_names}
use Rattle.vortex_stats_bind.specs.Bound.{Bound, fixed, place, test, each, some, opposite, null_test, value_test, nan_test, range_test, match_test, count_of_rows, placeholder}

abbrev pub coded_positions : Coded (List ℕ)
coded_positions = coded_list coded_ℕ

abbrev pub code_of : Bound → Gv
code_of (fixed k c) = gcons (gnum 0) (gcons (type_code k) (content_code c))
code_of (place xs is k) =
    gcons (gnum 1) (gcons (coded_names.code xs) (gcons (coded_positions.code is) (type_code k)))
code_of (test o x y) = gcons (gnum 2) (gcons (comparison_code o) (gcons (code_of x) (code_of y)))
code_of (each x y) = gcons (gnum 3) (gcons (code_of x) (code_of y))
code_of (some x y) = gcons (gnum 4) (gcons (code_of x) (code_of y))
code_of (opposite x) = gcons (gnum 5) (code_of x)
code_of (null_test x) = gcons (gnum 6) (code_of x)
code_of (value_test x) = gcons (gnum 7) (code_of x)
code_of (range_test x l h s t) =
    gcons (gnum 8) (gcons (code_of x)
    (gcons (code_of l) (gcons (code_of h) (gcons (coded_bool.code s) (coded_bool.code t)))))
code_of (match_test x f n c) =
    gcons (gnum 9) (gcons (code_of x)
    (gcons (code_of f) (gcons (coded_bool.code n) (coded_bool.code c))))
code_of count_of_rows = gnum 10
code_of (placeholder x a k) =
    gcons (gnum 11) (gcons (code_of x) (gcons (aggregate_code a) (type_code k)))
code_of (nan_test x) = gcons (gnum 12) (code_of x)

pub code_inj : (s t : Bound) → code_of s ≡ code_of t → s ≡ t
code_inj (fixed k c) (fixed l d) p =
    λ i. fixed (type_inj k l (ap (λ g. head (tail g)) p) i)
    (content_inj c d (ap (λ g. tail (tail g)) p) i)
code_inj (place xs is k) (place ys js l) p =
    λ i. place (coded_names.inj xs ys (ap (λ g. head (tail g)) p) i)
    (coded_positions.inj is js (ap (λ g. head (tail (tail g))) p) i)
    (type_inj k l (ap (λ g. tail (tail (tail g))) p) i)
code_inj (test o a b) (test q c d) p =
    λ i. test (comparison_inj o q (ap (λ g. head (tail g)) p) i)
    (code_inj a c (ap (λ g. head (tail (tail g))) p) i)
    (code_inj b d (ap (λ g. tail (tail (tail g))) p) i)
code_inj (each a b) (each c d) p =
    λ i. each (code_inj a c (ap (λ g. head (tail g)) p) i)
    (code_inj b d (ap (λ g. tail (tail g)) p) i)
code_inj (some a b) (some c d) p =
    λ i. some (code_inj a c (ap (λ g. head (tail g)) p) i)
    (code_inj b d (ap (λ g. tail (tail g)) p) i)
code_inj (opposite a) (opposite b) p = ap opposite (code_inj a b (ap tail p))
code_inj (null_test a) (null_test b) p = ap null_test (code_inj a b (ap tail p))
code_inj (value_test a) (value_test b) p = ap value_test (code_inj a b (ap tail p))
code_inj (range_test x l h s t) (range_test x' l' h' s' t') p =
    λ i. range_test (code_inj x x' (ap (λ g. head (tail g)) p) i)
    (code_inj l l' (ap (λ g. head (tail (tail g))) p) i)
    (code_inj h h' (ap (λ g. head (tail (tail (tail g)))) p) i)
    (coded_bool.inj s s' (ap (λ g. head (tail (tail (tail (tail g))))) p) i)
    (coded_bool.inj t t' (ap (λ g. tail (tail (tail (tail (tail g))))) p) i)
code_inj (match_test x f n c) (match_test x' f' n' c') p =
    λ i. match_test (code_inj x x' (ap (λ g. head (tail g)) p) i)
    (code_inj f f' (ap (λ g. head (tail (tail g))) p) i)
    (coded_bool.inj n n' (ap (λ g. head (tail (tail (tail g)))) p) i)
    (coded_bool.inj c c' (ap (λ g. tail (tail (tail (tail g)))) p) i)
code_inj count_of_rows count_of_rows p = λ i. count_of_rows
code_inj (placeholder x a k) (placeholder y b l) p =
    λ i. placeholder (code_inj x y (ap (λ g. head (tail g)) p) i)
    (aggregate_inj a b (ap (λ g. head (tail (tail g))) p) i)
    (type_inj k l (ap (λ g. tail (tail (tail g))) p) i)
code_inj (nan_test a) (nan_test b) p = ap nan_test (code_inj a b (ap tail p))
code_inj s t p = absurd (omega (arith, ap tag p))

abbrev pub bound_code : Coded Bound
bound_code = record { code = code_of; inj = code_inj }
