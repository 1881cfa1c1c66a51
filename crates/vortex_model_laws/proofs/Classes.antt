-- Trees in which no column occurs twice are of the wide class.
use Rattle.std.proofs.Common.{◌≡◌, refl, ◌∙◌, List, [], ◌∷◌, ◌++◌, true, false, not, ◌&&◌, ◌||◌, ◌⊎◌, inl, inr}
use Rattle.std.specs.List.{list_any}
use Rattle.std.specs.Cmp.{first_so, second_so}
use Rattle.std.proofs.lemmas.Bool.{not-true}
use Rattle.vortex_model.specs.Path.{Names}
use Rattle.vortex_model_table.specs.Expression.{Expression, compare, both, either, is_null, is_not_null}
use Rattle.vortex_model_table.specs.Class.{columns_of, eq_names, all_distinct, is_comparison_tree, is_single_use, is_wide_tree, columns_under_tests, columns_outside_tests, are_disjoint, sides_are_disjoint, is_wide}
use Rattle.vortex_model_laws.proofs.Complete.{NotAmong, names_flipped, not_front, not_back, apart, one_not}
use Rattle.vortex_model_laws.proofs.Groups.{among_left, among_right}
use Rattle.vortex_model_laws.proofs.Honesty.{Among, all_among}

-- ---- distinct paths

first_distinct : (xs : Names) (rest : List Names) → all_distinct (xs ∷ rest) ≡ true → NotAmong xs rest
first_distinct xs rest h = not-true (list_any (eq_names xs) rest) (first_so (not (list_any (eq_names xs) rest)) (all_distinct rest) h)

rest_distinct : (xs : Names) (rest : List Names) → all_distinct (xs ∷ rest) ≡ true → all_distinct rest ≡ true
rest_distinct xs rest h = second_so (not (list_any (eq_names xs) rest)) (all_distinct rest) h

distinct_left : (xss yss : List Names) → all_distinct (xss ++ yss) ≡ true → all_distinct xss ≡ true
distinct_left [] yss h = refl
distinct_left (xs ∷ xss) yss h =
    λ i. not (not_front xs xss yss (first_distinct xs (xss ++ yss) h) i) && distinct_left xss yss (rest_distinct xs (xss ++ yss) h) i

distinct_right : (xss yss : List Names) → all_distinct (xss ++ yss) ≡ true → all_distinct yss ≡ true
distinct_right [] yss h = h
distinct_right (xs ∷ xss) yss h = distinct_right xss yss (rest_distinct xs (xss ++ yss) h)

distinct_across : (xss yss : List Names) → all_distinct (xss ++ yss) ≡ true → are_disjoint xss yss ≡ true
distinct_across [] yss h = refl
distinct_across (xs ∷ xss) yss h =
    λ i. not (not_back xs xss yss (first_distinct xs (xss ++ yss) h) i) && distinct_across xss yss (rest_distinct xs (xss ++ yss) h) i

never_same : (xss yss : List Names) → all_distinct (xss ++ yss) ≡ true → (xs ys : Names) → Among xs xss → Among ys yss → eq_names xs ys ≡ false
never_same xss yss h xs ys p q = one_not xs ys yss (all_among (λ zs. NotAmong zs yss) xs xss (apart xss yss (distinct_across xss yss h)) p) q

-- ---- no column on both sides

distinct_sides : (e : Expression) → all_distinct (columns_of e) ≡ true → sides_are_disjoint e ≡ true
distinct_sides (compare op x y) h = distinct_across (columns_of x) (columns_of y) h
distinct_sides (both x y) h =
    let l = distinct_sides x (distinct_left (columns_of x) (columns_of y) h) in let r = distinct_sides y (distinct_right (columns_of x) (columns_of y) h) in
    λ i. l i && r i && distinct_across (columns_of x) (columns_of y) h i
distinct_sides (either x y) h =
    let l = distinct_sides x (distinct_left (columns_of x) (columns_of y) h) in let r = distinct_sides y (distinct_right (columns_of x) (columns_of y) h) in
    λ i. l i && r i
distinct_sides e h = refl

-- ---- no column both under a null test and outside

among_cases : (v : Names) (xs ys : List Names) → Among v (xs ++ ys) → Among v xs ⊎ Among v ys
among_cases v [] ys h = inr h
among_cases v (x ∷ xs) ys (inl e) = inl (inl e)
among_cases v (x ∷ xs) ys (inr h) = elim (among_cases v xs ys h) [ inl p ↦ inl (inr p) | inr q ↦ inr q ]

joined_among : (v : Names) (xs ys xs' ys' : List Names) → (Among v xs → Among v xs') → (Among v ys → Among v ys') → Among v (xs ++ ys) → Among v (xs' ++ ys')
joined_among v xs ys xs' ys' f g h = elim (among_cases v xs ys h) [ inl p ↦ among_left v xs' ys' (f p) | inr q ↦ among_right v xs' ys' (g q) ]

under_among : (e : Expression) (v : Names) → Among v (columns_under_tests e) → Among v (columns_of e)
under_among (both x y) v h = joined_among v (columns_under_tests x) (columns_under_tests y) (columns_of x) (columns_of y) (under_among x v) (under_among y v) h
under_among (either x y) v h = joined_among v (columns_under_tests x) (columns_under_tests y) (columns_of x) (columns_of y) (under_among x v) (under_among y v) h
under_among (is_null x) v h = h
under_among (is_not_null x) v h = h
under_among e v h = absurd h

outside_among : (e : Expression) (v : Names) → Among v (columns_outside_tests e) → Among v (columns_of e)
outside_among (both x y) v h = joined_among v (columns_outside_tests x) (columns_outside_tests y) (columns_of x) (columns_of y) (outside_among x v) (outside_among y v) h
outside_among (either x y) v h = joined_among v (columns_outside_tests x) (columns_outside_tests y) (columns_of x) (columns_of y) (outside_among x v) (outside_among y v) h
outside_among (is_null x) v h = absurd h
outside_among (is_not_null x) v h = absurd h
outside_among e v h = h

abbrev KindsDiffer : Expression → Type 0
KindsDiffer e = (xs ys : Names) → Among xs (columns_outside_tests e) → Among ys (columns_under_tests e) → eq_names xs ys ≡ false

two_kinds : (x y : Expression) → all_distinct (columns_of x ++ columns_of y) ≡ true → KindsDiffer x → KindsDiffer y → KindsDiffer (both x y)
two_kinds x y h f g xs ys p q = by_side (among_cases xs (columns_outside_tests x) (columns_outside_tests y) p) (among_cases ys (columns_under_tests x) (columns_under_tests y) q)
  where
    by_side : Among xs (columns_outside_tests x) ⊎ Among xs (columns_outside_tests y) → Among ys (columns_under_tests x) ⊎ Among ys (columns_under_tests y) → eq_names xs ys ≡ false
    by_side (inl p) (inl q) = f xs ys p q
    by_side (inl p) (inr q) = never_same (columns_of x) (columns_of y) h xs ys (outside_among x xs p) (under_among y ys q)
    by_side (inr p) (inl q) = names_flipped xs ys ∙ never_same (columns_of x) (columns_of y) h ys xs (under_among x ys q) (outside_among y xs p)
    by_side (inr p) (inr q) = g xs ys p q

kinds_differ : (e : Expression) → all_distinct (columns_of e) ≡ true → KindsDiffer e
kinds_differ (both x y) h =
    two_kinds x y h (kinds_differ x (distinct_left (columns_of x) (columns_of y) h)) (kinds_differ y (distinct_right (columns_of x) (columns_of y) h))
kinds_differ (either x y) h =
    two_kinds x y h (kinds_differ x (distinct_left (columns_of x) (columns_of y) h)) (kinds_differ y (distinct_right (columns_of x) (columns_of y) h))
kinds_differ (is_null x) h = λ xs ys p q. absurd p
kinds_differ (is_not_null x) h = λ xs ys p q. absurd p
kinds_differ e h = λ xs ys p q. absurd q

none_made : (xs : Names) (yss : List Names) → ((ys : Names) → Among ys yss → eq_names xs ys ≡ false) → list_any (eq_names xs) yss ≡ false
none_made xs [] h = refl
none_made xs (ys ∷ yss) h = λ i. h ys (inl refl) i || none_made xs yss (λ zs q. h zs (inr q)) i

disjoint_made : (xss yss : List Names) → ((xs ys : Names) → Among xs xss → Among ys yss → eq_names xs ys ≡ false) → are_disjoint xss yss ≡ true
disjoint_made [] yss h = refl
disjoint_made (xs ∷ xss) yss h = λ i. not (none_made xs yss (λ ys q. h xs ys (inl refl) q) i) && disjoint_made xss yss (λ zs ys p q. h zs ys (inr p) q) i

-- ---- the classes

pub distinct_wide : (e : Expression) → is_wide_tree e ≡ true → all_distinct (columns_of e) ≡ true → is_wide e ≡ true
distinct_wide e w h =
    let sides = distinct_sides e h in let kinds = disjoint_made (columns_outside_tests e) (columns_under_tests e) (kinds_differ e h) in
    λ i. w i && sides i && kinds i

tree_wide : (e : Expression) → is_comparison_tree e ≡ true → is_wide_tree e ≡ true
tree_wide (compare op x y) h = h
tree_wide (both x y) h = (λ i. tree_wide x (first_so (is_comparison_tree x) (is_comparison_tree y) h) i && tree_wide y (second_so (is_comparison_tree x) (is_comparison_tree y) h) i)
tree_wide (either x y) h = (λ i. tree_wide x (first_so (is_comparison_tree x) (is_comparison_tree y) h) i && tree_wide y (second_so (is_comparison_tree x) (is_comparison_tree y) h) i)
tree_wide e h = absurd (cc (h))

pub single_wide : (e : Expression) → is_single_use e ≡ true → is_wide e ≡ true
single_wide e h =
    distinct_wide e (tree_wide e (first_so (is_comparison_tree e) (all_distinct (columns_of e)) h)) (second_so (is_comparison_tree e) (all_distinct (columns_of e)) h)
