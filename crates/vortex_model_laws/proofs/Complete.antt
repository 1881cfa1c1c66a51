-- Of a predicate of the wide class, the falsifier is true or some choice in the box makes the
-- predicate true.
use Rattle.std.proofs.Common.{◌≡◌, refl, sym, ◌∙◌, ap, subst, ℕ, ◌<◌, ◌≤◌, ◌==◌, arith, List, [], ◌∷◌, ◌++◌, Bool, true, false, not, ◌&&◌, ◌||◌, if◌then◌else◌, Some, ◌⊎◌, inl, inr, IsUtf8, chars, eqb-true}
use Rattle.std.specs.List.{AllByRecursion, list_any}
use Rattle.std.specs.Cmp.Lexicographic.{bytes_decides}
use Rattle.std.specs.Str.{bytes_eq}
use Rattle.std.proofs.lemmas.List.Folds.{list_any-append}
use Rattle.std.proofs.lemmas.Bool.{cases_lt, eq-eqb, or_left, or_right, not-false, not-true}
use Rattle.std.specs.Cmp.{first_so, second_so}
use Rattle.std.proofs.Math.Bool.{and_comm}
use Rattle.vortex_model.specs.LogicalType.{LogicalType, Nullability, utf8}
use Rattle.vortex_model.specs.Content.{Content, null, boolean, text, is_null}
use Rattle.vortex_model.specs.Path.{Names, begins}
use Rattle.vortex_model.proofs.Booleans.{or_false_left, or_false_right, three_true}
use Rattle.vortex_model.proofs.Lists.{all_append, front_of_all, back_of_all}
use Rattle.vortex_model_table.specs.Expression.{Expression, literal, column, compare, both, either, negation, is_null as is_null_test, is_not_null as is_not_null_test, is_nan, between, like, row_count, statistic, Comparison, equal, not_equal, greater, at_least, less, at_most}
use Rattle.vortex_model_table.specs.Truth.{evaluate, compared, kleene_and, kleene_or, kleene_not, end_of, liked}
use Rattle.vortex_model_table.specs.Statistics.{shown}
use Rattle.vortex_model_table.specs.Rewrite.{comparison_falsifier, falsifier, shape_of}
use Rattle.vortex_model_table.specs.Class.{Box, IsBetween, IsCounted, IsIn, IsValueOf, of_choice, columns_of, eq_names, is_text_form, is_wide_tree, columns_under_tests, columns_outside_tests, are_disjoint, sides_are_disjoint, is_wide}
use Rattle.vortex_model_table.proofs.Chains.{not_above_chain}
use Rattle.vortex_model_table.proofs.ContentOrder.{le, by_le}
use Rattle.vortex_model_laws.proofs.Honesty.{Among, each_among}
use Rattle.vortex_model_laws.proofs.Leasts.{all_mapped, at_most_both}
use Rattle.vortex_model_laws.proofs.Texts.{IsTextual}
use Rattle.vortex_model_laws.proofs.Liked.{like_fails, like_chosen}
use Rattle.vortex_model_laws.proofs.Members.{IsMember, member_not_null, member_itself, member_total}
use Rattle.vortex_model_laws.proofs.Tighter.{Comparable, passed, and_made, or_made_left, or_made_right}

-- ---- one comparison

pub either_way : {P : Type 0} (b : Bool) → (b ≡ true → P) → (b ≡ false → P) → P
either_way true f g = f refl
either_way false f g = g refl

-- bounds a to b on the left and c to d on the right rule the comparison out
abbrev pub fails : Comparison → Content → Content → Content → Content → Bool
fails equal a b c d = not (le a d) || not (le c b)
fails not_equal a b c d = (le a d && le d a) && (le b c && le c b)
fails greater a b c d = le b c
fails at_least a b c d = not (le c b)
fails less a b c d = le d a
fails at_most a b c d = not (le a d)

-- the value of the falsifier of that comparison
abbrev pub proof_value : Comparison → Content → Content → Content → Content → Content
proof_value equal a b c d = kleene_or (compared greater a d) (compared greater c b)
proof_value not_equal a b c d = kleene_and (compared equal a d) (compared equal b c)
proof_value greater a b c d = compared at_most b c
proof_value at_least a b c d = compared less b c
proof_value less a b c d = compared at_least a d
proof_value at_most a b c d = compared greater a d

module _ (u : LogicalType) where
  comparable : (c d : Content) → IsMember u c → IsMember u d → Comparable c d
  comparable c d h g = either_way (le c d) (λ e. or_left (le c d) (le d c) e) (λ e. or_right (le c d) (le d c) (member_total u c d h g e))

  pub made : (op : Comparison) (c d : Content) → IsMember u c → IsMember u d → by_le op (le c d) (le d c) ≡ true → compared op c d ≡ boolean true
  made op c d h g t = passed op c d (member_not_null u c h) (member_not_null u d g) (comparable c d h g) t

  pub or_cases : (b c : Bool) → b || c ≡ true → (b ≡ true) ⊎ (c ≡ true)
  or_cases true c h = inl refl
  or_cases false c h = inr h

  pub fails_value : (op : Comparison) (a b c d : Content) → IsMember u a → IsMember u b → IsMember u c → IsMember u d → fails op a b c d ≡ true → proof_value op a b c d ≡ boolean true
  fails_value equal a b c d ma mb mc md h = elim (or_cases (not (le a d)) (not (le c b)) h) [
    | inl e ↦ or_made_left (compared greater a d) (compared greater c b) (made greater a d ma md e)
    | inr e ↦ or_made_right (compared greater a d) (compared greater c b) (made greater c b mc mb e)
  ]
  fails_value not_equal a b c d ma mb mc md h =
      and_made (compared equal a d) (compared equal b c) (made equal a d ma md (first_so (le a d && le d a) (le b c && le c b) h)) (made equal b c mb mc (second_so (le a d && le d a) (le b c && le c b) h))
  fails_value greater a b c d ma mb mc md h = made at_most b c mb mc h
  fails_value at_least a b c d ma mb mc md h = made less b c mb mc h
  fails_value less a b c d ma mb mc md h = made at_least a d ma md h
  fails_value at_most a b c d ma mb mc md h = made greater a d ma md h

  -- two values within the bounds that pass the comparison
  record Chosen (op : Comparison) (a b c d : Content) : Type 0 where
    left : Content
    right : Content
    left_member : IsMember u left
    right_member : IsMember u right
    left_from : le a left ≡ true
    left_to : le left b ≡ true
    right_from : le c right ≡ true
    right_to : le right d ≡ true
    passes : by_le op (le left right) (le right left) ≡ true

  module _ (a b c d : Content) (ma : IsMember u a) (mb : IsMember u b) (mc : IsMember u c) (md : IsMember u d) (ab : le a b ≡ true) (cd : le c d ≡ true) where
    own : (x : Content) → IsMember u x → le x x ≡ true
    own x m = member_itself u x m

    lows_first : (op : Comparison) → by_le op (le a d) (le d a) ≡ true → Chosen op a b c d
    lows_first op t = record { left = a; right = d; left_member = ma; right_member = md; left_from = own a ma; left_to = ab; right_from = cd; right_to = own d md; passes = t }

    highs_first : (op : Comparison) → by_le op (le b c) (le c b) ≡ true → Chosen op a b c d
    highs_first op t = record { left = b; right = c; left_member = mb; right_member = mc; left_from = ab; left_to = own b mb; right_from = own c mc; right_to = cd; passes = t }

    at_one : (x : Content) → IsMember u x → le a x ≡ true → le x b ≡ true → le c x ≡ true → le x d ≡ true → Chosen equal a b c d
    at_one x m p q r s = record { left = x; right = x; left_member = m; right_member = m; left_from = p; left_to = q; right_from = r; right_to = s; passes = λ i. own x m i && own x m i }

    completed : (op : Comparison) → fails op a b c d ≡ false → Chosen op a b c d
    completed equal h =
        let ad = not-false (le a d) (or_false_left (not (le a d)) (not (le c b)) h) in
        let cb = not-false (le c b) (or_false_right (not (le a d)) (not (le c b)) h) in
        either_way (le a c) (λ e. at_one c mc e cb (own c mc) cd) (λ e. at_one a ma (own a ma) ab (member_total u a c ma mc e) ad)
    completed not_equal h =
        either_way (le a d && le d a)
        (λ e. highs_first not_equal (ap not (subst (λ v. (v && (le b c && le c b)) ≡ false) e h)))
        (λ e. lows_first not_equal (ap not e))
    completed greater h = highs_first greater (ap not h)
    completed at_least h = highs_first at_least (not-false (le c b) h)
    completed less h = lows_first less (ap not h)
    completed at_most h = lows_first at_most (not-false (le a d) h)

-- ---- names

begins_itself : (xs : Names) → begins xs xs ≡ true
begins_itself [] = refl
begins_itself (x ∷ xs) = ap (λ b. b && begins xs xs) ((bytes_decides x x).1 refl) ∙ begins_itself xs

pub names_same : (xs : Names) → eq_names xs xs ≡ true
names_same xs = (λ i. begins_itself xs i && begins_itself xs i)

same_names : (xs ys : Names) → begins xs ys ≡ true → begins ys xs ≡ true → xs ≡ ys
same_names [] [] e f = refl
same_names [] (y ∷ ys) e f = absurd (cc (f))
same_names (x ∷ xs) [] e f = absurd (cc (e))
same_names (x ∷ xs) (y ∷ ys) e f =
    let first = (bytes_decides x y).0 (first_so (bytes_eq x y) (begins xs ys) e) in
    let rest = same_names xs ys (second_so (bytes_eq x y) (begins xs ys) e) (second_so (bytes_eq y x) (begins ys xs) f) in
    λ i. first i ∷ rest i

pub names_flipped : (xs ys : Names) → eq_names xs ys ≡ eq_names ys xs
names_flipped xs ys = and_comm (begins xs ys) (begins ys xs)

-- the path is not in the list
abbrev pub NotAmong : Names → List Names → Type 0
NotAmong j xss = list_any (eq_names j) xss ≡ false

pub not_front : (j : Names) (xss yss : List Names) → NotAmong j (xss ++ yss) → NotAmong j xss
not_front j xss yss n = or_false_left (list_any (eq_names j) xss) (list_any (eq_names j) yss) (sym (list_any-append (eq_names j) xss yss) ∙ n)

pub not_back : (j : Names) (xss yss : List Names) → NotAmong j (xss ++ yss) → NotAmong j yss
not_back j xss yss n = or_false_right (list_any (eq_names j) xss) (list_any (eq_names j) yss) (sym (list_any-append (eq_names j) xss yss) ∙ n)

-- no path is in both lists
abbrev pub AreApart : List Names → List Names → Type 0
AreApart xss yss = AllByRecursion (λ xs. NotAmong xs yss) xss

pub apart : (xss yss : List Names) → are_disjoint xss yss ≡ true → AreApart xss yss
apart [] yss h = tt
apart (xs ∷ xss) yss h =
    let here = not (list_any (eq_names xs) yss) in
    (not-true (list_any (eq_names xs) yss) (first_so here (are_disjoint xss yss) h), apart xss yss (second_so here (are_disjoint xss yss) h))

pub one_not : (xs ys : Names) (yss : List Names) → NotAmong xs yss → Among ys yss → eq_names xs ys ≡ false
one_not xs ys [] n h = absurd h
one_not xs ys (zs ∷ yss) n (inl e) = subst (λ z. eq_names xs z ≡ false) e (or_false_left (eq_names xs zs) (list_any (eq_names xs) yss) n)
one_not xs ys (zs ∷ yss) n (inr h) = one_not xs ys yss (or_false_right (eq_names xs zs) (list_any (eq_names xs) yss) n) h

-- the path is not in the list, by comparisons the other way round
abbrev NoneIs : Names → List Names → Type 0
NoneIs xs yss = AllByRecursion (λ ys. eq_names ys xs ≡ false) yss

none_after : (xss yss : List Names) → AreApart xss yss → AllByRecursion (λ xs. NoneIs xs yss) xss
none_after xss yss h =
    all_mapped (λ xs. NotAmong xs yss) (λ xs. NoneIs xs yss) (λ xs n. each_among (λ ys. eq_names ys xs ≡ false) yss (λ ys there. names_flipped ys xs ∙ one_not xs ys yss n there)) xss h

none_before : (xss yss : List Names) → AreApart xss yss → AllByRecursion (λ ys. NoneIs ys xss) yss
none_before xss yss h =
    each_among (λ ys. NoneIs ys xss) yss (λ ys there. all_mapped (λ xs. NotAmong xs yss) (λ xs. eq_names xs ys ≡ false) (λ xs n. one_not xs ys yss n there) xss h)

pub wide_parts : (e : Expression) → is_wide e ≡ true →
    (is_wide_tree e ≡ true) × (sides_are_disjoint e ≡ true) × (are_disjoint (columns_outside_tests e) (columns_under_tests e) ≡ true)
wide_parts e w = three_true (is_wide_tree e) (sides_are_disjoint e) (are_disjoint (columns_outside_tests e) (columns_under_tests e)) w

-- ---- choices

-- the choice with another value in one column
abbrev put : Names → Content → (Names → Content) → Names → Content
put xs v f ys = if eq_names ys xs then v else f ys

put_here : (xs : Names) (v : Content) (f : Names → Content) → put xs v f xs ≡ v
put_here xs v f = ap (λ b. if b then v else f xs) (names_same xs)

put_elsewhere : (xs : Names) (v : Content) (f : Names → Content) (j : Names) → NotAmong j (xs ∷ []) → put xs v f j ≡ f j
put_elsewhere xs v f j n = ap (λ b. if b then v else f j) (or_false_left (eq_names j xs) false n)

-- what holds of each path and its value still holds
put_kept : (P : Names → Content → Type 0) (xs : Names) (v : Content) (f : Names → Content) (yss : List Names) → P xs v →
    AllByRecursion (λ ys. P ys (f ys)) yss → AllByRecursion (λ ys. P ys (put xs v f ys)) yss
put_kept P xs v f [] p h = tt
put_kept P xs v f (ys ∷ yss) p h =
    let back = λ (b : Bool) (e : eq_names ys xs ≡ b). sym (ap (λ b. if b then v else f ys) e) in (
      either_way (eq_names ys xs)
          (λ e. subst (P ys) (back true e) (subst (λ zs. P zs v) (sym (same_names ys xs (first_so (begins ys xs) (begins xs ys) e) (second_so (begins ys xs) (begins xs ys) e))) p))
          (λ e. subst (P ys) (back false e) h.0),
      put_kept P xs v f yss p h.1,
    )

put_apart : (P : Names → Content → Type 0) (xs : Names) (v : Content) (f : Names → Content) (yss : List Names) → NoneIs xs yss →
    AllByRecursion (λ ys. P ys (f ys)) yss → AllByRecursion (λ ys. P ys (put xs v f ys)) yss
put_apart P xs v f [] n h = tt
put_apart P xs v f (ys ∷ yss) n h = (subst (P ys) (sym (ap (λ b. if b then v else f ys) n.0)) h.0, put_apart P xs v f yss n.1 h.1)

-- where a side is a column, the choice with this value there
abbrev assign : Expression → Content → (Names → Content) → Names → Content
assign (column xs) v f = put xs v f
assign x v f = f

-- a column or a literal
abbrev pub is_side : Expression → Bool
is_side (column xs) = true
is_side (literal l c) = true
is_side x = false

assign_others : (x : Expression) (v : Content) (f : Names → Content) (j : Names) → is_side x ≡ true → NotAmong j (columns_of x) → assign x v f j ≡ f j
assign_others (column xs) v f j w n = put_elsewhere xs v f j n
assign_others (literal l c) v f j w n = refl
assign_others x v f j w n = absurd (cc (w))

-- both choices give each of these columns the same value
abbrev pub Agree : (Names → Content) → (Names → Content) → List Names → Type 0
Agree f h xss = AllByRecursion (λ xs. f xs ≡ h xs) xss

agree_front : (f h : Names → Content) (xss yss : List Names) → Agree f h (xss ++ yss) → Agree f h xss
agree_front f h xss yss e = front_of_all (λ xs. f xs ≡ h xs) xss yss e

agree_back : (f h : Names → Content) (xss yss : List Names) → Agree f h (xss ++ yss) → Agree f h yss
agree_back f h xss yss e = back_of_all (λ xs. f xs ≡ h xs) xss yss e

-- the expression then has the same value
agreement : (e : Expression) (f h : Names → Content) → Agree f h (columns_of e) → evaluate (of_choice f) e ≡ evaluate (of_choice h) e
agreement (literal l c) f h e = refl
agreement (column xs) f h e = e.0
agreement (compare op x y) f h e =
    let l = agreement x f h (agree_front f h (columns_of x) (columns_of y) e) in
    let r = agreement y f h (agree_back f h (columns_of x) (columns_of y) e) in
    λ i. compared op (l i) (r i)
agreement (both x y) f h e =
    let l = agreement x f h (agree_front f h (columns_of x) (columns_of y) e) in
    let r = agreement y f h (agree_back f h (columns_of x) (columns_of y) e) in
    λ i. kleene_and (l i) (r i)
agreement (either x y) f h e =
    let l = agreement x f h (agree_front f h (columns_of x) (columns_of y) e) in
    let r = agreement y f h (agree_back f h (columns_of x) (columns_of y) e) in
    λ i. kleene_or (l i) (r i)
agreement (negation x) f h e = ap kleene_not (agreement x f h e)
agreement (is_null_test x) f h e = ap (λ c. boolean (is_null c)) (agreement x f h e)
agreement (is_not_null_test x) f h e = ap (λ c. boolean (not (is_null c))) (agreement x f h e)
agreement (is_nan x) f h e = refl
agreement (between x lo hi s t) f h e =
    let front = agree_front f h (columns_of x ++ columns_of lo) (columns_of hi) e in
    let m = agreement x f h (agree_front f h (columns_of x) (columns_of lo) front) in
    let l = agreement lo f h (agree_back f h (columns_of x) (columns_of lo) front) in
    let r = agreement hi f h (agree_back f h (columns_of x ++ columns_of lo) (columns_of hi) e) in
    λ i. kleene_and (compared (end_of s) (l i) (m i)) (compared (end_of t) (m i) (r i))
agreement (like x form n true) f h e = refl
agreement (like x form n false) f h e =
    let l = agreement x f h (agree_front f h (columns_of x) (columns_of form) e) in
    let r = agreement form f h (agree_back f h (columns_of x) (columns_of form) e) in
    λ i. liked (l i) (r i) n
agreement row_count f h e = refl
agreement (statistic x a) f h e = refl

module _ (k : LogicalType) (box : Box) where
  abbrev pub lows : Names → Content
  lows xs = shown (box xs).low

  abbrev pub highs : Names → Content
  highs xs = shown (box xs).high

  abbrev low_at : Expression → Content
  low_at x = evaluate (of_choice lows) x

  abbrev high_at : Expression → Content
  high_at x = evaluate (of_choice highs) x

  -- a side of a comparison: its bounds are values of the type, and each value between them is in
  -- the box
  pub record IsSide (u : LogicalType) (x : Expression) : Type 0 where
    pub single : is_side x ≡ true
    pub low : IsMember u (low_at x)
    pub high : IsMember u (high_at x)
    pub ordered : le (low_at x) (high_at x) ≡ true
    pub fits : (v : Content) → IsMember u v → le (low_at x) v ≡ true → le v (high_at x) ≡ true → IsIn k box (λ xs. v) x

  -- a column under a null test: its type has a value, there are rows, and no more nulls than rows
  pub record IsTestable (xs : Names) : Type 0 where
    pub value : Content
    pub not_null : is_null value ≡ false
    pub held : IsValueOf k xs value
    pub fewer : (box xs).nulls ≤ (box xs).rows
    pub some : 0 < (box xs).rows

  -- a string column under a LIKE of the wide class
  pub record IsLikeable (x : Expression) (form : List ℕ) : Type 0 where
    pub nullability : Nullability
    pub side : IsSide (utf8 nullability) x
    pub texts : (f : Names → Content) → IsIn k box f x → IsTextual (evaluate (of_choice f) x)
    pub valid : IsUtf8 form
    pub formed : is_text_form form ≡ true

  -- These leaves, BETWEENs and boolean literals, joined by AND and OR.
  abbrev pub IsGood : Expression → Type 0
  IsGood (compare op x y) = (u : LogicalType) × IsSide u x × IsSide u y × (falsifier k (compare op x y) ≡ Some (comparison_falsifier op x y))
  IsGood (both x y) = IsGood x × IsGood y
  IsGood (either x y) = IsGood x × IsGood y
  IsGood (literal l (boolean b)) = Unit {0}
  IsGood (between x (literal l c) (literal m d) false false) = (u : LogicalType) × IsSide u x × IsMember u c × IsMember u d × (le c d ≡ true)
      × (falsifier k (between x (literal l c) (literal m d) false false) ≡ Some (either (comparison_falsifier at_most (literal l c) x) (comparison_falsifier at_most x (literal m d))))
  IsGood (is_null_test (column xs)) = IsTestable xs
  IsGood (is_not_null_test (column xs)) = IsTestable xs
  IsGood (like x (literal l (text form)) false false) = IsLikeable x form
  IsGood e = ⊥

  -- the box rules the tree out
  abbrev pub tree_fails : Expression → Bool
  tree_fails (compare op x y) = fails op (low_at x) (high_at x) (low_at y) (high_at y)
  tree_fails (both x y) = tree_fails x || tree_fails y
  tree_fails (either x y) = tree_fails x && tree_fails y
  tree_fails (literal l (boolean b)) = not b
  tree_fails (between x (literal l c) (literal m d) false false) = not (le c (high_at x)) || not (le (low_at x) d)
  tree_fails (is_null_test (column xs)) = (box xs).nulls == 0
  tree_fails (is_not_null_test (column xs)) = (box xs).nulls == (box xs).rows
  tree_fails (like x (literal l (text form)) false false) = like_fails (shape_of (chars form)) (low_at x) (high_at x)
  tree_fails e = false

  -- ---- a choice in the box

  side_in : (x : Expression) (f : Names → Content) → is_side x ≡ true → AllByRecursion (λ xs. IsBetween k box xs (f xs)) (columns_of x) → IsIn k box f x
  side_in (column xs) f w b = b.0
  side_in (literal l c) f w b = tt
  side_in x f w b = absurd (cc (w))

  -- the choice is in the box where the value of each column is
  in_box : (e : Expression) → IsGood e → (f : Names → Content) → AllByRecursion (λ xs. IsBetween k box xs (f xs)) (columns_outside_tests e) →
      AllByRecursion (λ xs. IsCounted k box xs (f xs)) (columns_under_tests e) → IsIn k box f e
  in_box (compare op x y) g f b c =
      let P = λ (xs : Names). IsBetween k box xs (f xs) in
      (side_in x f g.1.single (front_of_all P (columns_of x) (columns_of y) b), side_in y f g.2.single (back_of_all P (columns_of x) (columns_of y) b))
  in_box (both x y) g f b c = (
    in_box x g.0 f (front_of_all (λ xs. IsBetween k box xs (f xs)) (columns_outside_tests x) (columns_outside_tests y) b) (front_of_all (λ xs. IsCounted k box xs (f xs)) (columns_under_tests x) (columns_under_tests y) c),
    in_box y g.1 f (back_of_all (λ xs. IsBetween k box xs (f xs)) (columns_outside_tests x) (columns_outside_tests y) b) (back_of_all (λ xs. IsCounted k box xs (f xs)) (columns_under_tests x) (columns_under_tests y) c),
  )
  in_box (either x y) g f b c = (
    in_box x g.0 f (front_of_all (λ xs. IsBetween k box xs (f xs)) (columns_outside_tests x) (columns_outside_tests y) b) (front_of_all (λ xs. IsCounted k box xs (f xs)) (columns_under_tests x) (columns_under_tests y) c),
    in_box y g.1 f (back_of_all (λ xs. IsBetween k box xs (f xs)) (columns_outside_tests x) (columns_outside_tests y) b) (back_of_all (λ xs. IsCounted k box xs (f xs)) (columns_under_tests x) (columns_under_tests y) c),
  )
  in_box (literal l (boolean v)) g f b c = tt
  in_box (between x (literal l v) (literal m d) false false) g f b c =
      let P = λ (xs : Names). IsBetween k box xs (f xs) in
      (side_in x f g.1.single (front_of_all P (columns_of x) [] (front_of_all P (columns_of x ++ []) [] b)), tt, tt)
  in_box (is_null_test (column xs)) g f b c = c.0
  in_box (is_not_null_test (column xs)) g f b c = c.0
  in_box (like x (literal l (text form)) false false) g f b c = (side_in x f g.side.single (front_of_all (λ xs. IsBetween k box xs (f xs)) (columns_of x) [] b), tt)
  in_box e g f b c = absurd g

  low_in : (u : LogicalType) (x : Expression) → IsSide u x → AllByRecursion (λ xs. IsBetween k box xs (lows xs)) (columns_of x)
  low_in u (column xs) s = (s.fits (lows xs) s.low (member_itself u (lows xs) s.low) s.ordered, tt)
  low_in u (literal l c) s = tt
  low_in u x s = absurd (let w = s.single in cc (w))

  -- the lows are a choice for the columns outside null tests
  lows_in : (e : Expression) → IsGood e → AllByRecursion (λ xs. IsBetween k box xs (lows xs)) (columns_outside_tests e)
  lows_in (compare op x y) g = all_append (λ xs. IsBetween k box xs (lows xs)) (columns_of x) (columns_of y) (low_in g.0 x g.1) (low_in g.0 y g.2)
  lows_in (both x y) g = all_append (λ xs. IsBetween k box xs (lows xs)) (columns_outside_tests x) (columns_outside_tests y) (lows_in x g.0) (lows_in y g.1)
  lows_in (either x y) g = all_append (λ xs. IsBetween k box xs (lows xs)) (columns_outside_tests x) (columns_outside_tests y) (lows_in x g.0) (lows_in y g.1)
  lows_in (literal l (boolean b)) g = tt
  lows_in (between x (literal l c) (literal m d) false false) g =
      let P = λ (xs : Names). IsBetween k box xs (lows xs) in all_append P (columns_of x ++ []) [] (all_append P (columns_of x) [] (low_in g.0 x g.1) tt) tt
  lows_in (is_null_test (column xs)) g = tt
  lows_in (is_not_null_test (column xs)) g = tt
  lows_in (like x (literal l (text form)) false false) g = all_append (λ xs. IsBetween k box xs (lows xs)) (columns_of x) [] (low_in (utf8 g.nullability) x g.side) tt
  lows_in e g = absurd g

  testables : (e : Expression) → IsGood e → AllByRecursion IsTestable (columns_under_tests e)
  testables (both x y) g = all_append IsTestable (columns_under_tests x) (columns_under_tests y) (testables x g.0) (testables y g.1)
  testables (either x y) g = all_append IsTestable (columns_under_tests x) (columns_under_tests y) (testables x g.0) (testables y g.1)
  testables (is_null_test (column xs)) g = (g, tt)
  testables (is_not_null_test (column xs)) g = (g, tt)
  testables (compare op x y) g = tt
  testables (literal l (boolean b)) g = tt
  testables (between x (literal l c) (literal m d) false false) g = tt
  testables (like x (literal l (text form)) false false) g = tt
  testables e g = absurd g

  null_counted : (xs : Names) (v : Content) → is_null v ≡ true → ((box xs).nulls == 0) ≡ false → IsCounted k box xs v
  null_counted xs v n some = record {
    at_null = λ e zero. (let f : true ≡ false = sym (eq-eqb (box xs).nulls 0 zero) ∙ some in cc (f));
    at_value = λ e. absurd (let f : true ≡ false = sym n ∙ e in cc (f));
  }

  value_counted : (xs : Names) (v : Content) → is_null v ≡ false → IsValueOf k xs v → (box xs).nulls < (box xs).rows → IsCounted k box xs v
  value_counted xs v n held lt = record {
    at_null = λ e. absurd (let f : true ≡ false = sym e ∙ n in cc (f));
    at_value = λ e. (held, lt);
  }

  fewer_nulls : (n m : ℕ) → n ≤ m → (n == m) ≡ false → n < m
  fewer_nulls n m le e = elim (cases_lt n m) [
    | inl lt ↦ lt
    | inr back ↦ (let same : n ≡ m = omega (arith, le, back) in let f : true ≡ false = sym (eq-eqb n m same) ∙ e in absurd (cc (f)))
  ]

  no_nulls : (n m : ℕ) → 0 < m → (n == 0) ≡ true → n < m
  no_nulls n m some e = let zero = eqb-true n 0 e in omega (arith, zero, some)

  some_counted : (xs : Names) → IsTestable xs → (v : Content) × IsCounted k box xs v
  some_counted xs g =
      either_way ((box xs).nulls == 0)
      (λ e. (g.value, value_counted xs g.value g.not_null g.held (no_nulls (box xs).nulls (box xs).rows g.some e)))
      (λ e. (null, null_counted xs null refl e))

  -- the columns outside null tests, and those under them
  module _ (outside under : List Names) where
    -- each of these columns has a value in the box
    record AreIn (f : Names → Content) : Type 0 where
      between : AllByRecursion (λ xs. IsBetween k box xs (f xs)) outside
      counted : AllByRecursion (λ xs. IsCounted k box xs (f xs)) under

    -- a choice for all of them, from one for those outside
    filled : (zss : List Names) → AllByRecursion IsTestable zss → AllByRecursion (λ zs. NoneIs zs outside) zss → (f : Names → Content) →
        AllByRecursion (λ xs. IsBetween k box xs (f xs)) outside →
        (h : Names → Content) × AllByRecursion (λ xs. IsBetween k box xs (h xs)) outside × AllByRecursion (λ zs. IsCounted k box zs (h zs)) zss
    filled [] t n f b = (f, b, tt)
    filled (zs ∷ zss) t n f b =
        let r = filled zss t.1 n.1 f b in let c = some_counted zs t.0 in (
          put zs c.0 r.0,
          put_apart (IsBetween k box) zs c.0 r.0 outside n.0 r.1,
          (subst (IsCounted k box zs) (sym (put_here zs c.0 r.0)) c.1, put_kept (IsCounted k box) zs c.0 r.0 zss c.1 r.2),
        )

    -- ---- one column, or two, at chosen values

    assign_reads : (u : LogicalType) (x : Expression) (v : Content) (f : Names → Content) → IsSide u x → le (low_at x) v ≡ true → le v (high_at x) ≡ true →
        evaluate (of_choice (assign x v f)) x ≡ v
    assign_reads u (column xs) v f s h g = put_here xs v f
    assign_reads u (literal l c) v f s h g = at_most_both c v h g
    assign_reads u x v f s h g = absurd (let w = s.single in cc (w))

    assign_in : (x : Expression) (v : Content) (f : Names → Content) → is_side x ≡ true → IsIn k box (λ xs. v) x → AllByRecursion (λ xs. NoneIs xs under) (columns_of x) → AreIn f → AreIn (assign x v f)
    assign_in (column xs) v f w h n i = record { between = put_kept (IsBetween k box) xs v f outside h i.between; counted = put_apart (IsCounted k box) xs v f under n.0 i.counted }
    assign_in (literal l c) v f w h n i = i
    assign_in x v f w h n i = absurd (cc (w))

    -- a choice that gives the side this value, and every other column the value of before
    record Placed (x : Expression) (v : Content) (base : Names → Content) : Type 0 where
      choice : Names → Content
      reads : evaluate (of_choice choice) x ≡ v
      inside : AreIn choice
      others : (j : Names) → NotAmong j (columns_of x) → choice j ≡ base j

    placed : (u : LogicalType) (x : Expression) (v : Content) → IsSide u x → IsMember u v → le (low_at x) v ≡ true → le v (high_at x) ≡ true → AllByRecursion (λ xs. NoneIs xs under) (columns_of x) →
        (base : Names → Content) → AreIn base → Placed x v base
    placed u x v s m from to n base i = record {
      choice = assign x v base;
      reads = assign_reads u x v base s from to;
      inside = assign_in x v base s.single (s.fits v m from to) n i;
      others = λ j h. assign_others x v base j s.single h;
    }

    -- choices that differ only in other columns agree on these
    others_agree : (f h : Names → Content) (xss yss : List Names) → ((j : Names) → NotAmong j yss → f j ≡ h j) → AreApart xss yss → Agree f h xss
    others_agree f h xss yss others apart = all_mapped (λ xs. NotAmong xs yss) (λ xs. f xs ≡ h xs) others xss apart

    placed_column : (xs : Names) (v : Content) → IsCounted k box xs v → NoneIs xs outside → (base : Names → Content) → AreIn base → Placed (column xs) v base
    placed_column xs v c n base i = record {
      choice = put xs v base;
      reads = put_here xs v base;
      inside = record { between = put_apart (IsBetween k box) xs v base outside n i.between; counted = put_kept (IsCounted k box) xs v base under c i.counted };
      others = λ j h. put_elsewhere xs v base j h;
    }

    -- ---- choices that make the tree true

    -- none of the tree's columns outside null tests is under one elsewhere, nor the other way round
    abbrev AreTold : Expression → Type 0
    AreTold e = AllByRecursion (λ xs. NoneIs xs under) (columns_outside_tests e) × AllByRecursion (λ zs. NoneIs zs outside) (columns_under_tests e)

    told_left : (x y : Expression) → AreTold (both x y) → AreTold x
    told_left x y t = (
      front_of_all (λ xs. NoneIs xs under) (columns_outside_tests x) (columns_outside_tests y) t.0,
      front_of_all (λ zs. NoneIs zs outside) (columns_under_tests x) (columns_under_tests y) t.1,
    )

    told_right : (x y : Expression) → AreTold (both x y) → AreTold y
    told_right x y t = (
      back_of_all (λ xs. NoneIs xs under) (columns_outside_tests x) (columns_outside_tests y) t.0,
      back_of_all (λ zs. NoneIs zs outside) (columns_under_tests x) (columns_under_tests y) t.1,
    )

    -- a choice in the box that makes the tree true, and gives every other column the value of
    -- before
    record Reaches (e : Expression) (base : Names → Content) : Type 0 where
      choice : Names → Content
      inside : AreIn choice
      others : (j : Names) → NotAmong j (columns_of e) → choice j ≡ base j
      holds : evaluate (of_choice choice) e ≡ boolean true

    compared_at : (op : Comparison) (x y : Expression) (v w : Content) (f : Names → Content) → evaluate (of_choice f) x ≡ v → evaluate (of_choice f) y ≡ w → compared op v w ≡ boolean true →
        evaluate (of_choice f) (compare op x y) ≡ boolean true
    compared_at op x y v w f l r h = (λ i. compared op (l i) (r i)) ∙ h

    reach_comparison : (op : Comparison) (x y : Expression) → IsGood (compare op x y) → AreApart (columns_of x) (columns_of y) → AreTold (compare op x y) → tree_fails (compare op x y) ≡ false →
        (base : Names → Content) → AreIn base → Reaches (compare op x y) base
    reach_comparison op x y g apart t works base i =
        let u = g.0 in let s = g.1 in let r = g.2 in let xss = columns_of x in let yss = columns_of y in
        let w = completed u (low_at x) (high_at x) (low_at y) (high_at y) s.low s.high r.low r.high s.ordered r.ordered op works in
        let p = placed u x w.left s w.left_member w.left_from w.left_to (front_of_all (λ xs. NoneIs xs under) xss yss t.0) base i in
        let q = placed u y w.right r w.right_member w.right_from w.right_to (back_of_all (λ xs. NoneIs xs under) xss yss t.0) p.choice p.inside in
        let kept = others_agree q.choice p.choice xss yss q.others apart in record {
          choice = q.choice;
          inside = q.inside;
          others = λ j n. q.others j (not_back j xss yss n) ∙ p.others j (not_front j xss yss n);
          holds = compared_at op x y w.left w.right q.choice (agreement x q.choice p.choice kept ∙ p.reads) q.reads (made u op w.left w.right w.left_member w.right_member w.passes);
        }

    reach_like : (x : Expression) (l : LogicalType) (form : List ℕ) → IsLikeable x form → AreTold (like x (literal l (text form)) false false) →
        like_fails (shape_of (chars form)) (low_at x) (high_at x) ≡ false → (base : Names → Content) → AreIn base → Reaches (like x (literal l (text form)) false false) base
    reach_like x l form g t works base i =
        let n = g.nullability in let s = g.side in
        let w = like_chosen n form g.valid g.formed (low_at x) (high_at x) s.low s.high s.ordered works in
        let p = placed (utf8 n) x w.value s w.member w.from w.to (front_of_all (λ xs. NoneIs xs under) (columns_of x) [] t.0) base i in record {
          choice = p.choice;
          inside = p.inside;
          others = λ j h. p.others j (not_front j (columns_of x) [] h);
          holds = ap (λ v. liked v (text form) false) p.reads ∙ w.holds;
        }

    -- where the box doesn't rule the tree out, some choice in it makes the tree true
    complete : (e : Expression) → IsGood e → sides_are_disjoint e ≡ true → AreTold e → tree_fails e ≡ false → (base : Names → Content) → AreIn base → Reaches e base
    complete (compare op x y) g d t works base i = reach_comparison op x y g (apart (columns_of x) (columns_of y) d) t works base i
    complete (both x y) g d t works base i =
        let xss = columns_of x in let yss = columns_of y in
        let ds = three_true (sides_are_disjoint x) (sides_are_disjoint y) (are_disjoint xss yss) d in
        let a = complete x g.0 ds.0 (told_left x y t) (or_false_left (tree_fails x) (tree_fails y) works) base i in
        let b = complete y g.1 ds.1 (told_right x y t) (or_false_right (tree_fails x) (tree_fails y) works) a.choice a.inside in
        let kept = others_agree b.choice a.choice xss yss b.others (apart xss yss ds.2) in record {
          choice = b.choice;
          inside = b.inside;
          others = λ j n. b.others j (not_back j xss yss n) ∙ a.others j (not_front j xss yss n);
          holds = and_made (evaluate (of_choice b.choice) x) (evaluate (of_choice b.choice) y) (agreement x b.choice a.choice kept ∙ a.holds) b.holds;
        }
    complete (either x y) g d t works base i =
        let xss = columns_of x in let yss = columns_of y in
        let dx = first_so (sides_are_disjoint x) (sides_are_disjoint y) d in let dy = second_so (sides_are_disjoint x) (sides_are_disjoint y) d in
        either_way (tree_fails x)
        (λ e.
        let r = complete y g.1 dy (told_right x y t) (ap (λ b. b && tree_fails y) (sym e) ∙ works) base i in record {
          choice = r.choice;
          inside = r.inside;
          others = λ j n. r.others j (not_back j xss yss n);
          holds = or_made_right (evaluate (of_choice r.choice) x) (evaluate (of_choice r.choice) y) r.holds;
        })
        (λ e.
        let r = complete x g.0 dx (told_left x y t) e base i in record {
          choice = r.choice;
          inside = r.inside;
          others = λ j n. r.others j (not_front j xss yss n);
          holds = or_made_left (evaluate (of_choice r.choice) x) (evaluate (of_choice r.choice) y) r.holds;
        })
    complete (literal l (boolean b)) g d t works base i = record { choice = base; inside = i; others = λ j n. refl; holds = ap (λ x. boolean x) (not-false b works) }
    complete (between x (literal l c) (literal m d) false false) g a t works base i =
        let u = g.0 in let s = g.1 in let xss = columns_of x in
        let w = completed u c d (low_at x) (high_at x) g.2 g.3 s.low s.high g.4 s.ordered equal works in
        let v = w.right in
        let p = placed u x v s w.right_member w.right_from w.right_to (front_of_all (λ xs. NoneIs xs under) xss [] (front_of_all (λ xs. NoneIs xs under) (xss ++ []) [] t.0)) base i in
        let from = not_above_chain c w.left v w.left_from (first_so (le w.left v) (le v w.left) w.passes) in
        let to = not_above_chain v w.left d (second_so (le w.left v) (le v w.left) w.passes) w.left_to in record {
          choice = p.choice;
          inside = p.inside;
          others = λ j n. p.others j (not_front j xss [] (not_front j (xss ++ []) [] n));
          holds = (λ i. kleene_and (compared at_most c (p.reads i)) (compared at_most (p.reads i) d))
              ∙ and_made (compared at_most c v) (compared at_most v d) (made u at_most c v g.2 w.right_member from) (made u at_most v d w.right_member g.3 to);
        }
    complete (is_null_test (column xs)) g d t works base i =
        let p = placed_column xs null (null_counted xs null refl works) t.1.0 base i in record {
          choice = p.choice;
          inside = p.inside;
          others = p.others;
          holds = ap (λ v. boolean (is_null v)) p.reads;
        }
    complete (is_not_null_test (column xs)) g d t works base i =
        let lt = fewer_nulls (box xs).nulls (box xs).rows g.fewer works in
        let p = placed_column xs g.value (value_counted xs g.value g.not_null g.held lt) t.1.0 base i in record {
          choice = p.choice;
          inside = p.inside;
          others = p.others;
          holds = ap (λ v. boolean (not (is_null v))) p.reads ∙ ap (λ b. boolean (not b)) g.not_null;
        }
    complete (like x (literal l (text form)) false false) g d t works base i = reach_like x l form g t works base i
    complete e g d t works base i = absurd g

  -- a choice in the box that makes the tree true
  pub record Reached (e : Expression) : Type 0 where
    pub choice : Names → Content
    pub inside : IsIn k box choice e
    pub holds : evaluate (of_choice choice) e ≡ boolean true

  pub reached : (e : Expression) → IsGood e → is_wide e ≡ true → tree_fails e ≡ false → Reached e
  reached e g w works =
      let plain = columns_outside_tests e in let tested = columns_under_tests e in let parts = wide_parts e w in
      let a = apart plain tested parts.2 in let back = none_before plain tested a in
      let start = filled plain tested tested (testables e g) back lows (lows_in e g) in
      let r = complete plain tested e g parts.1 (none_after plain tested a, back) works start.0 (record { between = start.1; counted = start.2 }) in
      record { choice = r.choice; inside = in_box e g r.choice r.inside.between r.inside.counted; holds = r.holds }
