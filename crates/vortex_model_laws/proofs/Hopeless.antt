-- No row is in a hopeless box.
use Rattle.std.proofs.Common.{◌≡◌, refl, sym, subst, ℕ, List, Bool, true, false, if◌then◌else◌, ◌⊎◌, inl, inr, not}
use Rattle.std.specs.Cmp.{first_so, second_so}
use Rattle.vortex_model.specs.LogicalType.{LogicalType}
use Rattle.vortex_model.specs.Content.{Content, null, boolean, text, is_null}
use Rattle.vortex_model.specs.Path.{Names, column as column_value}
use Rattle.vortex_model_table.specs.Expression.{Expression, literal, column, compare, both, either, is_null as is_null_test, is_not_null as is_not_null_test, between, like, Comparison}
use Rattle.vortex_model_table.specs.Truth.{evaluate, compared, kleene_and, kleene_or, liked, end_of, Satisfies}
use Rattle.vortex_model_table.specs.Class.{Box, IsIn, IsTested, IsBetween, Hopeless, of_choice, is_wide_tree, are_sides, is_column, are_ends, is_text_form}

-- The row's value in a column of a comparison is null or in the box, and in one under a null test
-- it is counted.
abbrev pub MayHold : LogicalType → Box → Content → Expression → Type 0
MayHold k box row (column xs) = is_null (column_value k xs row) ≡ false → IsBetween k box xs (column_value k xs row)
MayHold k box row (compare op x y) = MayHold k box row x × MayHold k box row y
MayHold k box row (both x y) = MayHold k box row x × MayHold k box row y
MayHold k box row (either x y) = MayHold k box row x × MayHold k box row y
MayHold k box row (is_null_test x) = IsTested k box (λ xs. column_value k xs row) x
MayHold k box row (is_not_null_test x) = IsTested k box (λ xs. column_value k xs row) x
MayHold k box row (between x lo hi s t) = MayHold k box row x × MayHold k box row lo × MayHold k box row hi
MayHold k box row (like x form n i) = MayHold k box row x × MayHold k box row form
MayHold k box row e = Unit {0}

abbrev pub Keeps : LogicalType → (Names → Content) → Content → Expression → Type 0
Keeps k filler row (column xs) = filler xs ≡ column_value k xs row
Keeps k filler row e = Unit {0}

-- the filler has a value in the box for each column outside null tests
abbrev pub Fills : LogicalType → Box → (Names → Content) → Content → Expression → Type 0
Fills k box filler row (column xs) = IsBetween k box xs (filler xs)
Fills k box filler row (compare op x y) = Fills k box filler row x × Fills k box filler row y
Fills k box filler row (both x y) = Fills k box filler row x × Fills k box filler row y
Fills k box filler row (either x y) = Fills k box filler row x × Fills k box filler row y
Fills k box filler row (is_null_test x) = Keeps k filler row x
Fills k box filler row (is_not_null_test x) = Keeps k filler row x
Fills k box filler row (between x lo hi s t) = Fills k box filler row x × Fills k box filler row lo × Fills k box filler row hi
Fills k box filler row (like x form n i) = Fills k box filler row x × Fills k box filler row form
Fills k box filler row e = Unit {0}

-- the row's value, or where it is null the filler's
abbrev filled : Content → Content → Content
filled c d = if is_null c then d else c

abbrev chosen : LogicalType → (Names → Content) → Content → Names → Content
chosen k filler row xs = filled (column_value k xs row) (filler xs)

filled_between : (k : LogicalType) (box : Box) (xs : Names) (c d : Content) → (is_null c ≡ false → IsBetween k box xs c) → IsBetween k box xs d → IsBetween k box xs (filled c d)
filled_between k box xs null d h g = g
filled_between k box xs c d h g = h refl

kept_same : (c d : Content) → d ≡ c → filled c d ≡ c
kept_same null d e = e
kept_same c d e = refl

tested_in : (k : LogicalType) (box : Box) (filler : Names → Content) (row : Content) (x : Expression) →
    IsTested k box (λ xs. column_value k xs row) x → Keeps k filler row x → IsTested k box (chosen k filler row) x
tested_in k box filler row (column xs) h g = subst (λ c. IsTested k box (λ ys. c) (column xs)) (sym (kept_same (column_value k xs row) (filler xs) g)) h
tested_in k box filler row x h g = tt

column_in : (k : LogicalType) (box : Box) (filler : Names → Content) (row : Content) (x : Expression) → is_column x ≡ true →
    MayHold k box row x → Fills k box filler row x → IsIn k box (chosen k filler row) x
column_in k box filler row (column xs) w h g = filled_between k box xs (column_value k xs row) (filler xs) h g
column_in k box filler row x w h g = absurd (cc (w))

ends_in : (k : LogicalType) (box : Box) (choice : Names → Content) (lo hi : Expression) → are_ends lo hi ≡ true → IsIn k box choice lo × IsIn k box choice hi
ends_in k box choice (literal l c) (literal m d) w = (tt, tt)
ends_in k box choice (literal l c) hi w = absurd (cc (w))
ends_in k box choice lo hi w = absurd (cc (w))

sides_in : (k : LogicalType) (box : Box) (filler : Names → Content) (row : Content) (x y : Expression) → are_sides x y ≡ true →
    MayHold k box row x → MayHold k box row y → Fills k box filler row x → Fills k box filler row y →
    IsIn k box (chosen k filler row) x × IsIn k box (chosen k filler row) y
sides_in k box filler row (column xs) (column ys) w h i g j =
    (filled_between k box xs (column_value k xs row) (filler xs) h g, filled_between k box ys (column_value k ys row) (filler ys) i j)
sides_in k box filler row (column xs) (literal l c) w h i g j = (filled_between k box xs (column_value k xs row) (filler xs) h g, tt)
sides_in k box filler row (literal l c) (column ys) w h i g j = (tt, filled_between k box ys (column_value k ys row) (filler ys) i j)
sides_in k box filler row x y w h i g j = absurd (cc (w))

-- the choice is in the box
is_in : (k : LogicalType) (box : Box) (filler : Names → Content) (row : Content) (e : Expression) → is_wide_tree e ≡ true →
    MayHold k box row e → Fills k box filler row e → IsIn k box (chosen k filler row) e
is_in k box filler row (compare op x y) w h g = sides_in k box filler row x y w h.0 h.1 g.0 g.1
is_in k box filler row (both x y) w h g =
    (is_in k box filler row x (first_so (is_wide_tree x) (is_wide_tree y) w) h.0 g.0, is_in k box filler row y (second_so (is_wide_tree x) (is_wide_tree y) w) h.1 g.1)
is_in k box filler row (either x y) w h g =
    (is_in k box filler row x (first_so (is_wide_tree x) (is_wide_tree y) w) h.0 g.0, is_in k box filler row y (second_so (is_wide_tree x) (is_wide_tree y) w) h.1 g.1)
is_in k box filler row (literal l c) w h g = tt
is_in k box filler row (between x lo hi false false) w h g =
    let ends = ends_in k box (chosen k filler row) lo hi (second_so (is_column x) (are_ends lo hi) w) in
    (column_in k box filler row x (first_so (is_column x) (are_ends lo hi) w) h.0 g.0, ends.0, ends.1)
is_in k box filler row (is_null_test x) w h g = tested_in k box filler row x h g
is_in k box filler row (is_not_null_test x) w h g = tested_in k box filler row x h g
is_in k box filler row (like x (literal l (text form)) false false) w h g = (column_in k box filler row x (first_so (is_column x) (is_text_form form) w) h.0 g.0, tt)
is_in k box filler row e w h g = absurd (cc (w))

-- ---- what is true of the row is true of the choice

compared_here : (op : Comparison) (c d c' d' : Content) → compared op c d ≡ boolean true → compared op (filled c c') (filled d d') ≡ boolean true
compared_here op null d c' d' e = absurd (cc (e))
compared_here op c null c' d' e = absurd (cc (e))
compared_here op c d c' d' e = e

liked_here : (c c' f : Content) (n : Bool) → liked c f n ≡ boolean true → liked (filled c c') f n ≡ boolean true
liked_here null c' f n e = absurd (cc (e))
liked_here c c' f n e = e

pub and_left : (c d : Content) → kleene_and c d ≡ boolean true → c ≡ boolean true
and_left (boolean true) d e = refl
and_left (boolean false) d e = absurd (cc (e))
and_left c (boolean false) e = absurd (cc (e))
and_left c d e = absurd (cc (e))

pub and_right : (c d : Content) → kleene_and c d ≡ boolean true → d ≡ boolean true
and_right (boolean false) d e = absurd (cc (e))
and_right c (boolean false) e = absurd (cc (e))
and_right (boolean true) (boolean true) e = refl
and_right c d e = absurd (cc (e))

and_both : (c d : Content) → c ≡ boolean true → d ≡ boolean true → kleene_and c d ≡ boolean true
and_both c d e f = subst (λ x. kleene_and x d ≡ boolean true) (sym e) (subst (λ y. kleene_and (boolean true) y ≡ boolean true) (sym f) refl)

pub or_one : (c d : Content) → kleene_or c d ≡ boolean true → (c ≡ boolean true) ⊎ (d ≡ boolean true)
or_one (boolean true) d e = inl refl
or_one c (boolean true) e = inr refl
or_one (boolean false) (boolean false) e = absurd (cc (e))
or_one c d e = absurd (cc (e))

or_left : (c d : Content) → c ≡ boolean true → kleene_or c d ≡ boolean true
or_left c d e = subst (λ x. kleene_or x d ≡ boolean true) (sym e) refl

or_with_true : (c : Content) → kleene_or c (boolean true) ≡ boolean true
or_with_true (boolean true) = refl
or_with_true (boolean false) = refl
or_with_true c = refl

or_right : (c d : Content) → d ≡ boolean true → kleene_or c d ≡ boolean true
or_right c d e = subst (λ y. kleene_or c y ≡ boolean true) (sym e) (or_with_true c)

compared_left : (op : Comparison) (c c' d : Content) → compared op c d ≡ boolean true → compared op (filled c c') d ≡ boolean true
compared_left op null c' d e = absurd (cc (e))
compared_left op c c' d e = e

compared_right : (op : Comparison) (c d d' : Content) → compared op c d ≡ boolean true → compared op c (filled d d') ≡ boolean true
compared_right op null null d' e = absurd (cc (e))
compared_right op c null d' e = absurd (cc (e))
compared_right op c d d' e = e

sides_true : (k : LogicalType) (filler : Names → Content) (row : Content) (op : Comparison) (x y : Expression) → are_sides x y ≡ true →
    evaluate (of_choice (λ xs. column_value k xs row)) (compare op x y) ≡ boolean true → evaluate (of_choice (chosen k filler row)) (compare op x y) ≡ boolean true
sides_true k filler row op (column xs) (column ys) w e =
    compared_here op (column_value k xs row) (column_value k ys row) (filler xs) (filler ys) e
sides_true k filler row op (column xs) (literal l c) w e = compared_left op (column_value k xs row) (filler xs) c e
sides_true k filler row op (literal l c) (column ys) w e = compared_right op c (column_value k ys row) (filler ys) e
sides_true k filler row op x y w e = absurd (cc (w))

ends_true : (k : LogicalType) (filler : Names → Content) (row : Content) (x lo hi : Expression) → is_column x ≡ true → are_ends lo hi ≡ true →
    evaluate (of_choice (λ xs. column_value k xs row)) (between x lo hi false false) ≡ boolean true → evaluate (of_choice (chosen k filler row)) (between x lo hi false false) ≡ boolean true
ends_true k filler row (column xs) (literal l c) (literal m d) w v e =
    let op = end_of false in let here = column_value k xs row in let there = filler xs in
    and_both (compared op c (filled here there)) (compared op (filled here there) d)
    (compared_right op c here there (and_left (compared op c here) (compared op here d) e))
    (compared_left op here there d (and_right (compared op c here) (compared op here d) e))
ends_true k filler row (column xs) (literal l c) hi w v e = absurd (cc (v))
ends_true k filler row (column xs) lo hi w v e = absurd (cc (v))
ends_true k filler row x lo hi w v e = absurd (cc (w))

null_test_true : (k : LogicalType) (filler : Names → Content) (row : Content) (x : Expression) → is_column x ≡ true → Keeps k filler row x →
    evaluate (of_choice (chosen k filler row)) x ≡ evaluate (of_choice (λ xs. column_value k xs row)) x
null_test_true k filler row (column xs) w g = kept_same (column_value k xs row) (filler xs) g
null_test_true k filler row x w g = absurd (cc (w))

like_true : (k : LogicalType) (filler : Names → Content) (row : Content) (x : Expression) (l : LogicalType) (form : List ℕ) → is_column x ≡ true →
    evaluate (of_choice (λ xs. column_value k xs row)) (like x (literal l (text form)) false false) ≡ boolean true →
    evaluate (of_choice (chosen k filler row)) (like x (literal l (text form)) false false) ≡ boolean true
like_true k filler row (column xs) l form w e = liked_here (column_value k xs row) (filler xs) (text form) false e
like_true k filler row x l form w e = absurd (cc (w))

-- what is true of the row is true of the choice
stays_true : (k : LogicalType) (box : Box) (filler : Names → Content) (row : Content) (e : Expression) → is_wide_tree e ≡ true → Fills k box filler row e →
    evaluate (of_choice (λ xs. column_value k xs row)) e ≡ boolean true → evaluate (of_choice (chosen k filler row)) e ≡ boolean true
stays_true k box filler row (compare op x y) w g e = sides_true k filler row op x y w e
stays_true k box filler row (both x y) w g e =
    let here = of_choice (λ xs. column_value k xs row) in let there = of_choice (chosen k filler row) in
    and_both (evaluate there x) (evaluate there y)
    (stays_true k box filler row x (first_so (is_wide_tree x) (is_wide_tree y) w) g.0 (and_left (evaluate here x) (evaluate here y) e))
    (stays_true k box filler row y (second_so (is_wide_tree x) (is_wide_tree y) w) g.1 (and_right (evaluate here x) (evaluate here y) e))
stays_true k box filler row (either x y) w g e =
    let here = of_choice (λ xs. column_value k xs row) in let there = of_choice (chosen k filler row) in
    elim (or_one (evaluate here x) (evaluate here y) e) [
      | inl f ↦ or_left (evaluate there x) (evaluate there y) (stays_true k box filler row x (first_so (is_wide_tree x) (is_wide_tree y) w) g.0 f)
      | inr f ↦ or_right (evaluate there x) (evaluate there y) (stays_true k box filler row y (second_so (is_wide_tree x) (is_wide_tree y) w) g.1 f)
    ]
stays_true k box filler row (literal l c) w g e = e
stays_true k box filler row (between x lo hi false false) w g e =
    ends_true k filler row x lo hi (first_so (is_column x) (are_ends lo hi) w) (second_so (is_column x) (are_ends lo hi) w) e
stays_true k box filler row (is_null_test x) w g e =
    subst (λ c. boolean (is_null c) ≡ boolean true) (sym (null_test_true k filler row x w g)) e
stays_true k box filler row (is_not_null_test x) w g e =
    subst (λ c. boolean (not (is_null c)) ≡ boolean true) (sym (null_test_true k filler row x w g)) e
stays_true k box filler row (like x (literal l (text form)) false false) w g e =
    like_true k filler row x l form (first_so (is_column x) (is_text_form form) w) e
stays_true k box filler row e w g h = absurd (cc (w))

pub none_held : (k : LogicalType) (e : Expression) (box : Box) (filler : Names → Content) (row : Content) →
    is_wide_tree e ≡ true → Hopeless k e box → MayHold k box row e → Fills k box filler row e → ¬ (Satisfies k e row)
none_held k e box filler row w hopeless h g truly =
    hopeless (chosen k filler row) (is_in k box filler row e w h g) (stays_true k box filler row e w g truly)
