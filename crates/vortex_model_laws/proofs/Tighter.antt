-- A built-in proof that is true by zone maps is true by tighter ones.
use Rattle.std.proofs.Common.{◌≡◌, refl, sym, ◌∙◌, ap, subst, ℕ, pos, ◌<◌, arith, List, [], ◌∷◌, Bool, true, false, not, ◌&&◌, ◌||◌, ◌==◌, if◌then◌else◌, Option, Some, None, option_map, ◌⊎◌, inl, inr, eqb-true, chars}
use Rattle.std.specs.Str.{encode_utf8_all}
use Rattle.std.specs.declared.cmp.Ordering.{Ordering}
use Rattle.std.specs.declared.cmp.Ordering.TheVariants.{Less, Equal, Greater}
use Rattle.std.specs.Ordering.{ordering_reverse, is_le}
use Rattle.std.proofs.lemmas.Bool.{eq-eqb, or_left, or_right, false_from_ne_true, not-true}
use Rattle.std.specs.Cmp.{first_so, second_so}
use Rattle.vortex_model.specs.LogicalType.{LogicalType}
use Rattle.vortex_model.specs.Content.{Content, null, boolean, integer, text, is_null}
use Rattle.vortex_model.specs.Path.{Names}
use Rattle.vortex_model.specs.Order.{content_cmp, is_known}
use Rattle.vortex_model.proofs.Booleans.{clashing}
use Rattle.vortex_model.proofs.Contents.{true_so}
use Rattle.vortex_model_table.specs.Expression.{Expression, literal, column, compare, both, either, is_null as is_null_test, is_not_null as is_not_null_test, is_nan as is_nan_test, between, like, row_count, statistic, Comparison, equal, not_equal, greater, at_least, less, at_most, min, max, nan_count, all_null, all_non_null, all_nan, all_non_nan}
use Rattle.vortex_model_table.specs.Truth.{Given, evaluate, compared, kleene_and, kleene_or, end_of, is_true, test_of}
use Rattle.vortex_model_table.specs.Typing.{is_of_floats}
use Rattle.vortex_model_table.specs.Statistics.{Precision, exact, inexact, absent, shown}
use Rattle.vortex_model_table.specs.ZoneMap.{ZoneMap, value_in}
use Rattle.vortex_model_table.specs.Bounds.{raise}
use Rattle.vortex_model_table.specs.Rewrite.{bound_expression, null_count_expression, nan_count_expression, comparison_falsifier, comparison_falsifiers, guarded, no_nan_by_count, no_nan_by_flag, is_comparable, is_float_placeholder, joined_proofs, either_there, both_there, as_list, Shape, exact_text, beginning, no_shape, shape_of, outside, shape_falsifier, falsifier, satisfier, count_literal}
use Rattle.vortex_model_table.specs.Scan.{told, known, proves}
use Rattle.vortex_model_table.proofs.Chains.{not_above_chain}
use Rattle.vortex_model_table.proofs.ContentOrder.{Bounds, chain, le, reversed, by_le, passing}
use Rattle.vortex_model_laws.proofs.Hopeless.{and_left, and_right, or_one}
use Rattle.vortex_model_laws.proofs.Leasts.{at_most_both}
use Rattle.vortex_model_laws.proofs.Skipping.{truly}
use Rattle.vortex_model_laws.specs.Tighter.{IsRaised, IsLowered, TellsMore}

-- ---- booleans

pub and_made : (c d : Content) → c ≡ boolean true → d ≡ boolean true → kleene_and c d ≡ boolean true
and_made c d e f = subst (λ x. kleene_and x d ≡ boolean true) (sym e) (subst (λ y. kleene_and (boolean true) y ≡ boolean true) (sym f) refl)

pub or_made_left : (c d : Content) → c ≡ boolean true → kleene_or c d ≡ boolean true
or_made_left c d e = subst (λ x. kleene_or x d ≡ boolean true) (sym e) refl

or_true : (c : Content) → kleene_or c (boolean true) ≡ boolean true
or_true (boolean true) = refl
or_true (boolean false) = refl
or_true c = refl

pub or_made_right : (c d : Content) → d ≡ boolean true → kleene_or c d ≡ boolean true
or_made_right c d e = subst (λ y. kleene_or c y ≡ boolean true) (sym e) (or_true c)

-- ---- comparisons that are true

test_from : (op : Comparison) (o : Ordering) → by_le op (is_le o) (is_le (ordering_reverse o)) ≡ true → test_of op o ≡ true
test_from equal Less h = absurd (cc (h))
test_from equal Equal h = refl
test_from equal Greater h = absurd (cc (h))
test_from not_equal Less h = refl
test_from not_equal Equal h = absurd (cc (h))
test_from not_equal Greater h = refl
test_from less Less h = refl
test_from less Equal h = absurd (cc (h))
test_from less Greater h = absurd (cc (h))
test_from at_most Less h = refl
test_from at_most Equal h = refl
test_from at_most Greater h = absurd (cc (h))
test_from greater Less h = absurd (cc (h))
test_from greater Equal h = absurd (cc (h))
test_from greater Greater h = refl
test_from at_least Less h = absurd (cc (h))
test_from at_least Equal h = refl
test_from at_least Greater h = refl

-- two values compare
abbrev pub Comparable : Content → Content → Type 0
Comparable c d = le c d || le d c ≡ true

test_made : (op : Comparison) (c d : Content) (p : Option Ordering) → content_cmp c d ≡ p → Comparable c d → by_le op (le c d) (le d c) ≡ true →
    (elim p [ None ↦ null | Some o ↦ boolean (test_of op o) ]) ≡ boolean true
test_made op c d None e h g =
    let back : content_cmp d c ≡ None = reversed c d ∙ ap (option_map ordering_reverse) e in
    let clash : true ≡ false = sym h ∙ (λ i. is_known is_le (e i) || is_known is_le (back i)) in absurd (cc (clash))
test_made op c d (Some o) e h g =
    ap (λ b. boolean b) (test_from op o ((λ i. by_le op (is_known is_le (sym e i)) (is_known is_le (sym (reversed c d ∙ ap (option_map ordering_reverse) e) i))) ∙ g))

pub passed : (op : Comparison) (c d : Content) → is_null c ≡ false → is_null d ≡ false → Comparable c d → by_le op (le c d) (le d c) ≡ true → compared op c d ≡ boolean true
passed op c d m n h g =
    (λ i. if m i || n i then null else (elim (content_cmp c d) [ None ↦ null | Some o ↦ boolean (test_of op o) ])) ∙ test_made op c d (content_cmp c d) refl h g

-- values that pass a comparison compare
pub compares : (op : Comparison) (c d : Content) → compared op c d ≡ boolean true → Comparable c d
compares op c d h = by_nulls (is_null c || is_null d) h
  where
    by_order : (p : Option Ordering) → content_cmp c d ≡ p → (elim p [ None ↦ null | Some o ↦ boolean (test_of op o) ]) ≡ boolean true → Comparable c d
    by_order None e g = absurd (cc (g))
    by_order (Some Less) e g = or_left (le c d) (le d c) (ap (is_known is_le) e)
    by_order (Some Equal) e g = or_left (le c d) (le d c) (ap (is_known is_le) e)
    by_order (Some Greater) e g = or_right (le c d) (le d c) (ap (is_known is_le) (reversed c d ∙ ap (option_map ordering_reverse) e))

    by_nulls : (b : Bool) → (if b then null else (elim (content_cmp c d) [ None ↦ null | Some o ↦ boolean (test_of op o) ])) ≡ boolean true → Comparable c d
    by_nulls true g = absurd (cc (g))
    by_nulls false g = by_order (content_cmp c d) refl g

pub equal_so : (c d : Content) → compared equal c d ≡ boolean true → c ≡ d
equal_so c d h = let p = passing equal c d h in at_most_both c d (first_so (le c d) (le d c) p.test) (second_so (le c d) (le d c) p.test)

-- ---- bounds moved inward

-- where the first isn't null, the second isn't either, and is equal or not below it
abbrev pub Raised : Content → Content → Type 0
Raised c d = is_null c ≡ false → (is_null d ≡ false) × Bounds c d

abbrev pub Lowered : Content → Content → Type 0
Lowered c d = is_null c ≡ false → (is_null d ≡ false) × Bounds d c

pub itself_raised : (c : Content) → Raised c c
itself_raised c n = (n, inl refl)

pub itself_lowered : (c : Content) → Lowered c c
itself_lowered c n = (n, inl refl)

other_le : (b c : Bool) → b || c ≡ true → b ≡ false → c ≡ true
other_le true c h e = absurd (cc (e))
other_le false c h e = h

flipped : (a b : Bool) → a || b ≡ true → b || a ≡ true
flipped true true e = refl
flipped true false e = refl
flipped false true e = refl
flipped false false e = e

greater_stays : (c d c' d' : Content) → Raised c c' → Lowered d d' → compared greater c d ≡ boolean true → compared greater c' d' ≡ boolean true
greater_stays c d c' d' up down h =
    let p = passing greater c d h in let u = up p.left in let v = down p.right in
    let not_le = not-true (le c d) p.test in
    let back = other_le (le c d) (le d c) (compares greater c d h) not_le in
    passed greater c' d' u.0 v.0 (or_right (le c' d') (le d' c') (chain d' d c c' v.1 back u.1))
    (ap not (false_from_ne_true (le c' d') (λ e. clashing (le c d) (chain c c' d' d u.1 e v.1) not_le)))

at_least_stays : (c d c' d' : Content) → Raised c c' → Lowered d d' → compared at_least c d ≡ boolean true → compared at_least c' d' ≡ boolean true
at_least_stays c d c' d' up down h =
    let p = passing at_least c d h in let u = up p.left in let v = down p.right in
    let made = chain d' d c c' v.1 p.test u.1 in
    passed at_least c' d' u.0 v.0 (or_right (le c' d') (le d' c') made) made

less_stays : (c d c' d' : Content) → Lowered c c' → Raised d d' → compared less c d ≡ boolean true → compared less c' d' ≡ boolean true
less_stays c d c' d' down up h =
    let p = passing less c d h in let u = down p.left in let v = up p.right in
    let not_le = not-true (le d c) p.test in
    let back = other_le (le d c) (le c d) (flipped (le c d) (le d c) (compares less c d h)) not_le in
    passed less c' d' u.0 v.0 (or_left (le c' d') (le d' c') (chain c' c d d' u.1 back v.1))
    (ap not (false_from_ne_true (le d' c') (λ e. clashing (le d c) (chain d d' c' c v.1 e u.1) not_le)))

at_most_stays : (c d c' d' : Content) → Lowered c c' → Raised d d' → compared at_most c d ≡ boolean true → compared at_most c' d' ≡ boolean true
at_most_stays c d c' d' down up h =
    let p = passing at_most c d h in let u = down p.left in let v = up p.right in
    let made = chain c' c d d' u.1 p.test v.1 in
    passed at_most c' d' u.0 v.0 (or_left (le c' d') (le d' c') made) made

-- the low and the high of an expression, before (a, b) and after (a', b')
pub record Inward (a b a' b' : Content) : Type 0 where
  pub low : Raised a a'
  pub high : Lowered b b'
  pub ordered : is_null a ≡ false → is_null b ≡ false → (a ≡ b → le a a ≡ true) → le a' b' ≡ true

-- where a = d and b = c, all four are one value, and still are after bounds moved inward
equal_stays : (a b c d a' b' c' d' : Content) → Inward a b a' b' → Inward c d c' d' → compared equal a d ≡ boolean true → compared equal b c ≡ boolean true →
    (compared equal a' d' ≡ boolean true) × (compared equal b' c' ≡ boolean true)
equal_stays a b c d a' b' c' d' x y h g =
    let p = passing equal a d h in let q = passing equal b c g in
    let ad = first_so (le a d) (le d a) p.test in let da = second_so (le a d) (le d a) p.test in
    let bc = first_so (le b c) (le c b) q.test in let cb = second_so (le b c) (le c b) q.test in
    let ra = x.low p.left in let rb = x.high q.left in let rc = y.low q.right in let rd = y.high p.right in
    let own_a = not_above_chain a d a ad da in let own_c = not_above_chain c b c cb bc in
    let ab = x.ordered p.left q.left (λ e. own_a) in
    let cd = y.ordered q.right p.right (λ e. own_c) in
    let low_first = chain d' d a a' rd.1 da ra.1 in
    let high_first = chain b' b c c' rb.1 bc rc.1 in
    let high_last = not_above_chain a' b' d' ab (not_above_chain b' c' d' high_first cd) in
    let low_last = not_above_chain c' d' b' cd (not_above_chain d' a' b' low_first ab) in (
      passed equal a' d' ra.0 rd.0 (or_left (le a' d') (le d' a') high_last) (λ i. high_last i && low_first i),
      passed equal b' c' rb.0 rc.0 (or_left (le b' c') (le c' b') high_first) (λ i. high_first i && low_last i),
    )

-- ---- proofs

module _ (k : LogicalType) (g h : Given) where
  abbrev pub Stays : Expression → Type 0
  Stays p = evaluate g p ≡ boolean true → evaluate h p ≡ boolean true

  abbrev pub MayStay : Option Expression → Type 0
  MayStay None = Unit {0}
  MayStay (Some p) = Stays p

  -- the placeholders of an expression, which become tighter
  pub record IsToldMore (x : Expression) : Type 0 where
    pub bounds : Inward (evaluate g (bound_expression min x)) (evaluate g (bound_expression max x)) (evaluate h (bound_expression min x)) (evaluate h (bound_expression max x))
    pub no_nulls : Stays (either (compare equal (null_count_expression x) (count_literal 0)) (statistic x all_non_null))
    pub only_nulls : Stays (either (compare equal (null_count_expression x) row_count) (statistic x all_null))
    pub no_nans : Stays (either (compare equal (nan_count_expression x) (count_literal 0)) (statistic x all_non_nan))
    pub only_nans : Stays (either (compare equal (nan_count_expression x) row_count) (statistic x all_nan))
    pub nans_unknown : (g.placeholders x nan_count ≡ null) × (g.placeholders x all_non_nan ≡ null)

  module _ (more : (x : Expression) → IsToldMore x) where
    either_stays : (p q : Expression) → Stays p → Stays q → Stays (either p q)
    either_stays p q a b t = elim (or_one (evaluate g p) (evaluate g q) t) [
      | inl f ↦ or_made_left (evaluate h p) (evaluate h q) (a f)
      | inr f ↦ or_made_right (evaluate h p) (evaluate h q) (b f)
    ]

    both_stay : (p q : Expression) → Stays p → Stays q → Stays (both p q)
    both_stay p q a b t =
        and_made (evaluate h p) (evaluate h q) (a (and_left (evaluate g p) (evaluate g q) t)) (b (and_right (evaluate g p) (evaluate g q) t))

    abbrev low_in : Given → Expression → Content
    low_in w x = evaluate w (bound_expression min x)

    abbrev high_in : Given → Expression → Content
    high_in w x = evaluate w (bound_expression max x)

    comparison_stays : (op : Comparison) (x y : Expression) → Stays (comparison_falsifier op x y)
    comparison_stays equal x y =
        let p = (more x).bounds in let q = (more y).bounds in
        either_stays (compare greater (bound_expression min x) (bound_expression max y)) (compare greater (bound_expression min y) (bound_expression max x))
        (greater_stays (low_in g x) (high_in g y) (low_in h x) (high_in h y) p.low q.high) (greater_stays (low_in g y) (high_in g x) (low_in h y) (high_in h x) q.low p.high)
    comparison_stays not_equal x y = λ t.
        let a = low_in g x in let b = high_in g x in let c = low_in g y in let d = high_in g y in
        let a' = low_in h x in let b' = high_in h x in let c' = low_in h y in let d' = high_in h y in
        let two = equal_stays a b c d a' b' c' d' (more x).bounds (more y).bounds
        (and_left (compared equal a d) (compared equal b c) t) (and_right (compared equal a d) (compared equal b c) t) in
        and_made (compared equal a' d') (compared equal b' c') two.0 two.1
    comparison_stays greater x y = at_most_stays (high_in g x) (low_in g y) (high_in h x) (low_in h y) (more x).bounds.high (more y).bounds.low
    comparison_stays at_least x y = less_stays (high_in g x) (low_in g y) (high_in h x) (low_in h y) (more x).bounds.high (more y).bounds.low
    comparison_stays less x y = at_least_stays (low_in g x) (high_in g y) (low_in h x) (high_in h y) (more x).bounds.low (more y).bounds.high
    comparison_stays at_most x y = greater_stays (low_in g x) (high_in g y) (low_in h x) (high_in h y) (more x).bounds.low (more y).bounds.high

    -- a NaN guard is never true, since no table counts NaNs
    never_counted : (c : Content) → c ≡ null → compared equal c (integer (pos 0)) ≡ boolean true → ⊥
    never_counted null e t = absurd (cc (t))
    never_counted c e t = absurd (cc (e))

    by_count_stays : (x : Expression) → Stays (no_nan_by_count x)
    by_count_stays x t = absurd (never_counted (g.placeholders x nan_count) (more x).nans_unknown.0 t)

    by_flag_stays : (x : Expression) → Stays (no_nan_by_flag x)
    by_flag_stays x t = let u = (more x).nans_unknown.1 in absurd (cc (t, u))

    guarded_stays : (guard : Expression → Expression) → ((x : Expression) → Stays (guard x)) → (b c : Bool) (x y proof : Expression) → Stays proof → Stays (guarded guard b c x y proof)
    guarded_stays guard s true true x y proof p = both_stay (both (guard x) (guard y)) proof (both_stay (guard x) (guard y) (s x) (s y)) p
    guarded_stays guard s true false x y proof p = both_stay (guard x) proof (s x) p
    guarded_stays guard s false true x y proof p = both_stay (guard y) proof (s y) p
    guarded_stays guard s false false x y proof p = p

    comparisons_stay : (op : Comparison) (x y : Expression) → MayStay (joined_proofs (comparison_falsifiers k op x y))
    comparisons_stay op x y = by_tests (not (is_comparable k x && is_comparable k y)) (is_float_placeholder k x || is_float_placeholder k y)
      where
        by_tests : (b c : Bool) → MayStay (joined_proofs (if b then [] else (if c
            then guarded no_nan_by_count (is_float_placeholder k x) (is_float_placeholder k y) x y (comparison_falsifier op x y)
            ∷ guarded no_nan_by_flag (is_float_placeholder k x) (is_float_placeholder k y) x y (comparison_falsifier op x y) ∷ []
            else comparison_falsifier op x y ∷ [])))
        by_tests true c = tt
        by_tests false false = comparison_stays op x y
        by_tests false true =
            either_stays (guarded no_nan_by_count (is_float_placeholder k x) (is_float_placeholder k y) x y (comparison_falsifier op x y))
            (guarded no_nan_by_flag (is_float_placeholder k x) (is_float_placeholder k y) x y (comparison_falsifier op x y))
            (guarded_stays no_nan_by_count by_count_stays (is_float_placeholder k x) (is_float_placeholder k y) x y (comparison_falsifier op x y) (comparison_stays op x y))
            (guarded_stays no_nan_by_flag by_flag_stays (is_float_placeholder k x) (is_float_placeholder k y) x y (comparison_falsifier op x y) (comparison_stays op x y))

    any_stays : (p q : Option Expression) → MayStay p → MayStay q → MayStay (either_there p q)
    any_stays (Some p) (Some q) a b = either_stays p q a b
    any_stays (Some p) None a b = a
    any_stays None q a b = b

    all_stay : (p q : Option Expression) → MayStay p → MayStay q → MayStay (both_there p q)
    all_stay (Some p) (Some q) a b = both_stay p q a b
    all_stay (Some p) None a b = tt
    all_stay None q a b = tt

    -- ---- LIKE

    outside_stays : (x : Expression) (below above : List ℕ) (op : Comparison) → (compared op (low_in g x) (text above) ≡ boolean true → compared op (low_in h x) (text above) ≡ boolean true) →
        Stays (outside x below above op)
    outside_stays x below above op s t = elim (or_one (compared op (low_in g x) (text above)) (compared less (high_in g x) (text below)) t) [
      | inl f ↦ or_made_left (compared op (low_in h x) (text above)) (compared less (high_in h x) (text below)) (s f)
      | inr f ↦ or_made_right (compared op (low_in h x) (text above)) (compared less (high_in h x) (text below))
          (less_stays (high_in g x) (text below) (high_in h x) (text below) (more x).bounds.high (itself_raised (text below)) f)
    ]

    shape_stays : (x : Expression) (s : Shape) → MayStay (shape_falsifier x s)
    shape_stays x (exact_text t) =
        let bs = encode_utf8_all t in
        outside_stays x bs bs greater (greater_stays (low_in g x) (text bs) (low_in h x) (text bs) (more x).bounds.low (itself_lowered (text bs)))
    shape_stays x (beginning t) = by_raised (raise (encode_utf8_all t))
      where
        by_raised : (o : Option (List ℕ)) → MayStay (option_map (λ above. outside x (encode_utf8_all t) above at_least) o)
        by_raised None = tt
        by_raised (Some above) =
            outside_stays x (encode_utf8_all t) above at_least (at_least_stays (low_in g x) (text above) (low_in h x) (text above) (more x).bounds.low (itself_lowered (text above)))
    shape_stays x no_shape = tt

    listed_stays : (o : Option Expression) → MayStay o → MayStay (joined_proofs (as_list o))
    listed_stays None a = tt
    listed_stays (Some p) a = a

    -- ---- falsifiers and satisfiers

    pub falsifier_stays : (e : Expression) → MayStay (falsifier k e)
    falsifier_stays (literal l (boolean b)) = λ t. t
    falsifier_stays (literal l c) = tt
    falsifier_stays (compare op x y) = comparisons_stay op x y
    falsifier_stays (both x y) = any_stays (falsifier k x) (falsifier k y) (falsifier_stays x) (falsifier_stays y)
    falsifier_stays (either x y) = all_stay (falsifier k x) (falsifier k y) (falsifier_stays x) (falsifier_stays y)
    falsifier_stays (between x lo hi s t) =
        any_stays (joined_proofs (comparison_falsifiers k (end_of s) lo x)) (joined_proofs (comparison_falsifiers k (end_of t) x hi))
        (comparisons_stay (end_of s) lo x) (comparisons_stay (end_of t) x hi)
    falsifier_stays (is_null_test x) = (more x).no_nulls
    falsifier_stays (is_not_null_test x) = (more x).only_nulls
    falsifier_stays (is_nan_test x) = by_test (is_of_floats k x)
      where
        by_test : (b : Bool) → MayStay (joined_proofs (if b then compare equal (nan_count_expression x) (count_literal 0) ∷ statistic x all_non_nan ∷ [] else []))
        by_test true = (more x).no_nans
        by_test false = tt
    falsifier_stays (like x (literal l (text form)) false false) = listed_stays (shape_falsifier x (shape_of (chars form))) (shape_stays x (shape_of (chars form)))
    falsifier_stays (like x form negated ignores_case) = tt
    falsifier_stays e = tt

    pub satisfier_stays : (e : Expression) → MayStay (satisfier k e)
    satisfier_stays (literal l (boolean b)) = λ t. t
    satisfier_stays (is_null_test x) = (more x).only_nulls
    satisfier_stays (is_not_null_test x) = (more x).no_nulls
    satisfier_stays (is_nan_test x) = by_test (is_of_floats k x)
      where
        by_test : (b : Bool) → MayStay (joined_proofs (if b then compare equal (nan_count_expression x) row_count ∷ statistic x all_nan ∷ [] else []))
        by_test true = (more x).only_nans
        by_test false = tt
    satisfier_stays e = tt

-- ---- values by zone maps

not_up : (v : Content) → is_null v ≡ false → le v null ≡ true → ⊥
not_up null e r = cc (e)
not_up v e r = absurd (cc (r))

pub null_is_least : (v w : Content) → is_null v ≡ false → le v w ≡ true → is_null w ≡ false
null_is_least v null e r = absurd (not_up v e r)
null_is_least v w e r = refl

raised_shown : (p q : Precision Content) → IsRaised (value_in p) (value_in q) → Raised (shown p) (shown q)
raised_shown (exact v) (exact w) r e = (null_is_least v w e r, inr r)
raised_shown (exact v) (inexact w) r e = (null_is_least v w e r, inr r)
raised_shown (exact v) absent r e = absurd r
raised_shown (inexact v) (exact w) r e = (null_is_least v w e r, inr r)
raised_shown (inexact v) (inexact w) r e = (null_is_least v w e r, inr r)
raised_shown (inexact v) absent r e = absurd r
raised_shown absent q r e = absurd (cc (e))

lowered_shown : (p q : Precision Content) → IsLowered (value_in p) (value_in q) → Lowered (shown p) (shown q)
lowered_shown (exact v) (exact w) r e = (r.0, inr r.1)
lowered_shown (exact v) (inexact w) r e = (r.0, inr r.1)
lowered_shown (exact v) absent r e = absurd r
lowered_shown (inexact v) (exact w) r e = (r.0, inr r.1)
lowered_shown (inexact v) (inexact w) r e = (r.0, inr r.1)
lowered_shown (inexact v) absent r e = absurd r
lowered_shown absent q r e = absurd (cc (e))

low_there : (p q : Precision Content) → IsRaised (value_in p) (value_in q) → is_null (shown p) ≡ false → value_in q ≡ Some (shown q)
low_there absent q r e = absurd (cc (e))
low_there p (exact w) r e = refl
low_there p (inexact w) r e = refl
low_there (exact v) absent r e = absurd r
low_there (inexact v) absent r e = absurd r

high_there : (p q : Precision Content) → IsLowered (value_in p) (value_in q) → is_null (shown p) ≡ false → value_in q ≡ Some (shown q)
high_there absent q r e = absurd (cc (e))
high_there p (exact w) r e = refl
high_there p (inexact w) r e = refl
high_there (exact v) absent r e = absurd r
high_there (inexact v) absent r e = absurd r

-- a count, by its two proofs
pub count_so : (a b : ℕ) → kleene_or (compared equal (integer (pos a)) (integer (pos b))) (boolean (a == b)) ≡ boolean true → a ≡ b
count_so a b t = elim (or_one (compared equal (integer (pos a)) (integer (pos b))) (boolean (a == b)) t) [
  | inl f ↦ number_so (equal_so (integer (pos a)) (integer (pos b)) f)
  | inr f ↦ eqb-true a b (true_so (a == b) f)
]
  where
    number_so : integer (pos a) ≡ integer (pos b) → a ≡ b
    number_so e = cc (e)

counted_so : (a b : ℕ) → a ≡ b → kleene_or (compared equal (integer (pos a)) (integer (pos b))) (boolean (a == b)) ≡ boolean true
counted_so a b e = or_made_right (compared equal (integer (pos a)) (integer (pos b))) (boolean (a == b)) (ap (λ x. boolean x) (eq-eqb a b e))

-- the null count of a literal, which is 0 or 1
literal_counted : (a n m : ℕ) → a < 2 → (n ≡ m) ⊎ (1 < n) →
    kleene_or (compared equal (integer (pos a)) (integer (pos n))) null ≡ boolean true → kleene_or (compared equal (integer (pos a)) (integer (pos m))) null ≡ boolean true
literal_counted a n m s (inl e) t = subst (λ x. kleene_or (compared equal (integer (pos a)) (integer (pos x))) null ≡ boolean true) e t
literal_counted a n m s (inr l) t = elim (or_one (compared equal (integer (pos a)) (integer (pos n))) null t) [
  | inl f ↦ absurd (let same : a ≡ n = number_so (equal_so (integer (pos a)) (integer (pos n)) f) in omega (arith, same, s, l))
  | inr f ↦ absurd (cc (f))
]
  where
    number_so : integer (pos a) ≡ integer (pos n) → a ≡ n
    number_so e = cc (e)

few : (b : Bool) → (if b then 1 else 0) < 2
few true = omega arith
few false = omega arith

module _ (k : LogicalType) (n m : ℕ) (rows : (n ≡ m) ⊎ (1 < n)) where
  abbrev by_zone : ℕ → Option ZoneMap → Given
  by_zone r p = record { columns = λ xs. null; placeholders = λ x a. told p r a; rows = r }

  zone_told : (xs : Names) (p q : Option ZoneMap) → TellsMore n m p q → IsToldMore k (by_zone n p) (by_zone m q) (column xs)
  zone_told xs None q r = record {
    bounds = record { low = λ e. absurd (cc (e)); high = λ e. absurd (cc (e)); ordered = λ e f o. absurd (cc (e)) };
    no_nulls = λ t. absurd (cc (t));
    only_nulls = λ t. absurd (cc (t));
    no_nans = λ t. absurd (cc (t));
    only_nans = λ t. absurd (cc (t));
    nans_unknown = (refl, refl);
  }
  zone_told xs (Some z) None r = absurd r
  zone_told xs (Some z) (Some w) r = record {
    bounds = record {
      low = raised_shown z.low w.low r.low;
      high = lowered_shown z.high w.high r.high;
      ordered = λ e f o. r.ordered (shown w.low) (shown w.high) (low_there z.low w.low r.low e) (high_there z.high w.high r.high f);
    };
    no_nulls = λ t. counted_so w.nulls 0 (r.none_null (count_so z.nulls 0 t));
    only_nulls = λ t. counted_so w.nulls m (r.only_null (count_so z.nulls n t));
    no_nans = λ t. absurd (cc (t));
    only_nans = λ t. absurd (cc (t));
    nans_unknown = (refl, refl);
  }

  module _ (wide narrow : Names → Option ZoneMap) (tighter : (xs : Names) → TellsMore n m (wide xs) (narrow xs)) where
    abbrev first : Given
    first = record { columns = λ xs. null; placeholders = known wide n; rows = n }

    abbrev later : Given
    later = record { columns = λ xs. null; placeholders = known narrow m; rows = m }

    told_more : (x : Expression) → IsToldMore k first later x
    told_more (literal l c) = record {
      bounds = record { low = itself_raised c; high = itself_lowered c; ordered = λ e f o. o refl };
      no_nulls = λ t. t;
      only_nulls = literal_counted (if is_null c then 1 else 0) n m (few (is_null c)) rows;
      no_nans = λ t. t;
      only_nans = literal_counted 0 n m (omega arith) rows;
      nans_unknown = (refl, refl);
    }
    told_more (column xs) =
        let r = zone_told xs (wide xs) (narrow xs) (tighter xs) in record {
          bounds = r.bounds;
          no_nulls = r.no_nulls;
          only_nulls = r.only_nulls;
          no_nans = r.no_nans;
          only_nans = r.only_nans;
          nans_unknown = r.nans_unknown;
        }
    told_more x = record {
      bounds = record { low = λ e. absurd (cc (e)); high = λ e. absurd (cc (e)); ordered = λ e f o. absurd (cc (e)) };
      no_nulls = λ t. absurd (cc (t));
      only_nulls = λ t. absurd (cc (t));
      no_nans = λ t. absurd (cc (t));
      only_nans = λ t. absurd (cc (t));
      nans_unknown = (refl, refl);
    }

    proved_later : (o : Option Expression) → MayStay k first later o → proves wide n o ≡ true → proves narrow m o ≡ true
    proved_later None s h = absurd (cc (h))
    proved_later (Some p) s h = ap is_true (s (truly (evaluate first p) h))

    pub stays_true : (e : Expression) → (proves wide n (falsifier k e) ≡ true → proves narrow m (falsifier k e) ≡ true) × (proves wide n (satisfier k e) ≡ true → proves narrow m (satisfier k e) ≡ true)
    stays_true e = (
      proved_later (falsifier k e) (falsifier_stays k first later told_more e),
      proved_later (satisfier k e) (satisfier_stays k first later told_more e),
    )
