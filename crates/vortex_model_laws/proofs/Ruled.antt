-- The falsifier of a predicate of the wide class is true by zone maps exactly where their box is
-- hopeless.
use Rattle.std.proofs.Common.{◌≡◌, refl, sym, ◌∙◌, ap, subst, ℕ, pos, ◌<◌, ◌==◌, arith, List, [], ◌∷◌, ◌++◌, Bool, true, false, not, ◌||◌, Option, Some, None, option_map, inl, inr, IsUtf8, chars}
use Rattle.std.specs.Prelude.{◌↔◌}
use Rattle.std.specs.Str.{encode_utf8_all}
use Rattle.std.proofs.lemmas.Str.{scalars-chars}
use Rattle.std.specs.Cmp.{first_so, second_so}
use Rattle.std.proofs.lemmas.Bool.{not-true}
use Rattle.vortex_model.specs.LogicalType.{LogicalType, Nullability, utf8}
use Rattle.vortex_model.specs.Content.{Content, null, boolean, integer, text, is_null}
use Rattle.vortex_model.specs.Path.{Names}
use Rattle.vortex_model_table.specs.Bounds.{IsAtMostBytes, IsRaise, raise}
use Rattle.vortex_model_table.specs.Expression.{Expression, literal, column, compare, both, either, is_null as is_null_test, is_not_null as is_not_null_test, between, like, row_count, statistic, Comparison, equal, not_equal, greater, at_least, less, at_most, min, max, null_count, all_null, all_non_null}
use Rattle.vortex_model_table.specs.Truth.{Given, evaluate, compared, kleene_and, kleene_or, liked, is_true}
use Rattle.vortex_model_table.specs.Statistics.{Precision, exact, inexact, absent, shown}
use Rattle.vortex_model_table.specs.ZoneMap.{ZoneMap, value_in}
use Rattle.vortex_model_table.specs.Rewrite.{bound_expression, comparison_falsifier, boolean_literal, count_literal, joined_proofs, as_list, Shape, exact_text, beginning, no_shape, shape_of, outside, shape_falsifier, either_there, both_there, falsifier}
use Rattle.vortex_model_table.specs.Scan.{told, known, proves}
use Rattle.vortex_model_table.specs.Class.{Box, box_of, unknown_zone, IsFrom, IsUpTo, IsIn, Hopeless, of_choice, is_there, is_wide}
use Rattle.vortex_model_laws.proofs.BoundFunctions.{raise_by_function}
use Rattle.vortex_model_laws.proofs.ByteOrder.{upto_refl}
use Rattle.vortex_model_table.proofs.ContentOrder.{Bounds, le, by_le, Between, passing, none_equal, none_equal_back, none_not_equal, none_greater, none_at_least, none_less, none_at_most}
use Rattle.vortex_model_laws.proofs.Hopeless.{and_left, and_right, or_one}
use Rattle.vortex_model_laws.proofs.Likes.{Fits, matched, shape_fits, exact_bytes, beginning_upto, beginning_below}
use Rattle.vortex_model_laws.proofs.Skipping.{truly}
use Rattle.vortex_model_laws.proofs.Texts.{IsTextual}
use Rattle.vortex_model_laws.proofs.Complete.{either_way, proof_value, fails_value, made, or_cases, is_side, lows, highs, IsSide, IsLikeable, IsGood, tree_fails, reached}
use Rattle.vortex_model_laws.proofs.Liked.{IsTextForm, IsPrefixForm, form_cases, like_fails}
use Rattle.vortex_model_laws.proofs.Tighter.{and_made, or_made_left, or_made_right, count_so}

told_low : (o : Option ZoneMap) (rows : ℕ) → told o rows min ≡ shown (elim o as (λ x. ZoneMap) [ None ↦ unknown_zone | Some z ↦ z ]).low
told_low None rows = refl
told_low (Some z) rows = refl

told_high : (o : Option ZoneMap) (rows : ℕ) → told o rows max ≡ shown (elim o as (λ x. ZoneMap) [ None ↦ unknown_zone | Some z ↦ z ]).high
told_high None rows = refl
told_high (Some z) rows = refl

from_bound : (p : Precision Content) (v : Content) → IsFrom p v → is_null (shown p) ≡ false → Bounds (shown p) v
from_bound (exact b) v h m = inr h
from_bound (inexact b) v h m = inr h
from_bound absent v h m = absurd (cc (m))

to_bound : (p : Precision Content) (v : Content) → IsUpTo p v → is_null (shown p) ≡ false → Bounds v (shown p)
to_bound (exact b) v h m = inr h
to_bound (inexact b) v h m = inr h
to_bound absent v h m = absurd (cc (m))

pub from_made : (p : Precision Content) (v : Content) → le (shown p) v ≡ true → IsFrom p v
from_made (exact b) v h = h
from_made (inexact b) v h = h
from_made absent v h = tt

pub to_made : (p : Precision Content) (v : Content) → le v (shown p) ≡ true → IsUpTo p v
to_made (exact b) v h = h
to_made (inexact b) v h = h
to_made absent v h = tt

pub there_value : (p : Precision Content) → is_there p ≡ true → value_in p ≡ Some (shown p)
there_value (exact b) h = refl
there_value (inexact b) h = refl
there_value absent h = absurd (cc (h))

-- ---- null counts

abbrev zone_in : Option ZoneMap → ZoneMap
zone_in o = elim o [ None ↦ unknown_zone | Some z ↦ z ]

module _ (o : Option ZoneMap) (rows : ℕ) where
  -- the values of the proofs that no row is null, and that all are
  abbrev none_null : Content
  none_null = kleene_or (compared equal (told o rows null_count) (integer (pos 0))) (told o rows all_non_null)

  abbrev only_null : Content
  only_null = kleene_or (compared equal (told o rows null_count) (integer (pos rows))) (told o rows all_null)

none_null_made : (o : Option ZoneMap) (rows : ℕ) → 0 < (zone_in o).rows → ((zone_in o).nulls == 0) ≡ true → none_null o rows ≡ boolean true
none_null_made None rows some e = absurd (omega (arith, some))
none_null_made (Some z) rows some e = or_made_right (compared equal (integer (pos z.nulls)) (integer (pos 0))) (boolean (z.nulls == 0)) (ap (λ b. boolean b) e)

none_null_so : (o : Option ZoneMap) (rows : ℕ) → none_null o rows ≡ boolean true → (zone_in o).nulls ≡ 0
none_null_so None rows t = absurd (cc (t))
none_null_so (Some z) rows t = count_so z.nulls 0 t

only_null_made : (o : Option ZoneMap) (rows : ℕ) → ((z : ZoneMap) → o ≡ Some z → z.rows ≡ rows) → 0 < (zone_in o).rows → ((zone_in o).nulls == (zone_in o).rows) ≡ true →
    only_null o rows ≡ boolean true
only_null_made None rows even some e = absurd (omega (arith, some))
only_null_made (Some z) rows even some e =
    let all : (z.nulls == rows) ≡ true = ap (λ m. z.nulls == m) (sym (even z refl)) ∙ e in
    or_made_right (compared equal (integer (pos z.nulls)) (integer (pos rows))) (boolean (z.nulls == rows)) (ap (λ b. boolean b) all)

only_null_so : (o : Option ZoneMap) (rows : ℕ) → ((z : ZoneMap) → o ≡ Some z → z.rows ≡ rows) → only_null o rows ≡ boolean true → (zone_in o).nulls ≡ (zone_in o).rows
only_null_so None rows even t = absurd (cc (t))
only_null_so (Some z) rows even t = count_so z.nulls rows t ∙ sym (even z refl)

-- a list of one proof
listed_alone : (o : Option Expression) → joined_proofs (as_list o) ≡ o
listed_alone None = refl
listed_alone (Some p) = refl

-- ---- the proof and the box

module _ (k : LogicalType) (zones : Names → Option ZoneMap) (rows : ℕ) (even : (xs : Names) (z : ZoneMap) → zones xs ≡ Some z → z.rows ≡ rows) where
  abbrev box : Box
  box = box_of zones

  abbrev g : Given
  g = record { columns = λ xs. null; placeholders = known zones rows; rows = rows }

  low_value : (x : Expression) → is_side x ≡ true → evaluate g (bound_expression min x) ≡ evaluate (of_choice (lows k box)) x
  low_value (column xs) w = told_low (zones xs) rows
  low_value (literal l c) w = refl
  low_value x w = absurd (cc (w))

  high_value : (x : Expression) → is_side x ≡ true → evaluate g (bound_expression max x) ≡ evaluate (of_choice (highs k box)) x
  high_value (column xs) w = told_high (zones xs) rows
  high_value (literal l c) w = refl
  high_value x w = absurd (cc (w))

  proof_is : (op : Comparison) (x y : Expression) → is_side x ≡ true → is_side y ≡ true → evaluate g (comparison_falsifier op x y)
      ≡ proof_value op (evaluate (of_choice (lows k box)) x) (evaluate (of_choice (highs k box)) x) (evaluate (of_choice (lows k box)) y) (evaluate (of_choice (highs k box)) y)
  proof_is equal x y v w = λ i. kleene_or (compared greater (low_value x v i) (high_value y w i)) (compared greater (low_value y w i) (high_value x v i))
  proof_is not_equal x y v w = λ i. kleene_and (compared equal (low_value x v i) (high_value y w i)) (compared equal (high_value x v i) (low_value y w i))
  proof_is greater x y v w = λ i. compared at_most (high_value x v i) (low_value y w i)
  proof_is at_least x y v w = λ i. compared less (high_value x v i) (low_value y w i)
  proof_is less x y v w = λ i. compared at_least (low_value x v i) (high_value y w i)
  proof_is at_most x y v w = λ i. compared greater (low_value x v i) (high_value y w i)

  -- ---- LIKE

  abbrev low_end : Expression → Content
  low_end x = evaluate (of_choice (lows k box)) x

  abbrev high_end : Expression → Content
  high_end x = evaluate (of_choice (highs k box)) x

  outside_value : (x : Expression) (below above : List ℕ) (op : Comparison) → is_side x ≡ true →
      evaluate g (outside x below above op) ≡ kleene_or (compared op (low_end x) (text above)) (compared less (high_end x) (text below))
  outside_value x below above op w = λ i. kleene_or (compared op (low_value x w i) (text above)) (compared less (high_value x w i) (text below))

  outside_made : (x : Expression) (n : Nullability) (below above : List ℕ) (op : Comparison) → IsSide k box (utf8 n) x → IsUtf8 below → IsUtf8 above →
      by_le op (le (low_end x) (text above)) (le (text above) (low_end x)) || not (le (text below) (high_end x)) ≡ true → evaluate g (outside x below above op) ≡ boolean true
  outside_made x n below above op s u v h =
      let low_out = compared op (low_end x) (text above) in let high_out = compared less (high_end x) (text below) in
      let test = by_le op (le (low_end x) (text above)) (le (text above) (low_end x)) in
      outside_value x below above op s.single
      ∙ elim (or_cases k test (not (le (text below) (high_end x))) h) [
        | inl e ↦ or_made_left low_out high_out (made (utf8 n) op (low_end x) (text above) s.low v e)
        | inr e ↦ or_made_right low_out high_out (made (utf8 n) less (high_end x) (text below) s.high u e)
      ]

  abbrev LikeThere : Expression → LogicalType → List ℕ → Type 0
  LikeThere x l form = (p : Expression) × (falsifier k (like x (literal l (text form)) false false) ≡ Some p)
      × (like_fails (shape_of (chars form)) (low_end x) (high_end x) ≡ true → evaluate g p ≡ boolean true)

  text_there : (x : Expression) (l : LogicalType) (form : List ℕ) → IsLikeable k box x form → IsTextForm form → LikeThere x l form
  text_there x l form h e =
      let bs = encode_utf8_all (chars form) in let valid : IsUtf8 bs = (chars form, (scalars-chars form h.valid, refl)) in (
        outside x bs bs greater,
        listed_alone (shape_falsifier x (shape_of (chars form))) ∙ ap (shape_falsifier x) e.shape,
        λ f. outside_made x h.nullability bs bs greater h.side valid valid (ap (λ s. like_fails s (low_end x) (high_end x)) (sym e.shape) ∙ f),
      )

  prefix_there : (x : Expression) (l : LogicalType) (form : List ℕ) → IsLikeable k box x form → IsPrefixForm form → LikeThere x l form
  prefix_there x l form h e =
      let p = encode_utf8_all e.begin in let s = encode_utf8_all (e.front ++ e.higher ∷ []) in
      let valid : IsUtf8 p = (e.begin, (e.valid, refl)) in let raised : IsRaise p (Some s) = subst (IsRaise p) e.raised (raise_by_function p valid) in (
        outside x p s at_least,
        listed_alone (shape_falsifier x (shape_of (chars form))) ∙ ap (shape_falsifier x) e.shape ∙ ap (option_map (λ above. outside x p above at_least)) e.raised,
        λ f. outside_made x h.nullability p s at_least h.side valid raised.0
            (ap (λ o. elim o as (λ o. Bool) [ None ↦ false | Some above ↦ le (text above) (low_end x) || not (le (text p) (high_end x)) ]) (sym e.raised)
            ∙ ap (λ sh. like_fails sh (low_end x) (high_end x)) (sym e.shape) ∙ f),
      )

  like_there : (x : Expression) (l : LogicalType) (form : List ℕ) → IsLikeable k box x form → LikeThere x l form
  like_there x l form h = elim (form_cases form h.valid h.formed) [ inl e ↦ text_there x l form h e | inr e ↦ prefix_there x l form h e ]

  -- the falsifier exists, and is true where the box rules the tree out
  pub there : (e : Expression) → IsGood k box e → (p : Expression) × (falsifier k e ≡ Some p) × (tree_fails k box e ≡ true → evaluate g p ≡ boolean true)
  there (compare op x y) h = (
    comparison_falsifier op x y,
    h.3,
    λ f. proof_is op x y h.1.single h.2.single
        ∙ fails_value h.0 op (evaluate (of_choice (lows k box)) x) (evaluate (of_choice (highs k box)) x) (evaluate (of_choice (lows k box)) y) (evaluate (of_choice (highs k box)) y) h.1.low h.1.high h.2.low h.2.high f,
  )
  there (both x y) h =
      let a = there x h.0 in let b = there y h.1 in (
        either a.0 b.0,
        (λ i. either_there (a.1 i) (b.1 i)),
        λ f. elim (or_cases k (tree_fails k box x) (tree_fails k box y) f) [
          | inl e ↦ or_made_left (evaluate g a.0) (evaluate g b.0) (a.2 e)
          | inr e ↦ or_made_right (evaluate g a.0) (evaluate g b.0) (b.2 e)
        ],
      )
  there (either x y) h =
      let a = there x h.0 in let b = there y h.1 in (
        both a.0 b.0,
        (λ i. both_there (a.1 i) (b.1 i)),
        λ f. and_made (evaluate g a.0) (evaluate g b.0) (a.2 (first_so (tree_fails k box x) (tree_fails k box y) f)) (b.2 (second_so (tree_fails k box x) (tree_fails k box y) f)),
      )
  there (literal l (boolean b)) h = (boolean_literal (not b), refl, λ f. ap (λ x. boolean x) f)
  there (between x (literal l c) (literal m d) false false) h =
      let u = h.0 in let s = h.1 in let a = evaluate (of_choice (lows k box)) x in let b = evaluate (of_choice (highs k box)) x in
      let p = comparison_falsifier at_most (literal l c) x in let q = comparison_falsifier at_most x (literal m d) in (
        either p q,
        h.5,
        λ f. elim (or_cases k (not (le c b)) (not (le a d)) f) [
          | inl e ↦ or_made_left (evaluate g p) (evaluate g q) (proof_is at_most (literal l c) x refl s.single ∙ fails_value u at_most c c a b h.2 h.2 s.low s.high e)
          | inr e ↦ or_made_right (evaluate g p) (evaluate g q) (proof_is at_most x (literal m d) s.single refl ∙ fails_value u at_most a b d d s.low s.high h.3 h.3 e)
        ],
      )
  there (is_null_test (column xs)) h =
      (either (compare equal (statistic (column xs) null_count) (count_literal 0)) (statistic (column xs) all_non_null), refl, λ f. none_null_made (zones xs) rows h.some f)
  there (is_not_null_test (column xs)) h =
      (either (compare equal (statistic (column xs) null_count) row_count) (statistic (column xs) all_null), refl, λ f. only_null_made (zones xs) rows (even xs) h.some f)
  there (like x (literal l (text form)) false false) h = let r = like_there x l form h in (r.0, r.1, r.2)
  there e h = absurd h

  -- ---- a true proof: no choice in the box makes the tree true

  module _ (choice : Names → Content) where
    abbrev RulesOut : Option Expression → Content → Type 0
    RulesOut None v = Unit {0}
    RulesOut (Some p) v = evaluate g p ≡ boolean true → ¬ (v ≡ boolean true)

    side_between : (x : Expression) → is_side x ≡ true → IsIn k box choice x → Between (evaluate g (bound_expression min x)) (evaluate g (bound_expression max x)) (evaluate (of_choice choice) x)
    side_between (column xs) w h =
        subst (λ a. Between a (told (zones xs) rows max) (choice xs)) (sym (told_low (zones xs) rows))
        (subst (λ b. Between (shown (box xs).low) b (choice xs)) (sym (told_high (zones xs) rows))
        (record { from = λ m n. from_bound (box xs).low (choice xs) h.from m; to = λ m n. to_bound (box xs).high (choice xs) h.to m }))
    side_between (literal l c) w h = record { from = λ m n. inl refl; to = λ m n. inl refl }
    side_between x w h = absurd (cc (w))

    comparison_ruled : (op : Comparison) (x y : Expression) (a b c d u v : Content) → Between a b u → Between c d v → proof_value op a b c d ≡ boolean true → compared op u v ≡ boolean true → ⊥
    comparison_ruled equal x y a b c d u v p q t e = elim (or_one (compared greater a d) (compared greater c b) t) [
      | inl f ↦ none_equal a b c d u v p q (passing equal u v e) (passing greater a d f)
      | inr f ↦ none_equal_back a b c d u v p q (passing equal u v e) (passing greater c b f)
    ]
    comparison_ruled not_equal x y a b c d u v p q t e =
        none_not_equal a b c d u v p q (passing not_equal u v e) (passing equal a d (and_left (compared equal a d) (compared equal b c) t)) (passing equal b c (and_right (compared equal a d) (compared equal b c) t))
    comparison_ruled greater x y a b c d u v p q t e = none_greater a b c d u v p q (passing greater u v e) (passing at_most b c t)
    comparison_ruled at_least x y a b c d u v p q t e = none_at_least a b c d u v p q (passing at_least u v e) (passing less b c t)
    comparison_ruled less x y a b c d u v p q t e = none_less a b c d u v p q (passing less u v e) (passing at_least a d t)
    comparison_ruled at_most x y a b c d u v p q t e = none_at_most a b c d u v p q (passing at_most u v e) (passing greater a d t)

    by_bounds : (op : Comparison) (x y : Expression) → evaluate g (comparison_falsifier op x y)
        ≡ proof_value op (evaluate g (bound_expression min x)) (evaluate g (bound_expression max x)) (evaluate g (bound_expression min y)) (evaluate g (bound_expression max y))
    by_bounds equal x y = refl
    by_bounds not_equal x y = refl
    by_bounds greater x y = refl
    by_bounds at_least x y = refl
    by_bounds less x y = refl
    by_bounds at_most x y = refl

    true_so : (b : Bool) → boolean b ≡ boolean true → b ≡ true
    true_so true h = refl
    true_so false h = absurd (cc (h))

    not_both : (b : Bool) → not b ≡ true → b ≡ true → ⊥
    not_both true p q = cc (p)
    not_both false p q = cc (q)

    any_rules : (p q : Option Expression) (x y : Content) → RulesOut p x → RulesOut q y → RulesOut (either_there p q) (kleene_and x y)
    any_rules (Some p) (Some q) x y f h = λ t e. elim (or_one (evaluate g p) (evaluate g q) t) [ inl s ↦ f s (and_left x y e) | inr s ↦ h s (and_right x y e) ]
    any_rules (Some p) None x y f h = λ t e. f t (and_left x y e)
    any_rules None (Some q) x y f h = λ t e. h t (and_right x y e)
    any_rules None None x y f h = tt

    all_rule : (p q : Option Expression) (x y : Content) → RulesOut p x → RulesOut q y → RulesOut (both_there p q) (kleene_or x y)
    all_rule (Some p) (Some q) x y f h = λ t e. elim (or_one x y e) [
      | inl s ↦ f (and_left (evaluate g p) (evaluate g q) t) s
      | inr s ↦ h (and_right (evaluate g p) (evaluate g q) t) s
    ]
    all_rule (Some p) None x y f h = tt
    all_rule None q x y f h = tt

    rules_true : (o : Option Expression) (v : Content) → (v ≡ boolean true → RulesOut o v) → RulesOut o v
    rules_true None v h = tt
    rules_true (Some p) v h = λ t e. h e t e

    own : (c : Content) → Between c c c
    own c = record { from = λ m n. inl refl; to = λ m n. inl refl }

    outside_ruled : (x : Expression) (v below above : List ℕ) (op : Comparison) → Between (evaluate g (bound_expression min x)) (evaluate g (bound_expression max x)) (text v) →
        (compared op (evaluate g (bound_expression min x)) (text above) ≡ boolean true → ⊥) → IsAtMostBytes below v → evaluate g (outside x below above op) ≡ boolean true → ⊥
    outside_ruled x v below above op p over under t =
        let a = evaluate g (bound_expression min x) in let b = evaluate g (bound_expression max x) in
        elim (or_one (compared op a (text above)) (compared less b (text below)) t) [
          | inl f ↦ over f
          | inr f ↦ none_at_least a b (text below) (text below) (text v) (text below) p (own (text below)) (record { left = refl; right = refl; test = under }) (passing less b (text below) f)
        ]

    shape_ruled : (x : Expression) (v : List ℕ) (s : Shape) → Between (evaluate g (bound_expression min x)) (evaluate g (bound_expression max x)) (text v) → IsUtf8 v → Fits s (chars v) →
        (w : Content) → RulesOut (shape_falsifier x s) w
    shape_ruled x v (exact_text t) p u f w = λ h e.
        let a = evaluate g (bound_expression min x) in let b = evaluate g (bound_expression max x) in let bs = encode_utf8_all t in
        let same : v ≡ bs = exact_bytes v t u f in
        outside_ruled x v bs bs greater p
        (λ m. none_at_most a b (text bs) (text bs) (text v) (text bs) p (own (text bs)) (record { left = refl; right = refl; test = subst (λ y. IsAtMostBytes v y) same (upto_refl v) })
        (passing greater a (text bs) m))
        (subst (λ y. IsAtMostBytes y v) same (upto_refl v)) h
    shape_ruled x v (beginning t) p u f w = by_raised (raise (encode_utf8_all t)) refl
      where
        by_raised : (o : Option (List ℕ)) → raise (encode_utf8_all t) ≡ o → RulesOut (option_map (λ above. outside x (encode_utf8_all t) above at_least) o) w
        by_raised None r = tt
        by_raised (Some above) r = λ h e.
            let a = evaluate g (bound_expression min x) in let b = evaluate g (bound_expression max x) in
            outside_ruled x v (encode_utf8_all t) above at_least p
            (λ m. none_less a b (text above) (text above) (text v) (text above) p (own (text above))
            (passing less (text v) (text above) (ap (λ c. boolean c) (beginning_below v t f.0 above u f.1 r))) (passing at_least a (text above) m))
            (beginning_upto v t f.0 u f.1) h
    shape_ruled x v no_shape p u f w = tt

    like_ruled : (x : Expression) (form : List ℕ) (c : Content) → Between (evaluate g (bound_expression min x)) (evaluate g (bound_expression max x)) c → IsTextual c → IsUtf8 form →
        RulesOut (shape_falsifier x (shape_of (chars form))) (liked c (text form) false)
    like_ruled x form c p u valid = rules_true (shape_falsifier x (shape_of (chars form))) (liked c (text form) false) (λ e.
        let m = matched c form e in
        let a = evaluate g (bound_expression min x) in let b = evaluate g (bound_expression max x) in
        shape_ruled x m.value (shape_of (chars form)) (subst (Between a b) m.is p) (subst IsTextual m.is u) (shape_fits form m.value valid m.free m.like) (liked c (text form) false))

    rules : (e : Expression) → IsGood k box e → IsIn k box choice e → RulesOut (falsifier k e) (evaluate (of_choice choice) e)
    rules (compare op x y) h i =
        subst (λ o. RulesOut o (evaluate (of_choice choice) (compare op x y))) (sym h.3)
        (λ t e. comparison_ruled op x y (evaluate g (bound_expression min x)) (evaluate g (bound_expression max x)) (evaluate g (bound_expression min y)) (evaluate g (bound_expression max y))
        (evaluate (of_choice choice) x) (evaluate (of_choice choice) y) (side_between x h.1.single i.0) (side_between y h.2.single i.1) (sym (by_bounds op x y) ∙ t) e)
    rules (both x y) h i = any_rules (falsifier k x) (falsifier k y) (evaluate (of_choice choice) x) (evaluate (of_choice choice) y) (rules x h.0 i.0) (rules y h.1 i.1)
    rules (either x y) h i = all_rule (falsifier k x) (falsifier k y) (evaluate (of_choice choice) x) (evaluate (of_choice choice) y) (rules x h.0 i.0) (rules y h.1 i.1)
    rules (literal l (boolean b)) h i = λ t e. not_both b (true_so (not b) t) (true_so b e)
    rules (between x (literal l c) (literal m d) false false) h i =
        let v = evaluate (of_choice choice) x in let s = side_between x h.1.single i.0 in
        let a = evaluate g (bound_expression min x) in let b = evaluate g (bound_expression max x) in
        subst (λ o. RulesOut o (kleene_and (compared at_most c v) (compared at_most v d))) (sym h.5)
        (any_rules (Some (comparison_falsifier at_most (literal l c) x)) (Some (comparison_falsifier at_most x (literal m d))) (compared at_most c v) (compared at_most v d)
        (λ t e. comparison_ruled at_most (literal l c) x c c a b c v (own c) s t e)
        (λ t e. comparison_ruled at_most x (literal m d) a b d d v d s (own d) t e))
    rules (is_null_test (column xs)) h i = λ t e.
        i.at_null (true_so (is_null (choice xs)) e) (none_null_so (zones xs) rows t)
    rules (is_not_null_test (column xs)) h i = λ t e.
        let none : is_null (choice xs) ≡ false = not-true (is_null (choice xs)) (true_so (not (is_null (choice xs))) e) in
        let lt = (i.at_value none).1 in let all = only_null_so (zones xs) rows (even xs) t in omega (arith, lt, all)
    rules (like x (literal l (text form)) false false) h i =
        let c = evaluate (of_choice choice) x in
        subst (λ o. RulesOut o (liked c (text form) false)) (sym (listed_alone (shape_falsifier x (shape_of (chars form)))))
        (like_ruled x form c (side_between x h.side.single i.0) (h.texts choice i.0) h.valid)
    rules e h i = absurd h

    none_true : (o : Option Expression) (v : Content) → RulesOut o v → proves zones rows o ≡ true → ¬ (v ≡ boolean true)
    none_true None v r h = absurd (cc (h))
    none_true (Some p) v r h = r (truly (evaluate g p) h)

  -- ---- both ways

  pub exactly : (e : Expression) → IsGood k box e → is_wide e ≡ true → (proves zones rows (falsifier k e) ≡ true) ↔ Hopeless k e box
  exactly e h wide = (
    (λ proved choice inside. none_true choice (falsifier k e) (evaluate (of_choice choice) e) (rules choice e h inside) proved),
    (λ hopeless. either_way (tree_fails k box e)
        (λ f. let p = there e h in ap (proves zones rows) p.1 ∙ ap is_true (p.2 f))
        (λ f. let r = reached k box e h wide f in absurd (hopeless r.choice r.inside r.holds))),
  )
