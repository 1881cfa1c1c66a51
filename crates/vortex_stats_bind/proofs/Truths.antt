-- The booleans among operands.
use Rattle.std.proofs.Common.{◌≡◌, refl, sym, ap, ◌∙◌, ℕ, List, pos, Bool, true, false, not, Option, Some, None}
use Rattle.std.specs.Option.{unwrap_or}
use Rattle.vortex_model.specs.Content.{Content, content_of, null, boolean, integer, text, is_null, Raw, raw_boolean, raw_text}
use Rattle.vortex_model.specs.Order.{content_cmp}
use Rattle.vortex_model_table.specs.Truth.{kleene_and, kleene_not, kleene_or, is_true, liked}
use Rattle.vortex_scalar_value.specs.Parts.{boolean_in as raw_truth_in, text_in as raw_text_in}
use Rattle.vortex_scalar_value.specs.View.{raw_of}
use Rattle.vortex_scalar_value.specs.declared.pvalue.PValue.TheVariants as number
use Rattle.vortex_scalar_value.specs.declared.scalar_value.ScalarValue.{ScalarValue}
use Rattle.vortex_scalar_value.specs.declared.scalar_value.ScalarValue.TheVariants as value
use Rattle.vortex_scalar_value.proofs.Nulls.{is_null-raw_of}
use Rattle.vortex_scalar_value.proofs.Views.{raw_of-Bool, raw_of-Primitive}
use Rattle.vortex_stats_bind.specs.OperandValue.{boolean_in, text_in, order_of}

-- the boolean that a value is, is its content's
pub truth_said : (r : Raw) → raw_truth_in r ≡ boolean_in (content_of r)
truth_said (raw_boolean b) = refl
truth_said r = refl

pub ruleset stored = (truth_said)

-- the string of a value is that of its content
pub text_said : (r : Raw) → raw_text_in r ≡ text_in (content_of r)
text_said (raw_text bs) = refl
text_said r = refl

pub ruleset texts = (text_said)

pub ruleset nulls = (is_null-raw_of)

-- ---- the order of operands

pub none_right : (c : Content) → order_of c null ≡ None
none_right null = refl
none_right c = refl

present : (c d : Content) → is_null c ≡ false → is_null d ≡ false → order_of c d ≡ content_cmp c d
present null d g h = absurd (cc (g))
present c null g h = absurd (cc (h))
present c d g h = refl

pub both_stored : (v w : ScalarValue) → order_of (content_of (raw_of v)) (content_of (raw_of w)) ≡ content_cmp (content_of (raw_of v)) (content_of (raw_of w))
both_stored v w = present (content_of (raw_of v)) (content_of (raw_of w)) (is_null-raw_of v) (is_null-raw_of w)

-- a boolean is the content of a value of it
truth_is : (b : Bool) → boolean b ≡ content_of (raw_of (value.Bool b))
truth_is b = sym (ap content_of (raw_of-Bool b))

pub truth_left : (b : Bool) (c : Content) → order_of (boolean b) c ≡ order_of (content_of (raw_of (value.Bool b))) c
truth_left b c = ap (λ d. order_of d c) (truth_is b)

pub truth_right : (v : ScalarValue) (b : Bool) → order_of (content_of (raw_of v)) (boolean b) ≡ content_cmp (content_of (raw_of v)) (content_of (raw_of (value.Bool b)))
truth_right v b = ap (λ d. order_of (content_of (raw_of v)) d) (truth_is b) ∙ both_stored v (value.Bool b)

-- a count is what a number of it says
count_is : (n : ℕ) → integer (pos n) ≡ content_of (raw_of (value.Primitive (number.U64 n)))
count_is n = sym (ap content_of (raw_of-Primitive (number.U64 n)))

pub count_left : (n : ℕ) (c : Content) → order_of (integer (pos n)) c ≡ order_of (content_of (raw_of (value.Primitive (number.U64 n)))) c
count_left n c = ap (λ d. order_of d c) (count_is n)

pub count_right : (v : ScalarValue) (n : ℕ) → order_of (content_of (raw_of v)) (integer (pos n)) ≡ content_cmp (content_of (raw_of v)) (content_of (raw_of (value.Primitive (number.U64 n))))
count_right v n = ap (λ d. order_of (content_of (raw_of v)) d) (count_is n) ∙ both_stored v (value.Primitive (number.U64 n))

pub ruleset orders = (none_right, truth_left, truth_right, count_left, count_right, both_stored)

-- ---- Kleene's connectives

abbrev pub both_of : Option Bool → Option Bool → Content
both_of (Some false) q = boolean false
both_of p (Some false) = boolean false
both_of (Some true) (Some true) = boolean true
both_of p q = null

pub both_by_truths : (c d : Content) → kleene_and c d ≡ both_of (boolean_in c) (boolean_in d)
both_by_truths (boolean false) d = refl
both_by_truths (boolean true) (boolean false) = refl
both_by_truths (boolean true) (boolean true) = refl
both_by_truths (boolean true) d = refl
both_by_truths c (boolean false) = refl
both_by_truths c (boolean true) = refl
both_by_truths c d = refl

abbrev pub one_of : Option Bool → Option Bool → Content
one_of (Some true) q = boolean true
one_of p (Some true) = boolean true
one_of (Some false) (Some false) = boolean false
one_of p q = null

pub one_by_truths : (c d : Content) → kleene_or c d ≡ one_of (boolean_in c) (boolean_in d)
one_by_truths (boolean true) d = refl
one_by_truths (boolean false) (boolean true) = refl
one_by_truths (boolean false) (boolean false) = refl
one_by_truths (boolean false) d = refl
one_by_truths c (boolean true) = refl
one_by_truths c (boolean false) = refl
one_by_truths c d = refl

pub ruleset both = (both_by_truths)

pub ruleset one = (one_by_truths)

abbrev pub opposite_of : Option Bool → Content
opposite_of None = null
opposite_of (Some b) = boolean (not b)

pub opposite_by_truth : (c : Content) → kleene_not c ≡ opposite_of (boolean_in c)
opposite_by_truth (boolean b) = refl
opposite_by_truth c = refl

pub ruleset opposite = (opposite_by_truth)

-- neither false nor null
pub true_by_truth : (c : Content) → is_true c ≡ unwrap_or (boolean_in c) false
true_by_truth (boolean b) = refl
true_by_truth c = refl

pub ruleset is_true_by = (true_by_truth)

-- ---- LIKE

abbrev pub like_by : Option (List ℕ) → Option (List ℕ) → Bool → Content
like_by (Some value) (Some form) negated = liked (text value) (text form) negated
like_by o p negated = null

pub like_by_texts : (c d : Content) (negated : Bool) → liked c d negated ≡ like_by (text_in c) (text_in d) negated
like_by_texts (text value) (text form) negated = refl
like_by_texts (text value) d negated = refl
like_by_texts c d negated = refl

pub ruleset like_of = (like_by_texts)
