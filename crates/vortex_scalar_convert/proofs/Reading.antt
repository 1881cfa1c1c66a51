-- Native values of values, form by form.
use Rattle.std.proofs.Math.Bool.{and-false}
use Rattle.std.proofs.Common.{◌≡◌, ◌&&◌, ◌<◌, ◌≤◌, ◌+◌, ◌++◌, ℕ, ℤ, Bool, true, false, List, [], ◌∷◌, length, take, drop, get_or, map, Option, Some, None, option_copied, Bor, refl, sym, ap, ◌∙◌}
use Rattle.std.proofs.lemmas.List.{take_more, drop_more, map_push, take_all, drop_all}
use Rattle.vortex_model.specs.LogicalType.{LogicalType, IntKind}
use Rattle.vortex_model.specs.Content.{Content, boolean, integer, text, byte_string, tuple, contents_from, Raw, raw_boolean, raw_number, raw_text, raw_byte_string, raw_tuple, content_of, contents_of, Raws}
use Rattle.vortex_scalar_value.specs.Parts.{boolean_in, text_in, byte_string_in, items_in, has_whole, whole_number_in}
use Rattle.vortex_scalar_value.specs.View.{raws_in, content_in, content_at}
use Rattle.vortex_scalar_value.specs.declared.scalar_value.ScalarValue.{ScalarValue}
use Rattle.vortex_scalar_value.proofs.Views.{contents_of-raws_in}
use Rattle.vortex_scalar_ops.proofs.Casts.{content_at-copied}
use Rattle.vortex_scalar_convert.specs.Reading.{is_boolean_content, is_whole_of, is_text, is_byte_string, all_read, reads_list}

-- ---- booleans

pub truth_read : (r : Raw) (b : Bool) → Some b ≡ boolean_in r → (is_boolean_content (content_of r) ≡ true) × (boolean b ≡ content_of r)
truth_read (raw_boolean a) b e = (refl, ap (λ x. boolean x) (cc (e)))
truth_read r b e = absurd (cc (e))

pub no_truth : (r : Raw) → None ≡ boolean_in r → is_boolean_content (content_of r) ≡ false
no_truth (raw_boolean a) e = absurd (cc (e))
no_truth r e = refl

pub ruleset truths = (truth_read, no_truth, and-false)

-- ---- integers

pub whole_fits : (i : IntKind) (r : Raw) → has_whole i r ≡ is_whole_of i (content_of r)
whole_fits i (raw_number j z) = refl
whole_fits i r = refl

pub whole_read : (r : Raw) (z : ℤ) → whole_number_in r ≡ Some z → integer z ≡ content_of r
whole_read (raw_number j y) z e = ap (λ x. integer x) (sym (cc (e)))
whole_read r z e = absurd (cc (e))

pub ruleset numbers = (whole_fits, whole_read, and-false)

-- ---- strings and bytes

pub text_read : (r : Raw) (t : List ℕ) → Some t ≡ text_in r → (is_text (content_of r) ≡ true) × (text t ≡ content_of r)
text_read (raw_text a) b e = (refl, ap (λ x. text x) (cc (e)))
text_read r b e = absurd (cc (e))

pub no_text : (r : Raw) → None ≡ text_in r → is_text (content_of r) ≡ false
no_text (raw_text a) e = absurd (cc (e))
no_text r e = refl

pub ruleset texts = (text_read, no_text, and-false)

pub byte_string_read : (r : Raw) (t : List ℕ) → Some t ≡ byte_string_in r → (is_byte_string (content_of r) ≡ true) × (byte_string t ≡ content_of r)
byte_string_read (raw_byte_string a) b e = (refl, ap (λ x. byte_string x) (cc (e)))
byte_string_read r b e = absurd (cc (e))

pub no_blob : (r : Raw) → None ≡ byte_string_in r → is_byte_string (content_of r) ≡ false
no_blob (raw_byte_string a) e = absurd (cc (e))
no_blob r e = refl

pub ruleset byte_strings = (byte_string_read, no_blob, and-false)

-- ---- one after another

-- the first of the items that are left, and the rest
pub next_read : (reads : LogicalType → Content → Bool) (k : LogicalType) (ws : List (Option ScalarValue)) (i : ℕ) (w : Option ScalarValue) (o : Option (Bor ScalarValue)) → i < length ws → w ≡ get_or ws i w → option_copied o ≡ w →
    all_read reads k (contents_of (raws_in (drop i ws))) ≡ reads k (content_at o) && all_read reads k (contents_of (raws_in (drop (i + 1) ws)))
next_read reads k ws i w o h e c =
    let split : drop i ws ≡ w ∷ drop (i + 1) ws = drop_more ws i w h ∙ ap (λ u. u ∷ drop (i + 1) ws) (sym e) in
    let at : content_in w ≡ content_at o = sym (content_at-copied o ∙ ap (λ u. content_in u) c) in
    ap (λ us. all_read reads k (contents_of (raws_in us))) split ∙ ap (λ x. reads k x && all_read reads k (contents_of (raws_in (drop (i + 1) ws)))) at

pub none_left : (reads : LogicalType → Content → Bool) (k : LogicalType) (ws : List (Option ScalarValue)) (i : ℕ) → length ws ≤ i → all_read reads k (contents_of (raws_in (drop i ws))) ≡ true
none_left reads k ws i h = ap (λ us. all_read reads k (contents_of (raws_in us))) (drop_all i ws h)

-- the values read so far, and one more
pub one_more : {A : Type 0} → (says : A → Content) (vs : List A) (ws : List (Option ScalarValue)) (i : ℕ) (v : A) (w : Option ScalarValue) (o : Option (Bor ScalarValue)) → i < length ws → w ≡ get_or ws i w → option_copied o ≡ w → says v ≡ content_at o →
    map says vs ≡ map content_in (take i ws) → map says (vs ++ v ∷ []) ≡ map content_in (take (i + 1) ws)
one_more says vs ws i v w o h e c f m =
    let at : content_at o ≡ content_in w = content_at-copied o ∙ ap (λ u. content_in u) c in
    map_push says vs v ∙ ap (λ cs. cs ++ says v ∷ []) m ∙ ap (λ x. map content_in (take i ws) ++ x ∷ []) (f ∙ at ∙ ap (λ u. content_in u) e)
    ∙ sym (map_push content_in (take i ws) (get_or ws i w)) ∙ ap (λ us. map content_in us) (sym (take_more ws i w h))

pub all_said : {A : Type 0} → (says : A → Content) (vs : List A) (ws : List (Option ScalarValue)) (i : ℕ) → length ws ≤ i → map says vs ≡ map content_in (take i ws) → contents_from (map says vs) ≡ contents_of (raws_in ws)
all_said says vs ws i h m =
    ap (λ cs. contents_from cs) (m ∙ ap (λ us. map content_in us) (take_all i ws h)) ∙ sym (contents_of-raws_in ws)

-- ---- lists

pub no_items : (reads : LogicalType → Content → Bool) (o : Option LogicalType) (r : Raw) → None ≡ items_in r → reads_list reads o (content_of r) ≡ false
no_items reads None r e = refl
no_items reads (Some k) (raw_tuple rs) e = absurd (cc (e))
no_items reads (Some k) r e = refl

pub these_items : (r : Raw) (rs : Raws) → Some rs ≡ items_in r → content_of r ≡ tuple (contents_of rs)
these_items (raw_tuple ss) rs e = ap (λ x. tuple (contents_of x)) (sym (cc (e)))
these_items r rs e = absurd (cc (e))

pub ruleset lists = (no_items, these_items)
