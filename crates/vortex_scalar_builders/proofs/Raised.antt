-- Strings raised: their parts, uniqueness and length.
use Rattle.std.proofs.Common.{◌≡◌, ℕ, ◌≤◌, List, [], ◌∷◌, ◌++◌, length, refl, sym, ap, ap₂, ◌∙◌, subst, arith, IsUtf8, length-append, append-nil, append_assoc, chars, Option, Some, None}
use Rattle.std.specs.List.{AllByRecursion}
use Rattle.std.specs.Char.{encode_utf8}
use Rattle.std.specs.Str.{encode_utf8_all}
use Rattle.std.proofs.lemmas.Str.{encodes-append, encodes-chars, length-encode}
use Rattle.vortex_model_table.specs.Bounds.{IsHigher, IsHighest, IsNext, IsRaised, IsRaise, CannotBeRaised}

-- ---- parts

-- the characters before the last one that can be raised, and that one raised
pub raised_at : (cs rest front tail : List ℕ) (last higher : ℕ) → cs ≡ rest ++ tail → AllByRecursion IsHighest tail → rest ≡ front ++ last ∷ [] → IsNext last higher → IsRaised cs (front ++ higher ∷ [])
raised_at cs rest front tail last higher is all one next = record {
  before = front;
  char = last;
  after = tail;
  split = is ∙ ap (λ x. x ++ tail) one ∙ append_assoc front (last ∷ []) tail;
  latest = all;
  raised = higher;
  higher = next.0;
  least = next.1;
  answer = refl;
}

pub dropped_more : (cs rest front tail : List ℕ) (last : ℕ) → cs ≡ rest ++ tail → AllByRecursion IsHighest tail → rest ≡ front ++ last ∷ [] → IsHighest last → (more : List ℕ) × (cs ≡ front ++ more) × AllByRecursion IsHighest more
dropped_more cs rest front tail last is all one here =
    (last ∷ tail, is ∙ ap (λ x. x ++ tail) one ∙ append_assoc front (last ∷ []) tail, (here, all))

pub nothing_left : (cs rest tail : List ℕ) → cs ≡ rest ++ tail → rest ≡ [] → AllByRecursion IsHighest tail → CannotBeRaised cs
nothing_left cs rest tail is none all = subst (λ xs. AllByRecursion IsHighest xs) (sym (is ∙ ap (λ xs. xs ++ tail) none)) all

-- ---- uniqueness

all_at : (P : ℕ → Type 0) (xs : List ℕ) (c : ℕ) (ys : List ℕ) → AllByRecursion P (xs ++ c ∷ ys) → P c
all_at P [] c ys a = a.0
all_at P (x ∷ xs) c ys a = all_at P xs c ys a.1

eq_parts : (P : ℕ → Type 0) (xs ys zs ws : List ℕ) (c d : ℕ) → xs ++ c ∷ ys ≡ zs ++ d ∷ ws → AllByRecursion P ys → AllByRecursion P ws → (P c → ⊥) → (P d → ⊥) → (xs ≡ zs) × (c ≡ d)
eq_parts P [] ys [] ws c d e a b nc nd = let head : c ≡ d = cc in (refl, head)
eq_parts P [] ys (z ∷ zs) ws c d e a b nc nd =
    let tail : ys ≡ zs ++ d ∷ ws = cc in absurd (nd (all_at P zs d ws (subst (λ l. AllByRecursion P l) tail a)))
eq_parts P (x ∷ xs) ys [] ws c d e a b nc nd =
    let tail : ws ≡ xs ++ c ∷ ys = cc in absurd (nc (all_at P xs c ys (subst (λ l. AllByRecursion P l) tail b)))
eq_parts P (x ∷ xs) ys (z ∷ zs) ws c d e a b nc nd =
    let head : x ≡ z = cc in let tail : xs ++ c ∷ ys ≡ zs ++ d ∷ ws = cc in
    let r = eq_parts P xs ys zs ws c d tail a b nc nd in (ap₂ (λ v vs. v ∷ vs) head r.0, r.1)

raisable : (c d : ℕ) → IsHigher c d → IsHighest c → ⊥
raisable c d higher highest = highest d higher

pub raised_same : (cs ds es : List ℕ) → IsRaised cs ds → IsRaised cs es → ds ≡ es
raised_same cs ds es a b =
    let p = eq_parts IsHighest a.before a.after b.before b.after a.char b.char (sym a.split ∙ b.split) a.latest b.latest (raisable a.char a.raised a.higher) (raisable b.char b.raised b.higher) in
    let mine : IsHigher b.char a.raised = subst (λ c. IsHigher c a.raised) p.1 a.higher in
    let yours : IsHigher a.char b.raised = subst (λ c. IsHigher c b.raised) (sym p.1) b.higher in
    let le = a.least b.raised yours in
    let ge = b.least a.raised mine in
    let n : a.raised ≡ b.raised = omega (arith, le, ge) in
    a.answer ∙ ap₂ (λ f c. f ++ c ∷ []) p.0 n ∙ sym b.answer

not_both : (cs ds : List ℕ) → CannotBeRaised cs → IsRaised cs ds → ⊥
not_both cs ds none r = raisable r.char r.raised r.higher (all_at IsHighest r.before r.char r.after (subst (λ xs. AllByRecursion IsHighest xs) r.split none))

pub raise_same : (p : List ℕ) (o q : Option (List ℕ)) → IsRaise p o → IsRaise p q → o ≡ q
raise_same p None None a b = refl
raise_same p None (Some u) a b = absurd (not_both (chars p) (chars u) a b.1)
raise_same p (Some s) None a b = absurd (not_both (chars p) (chars s) b a.1)
raise_same p (Some s) (Some u) a b =
    ap Some (sym (encodes-chars s a.0) ∙ ap encode_utf8_all (raised_same (chars p) (chars s) (chars u) a.1 b.1) ∙ encodes-chars u b.0)

-- ---- length

-- a string raised is not longer
pub raised_length : (p s : List ℕ) → IsUtf8 p → IsRaise p (Some s) → length s ≤ length p
raised_length p s u raise =
    let r = raise.1 in
    let f = encode_utf8_all r.before in
    let parts : p ≡ f ++ (encode_utf8 r.char ++ encode_utf8_all r.after) = sym (encodes-chars p u) ∙ ap encode_utf8_all r.split ∙ encodes-append r.before (r.char ∷ r.after) in
    let made : s ≡ f ++ (encode_utf8 r.raised ++ []) = sym (encodes-chars s raise.0) ∙ ap encode_utf8_all r.answer ∙ encodes-append r.before (r.raised ∷ []) in
    let lengths : length (encode_utf8 r.raised) ≡ length (encode_utf8 r.char) = length-encode r.raised ∙ r.higher.2 ∙ sym (length-encode r.char) in
    omega (arith, ap length parts, ap length made, length-append f (encode_utf8 r.char ++ encode_utf8_all r.after), length-append (encode_utf8 r.char) (encode_utf8_all r.after), length-append f (encode_utf8 r.raised ++ []), ap length (append-nil (encode_utf8 r.raised)))
