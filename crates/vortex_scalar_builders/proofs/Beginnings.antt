-- Strings cut at character boundaries, and without their last character.
use Rattle.std.proofs.Common.{◌≡◌, ℕ, ◌<◌, ◌≤◌, List, [], ◌∷◌, ◌++◌, length, take, drop, sym, ap, ◌∙◌, subst, arith, ⊎_elim, IsUtf8, IsCharBoundary, take-append-drop, length-take, append-nil, ap₂, chars}
use Rattle.std.specs.Char.{encode_utf8}
use Rattle.std.specs.Str.{encode_utf8_all}
use Rattle.std.proofs.lemmas.Bool.{cases_lt}
use Rattle.std.proofs.lemmas.Str.{IsUtf8-take, IsUtf8-drop, encodes-append, encodes-chars, IsCharBoundary-from_take, chars-append, chars_past_char, chars-nil}
use Rattle.std.proofs.lemmas.List.Prefix.{front_rest}
use Rattle.vortex_model_table.specs.Bounds.{Begins, IsLongestBeginning}
use Rattle.vortex_model_laws.proofs.Beginnings.{begins_take, begins_length}

-- cut at the last character boundary within n bytes
pub cut_longest : (v : List ℕ) (n e : ℕ) → IsUtf8 v → IsCharBoundary v e → e ≤ n → ((i : ℕ) → e < i → i ≤ n → IsCharBoundary v i → ⊥) → IsLongestBeginning IsUtf8 v n (take e v)
cut_longest v n e u cut le none = record {
  fits = omega (arith, length-take e v);
  begins = (drop e v, sym (take-append-drop e v));
  passes = IsUtf8-take v e u cut;
  longest = λ w fits b uw.
      let all : length (take e v) ≡ e = omega (arith, length-take e v, cut.0) in
      ⊎_elim
      (λ lt. absurd (none (length w) lt fits (IsCharBoundary-from_take v (length w) u (begins_length w v b) (subst IsUtf8 (sym (begins_take w v b)) uw))))
      (λ ge. omega arith)
      (cases_lt e (length w));
}

-- the last character of a string
pub chars_last : (text front : List ℕ) (c : ℕ) → IsUtf8 text → IsUtf8 front → text ≡ front ++ encode_utf8 c → chars text ≡ chars front ++ c ∷ []
chars_last text front c u uf e =
    let b : Begins front text = (encode_utf8 c, e) in
    let cut = IsCharBoundary-from_take text (length front) u (begins_length front text b) (subst IsUtf8 (sym (begins_take front text b)) uf) in
    let us : IsUtf8 (encode_utf8 c) = subst IsUtf8 (front_rest text front (encode_utf8 c) e) (IsUtf8-drop text (length front) u cut) in
    ap chars e ∙ chars-append front (encode_utf8 c) uf
    ∙ ap (λ t. chars front ++ t) (chars_past_char (encode_utf8 c) [] c us (sym (append-nil (encode_utf8 c))) ∙ ap (λ t. c ∷ t) chars-nil)

pub chars_none : (v : List ℕ) → length v ≡ 0 → chars v ≡ []
chars_none [] h = chars-nil
chars_none (x ∷ v) h = absurd (omega arith)

pub pushed : (front : List ℕ) (last : ℕ) → IsUtf8 front → front ++ encode_utf8 last ≡ encode_utf8_all (chars front ++ last ∷ [])
pushed front last u = sym (encodes-append (chars front) (last ∷ []) ∙ ap₂ (λ x y. x ++ y) (encodes-chars front u) (append-nil (encode_utf8 last)))
