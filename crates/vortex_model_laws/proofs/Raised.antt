-- Strings raised: their characters, and their order.
use Rattle.std.proofs.Common.{◌≡◌, ℕ, true, List, [], ◌∷◌, ◌++◌, sym, ap, ◌∙◌, subst, subst₂, arith, IsUtf8, append_assoc, chars, Some}
use Rattle.std.specs.Char.{IsScalar, encode_utf8}
use Rattle.std.specs.Str.{encode_utf8_all}
use Rattle.std.proofs.Math.Utf8.{scalars}
use Rattle.std.proofs.lemmas.Bool.Decides.{nat_tests}
use Rattle.std.proofs.lemmas.Str.{encodes-append, encodes-chars, scalars-chars, chars-encodes}
use Rattle.vortex_model_table.specs.Bounds.{IsRaised, IsRaise}
use Rattle.vortex_model_laws.proofs.ByteOrder.{IsUnder, eq_front}
use Rattle.vortex_model_laws.proofs.Encoded.{encode_under}

front_scalars : (xs : List ℕ) (c d : ℕ) (ys : List ℕ) → scalars (xs ++ c ∷ ys) ≡ true → IsScalar d → scalars (xs ++ d ∷ []) ≡ true
front_scalars [] c d ys h s = grind (arith, nat_tests, s)
front_scalars (x ∷ xs) c d ys h s = grind (arith, nat_tests, front_scalars xs c d ys, s)

pub raised_scalars : (cs ds : List ℕ) → scalars cs ≡ true → IsRaised cs ds → scalars ds ≡ true
raised_scalars cs ds h r =
    let all : scalars (r.before ++ r.char ∷ r.after) ≡ true = subst (λ xs. scalars xs ≡ true) r.split h in
    subst (λ xs. scalars xs ≡ true) (sym r.answer) (front_scalars r.before r.char r.raised r.after all r.higher.0)

-- the UTF-8 of the characters raised is the string raised
pub raise_made : (p : List ℕ) (ds : List ℕ) (s : List ℕ) → IsUtf8 p → IsRaised (chars p) ds → s ≡ encode_utf8_all ds → IsRaise p (Some s)
raise_made p ds s u r e =
    let sc : scalars ds ≡ true = raised_scalars (chars p) ds (scalars-chars p u) r in
    let back : ds ≡ chars s = sym (ap chars e ∙ chars-encodes ds sc) in
    ((ds, (sc, sym e)), subst (λ xs. IsRaised (chars p) xs) back r)

-- a string is below its prefix raised
pub raised_over : (p s rest : List ℕ) → IsUtf8 p → IsRaise p (Some s) → IsUnder (p ++ rest) s
raised_over p s rest u raise =
    let r = raise.1 in
    let f = encode_utf8_all r.before in
    let parts : p ++ rest ≡ f ++ (encode_utf8 r.char ++ (encode_utf8_all r.after ++ rest)) =
    ap (λ x. x ++ rest) (sym (encodes-chars p u) ∙ ap encode_utf8_all r.split ∙ encodes-append r.before (r.char ∷ r.after))
    ∙ append_assoc f (encode_utf8 r.char ++ encode_utf8_all r.after) rest ∙ ap (λ x. f ++ x) (append_assoc (encode_utf8 r.char) (encode_utf8_all r.after) rest) in
    let made : s ≡ f ++ (encode_utf8 r.raised ++ []) = sym (encodes-chars s raise.0) ∙ ap encode_utf8_all r.answer ∙ encodes-append r.before (r.raised ∷ []) in
    subst₂ IsUnder (sym parts) (sym made)
    (eq_front f (encode_utf8 r.char ++ (encode_utf8_all r.after ++ rest)) (encode_utf8 r.raised ++ []) ∙ encode_under r.char r.raised (encode_utf8_all r.after ++ rest) [] r.higher.1)
