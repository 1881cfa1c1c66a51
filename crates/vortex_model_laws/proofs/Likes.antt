-- Strings that match a LIKE pattern without a backslash, by its shape.
use Rattle.std.proofs.Common.{◌≡◌, refl, sym, ap, ◌∙◌, subst, ℕ, List, [], ◌∷◌, ◌++◌, map, Bool, true, false, ◌||◌, ◌==◌, if◌then◌else◌, Some, None, option_map, IsUtf8, chars, arith, eqb-true}
use Rattle.std.specs.List.{list_any}
use Rattle.std.specs.Char.{encode_utf8}
use Rattle.std.specs.Str.{encode_utf8_all}
use Rattle.std.proofs.Math.Utf8.{scalars}
use Rattle.std.proofs.lemmas.Str.{encode_ascii, encodes-append, encodes-chars, scalars-chars}
use Rattle.std.specs.Cmp.{first_so, second_so}
use Rattle.vortex_model.specs.Content.{Content, null, boolean, text}
use Rattle.vortex_model.proofs.Booleans.{or_false_left, or_false_right}
use Rattle.vortex_model.proofs.Contents.{true_so}
use Rattle.vortex_model_table.specs.Bounds.{IsRaise, raise, IsAtMostBytes, IsBelow}
use Rattle.vortex_model_table.specs.Like.{matches, some_end, after_one, after_this, is_like, has_backslash}
use Rattle.vortex_model_table.specs.Truth.{liked}
use Rattle.vortex_model_table.specs.Rewrite.{letter, wildcard, sign_of, signs_of, Shape, exact_text, beginning, no_shape, onto_shape, shape_of_signs, shape_of}
use Rattle.vortex_model_laws.proofs.Beginnings.{scalars_left}
use Rattle.vortex_model_laws.proofs.BoundFunctions.{raise_by_function}
use Rattle.vortex_model_laws.proofs.ByteOrder.{under_below, upto_front}
use Rattle.vortex_model_laws.proofs.Raised.{raised_over}

-- ---- no backslash

pub any_behind : (p : ℕ → Bool) (xs ys : List ℕ) → list_any p (xs ++ ys) ≡ false → list_any p ys ≡ false
any_behind p [] ys e = e
any_behind p (x ∷ xs) ys e = any_behind p xs ys (or_false_right (p x) (list_any p (xs ++ ys)) e)

abbrev is_backslash : ℕ → Bool
is_backslash c = c == 92

not_encoded : (c : ℕ) (rest : List ℕ) (b : Bool) → (c == 92) ≡ b → list_any is_backslash (encode_utf8 c ++ rest) ≡ false → b ≡ false
not_encoded c rest false e h = refl
not_encoded c rest true e h =
    let is : c ≡ 92 = eqb-true c 92 e in
    let here : list_any is_backslash ((c ∷ []) ++ rest) ≡ false =
    subst (λ bs. list_any is_backslash (bs ++ rest) ≡ false) (encode_ascii c (omega (arith, is))) h in
    sym e ∙ or_false_left (c == 92) (list_any is_backslash rest) here

free_characters : (cs : List ℕ) → list_any is_backslash (encode_utf8_all cs) ≡ false → list_any is_backslash cs ≡ false
free_characters [] e = refl
free_characters (c ∷ cs) e =
    let here : (c == 92) ≡ false = not_encoded c (encode_utf8_all cs) (c == 92) refl e in
    ap (λ b. b || list_any is_backslash cs) here ∙ free_characters cs (any_behind is_backslash (encode_utf8 c) (encode_utf8_all cs) e)

pub free_pattern : (form : List ℕ) → IsUtf8 form → has_backslash form ≡ false → list_any is_backslash (chars form) ≡ false
free_pattern form u e = free_characters (chars form) (ap (list_any is_backslash) (encodes-chars form u) ∙ e)

-- each character of such a pattern is one sign
pub plain_signs : (cs : List ℕ) → list_any is_backslash cs ≡ false → signs_of cs ≡ Some (map sign_of cs)
plain_signs [] e = refl
plain_signs (c ∷ []) e = ap (λ b. if b then None else Some (sign_of c ∷ [])) (or_false_left (c == 92) false e)
plain_signs (c ∷ d ∷ cs) e =
    ap (λ b. if b then option_map (λ signs. letter d ∷ signs) (signs_of cs) else option_map (λ signs. sign_of c ∷ signs) (signs_of (d ∷ cs)))
    (or_false_left (c == 92) (list_any is_backslash (d ∷ cs)) e)
    ∙ ap (λ o. option_map (λ signs. sign_of c ∷ signs) o) (plain_signs (d ∷ cs) (or_false_right (c == 92) (list_any is_backslash (d ∷ cs)) e))

-- ---- a match has the shape

abbrev pub Fits : Shape → List ℕ → Type 0
Fits (exact_text t) cs = cs ≡ t
Fits (beginning t) cs = (rest : List ℕ) × (cs ≡ t ++ rest)
Fits no_shape cs = Unit {0}

front_fits : (s : Shape) (a v : ℕ) → a ≡ v → (vs : List ℕ) → Fits s vs → Fits (onto_shape a s) (v ∷ vs)
front_fits (exact_text t) a v e vs f = λ i. sym e i ∷ f i
front_fits (beginning t) a v e vs f = (f.0, λ i. sym e i ∷ f.1 i)
front_fits no_shape a v e vs f = tt

this_fits : (a : ℕ) (p : List ℕ → Bool) (s : Shape) → ((vs : List ℕ) → p vs ≡ true → Fits s vs) → (vs : List ℕ) → after_this a p vs ≡ true → Fits (onto_shape a s) vs
this_fits a p s h [] e = absurd (cc (e))
this_fits a p s h (v ∷ vs) e = front_fits s a v (eqb-true a v (first_so (a == v) (p vs) e)) vs (h vs (second_so (a == v) (p vs) e))

one_fits : (a : ℕ) (cs : List ℕ) → ((vs : List ℕ) → matches cs vs ≡ true → Fits (shape_of_signs (map sign_of cs)) vs) → (vs : List ℕ) (p q : Bool) →
    (if p then some_end (matches cs) vs else (if q then after_one (matches cs) vs else after_this a (matches cs) vs)) ≡ true →
    Fits (shape_of_signs ((if p || q then wildcard else letter a) ∷ map sign_of cs)) vs
one_fits a cs h vs true q e = (vs, refl)
one_fits a cs h vs false true e = (vs, refl)
one_fits a cs h vs false false e = this_fits a (matches cs) (shape_of_signs (map sign_of cs)) h vs e

pub match_fits : (cs vs : List ℕ) → matches cs vs ≡ true → Fits (shape_of_signs (map sign_of cs)) vs
match_fits [] [] h = refl
match_fits [] (v ∷ vs) h = absurd (cc (h))
match_fits (a ∷ cs) vs h = one_fits a cs (match_fits cs) vs (a == 37) (a == 95) h

pub shape_fits : (form v : List ℕ) → IsUtf8 form → has_backslash form ≡ false → is_like form v ≡ true → Fits (shape_of (chars form)) (chars v)
shape_fits form v u e h =
    subst (λ o. Fits (elim o [ None ↦ no_shape | Some signs ↦ shape_of_signs signs ]) (chars v)) (sym (plain_signs (chars form) (free_pattern form u e)))
    (match_fits (chars form) (chars v) h)

-- ---- in bytes

pub exact_bytes : (v t : List ℕ) → IsUtf8 v → chars v ≡ t → v ≡ encode_utf8_all t
exact_bytes v t u e = sym (encodes-chars v u) ∙ ap encode_utf8_all e

beginning_text : (v t rest : List ℕ) → IsUtf8 v → chars v ≡ t ++ rest → IsUtf8 (encode_utf8_all t)
beginning_text v t rest u e = (t, (scalars_left t rest (subst (λ cs. scalars cs ≡ true) e (scalars-chars v u)), refl))

beginning_bytes : (v t rest : List ℕ) → IsUtf8 v → chars v ≡ t ++ rest → v ≡ encode_utf8_all t ++ encode_utf8_all rest
beginning_bytes v t rest u e = exact_bytes v (t ++ rest) u e ∙ encodes-append t rest

pub beginning_upto : (v t rest : List ℕ) → IsUtf8 v → chars v ≡ t ++ rest → IsAtMostBytes (encode_utf8_all t) v
beginning_upto v t rest u e =
    subst (λ w. IsAtMostBytes (encode_utf8_all t) w) (sym (beginning_bytes v t rest u e)) (upto_front (encode_utf8_all t) (encode_utf8_all rest))

pub beginning_below : (v t rest above : List ℕ) → IsUtf8 v → chars v ≡ t ++ rest → raise (encode_utf8_all t) ≡ Some above → IsBelow v above
beginning_below v t rest above u e is =
    let p = encode_utf8_all t in let w = encode_utf8_all rest in
    let text = beginning_text v t rest u e in
    let raised : IsRaise p (Some above) = subst (λ o. IsRaise p o) is (raise_by_function p text) in
    subst (λ x. IsBelow x above) (sym (beginning_bytes v t rest u e)) (under_below (p ++ w) above (raised_over p above w text raised))

-- ---- a LIKE that is true

pub record Matched (c : Content) (form : List ℕ) : Type 0 where
  pub value : List ℕ
  pub is : c ≡ text value
  pub free : has_backslash form ≡ false
  pub like : is_like form value ≡ true

pub matched : (c : Content) (form : List ℕ) → liked c (text form) false ≡ boolean true → Matched c form
matched (text v) form e = by_test (has_backslash form) refl e
  where
    by_test : (b : Bool) → has_backslash form ≡ b → (if b then null else boolean (is_like form v)) ≡ boolean true → Matched (text v) form
    by_test true f e = absurd (cc (e))
    by_test false f e = record { value = v; is = refl; free = f; like = true_so (is_like form v) e }
matched c form e = absurd (cc (e))
