-- Over bytes of UTF-8 a LIKE pattern matches what it matches over characters.
use Rattle.std.proofs.Common.{◌≡◌, refl, sym, ap, ◌∙◌, subst, ℕ, ◌+◌, ◌/◌, ◌%◌, ◌<◌, ◌≤◌, List, [], ◌∷◌, ◌++◌, Bool, true, false, ◌||◌, ◌&&◌, not, ◌==◌, cond, if◌then◌else◌, Some, None, eqb-true, lt-ltb, le-ltb, nat_lt, IsUtf8, chars, arith, ⊎_elim}
use Rattle.std.specs.Char.{encode_utf8}
use Rattle.std.specs.Str.{encode_utf8_all}
use Rattle.std.proofs.lemmas.Bool.{cases_lt, ne_eqb, or_cases}
use Rattle.std.proofs.lemmas.Str.{encode_ascii, encodes-chars}
use Rattle.vortex_model.proofs.Passes.{number_same}
use Rattle.vortex_model_table.specs.Like.{is_like, matches, some_end, after_one, after_this}
use Rattle.vortex_model_laws.proofs.ByteOrder.{IsUnder, eq_head}
use Rattle.vortex_model_laws.proofs.Encoded.{encode_two, encode_three, encode_four, encode_under}
use Rattle.vortex_stats_match.specs.Bytes.{goes_on, past_char, left_by, is_left, byte_matches}
use Rattle.vortex_stats_match.proofs.SignLemmas.{first_end, plain_sign}

-- ---- the bytes of a character

starts_low : (b : ℕ) → b < 128 → goes_on b ≡ false
starts_low b h = ap (λ t. not t && nat_lt b 192) (lt-ltb b 128 h)

starts_high : (b : ℕ) → 192 ≤ b → goes_on b ≡ false
starts_high b h = ap (λ t. not (nat_lt b 128) && t) (le-ltb b 192 h) ∙ and_false (not (nat_lt b 128))
  where
    and_false : (t : Bool) → t && false ≡ false
    and_false true = refl
    and_false false = refl

inside : (b : ℕ) → 128 ≤ b → b < 192 → goes_on b ≡ true
inside b h k = ap (λ t. not t && nat_lt b 192) (le-ltb b 128 h) ∙ lt-ltb b 192 k

-- each goes on
abbrev AllGoOn : List ℕ → Type 0
AllGoOn [] = Unit {0}
AllGoOn (b ∷ bs) = (goes_on b ≡ true) × AllGoOn bs

-- no % and no _
abbrev IsPlain : List ℕ → Type 0
IsPlain [] = Unit {0}
IsPlain (b ∷ bs) = ((b == 37) ≡ false) × ((b == 95) ≡ false) × IsPlain bs

record IsCharacter (c : ℕ) : Type 0 where
  lead : ℕ
  tail : List ℕ
  is : encode_utf8 c ≡ lead ∷ tail
  starts : goes_on lead ≡ false
  on : AllGoOn tail
  plain : (c == 37) ≡ false → (c == 95) ≡ false → IsPlain (lead ∷ tail)

high_plain : (b : ℕ) (bs : List ℕ) → 128 ≤ b → IsPlain bs → IsPlain (b ∷ bs)
high_plain b bs h k = (ne_eqb b 37 (omega (arith, h)), ne_eqb b 95 (omega (arith, h)), k)

on_one : (x : ℕ) (bs : List ℕ) → AllGoOn bs → AllGoOn ((128 + x % 64) ∷ bs)
on_one x bs h = (inside (128 + x % 64) (omega arith) (omega arith), h)

plain_one : (x : ℕ) (bs : List ℕ) → IsPlain bs → IsPlain ((128 + x % 64) ∷ bs)
plain_one x bs h = high_plain (128 + x % 64) bs (omega arith) h

two_bytes : (c : ℕ) → 128 ≤ c → c < 2048 → IsCharacter c
two_bytes c low high = record {
  lead = 192 + c / 64;
  tail = (128 + c % 64) ∷ [];
  is = encode_two c low high;
  starts = starts_high (192 + c / 64) (omega arith);
  on = on_one c [] tt;
  plain = λ p q. high_plain (192 + c / 64) ((128 + c % 64) ∷ []) (omega arith) (plain_one c [] tt);
}

three_bytes : (c : ℕ) → 2048 ≤ c → c < 65536 → IsCharacter c
three_bytes c low high = record {
  lead = 224 + c / 4096;
  tail = (128 + (c / 64) % 64) ∷ (128 + c % 64) ∷ [];
  is = encode_three c low high;
  starts = starts_high (224 + c / 4096) (omega arith);
  on = on_one (c / 64) ((128 + c % 64) ∷ []) (on_one c [] tt);
  plain = λ p q.
      high_plain (224 + c / 4096) ((128 + (c / 64) % 64) ∷ (128 + c % 64) ∷ []) (omega arith)
      (plain_one (c / 64) ((128 + c % 64) ∷ []) (plain_one c [] tt));
}

four_bytes : (c : ℕ) → 65536 ≤ c → IsCharacter c
four_bytes c low = record {
  lead = 240 + c / 262144;
  tail = (128 + (c / 4096) % 64) ∷ (128 + (c / 64) % 64) ∷ (128 + c % 64) ∷ [];
  is = encode_four c low;
  starts = starts_high (240 + c / 262144) (omega arith);
  on = on_one (c / 4096) ((128 + (c / 64) % 64) ∷ (128 + c % 64) ∷ []) (on_one (c / 64) ((128 + c % 64) ∷ []) (on_one c [] tt));
  plain = λ p q.
      high_plain (240 + c / 262144) ((128 + (c / 4096) % 64) ∷ (128 + (c / 64) % 64) ∷ (128 + c % 64) ∷ []) (omega arith)
      (plain_one (c / 4096) ((128 + (c / 64) % 64) ∷ (128 + c % 64) ∷ []) (plain_one (c / 64) ((128 + c % 64) ∷ []) (plain_one c [] tt)));
}

character : (c : ℕ) → IsCharacter c
character c =
    ⊎_elim (λ a. record { lead = c; tail = []; is = encode_ascii c a; starts = starts_low c a; on = tt; plain = λ p q. (p, q, tt) })
    (λ a. ⊎_elim (λ b. two_bytes c a b)
    (λ b. ⊎_elim (λ d. three_bytes c b d) (λ d. four_bytes c d) (cases_lt c 65536))
    (cases_lt c 2048))
    (cases_lt c 128)

past_tail : (tail rest : List ℕ) → AllGoOn tail → past_char (tail ++ rest) ≡ past_char rest
past_tail [] rest h = refl
past_tail (b ∷ bs) rest h = ap (λ t. cond t (past_char (bs ++ rest)) (b ∷ (bs ++ rest))) h.0 ∙ past_tail bs rest h.1

past_start : (cs : List ℕ) → past_char (encode_utf8_all cs) ≡ encode_utf8_all cs
past_start [] = refl
past_start (c ∷ cs) =
    let f = character c in
    ap (λ xs. past_char (xs ++ encode_utf8_all cs)) f.is
    ∙ ap (λ t. cond t (past_char (f.tail ++ encode_utf8_all cs)) (f.lead ∷ (f.tail ++ encode_utf8_all cs))) f.starts
    ∙ ap (λ xs. xs ++ encode_utf8_all cs) (sym f.is)

-- ---- signs that match themselves

-- what a byte that is no sign leaves
this_left : (a b : ℕ) (bs : List ℕ) → (a == 95) ≡ false → left_by a (b ∷ bs) ≡ (if a == b then Some bs else None)
this_left a b bs one = ap (λ s. if s then (if goes_on b then None else Some (past_char bs)) else (if a == b then Some bs else None)) one

through : (xs form bs : List ℕ) → IsPlain xs → byte_matches (xs ++ form) (xs ++ bs) ≡ byte_matches form bs
through [] form bs h = refl
through (x ∷ xs) form bs h =
    plain_sign x (xs ++ form) (x ∷ (xs ++ bs)) h.0
    ∙ ap (is_left (byte_matches (xs ++ form))) (this_left x x (xs ++ bs) h.1 ∙ ap (λ t. if t then Some (xs ++ bs) else None) (number_same x))
    ∙ through xs form bs h.2

fronts : (xs form ds : List ℕ) → IsPlain xs → byte_matches (xs ++ form) ds ≡ true → (rest : List ℕ) × (ds ≡ xs ++ rest)
fronts [] form ds h e = (ds, refl)
fronts (x ∷ xs) form [] h e = absurd (cc (sym (plain_sign x (xs ++ form) [] h.0) ∙ e))
fronts (x ∷ xs) form (d ∷ ds) h e =
    by (x == d) refl (fronts xs form ds h.2) (sym (ap (is_left (byte_matches (xs ++ form))) (this_left x d ds h.1)) ∙ sym (plain_sign x (xs ++ form) (d ∷ ds) h.0) ∙ e)
  where
    by : (t : Bool) → (x == d) ≡ t → (byte_matches (xs ++ form) ds ≡ true → (rest : List ℕ) × (ds ≡ xs ++ rest))
        → is_left (byte_matches (xs ++ form)) (if t then Some ds else None) ≡ true → (rest : List ℕ) × (d ∷ ds ≡ (x ∷ xs) ++ rest)
    by true q more f =
        let left = more f in (
          left.0,
          ap (λ ys. d ∷ ys) left.1 ∙ ap (λ y. y ∷ (xs ++ left.0)) (sym (eqb-true x d q)),
        )
    by false q more f = absurd (cc f)

under_not_self : (v : List ℕ) → IsUnder v v → ⊥
under_not_self [] h = cc h
under_not_self (x ∷ xs) h = under_not_self xs (sym (eq_head x xs xs) ∙ h)

-- no character begins with another one
other_character : (c f : ℕ) (r t : List ℕ) → (f == c) ≡ false → encode_utf8 c ++ r ≡ encode_utf8 f ++ t → ⊥
other_character c f r t other e =
    ⊎_elim (λ lt. under_not_self (encode_utf8 c ++ r) (subst (λ xs. IsUnder (encode_utf8 c ++ r) xs) (sym e) (encode_under c f r t lt)))
    (λ le. ⊎_elim (λ lt. under_not_self (encode_utf8 f ++ t) (subst (λ xs. IsUnder (encode_utf8 f ++ t) xs) e (encode_under f c t r lt)))
    (λ ge. let same : f ≡ c = omega (arith, le, ge) in cc (sym (number_same f) ∙ ap (λ n. f == n) same ∙ other))
    (cases_lt f c))
    (cases_lt c f)

-- ---- ends within a character

absorbed : (x y : Bool) → (x ≡ true → y ≡ true) → x || y ≡ y
absorbed true y h = sym (h refl)
absorbed false y h = refl

ends_behind : (p : List ℕ → Bool) → ((b : ℕ) (bs : List ℕ) → goes_on b ≡ true → p (b ∷ bs) ≡ true → some_end p bs ≡ true)
    → (tail rest : List ℕ) → AllGoOn tail → some_end p (tail ++ rest) ≡ some_end p rest
ends_behind p h [] rest on = refl
ends_behind p h (b ∷ bs) rest on = absorbed (p (b ∷ (bs ++ rest))) (some_end p (bs ++ rest)) (h b (bs ++ rest) on.0) ∙ ends_behind p h bs rest on.1

-- What matches within a character matches after it.
behind_too : (fs : List ℕ) (b : ℕ) (bs : List ℕ) → goes_on b ≡ true → byte_matches (encode_utf8_all fs) (b ∷ bs) ≡ true
    → some_end (byte_matches (encode_utf8_all fs)) bs ≡ true
behind_too [] b bs on e = absurd (cc e)
behind_too (f ∷ fs) b bs on e = by_sign (behind_too fs b bs on) (f == 37) refl (f == 95) refl
  where
    at_sign : (a : ℕ) → a < 128 → f ≡ a → encode_utf8 f ++ (encode_utf8_all fs) ≡ a ∷ (encode_utf8_all fs)
    at_sign a low is = ap (λ c. encode_utf8 c ++ (encode_utf8_all fs)) is ∙ ap (λ xs. xs ++ (encode_utf8_all fs)) (encode_ascii a low)

    by_sign : (byte_matches (encode_utf8_all fs) (b ∷ bs) ≡ true → some_end (byte_matches (encode_utf8_all fs)) bs ≡ true) → (s : Bool) → (f == 37) ≡ s → (o : Bool) → (f == 95) ≡ o → some_end (byte_matches (encode_utf8 f ++ (encode_utf8_all fs))) bs ≡ true
    by_sign more true p o q =
        let reads = at_sign 37 (omega arith) (eqb-true f 37 p) in
        first_end (byte_matches (encode_utf8 f ++ (encode_utf8_all fs))) bs
        (ap (λ s. byte_matches s bs) reads
        ∙ ⊎_elim (λ here. more here) (λ later. later)
        (or_cases (byte_matches (encode_utf8_all fs) (b ∷ bs)) (some_end (byte_matches (encode_utf8_all fs)) bs) (sym (ap (λ s. byte_matches s (b ∷ bs)) reads) ∙ e)))
    by_sign more false p true q =
        absurd (cc (sym (ap (λ t. is_left (byte_matches (encode_utf8_all fs)) (if t then None else Some (past_char bs))) on)
        ∙ sym (ap (λ s. byte_matches s (b ∷ bs)) (at_sign 95 (omega arith) (eqb-true f 95 q))) ∙ e))
    by_sign more false p false q =
        let x = character f in
        let begins = fronts (x.lead ∷ x.tail) (encode_utf8_all fs) (b ∷ bs) (x.plain p q) (sym (ap (λ s. byte_matches (s ++ (encode_utf8_all fs)) (b ∷ bs)) x.is) ∙ e) in
        absurd (cc (sym on ∙ ap goes_on (cons_head begins.1) ∙ x.starts))
      where
        cons_head : {x y : ℕ} {xs ys : List ℕ} → x ∷ xs ≡ y ∷ ys → x ≡ y
        cons_head g = cc g

-- ---- over all of a string

like_encoded : (fs cs : List ℕ) → byte_matches (encode_utf8_all fs) (encode_utf8_all cs) ≡ matches fs cs
like_encoded [] [] = refl
like_encoded [] (c ∷ cs) = ap (λ xs. byte_matches [] (xs ++ encode_utf8_all cs)) (character c).is
like_encoded (f ∷ fs) cs = by_sign (like_encoded fs) (f == 37) refl (f == 95) refl
  where
    at_sign : (a : ℕ) → a < 128 → f ≡ a → encode_utf8 f ++ (encode_utf8_all fs) ≡ a ∷ (encode_utf8_all fs)
    at_sign a low is = ap (λ c. encode_utf8 c ++ (encode_utf8_all fs)) is ∙ ap (λ xs. xs ++ (encode_utf8_all fs)) (encode_ascii a low)

    ends : ((ds : List ℕ) → byte_matches (encode_utf8_all fs) (encode_utf8_all ds) ≡ matches fs ds) → (ds : List ℕ) → some_end (byte_matches (encode_utf8_all fs)) (encode_utf8_all ds) ≡ some_end (matches fs) ds
    ends ih [] = ih []
    ends ih (d ∷ ds) =
        let x = character d in
        ap (λ xs. some_end (byte_matches (encode_utf8_all fs)) (xs ++ encode_utf8_all ds)) x.is
        ∙ ap (λ t. t || some_end (byte_matches (encode_utf8_all fs)) (x.tail ++ encode_utf8_all ds)) (ap (λ xs. byte_matches (encode_utf8_all fs) (xs ++ encode_utf8_all ds)) (sym x.is) ∙ ih (d ∷ ds))
        ∙ ap (λ t. matches fs (d ∷ ds) || t) (ends_behind (byte_matches (encode_utf8_all fs)) (behind_too fs) x.tail (encode_utf8_all ds) x.on ∙ ends ih ds)

    one : ((ds : List ℕ) → byte_matches (encode_utf8_all fs) (encode_utf8_all ds) ≡ matches fs ds) → (ds : List ℕ) → is_left (byte_matches (encode_utf8_all fs)) (left_by 95 (encode_utf8_all ds)) ≡ after_one (matches fs) ds
    one ih [] = refl
    one ih (d ∷ ds) =
        let x = character d in
        ap (λ xs. is_left (byte_matches (encode_utf8_all fs)) (left_by 95 (xs ++ encode_utf8_all ds))) x.is
        ∙ ap (λ t. is_left (byte_matches (encode_utf8_all fs)) (if t then None else Some (past_char (x.tail ++ encode_utf8_all ds)))) x.starts
        ∙ ap (byte_matches (encode_utf8_all fs)) (past_tail x.tail (encode_utf8_all ds) x.on ∙ past_start ds) ∙ ih ds

    this : ((ds : List ℕ) → byte_matches (encode_utf8_all fs) (encode_utf8_all ds) ≡ matches fs ds) → (f == 37) ≡ false → (f == 95) ≡ false → (ds : List ℕ) → byte_matches (encode_utf8 f ++ (encode_utf8_all fs)) (encode_utf8_all ds) ≡ after_this f (matches fs) ds
    this ih p q [] = let x = character f in ap (λ s. byte_matches (s ++ (encode_utf8_all fs)) []) x.is ∙ plain_sign x.lead (x.tail ++ (encode_utf8_all fs)) [] (x.plain p q).0
    this ih p q (d ∷ ds) = by (f == d) refl
      where
        plain : IsPlain (encode_utf8 f)
        plain = let x = character f in subst IsPlain (sym x.is) (x.plain p q)

        untrue : (t : Bool) → byte_matches (encode_utf8 f ++ (encode_utf8_all fs)) (encode_utf8_all (d ∷ ds)) ≡ t → (f == d) ≡ false → t ≡ false
        untrue false g h = refl
        untrue true g h =
            let begins = fronts (encode_utf8 f) (encode_utf8_all fs) (encode_utf8_all (d ∷ ds)) plain g in
            absurd (other_character d f (encode_utf8_all ds) begins.0 h begins.1)

        by : (t : Bool) → (f == d) ≡ t → byte_matches (encode_utf8 f ++ (encode_utf8_all fs)) (encode_utf8_all (d ∷ ds)) ≡ t && matches fs ds
        by true g =
            ap (λ n. byte_matches (encode_utf8 f ++ (encode_utf8_all fs)) (encode_utf8 n ++ encode_utf8_all ds)) (sym (eqb-true f d g))
            ∙ through (encode_utf8 f) (encode_utf8_all fs) (encode_utf8_all ds) plain ∙ ih ds
        by false g = untrue _ refl g

    by_sign : ((ds : List ℕ) → byte_matches (encode_utf8_all fs) (encode_utf8_all ds) ≡ matches fs ds) → (s : Bool) → (f == 37) ≡ s → (o : Bool) → (f == 95) ≡ o
        → byte_matches (encode_utf8 f ++ (encode_utf8_all fs)) (encode_utf8_all cs) ≡ (if s then some_end (matches fs) cs else (if o then after_one (matches fs) cs else after_this f (matches fs) cs))
    by_sign ih true p o q = ap (λ s. byte_matches s (encode_utf8_all cs)) (at_sign 37 (omega arith) (eqb-true f 37 p)) ∙ ends ih cs
    by_sign ih false p true q = ap (λ s. byte_matches s (encode_utf8_all cs)) (at_sign 95 (omega arith) (eqb-true f 95 q)) ∙ one ih cs
    by_sign ih false p false q = this ih p q cs

pub bytes_like : (form value : List ℕ) → IsUtf8 form → IsUtf8 value → byte_matches form value ≡ is_like form value
bytes_like form value u v =
    ap (λ s. byte_matches s value) (sym (encodes-chars form u)) ∙ ap (byte_matches (encode_utf8_all (chars form))) (sym (encodes-chars value v))
    ∙ like_encoded (chars form) (chars value)
