-- The functions `low` and `high` meet their definitions.
use Rattle.std.proofs.Common.{◌≡◌, ℕ, suc, ◌-◌, ◌<◌, ◌≤◌, Bool, true, false, List, [], ◌∷◌, ◌++◌, length, take, refl, sym, ap, ◌∙◌, subst, arith, IsUtf8, length-append, append-nil, chars, Option, Some, None, option_map, MatchOption, if◌then◌else◌, nat_le, nat_lt, ◌==◌, ◌||◌, take_all}
use Rattle.std.specs.Char.{IsScalar, encode_utf8, len_utf8}
use Rattle.std.specs.Str.{encode_utf8_all}
use Rattle.std.proofs.Math.Utf8.{scalars}
use Rattle.std.proofs.lemmas.Bool.{leb-true, leb-false, ltb-true, ltb-false}
use Rattle.std.proofs.lemmas.Bool.Decides.{nat_tests}
use Rattle.std.proofs.lemmas.Str.{encodes-append, encodes-chars, scalars-chars, length-encode, chars-append}
use Rattle.vortex_model.specs.Content.{Content, text, byte_string}
use Rattle.vortex_model_table.specs.Bounds.{IsLongestBeginning, AnyBytes, IsHighest, IsRaised, IsRaise, CannotBeRaised, IsLow, IsHigh, IsHighText, IsNext, IsRaisedBeginning, IsWellFormed, bytes_of, is_longer, low, high, characters_within, text_within, next_character, raise_characters, raise, count_up}
use Rattle.vortex_model_laws.proofs.Beginnings.{take_longest, longest_same, scalars_left, begins_length}
use Rattle.vortex_model_laws.proofs.Raised.{raise_made}
use Rattle.vortex_model_laws.proofs.CountUp.{high_of_bytes}

-- ---- the longest prefix of whole characters

front_by : (c : ℕ) (cs inner : List ℕ) (t : Bool) → (rest : List ℕ) × (cs ≡ inner ++ rest) → (rest : List ℕ) × (c ∷ cs ≡ (if t then c ∷ inner else []) ++ rest)
front_by c cs inner true r = (r.0, ap (λ xs. c ∷ xs) r.1)
front_by c cs inner false r = (c ∷ cs, refl)

within_front : (L : ℕ) (cs : List ℕ) → (rest : List ℕ) × (cs ≡ characters_within L cs ++ rest)
within_front L [] = ([], refl)
within_front L (c ∷ cs) = front_by c cs (characters_within (L - len_utf8 c) cs) (nat_le (len_utf8 c) L) (within_front (L - len_utf8 c) cs)

fits_by : (L c : ℕ) (inner : List ℕ) (t : Bool) → nat_le (len_utf8 c) L ≡ t → length (encode_utf8_all inner) ≤ L - len_utf8 c → length (encode_utf8_all (if t then c ∷ inner else [])) ≤ L
fits_by L c inner true e le = omega (arith, leb-true (len_utf8 c) L e, le, length-append (encode_utf8 c) (encode_utf8_all inner), length-encode c)
fits_by L c inner false e le = omega arith

within_fits : (L : ℕ) (cs : List ℕ) → length (encode_utf8_all (characters_within L cs)) ≤ L
within_fits L [] = omega arith
within_fits L (c ∷ cs) = fits_by L c (characters_within (L - len_utf8 c) cs) (nat_le (len_utf8 c) L) refl (within_fits (L - len_utf8 c) cs)

longest_by : (L c : ℕ) (inner ds : List ℕ) (t : Bool) → nat_le (len_utf8 c) L ≡ t → length (encode_utf8_all (c ∷ ds)) ≤ L →
    (length (encode_utf8_all ds) ≤ L - len_utf8 c → length (encode_utf8_all ds) ≤ length (encode_utf8_all inner)) → length (encode_utf8_all (c ∷ ds)) ≤ length (encode_utf8_all (if t then c ∷ inner else []))
longest_by L c inner ds true e fits more =
    let whole = length-append (encode_utf8 c) (encode_utf8_all ds) in
    let le = more (omega (arith, whole, fits, length-encode c)) in
    omega (arith, whole, le, length-append (encode_utf8 c) (encode_utf8_all inner))
longest_by L c inner ds false e fits more =
    absurd (omega (arith, leb-false (len_utf8 c) L e, length-append (encode_utf8 c) (encode_utf8_all ds), fits, length-encode c))

head_of : (c d : ℕ) (cs ds : List ℕ) → c ∷ cs ≡ d ∷ ds → c ≡ d
head_of c d cs ds e = cc (e)

tail_of : (c d : ℕ) (cs ds : List ℕ) → c ∷ cs ≡ d ∷ ds → cs ≡ ds
tail_of c d cs ds e = cc (e)

within_longest : (L : ℕ) (cs ds rest : List ℕ) → cs ≡ ds ++ rest → length (encode_utf8_all ds) ≤ L → length (encode_utf8_all ds) ≤ length (encode_utf8_all (characters_within L cs))
within_longest L cs [] rest is fits = omega arith
within_longest L [] (d ∷ ds) rest is fits = absurd (cc (is))
within_longest L (c ∷ cs) (d ∷ ds) rest is fits =
    let same : c ≡ d = head_of c d cs (ds ++ rest) is in
    let inner = characters_within (L - len_utf8 c) cs in
    subst (λ x. length (encode_utf8_all (x ∷ ds)) ≤ length (encode_utf8_all (characters_within L (c ∷ cs)))) same
    (longest_by L c inner ds (nat_le (len_utf8 c) L) refl (subst (λ x. length (encode_utf8_all (x ∷ ds)) ≤ L) (sym same) fits) (within_longest (L - len_utf8 c) cs ds rest (tail_of c d cs (ds ++ rest) is)))

pub low_of_text : (v : List ℕ) (L : ℕ) → IsUtf8 v → IsLongestBeginning IsUtf8 v L (text_within L v)
low_of_text v L u =
    let cs = chars v in
    let ws = characters_within L cs in
    let f = within_front L cs in
    record {
      fits = within_fits L cs;
      begins = (encode_utf8_all f.0, sym (encodes-chars v u) ∙ ap encode_utf8_all f.1 ∙ encodes-append ws f.0);
      passes = (ws, (scalars_left ws f.0 (subst (λ xs. scalars xs ≡ true) f.1 (scalars-chars v u)), refl));
      longest = λ d fits b ud.
          let back = encodes-chars d ud in
          let same : cs ≡ chars d ++ chars b.0 = ap chars b.1 ∙ chars-append d b.0 ud in
          subst (λ x. length x ≤ length (text_within L v)) back (within_longest L cs (chars d) (chars b.0) same (subst (λ x. length x ≤ L) (sym back) fits));
    }

pub low_by_function : (v : Content) (L : ℕ) → IsWellFormed v → IsLow v L (low L v)
low_by_function (text v) L u = low_of_text v L u
low_by_function (byte_string v) L b = take_longest v L
low_by_function v L w = refl

-- ---- raising

scalar_head : (c : ℕ) (cs : List ℕ) → scalars (c ∷ cs) ≡ true → IsScalar c
scalar_head c cs h = grind (arith, nat_tests)

scalars_behind : (c : ℕ) (cs : List ℕ) → scalars (c ∷ cs) ≡ true → scalars cs ≡ true
scalars_behind c cs h = grind (arith, nat_tests)

-- the last character of as many UTF-8 bytes
highest_at : (c : ℕ) → ((c == 0x7f) || (c == 0x7ff) || (c == 0xffff) || (c == 0x10ffff)) ≡ true → IsHighest c
highest_at c e d h = let s : IsScalar d = h.0 in let lt : c < d = h.1 in let same : len_utf8 d ≡ len_utf8 c = h.2 in grind (arith, nat_tests, e, s, lt, same)

next_at : (c : ℕ) → IsScalar c → ((c == 0x7f) || (c == 0x7ff) || (c == 0xffff) || (c == 0x10ffff)) ≡ false → (c == 0xd7ff) ≡ false → IsNext c (suc c)
next_at c s e f = ((grind (arith, nat_tests, s, e, f), omega arith, grind (arith, nat_tests, s, e)), λ d h. let lt : c < d = h.1 in omega (arith, lt))

next_past_gap : (c : ℕ) → (c == 0xd7ff) ≡ true → IsNext c 0xe000
next_past_gap c f = ((grind (arith, nat_tests), grind (arith, nat_tests, f), grind (arith, nat_tests, f)), λ d h. let s : IsScalar d = h.0 in let lt : c < d = h.1 in grind (arith, nat_tests, s, lt, f))

next_by : (c : ℕ) (t : Bool) → IsScalar c → ((c == 0x7f) || (c == 0x7ff) || (c == 0xffff) || (c == 0x10ffff)) ≡ false → (c == 0xd7ff) ≡ t → MatchOption (if t then Some 0xe000 else Some (suc c)) (IsHighest c) (IsNext c)
next_by c true s e f = next_past_gap c f
next_by c false s e f = next_at c s e f

next_from : (c : ℕ) (t : Bool) → IsScalar c → ((c == 0x7f) || (c == 0x7ff) || (c == 0xffff) || (c == 0x10ffff)) ≡ t → MatchOption (if t then None else (if c == 0xd7ff then Some 0xe000 else Some (suc c))) (IsHighest c) (IsNext c)
next_from c true s e = highest_at c e
next_from c false s e = next_by c (c == 0xd7ff) s e refl

pub next_is : (c : ℕ) → IsScalar c → MatchOption (next_character c) (IsHighest c) (IsNext c)
next_is c s = next_from c ((c == 0x7f) || (c == 0x7ff) || (c == 0xffff) || (c == 0x10ffff)) s refl

raised_here : (c : ℕ) (cs : List ℕ) (o : Option ℕ) → MatchOption o (IsHighest c) (IsNext c) → CannotBeRaised cs → MatchOption (option_map (λ d. d ∷ []) o) (CannotBeRaised (c ∷ cs)) (IsRaised (c ∷ cs))
raised_here c cs None h none = (h, none)
raised_here c cs (Some d) h none = record { before = []; char = c; after = cs; split = refl; latest = none; raised = d; higher = h.0; least = h.1; answer = refl }

raised_behind : (c : ℕ) (cs ds : List ℕ) → IsRaised cs ds → IsRaised (c ∷ cs) (c ∷ ds)
raised_behind c cs ds r = record {
  before = c ∷ r.before;
  char = r.char;
  after = r.after;
  split = ap (λ xs. c ∷ xs) r.split;
  latest = r.latest;
  raised = r.raised;
  higher = r.higher;
  least = r.least;
  answer = ap (λ xs. c ∷ xs) r.answer;
}

raised_by : (c : ℕ) (cs : List ℕ) (o : Option (List ℕ)) → IsScalar c → MatchOption o (CannotBeRaised cs) (IsRaised cs) →
    (let x : Option (List ℕ) = elim o [ Some ds ↦ Some (c ∷ ds) | None ↦ option_map (λ d. d ∷ []) (next_character c) ] in MatchOption x (CannotBeRaised (c ∷ cs)) (IsRaised (c ∷ cs)))
raised_by c cs (Some ds) s r = raised_behind c cs ds r
raised_by c cs None s none = raised_here c cs (next_character c) (next_is c s) none

raised_characters : (cs : List ℕ) → scalars cs ≡ true → MatchOption (raise_characters cs) (CannotBeRaised cs) (IsRaised cs)
raised_characters [] h = tt
raised_characters (c ∷ cs) h = raised_by c cs (raise_characters cs) (scalar_head c cs h) (raised_characters cs (scalars_behind c cs h))

raise_from : (p : List ℕ) (o : Option (List ℕ)) → IsUtf8 p → MatchOption o (CannotBeRaised (chars p)) (IsRaised (chars p)) → IsRaise p (option_map encode_utf8_all o)
raise_from p None u h = h
raise_from p (Some ds) u h = raise_made p ds (encode_utf8_all ds) u h refl

pub raise_by_function : (p : List ℕ) → IsUtf8 p → IsRaise p (raise p)
raise_by_function p u = raise_from p (raise_characters (chars p)) u (raised_characters (chars p) (scalars-chars p u))

-- ---- the high

text_high : (v : List ℕ) (L : ℕ) (o : Option (List ℕ)) → IsRaisedBeginning v L o → IsHighText v L (option_map text o)
text_high v L None h = h
text_high v L (Some s) h = h

text_by : (v : List ℕ) (L : ℕ) (t : Bool) → IsUtf8 v → nat_lt L (length v) ≡ t → IsHigh (text v) L (if t then option_map text (raise (text_within L v)) else Some (text v))
text_by v L true u e =
    let lt = ltb-true L (length v) e in
    let p = text_within L v in
    let low = low_of_text v L u in
    (λ short. absurd (omega (arith, lt, short)), λ long. text_high v L (raise p) (p, low, raise_by_function p low.passes))
text_by v L false u e = let le = ltb-false L (length v) e in (λ short. refl, λ long. absurd (omega (arith, le, long)))

pub high_by_function : (v : Content) (L : ℕ) → IsWellFormed v → IsHigh v L (high L v)
high_by_function (text v) L u = text_by v L (nat_lt L (length v)) u refl
high_by_function (byte_string v) L b = high_of_bytes v L b
high_by_function v L w = refl

-- ---- a value that fits is its own low and high

whole_longest : (P : List ℕ → Type 0) (v : List ℕ) (L : ℕ) → P v → length v ≤ L → IsLongestBeginning P v L v
whole_longest P v L p le = record { fits = le; begins = ([], sym (append-nil v)); passes = p; longest = λ d fits b q. begins_length d v b }

pub low_itself : (v : Content) (L : ℕ) → IsWellFormed v → length (bytes_of v) ≤ L → IsLow v L v
low_itself (text v) L u le = whole_longest IsUtf8 v L u le
low_itself (byte_string v) L b le = whole_longest AnyBytes v L tt le
low_itself v L w le = refl

pub high_itself : (v : Content) (L : ℕ) → length (bytes_of v) ≤ L → IsHigh v L (Some v)
high_itself (text v) L le = (λ short. refl, λ long. absurd (omega (arith, le, long)))
high_itself (byte_string v) L le = (λ short. refl, λ long. absurd (omega (arith, le, long)))
high_itself v L le = refl

-- so the functions return it
pub low_short : (v : Content) (L : ℕ) → IsWellFormed v → is_longer L v ≡ false → low L v ≡ v
low_short (text v) L u e = let le = ltb-false L (length v) e in ap text (longest_same IsUtf8 v (text_within L v) v L (low_of_text v L u) (whole_longest IsUtf8 v L u le))
low_short (byte_string v) L b e = let le = ltb-false L (length v) e in ap byte_string (take_all L v le)
low_short v L w e = refl

pub high_short : (v : Content) (L : ℕ) → is_longer L v ≡ false → high L v ≡ Some v
high_short (text v) L e = ap (λ b. if b then option_map text (raise (text_within L v)) else Some (text v)) e
high_short (byte_string v) L e = ap (λ b. if b then option_map byte_string (count_up (take L v)) else Some (byte_string v)) e
high_short v L e = refl
