-- The bytes plus one are the least byte string of that length above longer bytes.
use Rattle.std.proofs.Common.{◌≡◌, refl, sym, ◌∙◌, ap, subst, ℕ, zero, suc, ◌<◌, List, [], ◌∷◌, ◌++◌, length, Bool, true, false, Option, Some, None, if◌then◌else◌, nat_lt, T, ltb→lt, arith, replicate, ◌⊎◌, inl, inr, eq-or-lt_of_le, true≢false, take, drop, min, ◌+◌, option_map, le_of_lt}
use Rattle.std.specs.declared.cmp.Ordering.TheVariants.{Less}
use Rattle.std.specs.Ordering.{nat_cmp, is_le, is_lt}
use Rattle.std.specs.Cmp.Lexicographic.{slice_cmp}
use Rattle.std.proofs.lemmas.List.{length-replicate, length-take, length-append, take-append-drop, length-take-le}
use Rattle.std.proofs.Math.Nat.{suc_inj}
use Rattle.std.proofs.lemmas.Bool.{lt-ltb}
use Rattle.vortex_model.specs.Valid.{AreBytes}
use Rattle.vortex_model_table.specs.Bounds.{count_up, low, high, IsLow, IsHigh, IsHighBytes}
use Rattle.vortex_model.specs.Content.{byte_string}
use Rattle.vortex_model_laws.proofs.ByteOrder.{eq_head, under_head, under_cases, less_so}
use Rattle.vortex_model_laws.proofs.Beginnings.{take_longest}

-- the rest plus one, or where that overflows, this byte plus one
abbrev Raised : ℕ → List ℕ → List ℕ → Type 0
Raised b bs h = ((ds : List ℕ) × (count_up bs ≡ Some ds) × (h ≡ b ∷ ds)) ⊎ ((count_up bs ≡ None) × (b < 255) × (h ≡ suc b ∷ replicate (length bs) 0))

some_equal : {X : Type 0} (x y : X) → Some x ≡ Some y → y ≡ x
some_equal x y e = cc (e)

raised_by : (b : ℕ) (bs h : List ℕ) (t : Bool) → nat_lt b 255 ≡ t → count_up bs ≡ None →
    (if t then Some (suc b ∷ replicate (length bs) 0) else None) ≡ Some h → Raised b bs h
raised_by b bs h true w n e = inr (n, ltb→lt b 255 (subst T (sym w) tt), some_equal (suc b ∷ replicate (length bs) 0) h e)
raised_by b bs h false w n e = absurd (cc (e))

raised_from : (b : ℕ) (bs h : List ℕ) (o : Option (List ℕ)) → count_up bs ≡ o →
    (elim o [ Some ds ↦ Some (b ∷ ds) | None ↦ (if nat_lt b 255 then Some (suc b ∷ replicate (length bs) 0) else None) ]) ≡ Some h → Raised b bs h
raised_from b bs h (Some ds) w e = inl (ds, w, some_equal (b ∷ ds) h e)
raised_from b bs h None w e = raised_by b bs h (nat_lt b 255) refl w e

raised : (b : ℕ) (bs h : List ℕ) → count_up (b ∷ bs) ≡ Some h → Raised b bs h
raised b bs h e = raised_from b bs h (count_up bs) refl e

up_length : (p h : List ℕ) → count_up p ≡ Some h → length h ≡ length p
up_length [] h e = absurd (cc (e))
up_length (b ∷ bs) h e = elim (raised b bs h e) [
  | inl r ↦ ap (λ x. length x) r.2 ∙ ap (λ n. suc n) (up_length bs r.0 r.1)
  | inr r ↦ ap (λ x. length x) r.2 ∙ ap (λ n. suc n) (length-replicate (length bs) 0)
]

pub zeros_are_bytes : (n : ℕ) → AreBytes (replicate n 0)
zeros_are_bytes zero = tt
zeros_are_bytes (suc n) = (omega arith, zeros_are_bytes n)

up_bytes : (p h : List ℕ) → AreBytes p → count_up p ≡ Some h → AreBytes h
up_bytes [] h a e = absurd (cc (e))
up_bytes (b ∷ bs) h a e = elim (raised b bs h e) [
  | inl r ↦ subst AreBytes (sym r.2) (a.0, up_bytes bs r.0 a.1 r.1)
  | inr r ↦ subst AreBytes (sym r.2) (let q : b < 255 = r.1 in omega (arith, q), zeros_are_bytes (length bs))
]

pub up_above : (p h rest : List ℕ) → count_up p ≡ Some h → slice_cmp nat_cmp (p ++ rest) h ≡ Less
up_above [] h rest e = absurd (cc (e))
up_above (b ∷ bs) h rest e = elim (raised b bs h e) [
  | inl r ↦ ap (λ x. slice_cmp nat_cmp (b ∷ (bs ++ rest)) x) r.2 ∙ eq_head b (bs ++ rest) r.0 ∙ up_above bs r.0 rest r.1
  | inr r ↦ ap (λ x. slice_cmp nat_cmp (b ∷ (bs ++ rest)) x) r.2 ∙ under_head b (suc b) (bs ++ rest) (replicate (length bs) 0) (omega arith)
]

-- where no byte can be incremented
stuck_by : (b : ℕ) (bs : List ℕ) (t : Bool) → nat_lt b 255 ≡ t → (if t then Some (suc b ∷ replicate (length bs) 0) else None) ≡ None → ¬ (b < 255)
stuck_by b bs true w e = absurd (cc (e))
stuck_by b bs false w e = λ less. true≢false (sym (lt-ltb b 255 less) ∙ w)

stuck_from : (b : ℕ) (bs : List ℕ) (o : Option (List ℕ)) → count_up bs ≡ o →
    (let x : Option (List ℕ) = elim o [ Some ds ↦ Some (b ∷ ds) | None ↦ (if nat_lt b 255 then Some (suc b ∷ replicate (length bs) 0) else None) ] in x ≡ None) → (count_up bs ≡ None) × ¬ (b < 255)
stuck_from b bs (Some ds) w e = absurd (cc (e))
stuck_from b bs None w e = (w, stuck_by b bs (nat_lt b 255) refl e)

pub none_above : (p d : List ℕ) → count_up p ≡ None → AreBytes d → length d ≡ length p → ¬ (slice_cmp nat_cmp p d ≡ Less)
none_above [] [] e a l h = absurd (cc (h))
none_above [] (x ∷ d) e a l h = absurd (cc (l))
none_above (b ∷ bs) [] e a l h = absurd (cc (h))
none_above (b ∷ bs) (x ∷ d) e a l h =
    let s = stuck_from b bs (count_up bs) refl e in
    elim (under_cases b x bs d h) [
      | inl m ↦ s.1 (let f : b < x = m in let g : x < 256 = a.0 in omega (arith, f, g))
      | inr m ↦ none_above bs d s.0 a.1 (suc_inj l) m.1
    ]

zeros_least : (n : ℕ) (d : List ℕ) → length d ≡ n → is_le (slice_cmp nat_cmp (replicate n 0) d) ≡ true
zeros_least zero [] l = refl
zeros_least zero (x ∷ d) l = absurd (cc (l))
zeros_least (suc n) [] l = absurd (cc (l))
zeros_least (suc n) (zero ∷ d) l = ap (λ o. is_le o) (eq_head 0 (replicate n 0) d) ∙ zeros_least n d (suc_inj l)
zeros_least (suc n) (suc x ∷ d) l = ap (λ o. is_le o) (under_head 0 (suc x) (replicate n 0) d (omega arith))

pub up_least : (p h d : List ℕ) → count_up p ≡ Some h → AreBytes d → length d ≡ length p → slice_cmp nat_cmp p d ≡ Less → is_le (slice_cmp nat_cmp h d) ≡ true
up_least [] h d e a l g = absurd (cc (e))
up_least (b ∷ bs) h [] e a l g = absurd (cc (g))
up_least (b ∷ bs) h (x ∷ d) e a l g = elim (raised b bs h e) [
  | inl r ↦ subst (λ k. is_le (slice_cmp nat_cmp k (x ∷ d)) ≡ true) (sym r.2) (elim (under_cases b x bs d g) [
    | inl m ↦ ap (λ o. is_le o) (under_head b x r.0 d m)
    | inr m ↦ subst (λ y. is_le (slice_cmp nat_cmp (b ∷ r.0) (y ∷ d)) ≡ true) m.0
        (ap (λ o. is_le o) (eq_head b r.0 d) ∙ up_least bs r.0 d r.1 a.1 (suc_inj l) m.1)
  ])
  | inr r ↦ subst (λ k. is_le (slice_cmp nat_cmp k (x ∷ d)) ≡ true) (sym r.2) (elim (under_cases b x bs d g) [
    | inl m ↦ elim (eq-or-lt_of_le m) [
      | inl same ↦ subst (λ y. is_le (slice_cmp nat_cmp (suc b ∷ replicate (length bs) 0) (y ∷ d)) ≡ true) same
          (ap (λ o. is_le o) (eq_head (suc b) (replicate (length bs) 0) d) ∙ zeros_least (length bs) d (suc_inj l))
      | inr more ↦ ap (λ o. is_le o) (under_head (suc b) x (replicate (length bs) 0) d more)
    ]
    | inr m ↦ absurd (none_above bs d r.0 a.1 (suc_inj l) m.1)
  ])
]

-- a byte string above a longer one is above the prefix of its own length
pub front_below : (p d : List ℕ) (y : ℕ) (ys : List ℕ) → length d ≡ length p → slice_cmp nat_cmp (p ++ y ∷ ys) d ≡ Less → slice_cmp nat_cmp p d ≡ Less
front_below [] [] y ys l h = absurd (cc (h))
front_below [] (x ∷ d) y ys l h = absurd (cc (l))
front_below (b ∷ bs) [] y ys l h = absurd (cc (h))
front_below (b ∷ bs) (x ∷ d) y ys l h = elim (under_cases b x (bs ++ y ∷ ys) d h) [
  | inl m ↦ under_head b x bs d m
  | inr m ↦ subst (λ z. slice_cmp nat_cmp (b ∷ bs) (z ∷ d) ≡ Less) m.0 (eq_head b bs d ∙ front_below bs d y ys (suc_inj l) m.1)
]

-- ---- the low and the high of bytes

pub low_of_bytes : (v : List ℕ) (L : ℕ) → IsLow (byte_string v) L (low L (byte_string v))
low_of_bytes v L = take_longest v L

-- the high of bytes p ++ y ∷ ys, which are longer than p
longer_high : (p : List ℕ) (y : ℕ) (ys : List ℕ) (o : Option (List ℕ)) → AreBytes p → count_up p ≡ o → IsHighBytes (p ++ y ∷ ys) (length p) (option_map byte_string o)
longer_high p y ys (Some h) a e = record {
  bytes = up_bytes p h a e;
  exact = up_length p h e;
  above = ap (λ o. is_lt o) (up_above p h (y ∷ ys) e);
  least = λ d b l m. up_least p h d e b l (front_below p d y ys l (less_so (slice_cmp nat_cmp (p ++ y ∷ ys) d) m));
}
longer_high p y ys None a e = λ d b l m. none_above p d e b l (front_below p d y ys l (less_so (slice_cmp nat_cmp (p ++ y ∷ ys) d) m))

tail_there : (L : ℕ) (v : List ℕ) (rest : List ℕ) → L < length v → take L v ++ rest ≡ v → (y : ℕ) × (ys : List ℕ) × (rest ≡ y ∷ ys)
tail_there L v [] h e =
    let f : length v ≡ length (take L v) + 0 = sym (ap (λ x. length x) e) ∙ length-append (take L v) [] in
    let g : length (take L v) ≡ min L (length v) = length-take L v in
    absurd (grind (arith, f, g, h))
tail_there L v (y ∷ ys) h e = (y, ys, refl)

pub front_bytes : (xs ys : List ℕ) → AreBytes (xs ++ ys) → AreBytes xs
front_bytes [] ys a = tt
front_bytes (x ∷ xs) ys a = (a.0, front_bytes xs ys a.1)

long_bytes : (v : List ℕ) (L : ℕ) → AreBytes v → L < length v → IsHighBytes v L (option_map byte_string (count_up (take L v)))
long_bytes v L a h =
    let there = tail_there L v (drop L v) h (take-append-drop L v) in
    let whole : take L v ++ there.0 ∷ there.1 ≡ v = ap (λ x. take L v ++ x) (sym there.2) ∙ take-append-drop L v in
    let full : length (take L v) ≡ L = length-take-le L v (le_of_lt h) in
    let front : AreBytes (take L v) = front_bytes (take L v) (there.0 ∷ there.1) (subst AreBytes (sym whole) a) in
    subst (λ n. IsHighBytes v n (option_map byte_string (count_up (take L v)))) full
    (subst (λ w. IsHighBytes w (length (take L v)) (option_map byte_string (count_up (take L v)))) whole
    (longer_high (take L v) there.0 there.1 (count_up (take L v)) front refl))

high_by : (v : List ℕ) (L : ℕ) (t : Bool) → nat_lt L (length v) ≡ t → AreBytes v →
    IsHigh (byte_string v) L (if t then option_map byte_string (count_up (take L v)) else Some (byte_string v))
high_by v L true w a =
    let long : L < length v = ltb→lt L (length v) (subst T (sym w) tt) in
    (λ short. absurd (omega (arith, long, short)), λ h. long_bytes v L a long)
high_by v L false w a = (λ short. refl, λ h. absurd (true≢false (sym (lt-ltb L (length v) h) ∙ w)))

pub high_of_bytes : (v : List ℕ) (L : ℕ) → AreBytes v → IsHigh (byte_string v) L (high L (byte_string v))
high_of_bytes v L a = high_by v L (nat_lt L (length v)) refl a
