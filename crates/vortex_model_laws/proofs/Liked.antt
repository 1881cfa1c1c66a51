-- LIKE patterns of the wide class: what they match; and where their falsifier isn't true, some
-- string between the bounds matches.
use Rattle.std.proofs.Common.{◌≡◌, refl, sym, ◌∙◌, ap, subst, ℕ, suc, ◌+◌, ◌/◌, ◌%◌, ◌<◌, ◌≤◌, arith, List, [], ◌∷◌, ◌++◌, map, Bool, true, false, not, ◌&&◌, ◌||◌, ◌==◌, if◌then◌else◌, Option, Some, None, option_map, ◌⊎◌, inl, inr, IsUtf8, chars, eqb-true}
use Rattle.std.specs.Prelude.{is_some}
use Rattle.std.specs.List.{list_any}
use Rattle.std.specs.Char.{encode_utf8}
use Rattle.std.specs.Str.{encode_utf8_all}
use Rattle.std.specs.declared.cmp.Ordering.TheVariants.{Greater}
use Rattle.std.specs.Ordering.{nat_cmp, is_le, ordering_reverse}
use Rattle.std.specs.Cmp.Lexicographic.{slice_cmp}
use Rattle.std.proofs.Math.Utf8.{scalars}
use Rattle.std.proofs.lemmas.Bool.{cases_lt, eq-eqb, or_cases, not-false, not-true}
use Rattle.std.proofs.lemmas.Cmp.{nat_list_cmp_total}
use Rattle.std.proofs.lemmas.Bool.Decides.{nat_tests}
use Rattle.std.proofs.lemmas.List.{append-nil}
use Rattle.std.proofs.lemmas.Str.{encode_ascii, encodes-append, encodes-chars, chars-encodes, scalars-chars}
use Rattle.vortex_model.specs.LogicalType.{Nullability, utf8}
use Rattle.vortex_model.specs.Content.{Content, null, boolean, text}
use Rattle.vortex_model.proofs.Booleans.{or_false_left, or_false_right, three_true, clashing}
use Rattle.vortex_model_table.specs.Bounds.{IsAtMostBytes, next_character, raise_characters, raise}
use Rattle.vortex_model_table.specs.Like.{matches, some_end, after_one, after_this, is_like, has_backslash}
use Rattle.vortex_model_table.specs.Truth.{liked}
use Rattle.vortex_model_table.specs.Rewrite.{Sign, letter, wildcard, sign_of, Shape, exact_text, beginning, no_shape, onto_shape, shape_of_signs, shape_of}
use Rattle.vortex_model_table.specs.Class.{is_plain, last_can_be_raised, front_of, ends_in_percent, is_text_form}
use Rattle.vortex_model_laws.proofs.Beginnings.{scalars_left}
use Rattle.vortex_model_laws.proofs.ByteOrder.{IsUnder, under_upto, eq_front, under_or_upto, upto_refl}
use Rattle.vortex_model_table.proofs.ContentOrder.{le}
use Rattle.vortex_model_laws.proofs.Encoded.{encode_two, encode_three, encode_four, encode_under}
use Rattle.vortex_model_laws.proofs.Likes.{plain_signs, any_behind}
use Rattle.vortex_model_laws.proofs.Members.{IsMember}

-- ---- letters

abbrev is_special : ℕ → Bool
is_special c = (c == 37) || (c == 95) || (c == 92)

neither : (p q r : Bool) → p || q || r ≡ false → (p ≡ false) × (q ≡ false) × (r ≡ false)
neither true q r h = absurd (cc (h))
neither false true r h = absurd (cc (h))
neither false false true h = absurd (cc (h))
neither false false false h = (refl, refl, refl)

one_of : (p q r : Bool) → p || q || r ≡ true → (p ≡ true) ⊎ ((q ≡ true) ⊎ (r ≡ true))
one_of true q r h = inl refl
one_of false true r h = inr (inl refl)
one_of false false true h = inr (inr refl)
one_of false false false h = absurd (cc (h))

special_low : (c : ℕ) → is_special c ≡ true → c < 128
special_low c h = elim (one_of (c == 37) (c == 95) (c == 92) h) [
  | inl e ↦ (let is = eqb-true c 37 e in omega (arith, is))
  | inr (inl e) ↦ (let is = eqb-true c 95 e in omega (arith, is))
  | inr (inr e) ↦ (let is = eqb-true c 92 e in omega (arith, is))
]

not_encoded : (c : ℕ) (rest : List ℕ) (b : Bool) → is_special c ≡ b → list_any is_special (encode_utf8 c ++ rest) ≡ false → b ≡ false
not_encoded c rest false e h = refl
not_encoded c rest true e h =
    let here : list_any is_special ((c ∷ []) ++ rest) ≡ false =
    subst (λ bs. list_any is_special (bs ++ rest) ≡ false) (encode_ascii c (special_low c e)) h in
    sym e ∙ or_false_left (is_special c) (list_any is_special rest) here

letters_of : (cs : List ℕ) → list_any is_special (encode_utf8_all cs) ≡ false → list_any is_special cs ≡ false
letters_of [] e = refl
letters_of (c ∷ cs) e =
    let here : is_special c ≡ false = not_encoded c (encode_utf8_all cs) (is_special c) refl e in
    ap (λ b. b || list_any is_special cs) here ∙ letters_of cs (any_behind is_special (encode_utf8 c) (encode_utf8_all cs) e)

module _ (c : ℕ) (cs : List ℕ) (h : list_any is_special (c ∷ cs) ≡ false) where
  first_letter : ((c == 37) ≡ false) × ((c == 95) ≡ false) × ((c == 92) ≡ false)
  first_letter = neither (c == 37) (c == 95) (c == 92) (or_false_left (is_special c) (list_any is_special cs) h)

  more_letters : list_any is_special cs ≡ false
  more_letters = or_false_right (is_special c) (list_any is_special cs) h

no_slashes : (cs : List ℕ) → list_any is_special cs ≡ false → list_any (λ c. c == 92) cs ≡ false
no_slashes [] h = refl
no_slashes (c ∷ cs) h = (λ i. (first_letter c cs h).2 i || no_slashes cs (more_letters c cs h) i)

no_slashes_either : (cs : List ℕ) → list_any is_special cs ≡ false → list_any (λ c. c == 92) (cs ++ 37 ∷ []) ≡ false
no_slashes_either [] h = refl
no_slashes_either (c ∷ cs) h = (λ i. (first_letter c cs h).2 i || no_slashes_either cs (more_letters c cs h) i)

-- ---- what patterns of letters match

text_shape : (cs : List ℕ) → list_any is_special cs ≡ false → shape_of_signs (map sign_of cs) ≡ exact_text cs
text_shape [] h = refl
text_shape (c ∷ cs) h =
    let f = first_letter c cs h in
    (λ i. shape_of_signs ((if f.0 i || f.1 i then wildcard else letter c) ∷ map sign_of cs)) ∙ ap (onto_shape c) (text_shape cs (more_letters c cs h))

prefix_shape : (cs : List ℕ) → list_any is_special cs ≡ false → shape_of_signs (map sign_of (cs ++ 37 ∷ [])) ≡ beginning cs
prefix_shape [] h = refl
prefix_shape (c ∷ cs) h =
    let f = first_letter c cs h in
    (λ i. shape_of_signs ((if f.0 i || f.1 i then wildcard else letter c) ∷ map sign_of (cs ++ 37 ∷ []))) ∙ ap (onto_shape c) (prefix_shape cs (more_letters c cs h))

step_matches : (c : ℕ) (cs vs : List ℕ) → (c == 37) ≡ false → (c == 95) ≡ false → matches cs vs ≡ true → matches (c ∷ cs) (c ∷ vs) ≡ true
step_matches c cs vs p q h =
    (λ i. if p i then some_end (matches cs) (c ∷ vs) else (if q i then after_one (matches cs) (c ∷ vs) else after_this c (matches cs) (c ∷ vs)))
    ∙ (λ i. eq-eqb c c refl i && h i)

text_matches : (cs : List ℕ) → list_any is_special cs ≡ false → matches cs cs ≡ true
text_matches [] h = refl
text_matches (c ∷ cs) h = let f = first_letter c cs h in step_matches c cs cs f.0 f.1 (text_matches cs (more_letters c cs h))

run_matches : (vs : List ℕ) → some_end (matches []) vs ≡ true
run_matches [] = refl
run_matches (v ∷ vs) = run_matches vs

prefix_matches : (cs rest : List ℕ) → list_any is_special cs ≡ false → matches (cs ++ 37 ∷ []) (cs ++ rest) ≡ true
prefix_matches [] rest h = run_matches rest
prefix_matches (c ∷ cs) rest h =
    let f = first_letter c cs h in step_matches c (cs ++ 37 ∷ []) (cs ++ rest) f.0 f.1 (prefix_matches cs rest (more_letters c cs h))

-- ---- one % at the end

-- the first byte and the rest; a character of two or more bytes doesn't end in %
record Ends (c : ℕ) : Type 0 where
  lead : ℕ
  rest : List ℕ
  is : encode_utf8 c ≡ lead ∷ rest
  percent : ends_in_percent (lead ∷ rest) ≡ true → c ≡ 37

never : (n : ℕ) → (128 + n == 37) ≡ true → ⊥
never n h = let e = eqb-true (128 + n) 37 h in omega (arith, e)

ends_of : (c : ℕ) → Ends c
ends_of c = elim (cases_lt c 128) [
  | inl a ↦ record { lead = c; rest = []; is = encode_ascii c a; percent = λ h. eqb-true c 37 h }
  | inr a ↦ elim (cases_lt c 2048) [
    | inl b ↦ record { lead = 192 + c / 64; rest = (128 + c % 64) ∷ []; is = encode_two c a b; percent = λ h. absurd (never (c % 64) h) }
    | inr b ↦ elim (cases_lt c 65536) [
      | inl d ↦ record { lead = 224 + c / 4096; rest = (128 + (c / 64) % 64) ∷ (128 + c % 64) ∷ []; is = encode_three c b d; percent = λ h. absurd (never (c % 64) h) }
      | inr d ↦ record { lead = 240 + c / 262144; rest = (128 + (c / 4096) % 64) ∷ (128 + (c / 64) % 64) ∷ (128 + c % 64) ∷ []; is = encode_four c d; percent = λ h. absurd (never (c % 64) h) }
    ]
  ]
]

ends_behind : (xs : List ℕ) (y : ℕ) (ys : List ℕ) → ends_in_percent (xs ++ y ∷ ys) ≡ ends_in_percent (y ∷ ys)
ends_behind [] y ys = refl
ends_behind (x ∷ []) y ys = refl
ends_behind (x ∷ z ∷ xs) y ys = ends_behind (z ∷ xs) y ys

front_behind : (xs : List ℕ) (x : ℕ) → front_of (xs ++ x ∷ []) ≡ xs
front_behind [] x = refl
front_behind (y ∷ []) x = refl
front_behind (y ∷ z ∷ xs) x = ap (λ ys. y ∷ ys) (front_behind (z ∷ xs) x)

percent_last : (cs : List ℕ) → ends_in_percent (encode_utf8_all cs) ≡ true → (ds : List ℕ) × (cs ≡ ds ++ 37 ∷ [])
percent_last [] h = absurd (cc (h))
percent_last (c ∷ []) h =
    let b = ends_of c in
    ([], ap (λ x. x ∷ []) (b.percent (subst (λ bs. ends_in_percent bs ≡ true) (ap (λ bs. bs ++ []) b.is ∙ append-nil (b.lead ∷ b.rest)) h)))
percent_last (c ∷ d ∷ cs) h =
    let b = ends_of d in let behind = b.rest ++ encode_utf8_all cs in
    let is : encode_utf8_all (d ∷ cs) ≡ b.lead ∷ behind = ap (λ bs. bs ++ encode_utf8_all cs) b.is in
    let more : ends_in_percent (encode_utf8_all (d ∷ cs)) ≡ true =
    ap ends_in_percent is ∙ sym (ends_behind (encode_utf8 c) b.lead behind) ∙ ap (λ bs. ends_in_percent (encode_utf8 c ++ bs)) (sym is) ∙ h in
    let r = percent_last (d ∷ cs) more in
    (c ∷ r.0, ap (λ xs. c ∷ xs) r.1)

-- ---- a prefix whose last character is raised

record LastRaised (ds : List ℕ) : Type 0 where
  front : List ℕ
  last : ℕ
  higher : ℕ
  is : ds ≡ front ++ last ∷ []
  next : next_character last ≡ Some higher
  raised : raise_characters ds ≡ Some (front ++ higher ∷ [])

last_raised : (ds : List ℕ) → last_can_be_raised ds ≡ true → LastRaised ds
last_raised [] h = absurd (cc (h))
last_raised (c ∷ []) h = by_next (next_character c) refl h
  where
    by_next : (o : Option ℕ) → next_character c ≡ o → is_some o ≡ true → LastRaised (c ∷ [])
    by_next None e s = absurd (cc (s))
    by_next (Some d) e s = record { front = []; last = c; higher = d; is = refl; next = e; raised = ap (option_map (λ x. x ∷ [])) e }
last_raised (c ∷ d ∷ cs) h =
    let r = last_raised (d ∷ cs) h in record {
      front = c ∷ r.front;
      last = r.last;
      higher = r.higher;
      is = ap (λ xs. c ∷ xs) r.is;
      next = r.next;
      raised = ap (λ o. elim o as (λ o. Option (List ℕ)) [ Some ds ↦ Some (c ∷ ds) | None ↦ option_map (λ x. x ∷ []) (next_character c) ]) r.raised;
    }

raise_of : (cs ds : List ℕ) → scalars cs ≡ true → raise_characters cs ≡ Some ds → raise (encode_utf8_all cs) ≡ Some (encode_utf8_all ds)
raise_of cs ds valid e =
    let same : raise_characters (chars (encode_utf8_all cs)) ≡ Some ds = ap raise_characters (chars-encodes cs valid) ∙ e in ap (option_map encode_utf8_all) same

next_is : (c d : ℕ) → next_character c ≡ Some d → (d ≡ suc c) ⊎ ((c ≡ 0xd7ff) × (d ≡ 0xe000))
next_is c d h = by_tests ((c == 0x7f) || (c == 0x7ff) || (c == 0xffff) || (c == 0x10ffff)) (c == 0xd7ff) refl h
  where
    by_tests : (p q : Bool) → (c == 0xd7ff) ≡ q → (if p then None else (if q then Some 0xe000 else Some (suc c))) ≡ Some d → (d ≡ suc c) ⊎ ((c ≡ 0xd7ff) × (d ≡ 0xe000))
    by_tests true q e h = absurd (cc (h))
    by_tests false true e h = inr (eqb-true c 0xd7ff e, (let s : 0xe000 ≡ d = cc (h) in sym s))
    by_tests false false e h = inl (let s : suc c ≡ d = cc (h) in sym s)

-- c is the only character from c up to the next
same_character : (a c d : ℕ) (es : List ℕ) → scalars (a ∷ es) ≡ true → next_character c ≡ Some d → c ≤ a → a < d → a ≡ c
same_character a c d es s e low high = elim (next_is c d e) [
  | inl n ↦ omega (arith, n, low, high)
  | inr n ↦ (let x = n.0 in let y = n.1 in grind (arith, nat_tests, s, x, y, low, high))
]

-- not both
not_back : (v w : List ℕ) → IsUnder v w → IsAtMostBytes w v → ⊥
not_back v w h g =
    let back : slice_cmp nat_cmp w v ≡ Greater = nat_list_cmp_total.antisymm w v ∙ ap ordering_reverse h in
    let f : false ≡ true = sym (ap (λ o. is_le o) back) ∙ g in absurd (cc (f))

nothing_under : (bs : List ℕ) → IsUnder bs [] → ⊥
nothing_under [] h = cc (h)
nothing_under (b ∷ bs) h = cc (h)

none_empty : (c : ℕ) (bs : List ℕ) → IsAtMostBytes (encode_utf8 c ++ bs) [] → ⊥
none_empty c bs h = let b = ends_of c in let f = subst (λ xs. IsAtMostBytes (xs ++ bs) []) b.is h in cc (f)

-- A string from the prefix up to the prefix raised starts with the prefix.
within : (front : List ℕ) (c d : ℕ) (es : List ℕ) → scalars es ≡ true → next_character c ≡ Some d → IsAtMostBytes (encode_utf8_all (front ++ c ∷ [])) (encode_utf8_all es) →
    IsUnder (encode_utf8_all es) (encode_utf8_all (front ++ d ∷ [])) → (rest : List ℕ) × (es ≡ (front ++ c ∷ []) ++ rest)
within [] c d [] s next low high = absurd (none_empty c [] low)
within [] c d (a ∷ es) s next low high = elim (cases_lt a c) [
  | inl lt ↦ absurd (not_back (encode_utf8 a ++ encode_utf8_all es) (encode_utf8 c ++ []) (encode_under a c (encode_utf8_all es) [] lt) low)
  | inr ca ↦ elim (cases_lt a d) [
    | inl ad ↦ (es, ap (λ x. x ∷ es) (same_character a c d es s next ca ad))
    | inr da ↦ elim (cases_lt d a) [
      | inl lt ↦ absurd (not_back (encode_utf8 a ++ encode_utf8_all es) (encode_utf8 d ++ []) high
          (under_upto (encode_utf8 d ++ []) (encode_utf8 a ++ encode_utf8_all es) (encode_under d a [] (encode_utf8_all es) lt)))
      | inr ad ↦ absurd (let same : a ≡ d = omega (arith, ad, da) in
          nothing_under (encode_utf8_all es) (sym (eq_front (encode_utf8 d) (encode_utf8_all es) []) ∙ subst (λ x. IsUnder (encode_utf8 x ++ encode_utf8_all es) (encode_utf8 d ++ [])) same high))
    ]
  ]
]
within (f ∷ front) c d [] s next low high = absurd (none_empty f (encode_utf8_all (front ++ c ∷ [])) low)
within (f ∷ front) c d (a ∷ es) s next low high =
    let xs = encode_utf8_all (front ++ c ∷ []) in let ys = encode_utf8_all (front ++ d ∷ []) in let zs = encode_utf8_all es in elim (cases_lt a f) [
      | inl lt ↦ absurd (not_back (encode_utf8 a ++ zs) (encode_utf8 f ++ xs) (encode_under a f zs xs lt) low)
      | inr fa ↦ elim (cases_lt f a) [
        | inl lt ↦ absurd (not_back (encode_utf8 a ++ zs) (encode_utf8 f ++ ys) high (under_upto (encode_utf8 f ++ ys) (encode_utf8 a ++ zs) (encode_under f a ys zs lt)))
        | inr af ↦ (let same : a ≡ f = omega (arith, af, fa) in
            let r = within front c d es (behind_scalar s) next
            (ap (λ o. is_le o) (sym (eq_front (encode_utf8 f) xs zs)) ∙ subst (λ x. IsAtMostBytes (encode_utf8 f ++ xs) (encode_utf8 x ++ zs)) same low)
            (sym (eq_front (encode_utf8 f) zs ys) ∙ subst (λ x. IsUnder (encode_utf8 x ++ zs) (encode_utf8 f ++ ys)) same high) in
            (r.0, λ i. same i ∷ r.1 i))
      ]
    ]
  where
    behind_scalar : scalars (a ∷ es) ≡ true → scalars es ≡ true
    behind_scalar h = grind (arith, nat_tests, h)

-- ---- the two forms

pub record IsTextForm (form : List ℕ) : Type 0 where
  pub shape : shape_of (chars form) ≡ exact_text (chars form)
  pub free : has_backslash form ≡ false
  pub like : is_like form form ≡ true

pub record IsPrefixForm (form : List ℕ) : Type 0 where
  pub begin : List ℕ
  pub shape : shape_of (chars form) ≡ beginning begin
  pub free : has_backslash form ≡ false
  pub like : (v rest : List ℕ) → chars v ≡ begin ++ rest → is_like form v ≡ true
  pub valid : scalars begin ≡ true
  pub front : List ℕ
  pub last : ℕ
  pub higher : ℕ
  pub is : begin ≡ front ++ last ∷ []
  pub next : next_character last ≡ Some higher
  pub raised : raise (encode_utf8_all begin) ≡ Some (encode_utf8_all (front ++ higher ∷ []))

abbrev shape_in : Option (List Sign) → Shape
shape_in o = elim o [ None ↦ no_shape | Some signs ↦ shape_of_signs signs ]

text_form : (form : List ℕ) → IsUtf8 form → is_plain form ≡ true → IsTextForm form
text_form form u plain =
    let bytes = not-true (list_any is_special form) plain in let cs = chars form in
    let letters = letters_of cs (ap (list_any is_special) (encodes-chars form u) ∙ bytes) in record {
      shape = ap shape_in (plain_signs cs (no_slashes cs letters)) ∙ text_shape cs letters;
      free = no_slashes form bytes;
      like = text_matches cs letters;
    }

prefix_form : (form : List ℕ) → IsUtf8 form → ends_in_percent form ≡ true → is_plain (front_of form) ≡ true → last_can_be_raised (chars (front_of form)) ≡ true → IsPrefixForm form
prefix_form form u ends plain can =
    let p = percent_last (chars form) (ap ends_in_percent (encodes-chars form u) ∙ ends) in let ds = p.0 in let bs = encode_utf8_all ds in
    let whole : form ≡ bs ++ 37 ∷ [] =
    sym (encodes-chars form u) ∙ ap encode_utf8_all p.1 ∙ encodes-append ds (37 ∷ []) ∙ ap (λ x. bs ++ (x ++ [])) (encode_ascii 37 (omega arith)) in
    let front : front_of form ≡ bs = ap front_of whole ∙ front_behind bs 37 in
    let bytes : list_any is_special bs ≡ false = ap (list_any is_special) (sym front) ∙ not-true (list_any is_special (front_of form)) plain in
    let letters = letters_of ds bytes in
    let valid = scalars_left ds (37 ∷ []) (subst (λ cs. scalars cs ≡ true) p.1 (scalars-chars form u)) in
    let back : chars bs ≡ ds = chars-encodes ds valid in
    let r = last_raised ds (ap last_can_be_raised (sym (ap chars front ∙ back)) ∙ can) in record {
      begin = ds;
      shape = ap shape_of p.1 ∙ ap shape_in (plain_signs (ds ++ 37 ∷ []) (no_slashes_either ds letters)) ∙ prefix_shape ds letters;
      free = ap has_backslash whole ∙ no_slashes_either bs bytes;
      like = λ v rest e. (λ i. matches (p.1 i) (e i)) ∙ prefix_matches ds rest letters;
      valid = valid;
      front = r.front;
      last = r.last;
      higher = r.higher;
      is = r.is;
      next = r.next;
      raised = raise_of ds (r.front ++ r.higher ∷ []) valid r.raised;
    }

pub form_cases : (form : List ℕ) → IsUtf8 form → is_text_form form ≡ true → IsTextForm form ⊎ IsPrefixForm form
form_cases [] u h = absurd (cc (h))
form_cases (b ∷ bs) u h =
    let form = b ∷ bs in let p = ends_in_percent form in let q = is_plain (front_of form) in let r = last_can_be_raised (chars (front_of form)) in
    elim (or_cases (is_plain form) (p && q && r) h) [
      | inl e ↦ inl (text_form form u e)
      | inr e ↦ (let t = three_true p q r e in inr (prefix_form form u t.0 t.1 t.2))
    ]

-- ---- a string between the bounds

-- the bounds rule a pattern of this shape out
abbrev pub like_fails : Shape → Content → Content → Bool
like_fails (exact_text t) a b = not (le a (text (encode_utf8_all t))) || not (le (text (encode_utf8_all t)) b)
like_fails (beginning t) a b = elim (raise (encode_utf8_all t)) [ None ↦ false | Some above ↦ le (text above) a || not (le (text (encode_utf8_all t)) b) ]
like_fails no_shape a b = false

-- a string within the bounds that the pattern matches
pub record LikeChosen (n : Nullability) (form : List ℕ) (a b : Content) : Type 0 where
  pub value : Content
  pub member : IsMember (utf8 n) value
  pub from : le a value ≡ true
  pub to : le value b ≡ true
  pub holds : liked value (text form) false ≡ boolean true

liked_made : (form v : List ℕ) → has_backslash form ≡ false → is_like form v ≡ true → liked (text v) (text form) false ≡ boolean true
liked_made form v f h = λ i. if f i then null else boolean (h i)

text_chosen : (n : Nullability) (form : List ℕ) → IsUtf8 form → IsTextForm form → (a b : Content) → like_fails (shape_of (chars form)) a b ≡ false → LikeChosen n form a b
text_chosen n form u e a b works =
    let same = encodes-chars form u in
    let h : not (le a (text form)) || not (le (text form) b) ≡ false =
    (λ i. not (le a (text (sym same i))) || not (le (text (sym same i)) b)) ∙ ap (λ s. like_fails s a b) (sym e.shape) ∙ works in record {
      value = text form;
      member = u;
      from = not-false (le a (text form)) (or_false_left (not (le a (text form))) (not (le (text form) b)) h);
      to = not-false (le (text form) b) (or_false_right (not (le a (text form))) (not (le (text form) b)) h);
      holds = liked_made form form e.free e.like;
    }

-- the prefix itself, where the low isn't above it, and else the low
prefix_chosen : (n : Nullability) (form : List ℕ) → IsPrefixForm form → (a b : List ℕ) → IsUtf8 a → IsAtMostBytes a b → like_fails (shape_of (chars form)) (text a) (text b) ≡ false →
    LikeChosen n form (text a) (text b)
prefix_chosen n form e a b u ordered works =
    let p = encode_utf8_all e.begin in let s = encode_utf8_all (e.front ++ e.higher ∷ []) in
    let h : le (text s) (text a) || not (le (text p) (text b)) ≡ false =
    ap (λ o. elim o as (λ o. Bool) [ None ↦ false | Some above ↦ le (text above) (text a) || not (le (text p) (text b)) ]) (sym e.raised)
    ∙ ap (λ sh. like_fails sh (text a) (text b)) (sym e.shape) ∙ works in
    let below_raised = or_false_left (le (text s) (text a)) (not (le (text p) (text b))) h in
    let up_to_high = not-false (le (text p) (text b)) (or_false_right (le (text s) (text a)) (not (le (text p) (text b))) h) in
    elim (under_or_upto p a) [
      | inr le_p ↦ record {
        value = text p;
        member = (e.begin, (e.valid, refl));
        from = le_p;
        to = up_to_high;
        holds = liked_made form p e.free (e.like p [] (chars-encodes e.begin e.valid ∙ sym (append-nil e.begin)));
      }
      | inl over ↦ elim (under_or_upto a s) [
        | inr back ↦ absurd (clashing (le (text s) (text a)) back below_raised)
        | inl under ↦ (let whole = encodes-chars a u in
            let r = within e.front e.last e.higher (chars a) (scalars-chars a u) e.next
            (subst (λ bs. IsAtMostBytes (encode_utf8_all (e.front ++ e.last ∷ [])) bs) (sym whole) (subst (λ xs. IsAtMostBytes (encode_utf8_all xs) a) e.is (under_upto p a over)))
            (subst (λ bs. IsUnder bs s) (sym whole) under) in record {
              value = text a;
              member = u;
              from = upto_refl a;
              to = ordered;
              holds = liked_made form a e.free (e.like a r.0 (r.1 ∙ ap (λ xs. xs ++ r.0) (sym e.is)));
            })
      ]
    ]

-- where the bounds don't rule the pattern out, some string between them matches it
pub like_chosen : (n : Nullability) (form : List ℕ) → IsUtf8 form → is_text_form form ≡ true → (a b : Content) → IsMember (utf8 n) a → IsMember (utf8 n) b → le a b ≡ true →
    like_fails (shape_of (chars form)) a b ≡ false → LikeChosen n form a b
like_chosen n form u w (text a) (text b) ma mb ordered works = elim (form_cases form u w) [
  | inl e ↦ text_chosen n form u e (text a) (text b) works
  | inr e ↦ prefix_chosen n form e a b ma ordered works
]
like_chosen n form u w (text a) b ma mb ordered works = absurd mb
like_chosen n form u w a b ma mb ordered works = absurd ma
