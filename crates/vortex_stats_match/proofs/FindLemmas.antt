-- Where a piece of a LIKE pattern can't begin, and what a _ after a % takes.
use Rattle.std.proofs.Common.{◌≡◌, refl, sym, ap, ◌∙◌, ℕ, suc, zero, ◌+◌, ◌-◌, ◌<◌, ◌≤◌, List, [], ◌∷◌, length, take, drop, get_or, Bool, true, false, ◌||◌, ◌==◌, cond, if◌then◌else◌, ◌&&◌, not, nat_lt, lt-ltb, Option, Some, None, eqb-true, arith, ◌⊎◌, ⊎_elim, inl, inr}
use Rattle.std.proofs.lemmas.Bool.{eq-eqb, ne_eqb, or_cases, or_right, false_from_ne_true}
use Rattle.std.proofs.lemmas.List.{drop-drop, length-drop, take_all, get_or-drop, get_or-take}
use Rattle.std.proofs.Math.Seq.{drop-length}
use Rattle.memchr.specs.Find.{OccursAt}
use Rattle.std.specs.Prelude.{option_copied}
use denote.Ref.{Bor}
use Rattle.std.specs.Cmp.{both_ways}
use Rattle.vortex_model_table.specs.Like.{some_end}
use Rattle.vortex_stats_match.specs.Bytes.{goes_on, begins_inside, past_char, left_by, is_left, byte_matches}
use Rattle.vortex_stats_match.specs.Pieces.{IsLiteralPrefix, IsPlace, MeetsLater, TakesOne, behind_ones}
use Rattle.vortex_stats_match.specs.declared.matching.Piece.{Piece}
use Rattle.vortex_stats_match.specs.declared.matching.Piece.TheVariants.{Differs, IsWhole, Wildcard}
use Rattle.vortex_stats_match.proofs.SignLemmas.{first_end, end_of_drop, found_end, plain_sign, width, inners, inners_within, past_is_drop, left_is_drop, no_earlier}

-- ---- positions where nothing begins

pub none_before : (p : List ℕ → Bool) (value : List ℕ) (k : ℕ) → k ≤ length value → ((j : ℕ) → j < k → p (drop j value) ≡ true → ⊥) → some_end p value ≡ some_end p (drop k value)
none_before p value zero le h = refl
none_before p [] (suc k) le h = absurd (omega (arith, le))
none_before p (x ∷ xs) (suc k) le h =
    ap (λ t. t || some_end p xs) (false_from_ne_true (p (x ∷ xs)) (h 0 (omega arith)))
    ∙ none_before p xs k (omega (arith, le)) (λ j lt. h (suc j) (omega (arith, lt)))

pub place : (form value left : List ℕ) (k : ℕ) → k ≤ length value → ((j : ℕ) → j < k → byte_matches form (drop j value) ≡ true → ⊥)
    → left ≡ take (length value - k) (drop k value) → IsPlace form value left
place form value left k le h e = record {
  ends = none_before (byte_matches form) value k le h ∙ ap (some_end (byte_matches form)) (sym here);
  no_longer = omega (arith, ap length here, length-drop k value);
}
  where
    here : left ≡ drop k value
    here = e ∙ take_all (length value - k) (drop k value) (omega (arith, length-drop k value))

pub nowhere : (form value : List ℕ) → ((j : ℕ) → j ≤ length value → byte_matches form (drop j value) ≡ true → ⊥) → some_end (byte_matches form) value ≡ false
nowhere form value h =
    none_before (byte_matches form) value (length value) (omega arith) (λ j lt. h j (omega (arith, lt)))
    ∙ ap (some_end (byte_matches form)) (drop-length value)
    ∙ false_from_ne_true (byte_matches form []) (λ e. h (length value) (omega arith) (ap (byte_matches form) (drop-length value) ∙ e))

-- ---- plain bytes

-- neither sign is at an index before n
abbrev pub Unsigned : List ℕ → ℕ → Type 0
Unsigned form n = (k : ℕ) → 0 ≤ k → k < n → ¬ ((get_or form k 0 == 37) || (get_or form k 0 == 95) ≡ true)

neither : (x y : Bool) → ¬ (x || y ≡ true) → (x ≡ false) × (y ≡ false)
neither true y h = absurd (h refl)
neither false true h = absurd (h refl)
neither false false h = (refl, refl)

-- a byte that is no sign takes itself
takes_itself : (a b : ℕ) (form bs : List ℕ) → (a == 37) ≡ false → (a == 95) ≡ false → byte_matches (a ∷ form) (b ∷ bs) ≡ true → (b ≡ a) × (byte_matches form bs ≡ true)
takes_itself a b form bs plain one e =
    by (a == b) refl
    (sym (ap (λ s. is_left (byte_matches form) (if s then (if goes_on b then None else Some (past_char bs)) else (if a == b then Some bs else None))) one)
    ∙ sym (plain_sign a form (b ∷ bs) plain) ∙ e)
  where
    by : (t : Bool) → (a == b) ≡ t → is_left (byte_matches form) (if t then Some bs else None) ≡ true → (b ≡ a) × (byte_matches form bs ≡ true)
    by true q f = (sym (eqb-true a b q), f)
    by false q f = absurd (cc f)

takes_some : (a : ℕ) (form : List ℕ) → (a == 37) ≡ false → byte_matches (a ∷ form) [] ≡ true → ⊥
takes_some a form plain e = cc (sym (plain_sign a form [] plain) ∙ e)

first_of_drop : (value : List ℕ) (j : ℕ) → get_or (drop j value) 0 0 ≡ get_or value j 0
first_of_drop value j = get_or-drop j value 0 0 ∙ ap (λ n. get_or value n 0) (omega arith)

module _ (form value : List ℕ) (a : ℕ) (behind : List ℕ) (is : form ≡ a ∷ behind) (plain : (a == 37) ≡ false) (one : (a == 95) ≡ false) where
  begins : (j : ℕ) → byte_matches form (drop j value) ≡ true → (j < length value) × ((get_or value j 0 == a) ≡ true)
  begins j e = at (drop j value) refl (ap (λ s. byte_matches s (drop j value)) (sym is) ∙ e)
    where
      at : (xs : List ℕ) → drop j value ≡ xs → byte_matches (a ∷ behind) xs ≡ true → (j < length value) × ((get_or value j 0 == a) ≡ true)
      at [] q f = absurd (takes_some a behind plain f)
      at (x ∷ xs) q f = (
        omega (arith, ap length q, length-drop j value),
        eq-eqb (get_or value j 0) a (sym (first_of_drop value j) ∙ ap (λ s. get_or s 0 0) q ∙ (takes_itself a x behind xs plain one f).0),
      )

  pub found_place : (left : List ℕ) (k : ℕ) → k ≤ length value → ((j : ℕ) → 0 ≤ j → j < k → ¬ ((get_or value j 0 == a) ≡ true)) → left ≡ take (length value - k) (drop k value) → IsPlace form value left
  found_place left k within others e = place form value left k within (λ j lt f. others j (omega arith) lt (begins j f).1) e

  pub no_place : ((j : ℕ) → 0 ≤ j → j < length value → ¬ ((get_or value j 0 == a) ≡ true)) → some_end (byte_matches form) value ≡ false
  no_place others = nowhere form value (λ j le f. let here = begins j f in others j (omega arith) here.0 here.1)

pub stays : (form value : List ℕ) → IsPlace form value value
stays form value = record { ends = refl; no_longer = omega arith }

pub stands : (form value : List ℕ) (n : ℕ) → n ≤ length form → Unsigned form n → byte_matches form value ≡ true
    → (n ≤ length value) × ((j : ℕ) → j < n → get_or value j 0 ≡ get_or form j 0)
stands form value zero le h e = (omega arith, λ j lt. absurd (omega (arith, lt)))
stands [] value (suc n) le h e = absurd (omega (arith, le))
stands (a ∷ form) [] (suc n) le h e = absurd (takes_some a form (neither (a == 37) (a == 95) (h 0 (omega arith) (omega arith))).0 e)
stands (a ∷ form) (b ∷ bs) (suc n) le h e =
    let signs = neither (a == 37) (a == 95) (h 0 (omega arith) (omega arith)) in
    let on = takes_itself a b form bs signs.0 signs.1 e in
    let more = stands form bs n (omega (arith, le)) (λ k low lt. h (suc k) (omega arith) (omega (arith, lt))) on.1 in
    (omega (arith, more.0), each on.0 more.1)
  where
    each : b ≡ a → ((j : ℕ) → j < n → get_or bs j 0 ≡ get_or form j 0) → (j : ℕ) → j < suc n → get_or (b ∷ bs) j 0 ≡ get_or (a ∷ form) j 0
    each first later zero lt = first
    each first later (suc j) lt = later j (omega (arith, lt))

pub as_long : (form value : List ℕ) → Unsigned form (length form) → byte_matches form value ≡ true → length value ≡ length form
as_long [] [] h e = refl
as_long [] (b ∷ bs) h e = absurd (cc e)
as_long (a ∷ form) [] h e = absurd (takes_some a form (neither (a == 37) (a == 95) (h 0 (omega arith) (omega arith))).0 e)
as_long (a ∷ form) (b ∷ bs) h e =
    let signs = neither (a == 37) (a == 95) (h 0 (omega arith) (omega arith)) in
    let on = takes_itself a b form bs signs.0 signs.1 e in
    omega (arith, as_long form bs (λ k low lt. h (suc k) (omega arith) (omega (arith, lt))) on.1)

-- Where the form matches, its literal prefix occurs.
pub occurs : (form prefix value : List ℕ) → IsLiteralPrefix form prefix → (j : ℕ) → j ≤ length value → byte_matches form (drop j value) ≡ true → OccursAt value prefix j
occurs form prefix value h j le e =
    let here = stands form (drop j value) (length prefix) h.within h.plain e in
    record {
      fits = omega (arith, here.0, length-drop j value, le);
      reads = λ i lt.
          sym (get_or-drop j value i 0) ∙ here.1 i lt ∙ sym (ap (λ xs. get_or xs i 0) h.begins ∙ get_or-take (length prefix) form i 0 lt);
    }

-- a literal prefix as long as the form leaves no sign
pub whole_prefix : (form prefix : List ℕ) → IsLiteralPrefix form prefix → length form ≤ length prefix → Unsigned form (length form)
whole_prefix form prefix h all k low lt = h.plain k low (omega (arith, lt, all))

-- a form without a sign matches an end of its own length alone
pub short_text : (form value : List ℕ) → Unsigned form (length form) → length value < length form → some_end (byte_matches form) value ≡ false
short_text form value h lt = nowhere form value (λ j le e. omega (arith, as_long form (drop j value) h e, length-drop j value, lt))

pub last_place : (form value : List ℕ) → Unsigned form (length form) → length form ≤ length value
    → IsPlace form value (take (length value - (length value - length form)) (drop (length value - length form) value))
last_place form value h le =
    place form value _ (length value - length form) (omega arith)
    (λ j lt e. omega (arith, as_long form (drop j value) h e, length-drop j value, lt, le)) refl

-- ---- a _ after a %

-- what begins within a character matches nothing there
abbrev IsClean : (List ℕ → Bool) → Type 0
IsClean p = (b : ℕ) (bs : List ℕ) → goes_on b ≡ true → p (b ∷ bs) ≡ true → ⊥

by_truth : {A : Type 0} (b : Bool) → (b ≡ true → A) → (b ≡ false → A) → A
by_truth true f g = f refl
by_truth false f g = g refl

past_on : (b : ℕ) (bs : List ℕ) → goes_on b ≡ true → past_char (b ∷ bs) ≡ past_char bs
past_on b bs on = ap (λ t. cond t (past_char bs) (b ∷ bs)) on

past_off : (b : ℕ) (bs : List ℕ) → goes_on b ≡ false → past_char (b ∷ bs) ≡ b ∷ bs
past_off b bs off = ap (λ t. cond t (past_char bs) (b ∷ bs)) off

ends_past : (p : List ℕ → Bool) → IsClean p → (bs : List ℕ) → some_end p bs ≡ true → some_end p (past_char bs) ≡ true
ends_past p clean [] e = e
ends_past p clean (b ∷ bs) e =
    by_truth (goes_on b)
    (λ on. ap (some_end p) (past_on b bs on)
    ∙ ⊎_elim (λ here. absurd (clean b bs on here)) (λ later. ends_past p clean bs later) (or_cases (p (b ∷ bs)) (some_end p bs) e))
    (λ off. ap (some_end p) (past_off b bs off) ∙ e)

one_left : (p : List ℕ → Bool) (b : ℕ) (bs : List ℕ) → goes_on b ≡ false → p (past_char bs) ≡ true → is_left p (left_by 95 (b ∷ bs)) ≡ true
one_left p b bs off e = ap (λ t. is_left p (if t then None else Some (past_char bs))) off ∙ e

-- an end after a character has another character before it, or follows that one
before : (p : List ℕ → Bool) → IsClean p → (bs : List ℕ) → some_end p (past_char bs) ≡ true
    → (p (past_char bs) ≡ true) ⊎ (some_end (λ v. is_left p (left_by 95 v)) bs ≡ true)
before p clean [] e = inl e
before p clean (c ∷ cs) e =
    by_truth (goes_on c)
    (λ on. ⊎_elim (λ here. inl (ap p (past_on c cs on) ∙ here)) (λ later. inr (or_right (r (c ∷ cs)) (some_end r cs) later))
    (before p clean cs (sym (ap (some_end p) (past_on c cs on)) ∙ e)))
    (λ off. ⊎_elim (λ here. inl (ap p (past_off c cs off) ∙ here))
    (λ later. inr (⊎_elim (λ here. first_end r (c ∷ cs) (one_left p c cs off here)) (λ more. or_right (r (c ∷ cs)) (some_end r cs) more)
    (before p clean cs (ends_past p clean cs later))))
    (or_cases (p (c ∷ cs)) (some_end p cs) (sym (ap (some_end p) (past_off c cs off)) ∙ e)))
  where
    r : List ℕ → Bool
    r v = is_left p (left_by 95 v)

-- where the first end matches whenever another does, or none within a character does, a character before it is found
abbrev IsBegun : (List ℕ → Bool) → Type 0
IsBegun p = ((bs : List ℕ) → some_end p bs ≡ true → p bs ≡ true) ⊎ IsClean p

found_before : (p : List ℕ → Bool) → IsBegun p → (value left : List ℕ) → left_by 95 (past_char value) ≡ Some left → some_end p left ≡ true
    → some_end (λ v. is_left p (left_by 95 v)) (past_char value) ≡ true
found_before p begun value left q e = at (past_char value) q
  where
    r : List ℕ → Bool
    r v = is_left p (left_by 95 v)

    some_same : {x y : List ℕ} → Some x ≡ Some y → x ≡ y
    some_same f = cc f

    at : (xs : List ℕ) → left_by 95 xs ≡ Some left → some_end r xs ≡ true
    at [] f = absurd (cc f)
    at (b ∷ bs) f =
        by_truth (goes_on b)
        (λ on. absurd (cc (sym (ap (λ t. if t then None else Some (past_char bs)) on) ∙ f)))
        (λ off.
        let is : past_char bs ≡ left = some_same (sym (ap (λ t. if t then None else Some (past_char bs)) off) ∙ f) in
        let some : some_end p (past_char bs) ≡ true = ap (some_end p) is ∙ e in
        ⊎_elim (λ first. first_end r (b ∷ bs) (one_left p b bs off (first (past_char bs) some)))
        (λ clean. ⊎_elim (λ here. first_end r (b ∷ bs) (one_left p b bs off here)) (λ later. or_right (r (b ∷ bs)) (some_end r bs) later)
        (before p clean bs some)) begun)

same_ends : (p q : List ℕ → Bool) → ((v : List ℕ) → p v ≡ q v) → (bs : List ℕ) → some_end p bs ≡ some_end q bs
same_ends p q h [] = h []
same_ends p q h (b ∷ bs) = ap (λ t. t || some_end p bs) (h (b ∷ bs)) ∙ ap (λ t. q (b ∷ bs) || t) (same_ends p q h bs)

reads_one : (behind bs : List ℕ) → byte_matches (95 ∷ behind) bs ≡ is_left (byte_matches behind) (left_by 95 bs)
reads_one behind bs = plain_sign 95 behind bs refl

is_some : (b : ℕ) (bs : List ℕ) → goes_on b ≡ false → left_by 95 (b ∷ bs) ≡ Some (past_char bs)
is_some b bs off = ap (λ t. if t then None else Some (past_char bs)) off

-- a character that is taken begins there
begun_at : (b : ℕ) (bs l : List ℕ) → left_by 95 (b ∷ bs) ≡ Some l → goes_on b ≡ false
begun_at b bs l f = by_truth (goes_on b) (λ on. absurd (cc (sym (ap (λ t. if t then None else Some (past_char bs)) on) ∙ f))) (λ off. off)

past_begun : (bs : List ℕ) → begins_inside (past_char bs) ≡ false
past_begun [] = refl
past_begun (b ∷ bs) =
    by_truth (goes_on b)
    (λ on. ap begins_inside (past_on b bs on) ∙ past_begun bs)
    (λ off. ap begins_inside (past_off b bs off) ∙ off)

-- further on nothing else is taken that matches
in_turn : (behind xs l left : List ℕ) (d : ℕ) → left_by 95 xs ≡ Some left → left_by 95 (drop d xs) ≡ Some l → byte_matches behind l ≡ true
    → some_end (byte_matches behind) left ≡ true
in_turn behind xs l left d q f g =
    end_of_drop (byte_matches behind) (d + width 95 (drop d xs) - width 95 xs) left
    (ap (some_end (byte_matches behind)) is ∙ first_end (byte_matches behind) l g)
  where
    is : drop (d + width 95 (drop d xs) - width 95 xs) left ≡ l
    is = ap (drop (d + width 95 (drop d xs) - width 95 xs)) (left_is_drop 95 xs left q)
        ∙ drop-drop (d + width 95 (drop d xs) - width 95 xs) (width 95 xs) xs
        ∙ ap (λ n. drop n xs) (omega (arith, no_earlier 95 d xs l f))
        ∙ sym (left_is_drop 95 (drop d xs) l f ∙ drop-drop (width 95 (drop d xs)) d xs)

-- a _ takes the first character that it could
found_after : (behind value : List ℕ) → some_end (byte_matches (95 ∷ behind)) value ≡ true
    → (left : List ℕ) × (left_by 95 (past_char value) ≡ Some left) × (some_end (byte_matches behind) left ≡ true)
found_after behind value e =
    let k = found_end (byte_matches (95 ∷ behind)) value e in
    at k.0 (left_by 95 (drop k.0 value)) refl (sym (reads_one behind (drop k.0 value)) ∙ k.1)
  where
    first : (k : ℕ) (l xs : List ℕ) → left_by 95 (drop k xs) ≡ Some l → byte_matches behind l ≡ true → begins_inside xs ≡ false
        → (left : List ℕ) × (left_by 95 xs ≡ Some left) × (some_end (byte_matches behind) left ≡ true)
    first zero l xs f g off = (l, f, first_end (byte_matches behind) l g)
    first (suc k) l [] f g off = absurd (cc f)
    first (suc k) l (c ∷ cs) f g off = (past_char cs, is_some c cs off, in_turn behind (c ∷ cs) l (past_char cs) (suc k) (is_some c cs off) f g)

    within : (k : ℕ) (l ys : List ℕ) → drop k value ≡ ys → left_by 95 ys ≡ Some l → inners value ≤ k
    within k l [] p f = absurd (cc f)
    within k l (b ∷ bs) p f = inners_within k value b bs p (begun_at b bs l f)

    at : (k : ℕ) (o : Option (List ℕ)) → left_by 95 (drop k value) ≡ o → is_left (byte_matches behind) o ≡ true
        → (left : List ℕ) × (left_by 95 (past_char value) ≡ Some left) × (some_end (byte_matches behind) left ≡ true)
    at k None f g = absurd (cc g)
    at k (Some l) f g =
        first (k - inners value) l (past_char value) (ap (left_by 95) moved ∙ f) g (past_begun value)
      where
        moved : drop (k - inners value) (past_char value) ≡ drop k value
        moved = ap (drop (k - inners value)) (past_is_drop value) ∙ drop-drop (k - inners value) (inners value) value
            ∙ ap (λ n. drop n value) (omega (arith, within k l (drop k value) refl f))

begun : (behind : List ℕ) → begins_inside behind ≡ false → IsBegun (byte_matches behind)
begun [] off = inr (λ b bs on e. cc e)
begun (a ∷ rest) off =
    by_truth (a == 37)
    (λ any. inl (λ bs e.
    let k = found_end (byte_matches (a ∷ rest)) bs e in
    reads any bs ∙ end_of_drop (byte_matches rest) k.0 bs (sym (reads any (drop k.0 bs)) ∙ k.1)))
    (λ plain. by_truth (a == 95)
    (λ one. inr (λ b bs on e. cc (sym (misses b bs plain one on) ∙ e)))
    (λ other. inr (λ b bs on e. cc (sym on ∙ ap goes_on (takes_itself a b rest bs plain other e).0 ∙ off))))
  where
    reads : (a == 37) ≡ true → (bs : List ℕ) → byte_matches (a ∷ rest) bs ≡ some_end (byte_matches rest) bs
    reads any bs = ap (λ t. if t then some_end (byte_matches rest) bs else is_left (byte_matches rest) (left_by a bs)) any

    misses : (b : ℕ) (bs : List ℕ) → (a == 37) ≡ false → (a == 95) ≡ true → goes_on b ≡ true → byte_matches (a ∷ rest) (b ∷ bs) ≡ false
    misses b bs plain one on =
        plain_sign a rest (b ∷ bs) plain
        ∙ ap (λ s. is_left (byte_matches rest) (if s then (if goes_on b then None else Some (past_char bs)) else (if a == b then Some bs else None))) one
        ∙ ap (λ t. is_left (byte_matches rest) (if t then None else Some (past_char bs))) on

pub taken : (behind value left : List ℕ) → begins_inside behind ≡ false → Some left ≡ left_by 95 (past_char value)
    → some_end (byte_matches (95 ∷ behind)) value ≡ some_end (byte_matches behind) left
taken behind value left off q =
    both_ways _ _
    (λ e. let r = found_after behind value e in ap (some_end (byte_matches behind)) (some_same (q ∙ r.1)) ∙ r.2)
    (λ e. end_of_drop (byte_matches (95 ∷ behind)) (inners value) value
    (ap (some_end (byte_matches (95 ∷ behind))) (sym (past_is_drop value))
    ∙ same_ends (byte_matches (95 ∷ behind)) (λ v. is_left (byte_matches behind) (left_by 95 v)) (reads_one behind) (past_char value)
    ∙ found_before (byte_matches behind) (begun behind off) value left (sym q) e))
  where
    some_same : {x y : List ℕ} → Some x ≡ Some y → x ≡ y
    some_same f = cc f

pub none_taken : (behind value : List ℕ) → None ≡ left_by 95 (past_char value) → some_end (byte_matches (95 ∷ behind)) value ≡ false
none_taken behind value q = false_from_ne_true (some_end (byte_matches (95 ∷ behind)) value) (λ e. let r = found_after behind value e in absurd (cc (q ∙ r.1)))

-- no character begins with a byte within one
pub inside : (behind value : List ℕ) → begins_inside behind ≡ true → some_end (byte_matches (95 ∷ behind)) value ≡ false
inside [] value on = absurd (cc on)
inside (a ∷ rest) value on = nowhere (95 ∷ a ∷ rest) value (λ j le e. at (drop j value) (sym (reads_one (a ∷ rest) (drop j value)) ∙ e))
  where
    high : (n : ℕ) → n < 128 → (a == n) ≡ false
    high n lt = ne_eqb a n (λ is. cc (sym on ∙ ap goes_on is ∙ low n lt))
      where
        low : (m : ℕ) → m < 128 → goes_on m ≡ false
        low m less = ap (λ t. not t && nat_lt m 192) (lt-ltb m 128 less)

    behind_char : (xs : List ℕ) → begins_inside xs ≡ false → byte_matches (a ∷ rest) xs ≡ true → ⊥
    behind_char [] off e = takes_some a rest (high 37 (omega arith)) e
    behind_char (c ∷ cs) off e = cc (sym off ∙ ap goes_on (takes_itself a c rest cs (high 37 (omega arith)) (high 95 (omega arith)) e).0 ∙ on)

    at : (xs : List ℕ) → is_left (byte_matches (a ∷ rest)) (left_by 95 xs) ≡ true → ⊥
    at [] e = cc e
    at (b ∷ bs) e =
        by_truth (goes_on b)
        (λ in_it. cc (sym (ap (λ t. is_left (byte_matches (a ∷ rest)) (if t then None else Some (past_char bs))) in_it) ∙ e))
        (λ off. behind_char (past_char bs) (past_begun bs) (sym (ap (λ t. is_left (byte_matches (a ∷ rest)) (if t then None else Some (past_char bs))) off) ∙ e))

pub takes_one : (behind value : List ℕ) (o : Option (Bor (List ℕ))) → begins_inside behind ≡ false → option_copied o ≡ left_by 95 (past_char value) → TakesOne behind value o
takes_one behind value None off q = none_taken behind value q
takes_one behind value (Some left) off q = taken behind value left.now off q

-- ---- each _ that a form begins with

-- some of the _ that the form begins with have taken a character each
pub record AreTaken (form value signs left : List ℕ) : Type 0 where
  pub ends : some_end (byte_matches form) value ≡ some_end (byte_matches signs) left
  pub behind : behind_ones form ≡ behind_ones signs

module _ (form value signs left behind : List ℕ) (a : ℕ) (t : AreTaken form value signs left) (p : signs ≡ a ∷ behind) where
  pub ones_on : (rest : List ℕ) → a ≡ 95 → some_end (byte_matches (95 ∷ behind)) left ≡ some_end (byte_matches behind) rest → AreTaken form value behind rest
  ones_on rest is e = record {
    ends = t.ends ∙ ap (λ s. some_end (byte_matches s) left) (p ∙ ap (λ n. n ∷ behind) is) ∙ e;
    behind = t.behind ∙ ap behind_ones (p ∙ ap (λ n. n ∷ behind) is);
  }

  pub ones_missed : a ≡ 95 → some_end (byte_matches (95 ∷ behind)) left ≡ false → some_end (byte_matches form) value ≡ false
  ones_missed is e = t.ends ∙ ap (λ s. some_end (byte_matches s) left) (p ∙ ap (λ n. n ∷ behind) is) ∙ e

  pub ones_over : (a ≡ 95 → ⊥) → some_end (byte_matches form) value ≡ some_end (byte_matches (behind_ones form)) left
  ones_over other =
      t.ends ∙ ap (λ s. some_end (byte_matches s) left)
      (sym (t.behind ∙ ap behind_ones p ∙ ap (λ b. if b then behind_ones behind else a ∷ behind) (ne_eqb a 95 other) ∙ sym p))

pub ones_all : (form value signs left : List ℕ) → AreTaken form value signs left → length signs ≡ 0
    → some_end (byte_matches form) value ≡ some_end (byte_matches (behind_ones form)) left
ones_all form value [] left t none = t.ends ∙ ap (λ s. some_end (byte_matches s) left) (sym t.behind)
ones_all form value (a ∷ signs) left t none = absurd (omega (arith, none))

no_longer_behind : (form : List ℕ) → length (behind_ones form) ≤ length form
no_longer_behind [] = omega arith
no_longer_behind (a ∷ form) = by (a == 95) (no_longer_behind form)
  where
    by : (t : Bool) → length (behind_ones form) ≤ length form → length (if t then behind_ones form else a ∷ form) ≤ suc (length form)
    by true h = omega (arith, h)
    by false h = omega arith

pub meets_behind : (form value behind left : List ℕ) (met : Piece) → behind ≡ behind_ones form → some_end (byte_matches form) value ≡ some_end (byte_matches (behind_ones form)) left
    → MeetsLater behind left met → MeetsLater form value met
meets_behind form value behind left Differs is e m = e ∙ ap (λ s. some_end (byte_matches s) left) (sym is) ∙ m
meets_behind form value behind left IsWhole is e m = e ∙ ap (λ s. some_end (byte_matches s) left) (sym is) ∙ m
meets_behind form value behind left (Wildcard rest l) is e m = record {
  ends = e ∙ ap (λ s. some_end (byte_matches s) left) (sym is) ∙ m.ends;
  shorter = omega (arith, m.shorter, ap length is, no_longer_behind form);
}
